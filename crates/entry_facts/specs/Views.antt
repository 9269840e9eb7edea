-- Commits, posts and requests to services, seen through the references to their entries.
use Rattle.history_rules.specs.Entries.{CommitData}
use Rattle.history_rules.specs.Inboxes.{PostData}
use Rattle.service_rule.specs.declared.service.Asked.{Asked}
use Rattle.entry_facts.specs.declared.committed.Committed.{Committed}
use Rattle.entry_facts.specs.declared.post.Post.{Post}
use Rattle.entry_facts.specs.declared.asking.Asking.{Asking}

-- the commit
abbrev pub commit_view : Committed → CommitData
commit_view c = record { process = c.process; document = c.document }

-- the post that the references show
abbrev pub post_view : Post → PostData
post_view p = record { frame = p.frame; posted = record { source = p.source.now; text = p.text.now } }

-- the request that the reference shows
abbrev pub asked_view : Asking → Asked
asked_view a = record { document = a.document; request = a.request.now }
