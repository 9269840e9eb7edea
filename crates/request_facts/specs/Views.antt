-- Responses, seen through the references to their resources.
use Rattle.std.specs.Prelude.{unwrap_or}
use Rattle.std.specs.Option.{option_copied}
use Rattle.script_model.specs.ResourceData.{ResourceData}
use Rattle.script_model.specs.declared.post.Posted.{Posted}
use Rattle.history_rules.specs.Responses.{absent}
use Rattle.entry_facts.specs.declared.post.Post.{Post}
use Rattle.request_facts.specs.declared.response.Response.{Response}

-- the resource that a response is of
abbrev pub response_view : Response → ResourceData
response_view r = unwrap_or (option_copied r.resource) (absent r.url.now)

-- what an inbox gets of a post
abbrev pub posted_view : Post → Posted
posted_view p = record { source = p.source.now; text = p.text.now }
