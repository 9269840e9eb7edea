use Rattle.std.proofs.Common.{◌<◌, arith, length, subst}
use Rattle.std.specs.Prelude.{slice_get}
use Rattle.history_rules.specs.Inboxes.{post_at, posts_to}
use Rattle.request_facts.specs.Views.{posted_view}
use Rattle.request_facts.proofs.Posts.{post_counted, post_passed}
use Rattle.request_facts.proofs.inboxes.post_to.Goals as goal
use Rattle.request_facts.proofs.inboxes.post_to.Goals.{in-Some+else-left-eq0, in_default}

pub loop-place-preserved : goal.loop-place-preserved
loop-place-preserved c =
    let within = subst (λ xs. c.loop-place.place < length xs) c.entries-place-end.ensures c.loop-place-test.true in
    elim c.match-branch-2.branch [
      | in-Some+else-left-eq0 w ↦ post_counted posted_view (post_at c.args.facts.now.script c.args.facts.now.entries c.args.document) c.loop-place.place (length c.args.facts.now.entries) c.loop-place.left
          (slice_get (posts_to c.args.facts.now.script c.args.facts.now.entries c.args.document) c.args.index) within c.in_ok-post.field-0 c.in_ok-post.ensures w.in-Some.post w.in-Some.is c.match-branch-2.left
          (omega (arith, w.left-is, w.if-left-eq0.false)) c.loop-place.invariant
      | in_default w ↦ post_passed posted_view (post_at c.args.facts.now.script c.args.facts.now.entries c.args.document) c.loop-place.place (length c.args.facts.now.entries) c.loop-place.left
          (slice_get (posts_to c.args.facts.now.script c.args.facts.now.entries c.args.document) c.args.index) within c.in_ok-post.field-0 c.in_ok-post.ensures w.in_default.is c.match-branch-2.left
          w.left-is c.loop-place.invariant
    ]
