use Rattle.std.proofs.Common.{◌≡◌, ◌-◌, length}
use Rattle.std.specs.Prelude.{filter_map, slice_get}
use Rattle.std.specs.List.{range_with_len}
use Rattle.history_rules.specs.Inboxes.{post_at, posts_to}
use Rattle.request_facts.proofs.inboxes.post_to.Given as goal

abbrev pub invariant-loop-place : goal.invariant-loop-place
invariant-loop-place l =
    slice_get (filter_map (post_at l.facts.script l.facts.entries l.document) (range_with_len l.place (length l.facts.entries - l.place))) l.left
    ≡ slice_get (posts_to l.facts.script l.facts.entries l.document) l.fn.index
