use Rattle.std.proofs.Common.{◌≡◌, drop, [], length}
use Rattle.std.specs.HashSet.{contains_text}
use Rattle.serde_json.specs.View.{items_view}
use Rattle.script_input.specs.ForProofs.{AreResources}
use Rattle.script_input.specs.Lists.{items_from}
use Rattle.script_input.specs.Resources.{is_key_of, resource_at}
use Rattle.script_input.proofs.resource.all_resources.Given as goal

abbrev pub invariant-loop-i : goal.invariant-loop-i
invariant-loop-i l = record {
  rest : items_from (λ before. resource_at (length l.values) (is_key_of before)) l.resources.items l.i (items_view (drop l.i l.values)) ≡ items_from (λ before. resource_at (length l.values) (is_key_of before)) [] 0 (items_view l.values);
  keys : contains_text l.taken ≡ is_key_of l.resources.items;
  keeps : AreResources (length l.values) l.resources.items;
  count : length l.resources.items ≡ l.i;
}
