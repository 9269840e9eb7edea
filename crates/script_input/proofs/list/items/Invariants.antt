use Rattle.std.proofs.Common.{◌≡◌, drop, [], length}
use Rattle.serde_json.specs.View.{items_view}
use Rattle.script_input.specs.Lists.{items_from}
use Rattle.script_input.proofs.list.items.Given as goal

abbrev pub invariant-loop-i : goal.invariant-loop-i
invariant-loop-i g l = record {
  rest : items_from (g.R.ItemReader.item_reading l.reader) l.items.items l.i (items_view (drop l.i l.values)) ≡ items_from (g.R.ItemReader.item_reading l.reader) [] 0 (items_view l.values);
  listed : g.R.ItemReader.listed l.reader l.items.items;
  count : length l.items.items ≡ l.i;
}
