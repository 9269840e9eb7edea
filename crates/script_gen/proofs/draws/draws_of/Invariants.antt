use Rattle.std.proofs.Common.{◌≡◌, ◌<◌, ◌^◌}
use Rattle.script_gen.specs.Draws.{draws, state_behind}
use Rattle.script_gen.proofs.draws.draws_of.Given as goal

abbrev pub invariant-loop : goal.invariant-loop
invariant-loop l = record {
  small : l.state < 2 ^ 32;
  state : l.state ≡ state_behind l.number l.counter;
  draws : l.draws.items ≡ draws l.number l.counter;
}
