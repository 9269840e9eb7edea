use Rattle.std.proofs.Common.{◌≡◌, ◌++◌}
use Rattle.std.specs.Prelude.{replicate}
use Rattle.script_model.specs.declared.action.Action.TheVariants.{Recv}
use Rattle.script_gen.proofs.actions.put_end.Given as goal

abbrev pub invariant-loop : goal.invariant-loop
invariant-loop l = l.actions.items ≡ l.initial.actions.items ++ replicate l.counter Recv
