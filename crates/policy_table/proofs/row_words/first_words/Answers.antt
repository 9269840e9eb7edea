use Rattle.std.proofs.Common.{subst}
use Rattle.policy_table.specs.TableRule.{Shows}
use Rattle.policy_table.proofs.Lists.{rows_and_one}
use Rattle.policy_table.proofs.row_words.first_words.Goals as goal

pub loop-process-preserved : goal.loop-process-preserved
loop-process-preserved g c = let i = c.loop-process.invariant in
    let t = rows_and_one (λ y q. Shows y (g.O.Booked.standing (g.O.Booked.history c.args.core.now) q)) c.loop-process.words.items c.push-in-loop-process.new.self.items c.loop-process.process c.encode.result
    c.in_ok-push-2.ensures.items i.wide i.turn i.rows (subst (Shows c.encode.result) c.standing_of.ensures c.encode.ensures) in
    record { wide = t.0; turn = t.1; rows = t.2 }
