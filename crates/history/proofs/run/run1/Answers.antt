use Rattle.std.proofs.Common.{sym, ◌∙◌}
use Rattle.history.proofs.Runs.{firsts_more, fewer, none_first}
use Rattle.history.proofs.run.run1.Goals as goal

pub loop-history-smaller : goal.loop-history-smaller
loop-history-smaller g c =
    let is = c.in_ok-push-in-Some.ensures.ok in
    fewer g.R.ServiceRule.rule c.args.script.now c.script_is_within_limits.ensures c.loop-history.history c.push.new.self c.in-Some.entry
    (firsts_more g.R.ServiceRule.rule c.args.script.now c.loop-history.history c.push.new.self c.in-Some.entry c.loop-history.invariant (sym c.in_ok-entry.ensures ∙ c.in-Some.is) is)
    is

pub loop-history-preserved : goal.loop-history-preserved
loop-history-preserved g c =
    firsts_more g.R.ServiceRule.rule c.args.script.now c.loop-history.history c.push.new.self c.in-Some.entry c.loop-history.invariant (sym c.in_ok-entry.ensures ∙ c.in-Some.is) c.in_ok-push-in-Some.ensures.ok

pub returns-in-None : goal.returns-in-None
returns-in-None g c = record { firsts = c.loop-history.invariant; finished = none_first _ (sym c.in-None.is ∙ c.in_ok-entry.ensures) }
