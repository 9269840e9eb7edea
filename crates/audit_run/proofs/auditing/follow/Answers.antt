use Rattle.std.proofs.Common.{◌∙◌, List, [], ◌∷◌, ◌++◌, ap, length}
use Rattle.std.proofs.lemmas.Bool.{both_ways}
use Rattle.std.proofs.lemmas.Iterator.Adapters.{YieldsList-from_vec}
use Rattle.std.proofs.lemmas.Iterator.Consumers.{YieldsList-so_far, YieldsList-turn}
use Rattle.history_entry.specs.declared.entry.Entry.{Entry}
use Rattle.audit_run.proofs.Following.{followed_more, stopped_at}
use Rattle.audit_run.proofs.auditing.follow.Goals as goal

pub returns-then-not-follows : goal.returns-then-not-follows
returns-then-not-follows g c =
    let given = c.into_iter-entry-iterator.ensures.into_iter_gives in
    let all = YieldsList-from_vec {s = c.into_iter-entry-iterator.result} c.args.entries.items given.0 (given.1 ∙ c.args.entries.ok.0) in
    let front = YieldsList-so_far all c.loop-entry.yielded c.loop-entry.entry-iterator c.loop-entry.yielded_by in
    let next = YieldsList-turn all c.loop-entry.yielded c.loop-entry.entry-iterator c.loop-entry.yielded_by c.next.result c.next.new.self c.in-Some.entry c.in-Some.is c.next.ensures.steps in
    stopped_at g.R.ServiceRule.rule c.args.script.now c.args.entries.items c.loop-entry.yielded c.loop-entry.history _ c.in-Some.entry
    c.loop-entry.invariant.so_far front next (ap (λ (h : List Entry). length h) c.entries.ensures) c.loop-entry.invariant.legal
    (λ may. both_ways c.in_ok-follows.follows c.if-not-follows.true (c.in_ok-follows.ensures.1 may))

pub loop-entry-preserved : goal.loop-entry-preserved
loop-entry-preserved g c = record {
  so_far = c.in_ok-push.ensures.ok ∙ ap (λ (h : List Entry). h ++ c.in-Some.entry ∷ []) c.loop-entry.invariant.so_far;
  legal = followed_more g.R.ServiceRule.rule c.args.script.now c.loop-entry.history c.push.new.self c.in-Some.entry c.loop-entry.invariant.legal
      (c.in_ok-follows.ensures.0 c.if-not-follows.false) c.in_ok-push.ensures.ok;
}
