use Rattle.std.specs.Prelude.{length}
use Rattle.service_rule.specs.KeyRequests.{store_requests}
use Rattle.service_rule.specs.Store.{key_count}
use Rattle.service_rule.proofs.KeyCounts.{counted_all, counted_more, counted_same}
use Rattle.service_rule.proofs.store.key_count.Goals as goal

pub loop-asked-preserved-then-is_last_set : goal.loop-asked-preserved-then-is_last_set
loop-asked-preserved-then-is_last_set c = counted_more c.loop-asked.rest.now c.in-Some.later.now c.in-Some.asked.now c.loop-asked.count
    (key_count (store_requests c.args.earlier.now)) (length c.args.earlier.now) c.in-Some.ensures.cases c.loop-asked.invariant c.if-is_last_set.ensures

pub loop-asked-preserved : goal.loop-asked-preserved
loop-asked-preserved c = counted_same c.loop-asked.rest.now c.in-Some.later.now c.in-Some.asked.now c.loop-asked.count
    (key_count (store_requests c.args.earlier.now)) (length c.args.earlier.now) c.in-Some.ensures.cases c.loop-asked.invariant c.if-is_last_set.ensures

pub returns : goal.returns
returns c = counted_all c.loop-asked.rest.now c.loop-asked.count
    (key_count (store_requests c.args.earlier.now)) (length c.args.earlier.now) c.in_default.ensures.cases c.loop-asked.invariant
