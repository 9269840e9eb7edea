use Rattle.work_queue.proofs.Taking.{taken}
use Rattle.work_queue.proofs.lists.take_for.Goals as goal

pub returns-clause-takes : goal.returns-clause-takes
returns-clause-takes c =
    taken c.args.kind c.args.ready.now.items c.remove.new.self.items c.args.ready.now.len _ c.remove.result c.place_for-place.ensures c.args.ready.now.ok.0
    c.remove.ensures.value c.remove.ensures.items c.remove.ensures.variant.0 c.remove.ensures.variant.1 c.requires
