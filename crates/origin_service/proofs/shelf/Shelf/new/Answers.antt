use Rattle.origin_service.proofs.Holding.{holds_nothing}
use Rattle.origin_service.proofs.shelf.Shelf.new.Goals as goal

pub invariant_of-result : goal.invariant_of-result
invariant_of-result c = holds_nothing c.new.result c.new-2.result.items c.new.ensures.empty c.new-2.ensures.items
