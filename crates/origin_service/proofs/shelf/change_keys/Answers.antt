use Rattle.origin_service.proofs.Holding.{holds_get}
use Rattle.origin_service.proofs.shelf.change_keys.Goals as goal

pub returns-in-Get-clause-ok : goal.returns-in-Get-clause-ok
returns-in-Get-clause-ok c = λ earlier holds. rw c.in-Get.is (holds_get c.args.keys.now c.in-Get.field-0.now earlier holds)
