use Rattle.std.proofs.Common.{◌≡◌, take}
use Rattle.std.specs.Option.{option_copied, option_map}
use Rattle.service_rule.specs.KeyRequests.{store_requests}
use Rattle.service_rule.specs.Store.{last_left}
use Rattle.service_rule.proofs.store.last_left.Given as goal

abbrev pub invariant-loop-asked : goal.invariant-loop-asked
invariant-loop-asked l = option_map option_copied l.last ≡ last_left l.key (store_requests (take l.asked-index l.earlier))
