use Rattle.std.proofs.Common.{◌≡◌, ◌≤◌, ◌+◌, length}
use Rattle.service_rule.specs.KeyRequests.{store_requests}
use Rattle.service_rule.specs.Store.{key_count}
use Rattle.service_rule.proofs.store.key_count.Given as goal

abbrev pub invariant-loop-asked : goal.invariant-loop-asked
invariant-loop-asked l = (l.count + key_count (store_requests l.rest) ≡ key_count (store_requests l.earlier)) × (l.count + length l.rest ≤ length l.earlier)

abbrev pub decreases-loop-asked : goal.decreases-loop-asked
decreases-loop-asked l = length l.rest
