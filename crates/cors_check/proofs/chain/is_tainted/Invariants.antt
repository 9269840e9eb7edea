use Rattle.std.proofs.Common.{◌≡◌, length}
use Rattle.cors_check.specs.Chains.{IsWebChain, is_tainted}
use Rattle.cors_check.proofs.chain.is_tainted.Given as goal

abbrev pub invariant-loop-rest : goal.invariant-loop-rest
invariant-loop-rest l = IsWebChain l.rest × (is_tainted l.origin l.rest ≡ is_tainted l.origin l.fn.chain)

abbrev pub decreases-loop-rest : goal.decreases-loop-rest
decreases-loop-rest l = length l.rest
