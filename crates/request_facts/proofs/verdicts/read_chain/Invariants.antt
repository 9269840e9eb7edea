use Rattle.request_facts.proofs.ReadSoFar.{IsReadSoFar}
use Rattle.request_facts.proofs.verdicts.read_chain.Given as goal

abbrev pub invariant-loop-text : goal.invariant-loop-text
invariant-loop-text l = IsReadSoFar l.chain l.text-index l.urls.items
