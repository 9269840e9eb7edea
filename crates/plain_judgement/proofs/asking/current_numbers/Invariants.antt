use Rattle.std.proofs.Common.{◌≡◌, take}
use Rattle.plain_judgement.proofs.asking.current_numbers.Given as goal

abbrev pub invariant-loop-document : goal.invariant-loop-document
invariant-loop-document l = l.numbers.items ≡ take l.document-index l.document-items
