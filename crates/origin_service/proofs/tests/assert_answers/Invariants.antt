use Rattle.std.proofs.Common.{◌+◌, ◌≤◌, List, length, ℕ}
use Rattle.page_origin.specs.declared.origin.TupleOrigin.{TupleOrigin}
use Rattle.origin_service.specs.Shelves.{kept_by}
use Rattle.origin_service.proofs.tests.assert_answers.Given as goal

abbrev pub invariant-loop-page : goal.invariant-loop-page
invariant-loop-page g l = (name : List ℕ) (tuple : TupleOrigin) → length (kept_by l.store name tuple) ≤ 1000 + l.page-index
