use Rattle.std.proofs.Common.{◌≤◌, List, length, ℕ}
use Rattle.page_origin.specs.declared.origin.TupleOrigin.{TupleOrigin}
use Rattle.origin_service.specs.Shelves.{kept_by}
use Rattle.origin_service.proofs.tests.no_more_keys_than_fit.Given as goal

abbrev pub invariant-loop-key : goal.invariant-loop-key
invariant-loop-key g l = (name : List ℕ) (tuple : TupleOrigin) → length (kept_by l.store name tuple) ≤ l.key-counter
