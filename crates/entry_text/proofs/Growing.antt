-- Bytes that grow step by step have grown.
use Rattle.std.proofs.Common.{◌≡◌, ◌++◌, List, [], ℕ, ap, append-nil, append_assoc, sym, ◌∙◌}
use Rattle.entry_text.specs.Printing.{GrowsTo}

-- by these bytes
pub grows_by : (old new more : List ℕ) → new ≡ old ++ more → GrowsTo old new
grows_by old new more whole = record { more = more; whole = whole }

-- by none
pub grows_by_none : (old new : List ℕ) → new ≡ old → GrowsTo old new
grows_by_none old new same = record { more = []; whole = same ∙ sym (append-nil old) }

-- in two steps
pub grows_on : (old between new : List ℕ) → GrowsTo old between → GrowsTo between new → GrowsTo old new
grows_on old between new first second =
    record { more = first.more ++ second.more; whole = second.whole ∙ ap (λ t. t ++ second.more) first.whole ∙ append_assoc old first.more second.more }
