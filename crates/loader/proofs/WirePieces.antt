-- The pieces of a wire that carries the body of a resource are those of the resource.
use Rattle.std.proofs.Common.{ap, refl}
use Rattle.std.specs.Prelude.{◌≡◌, ◌≤◌, ◌-◌, ◌==◌, ◌∷◌, [], if◌then◌else◌, IfSome, List, None, Option, Some, drop, filter, length, nat_lt, take, ℕ}
use Rattle.browser_io.proofs.Cutting.{cuts_from}
use Rattle.browser_io.specs.Scripted as scripted
use Rattle.script_model.specs.Pieces as model
use Rattle.script_model.specs.ResourceData.{IsFault, IsResource, ResourceData}

same_cuts : (from : ℕ) (cuts bytes : List ℕ) → scripted.cut_at from cuts bytes ≡ model.cut_at from cuts bytes
same_cuts from [] bytes = refl
same_cuts from (c ∷ cuts) bytes = ap (λ rest. take (c - from) bytes ∷ rest) (same_cuts c cuts (drop (c - from) bytes))

pub same_pieces : (r : ResourceData) → scripted.pieces_of r.body r.cuts r.fail_after ≡ model.pieces r
unfolding model.pieces
same_pieces r = ap (λ (ps : List (List ℕ)). if length (model.sent_bytes r) == 0 then [] else ps)
    (same_cuts 0 (filter (λ c. nat_lt c (length (model.sent_bytes r))) r.cuts) (model.sent_bytes r))

pub cuts_rise : (r : ResourceData) → IsResource r → scripted.IsCutFrom 0 (length r.body) r.cuts
cuts_rise r is = cuts_from (length r.body) r.cuts is.cuts.rising is.cuts.within

sent_by : (size : ℕ) (fail_after : Option ℕ) → IsFault size fail_after → IfSome fail_after (λ sent. sent ≤ size)
sent_by size None is = tt
sent_by size (Some sent) is = is

pub sent_within : (r : ResourceData) → IsResource r → IfSome r.fail_after (λ sent. sent ≤ length r.body)
sent_within r is = sent_by (length r.body) r.fail_after is.fault
