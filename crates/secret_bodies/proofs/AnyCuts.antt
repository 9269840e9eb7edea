-- The cuts of a resource rise below any end, also past its own body.
use Rattle.std.proofs.Common.{ap, arith, subst, ◌∙◌}
use Rattle.std.specs.Prelude.{◌≡◌, ◌++◌, ◌+◌, Some, length, replicate, take, ℕ}
use Rattle.std.proofs.lemmas.List.{length-append, length-replicate, length-take-le}
use Rattle.script_model.specs.CutPlaces.{IsCutFrom, cuts_below}
use Rattle.script_model.specs.ResourceData.{IsCuts, ResourceData}
use Rattle.script_model.proofs.RisingCuts.{cuts_rise}

-- the resource with a body that goes on for as long, which breaks off at that end
abbrev longer : ResourceData → ℕ → ResourceData
longer r end = record r { body = r.body ++ replicate end 0; fail_after = Some end }

longer_length : (r : ResourceData) (end : ℕ) → length (r.body ++ replicate end 0) ≡ length r.body + end
longer_length r end = length-append r.body (replicate end 0) ∙ ap (λ n. length r.body + n) (length-replicate end 0)

pub any_cuts_rise : (r : ResourceData) → IsCuts (length r.body) r.cuts → (end : ℕ) → IsCutFrom 0 end (cuts_below end r.cuts)
any_cuts_rise r cuts end =
    let long = longer_length r end in
    let sent : length (take end (r.body ++ replicate end 0)) ≡ end = length-take-le end (r.body ++ replicate end 0) (omega arith) in
    subst (λ n. IsCutFrom 0 n (cuts_below n r.cuts)) sent (cuts_rise (longer r end) (record {
      few = cuts.few;
      rising = cuts.rising;
      within = λ k d lt. let inside = cuts.within k d lt in (inside.0, omega arith);
    }))
