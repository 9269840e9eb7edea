use Rattle.std.proofs.Common.{ap, subst, sym, ◌∙◌}
use Rattle.std.specs.Option.{is_some}
use Rattle.std.specs.Prelude.{◌≡◌, List, length, ℕ}
use Rattle.browser_io.specs.Scripted.{IsCutFrom, pieces_of}
use Rattle.script_model.specs.Pieces.{pieces}
use Rattle.script_model.specs.ResourceData.{ResourceData}
use Rattle.loader.proofs.WirePieces.{cuts_rise, same_pieces}
use Rattle.loader.proofs.wires.wire_of.Goals as goal

pub new-requires-clause-cuts : goal.new-requires-clause-cuts
new-requires-clause-cuts c =
    let body : c.deref.result.now ≡ c.resource.inside.body = c.deref.ensures in
    let cuts : c.as_slice.result.now ≡ c.resource.inside.cuts = c.as_slice.ensures in
    subst (λ (b : List ℕ). IsCutFrom 0 (length b) c.as_slice.result.now) (sym body)
    (subst (λ (k : List ℕ). IsCutFrom 0 (length c.resource.inside.body) k) (sym cuts) (cuts_rise _ c.resource.invariant))

pub returns : goal.returns
returns c =
    let body : c.deref.result.now ≡ c.resource.inside.body = c.deref.ensures in
    let cuts : c.as_slice.result.now ≡ c.resource.inside.cuts = c.as_slice.ensures in
    let r : ResourceData = record {
      url = c.resource.inside.url;
      head = c.resource.inside.head;
      body = c.resource.inside.body;
      cuts = c.resource.inside.cuts;
      fail_after = c.resource.inside.fail_after;
      actions = c.resource.inside.actions;
    } in
    c.new.ensures
    ∙ ap (λ (b : List ℕ). record { left = pieces_of b c.as_slice.result.now r.fail_after; fails = is_some r.fail_after; faults = 0 }) body
    ∙ ap (λ (k : List ℕ). record { left = pieces_of r.body k r.fail_after; fails = is_some r.fail_after; faults = 0 }) cuts
    ∙ ap (λ (ps : List (List ℕ)). record { left = ps; fails = is_some r.fail_after; faults = 0 }) (same_pieces r)
    ∙ ap (λ (x : ResourceData). record { left = pieces x; fails = is_some x.fail_after; faults = 0 }) c.resource.view_is
