use Rattle.std.proofs.Common.{◌≡◌, refl, true, ⊎_elim, sym}
use Rattle.std.specs.Prelude.{string_bytes}
use Rattle.std.specs.Str.{is_utf8}
use Rattle.std.proofs.lemmas.Bool.{cases_Bool}
use Rattle.std.proofs.lemmas.Str.{IsUtf8-string_bytes, is_utf8-from_IsUtf8, IsUtf8-from_is_utf8}
use Rattle.entry_reading.specs.Fields as fields
use Rattle.entry_reading.proofs.fields.text_of.Goals as goal

pub returns-in-Ok : goal.returns-in-Ok
unfolding fields.text_of
returns-in-Ok c =
    let valid : is_utf8 (string_bytes c.in-Ok.text) ≡ true = is_utf8-from_IsUtf8 (string_bytes c.in-Ok.text) (IsUtf8-string_bytes c.in-Ok.text) in
    let read = c.in_ok-bytes.ensures in
    rw read (rw (sym c.in-Ok.ensures.ok) (rw valid refl))

pub returns : goal.returns
unfolding fields.text_of
returns c =
    let read = c.in_ok-bytes.ensures in
    ⊎_elim (λ yes. let never = c.in-Err.ensures.succeeds (IsUtf8-from_is_utf8 c.in_ok-bytes.bytes.items yes) in absurd (cc)) (λ no. rw read (rw no refl)) (cases_Bool (is_utf8 c.in_ok-bytes.bytes.items))
