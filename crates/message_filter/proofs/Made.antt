-- Frames that were made, and the current document of a frame.
use Rattle.std.proofs.Common.{ap, arith, refl, sym, ◌∙◌}
use Rattle.std.proofs.lemmas.Bool.{eq-eqb, eqb-true}
use Rattle.std.proofs.lemmas.List.Sums.{length-filter}
use Rattle.std.proofs.lemmas.Option.{slice_get_within}
use Rattle.std.specs.Option.{option_map_or}
use Rattle.std.specs.Prelude.{◌≡◌, ◌+◌, ◌-◌, ◌<◌, ◌≤◌, ◌==◌, if◌then◌else◌, Bool, List, None, Some, count_by, false, filter, nat_lt, option_and_then, slice_get, true, ℕ}
use Rattle.std.specs.List.{list_all, list_any}
use Rattle.history_entry.specs.declared.body.Message.{Message}
use Rattle.history_entry.specs.declared.entry.Entry.{Entry}
use Rattle.history_rules.proofs.Apart.{and_left, from_cond, from_else, from_map, from_map_or, from_then}
use Rattle.history_rules.proofs.Growth.{match_found}
use Rattle.history_rules.specs.Documents.{commit_at, document_in, is_current, is_kept, is_present, last_in, living}
use Rattle.history_rules.specs.Entries.{CommitData, accepted, commit_in, makes_frame, opens}
use Rattle.history_rules.specs.Frames.{adder_in, adder_of, frame_maker, frame_of, frames_made, group_of, is_child, is_in_group, lineage, parent_of, share_group, was_made}
use Rattle.history_rules.specs.Processes.{is_dead}
use Rattle.script_model.specs.ScriptData.{ScriptData, starts}

grouped_made : (s : ScriptData) (h : List Entry) (f g : ℕ) → group_of s h f ≡ Some g → was_made s h f ≡ true
unfolding group_of
grouped_made s h f g e = (from_cond (was_made s h f) _ g e).0

-- a frame that shares a group was made
pub group_made : (s : ScriptData) (h : List Entry) (f g : ℕ) → share_group s h f g ≡ true → was_made s h g ≡ true
group_made s h f g e =
    let first = from_map_or (λ group. is_in_group s h group g) (group_of s h f) e in
    let second = from_map_or (λ group. group == first.0) (group_of s h g) first.2 in
    grouped_made s h g second.0 second.1

made_from : (b c d : Bool) → b ≡ false → d ≡ true → (if b then c else d) ≡ true
made_from true c d e f = absurd (cc)
made_from false c d e f = f

lt_true : (a b : ℕ) → a < b → nat_lt a b ≡ true
lt_true a b lt = grind arith

lt_false : (a b : ℕ) → nat_lt a b ≡ false → b ≤ a
lt_false a b e = grind arith

maker_made : (s : ScriptData) (h : List Entry) (f : ℕ) (m : Message) → frame_maker s h f ≡ Some m → was_made s h f ≡ true
unfolding frame_maker was_made
maker_made s h f m e =
    let late = from_else (nat_lt f (starts s)) (option_and_then accepted (slice_get (filter makes_frame h) (f - starts s))) m e in
    let entry = from_then accepted (slice_get (filter makes_frame h) (f - starts s)) m late.1 in
    let within = slice_get_within (filter makes_frame h) (f - starts s) entry.0 entry.1 in
    let counted = length-filter makes_frame h in
    let from : starts s ≤ f = lt_false f (starts s) late.0 in
    let below : f < starts s + count_by makes_frame h = omega arith in
    made_from (nat_lt f (starts s)) (list_any (opens f) h) (nat_lt f (frames_made s h)) late.0 (lt_true f (frames_made s h) below)

-- a child was made
pub child_made : (s : ScriptData) (h : List Entry) (f parent : ℕ) → is_child s h f parent ≡ true → was_made s h f ≡ true
child_made s h f parent e =
    let above = from_map_or (λ g. g == parent) (parent_of s h f) e in
    let adder = from_map (frame_of s h) (adder_of s h f) above.0 above.1 in
    let maker = from_then adder_in (frame_maker s h f) adder.0 adder.1 in
    maker_made s h f maker.0 maker.1

present_made : (s : ScriptData) (h : List Entry) (f : ℕ) → is_present s h f ≡ true → was_made s h f ≡ true
unfolding is_present
present_made s h f e = and_left (was_made s h f) (list_all (is_kept s h) (lineage s h f)) e

document_present : (s : ScriptData) (h : List Entry) (f d : ℕ) → document_in s h f ≡ Some d → is_present s h f ≡ true
unfolding document_in
document_present s h f d e = (from_cond (is_present s h f) (option_and_then (living h) (last_in s h f)) d e).0

-- the frame of a current document was made
pub own_made : (s : ScriptData) (h : List Entry) (d : ℕ) → is_current s h d ≡ true → was_made s h (frame_of s h d) ≡ true
unfolding is_current
own_made s h d e =
    let a = from_map_or (λ c. c == d) (document_in s h (frame_of s h d)) e in
    present_made s h (frame_of s h d) (document_present s h (frame_of s h d) a.0 a.1)

living_is : (b : Bool) (x d : ℕ) → (if b then None else Some x) ≡ Some d → x ≡ d
living_is true x d e = absurd (cc)
living_is false x d e = cc

commit_frame : (s : ScriptData) (h : List Entry) (f : ℕ) (e : Entry) (c : CommitData) → commit_at s h f e ≡ Some c → frame_of s h c.document ≡ f
commit_frame s h f e c is =
    let t = from_then (λ (x : CommitData). if frame_of s h x.document == f then Some x else None) (commit_in e) c is in
    let b : CommitData = t.0 in
    let a = from_cond (frame_of s h b.document == f) (Some b) c t.2 in
    let same : c ≡ b = some_same b c a.1 in
    ap (λ (o : CommitData). frame_of s h o.document) same ∙ eqb-true (frame_of s h b.document) f a.0
  where
    some_same : (x y : CommitData) → Some x ≡ Some y → y ≡ x
    some_same x y e = cc

last_frame : (s : ScriptData) (h : List Entry) (f : ℕ) (c : CommitData) → last_in s h f ≡ Some c → frame_of s h c.document ≡ f
unfolding last_in
last_frame s h f c e =
    let m = match_found (commit_at s h f) h c e in
    commit_frame s h f m.item c m.gives

-- the frame of a document that is the current one of a frame
document_frame : (s : ScriptData) (h : List Entry) (f d : ℕ) → document_in s h f ≡ Some d → frame_of s h d ≡ f
unfolding document_in
document_frame s h f d e =
    let a = from_cond (is_present s h f) (option_and_then (living h) (last_in s h f)) d e in
    let t = from_then (living h) (last_in s h f) d a.1 in
    let c : CommitData = t.0 in
    let same : c.document ≡ d = living_is (is_dead h c.process) c.document d t.2 in
    ap (frame_of s h) (sym same) ∙ last_frame s h f c t.1

-- the current document of a frame is current
pub receiver_current : (s : ScriptData) (h : List Entry) (f d : ℕ) → document_in s h f ≡ Some d → is_current s h d ≡ true
unfolding is_current
receiver_current s h f d e =
    ap (λ g. option_map_or (λ c. c == d) (document_in s h g) false) (document_frame s h f d e)
    ∙ ap (λ o. option_map_or (λ c. c == d) o false) e ∙ eq-eqb d d refl
