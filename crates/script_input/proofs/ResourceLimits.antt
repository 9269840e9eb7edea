-- Resources that are read one after another, and the set of their keys.
use Rattle.std.proofs.Common.{◌≡◌, ◌≢◌, ◌<◌, ℕ, zero, suc, Bool, true, false, ◌||◌, List, [], ◌∷◌, ◌++◌, length, get_or, arith, refl, sym, ap, subst, ◌∙◌}
use Rattle.std.proofs.Math.Path.{fun_ext}
use Rattle.std.specs.Prelude.{All, String, bytes_eq, cond, string_bytes}
use Rattle.std.specs.HashSet.{HashSet, UpdatesBy, contains_text}
use Rattle.std.specs.String.{string_eq}
use Rattle.std.proofs.lemmas.List.Folds.{list_any-append}
use Rattle.std.proofs.lemmas.Map.Text.{hash_set_updates_text}
use Rattle.std.proofs.lemmas.Slice.Eq.{bytes_eq-Decides}
use Rattle.std.proofs.lemmas.List.Elements.{All-nil, All-push}
use Rattle.std.proofs.lemmas.List.Quantifiers.{all_pairs_push}
use Rattle.script_model.specs.ActionLimits.{IsActionAmong}
use Rattle.script_model.specs.ResourceData.{ResourceData}
use Rattle.script_model.specs.ScriptData.{resource_key}
use Rattle.script_input.specs.ForProofs.{AreResources}
use Rattle.script_input.specs.Resources.{is_key_of}

pub no_resources : (count : ℕ) → AreResources count []
no_resources count = record {
  distinct = λ i j d below within. absurd (omega arith);
  among = All-nil (λ (r : ResourceData). All (IsActionAmong count) r.actions);
}

or_false : (a b : Bool) → (a || b) ≡ false → (a ≡ false) × (b ≡ false)
or_false true b h = absurd (cc)
or_false false b h = (refl, h)

new_key_at : (resources : List ResourceData) (key : List ℕ) (k : ℕ) (d : ResourceData) → is_key_of resources key ≡ false → k < length resources → resource_key (get_or resources k d) ≢ key
new_key_at [] key k d new within = absurd (omega arith)
new_key_at (r ∷ resources) key zero d new within = λ same.
    let parts = or_false (bytes_eq (resource_key r) key) (is_key_of resources key) new in
    let equal : bytes_eq (resource_key r) key ≡ true = (bytes_eq-Decides (resource_key r) key).1 same in
    let other = parts.0 in
    cc
new_key_at (r ∷ resources) key (suc k) d new within =
    new_key_at resources key k d (or_false (bytes_eq (resource_key r) key) (is_key_of resources key) new).1 (omega arith)

-- a resource of a new key is one more
pub one_more_resource : (count : ℕ) (resources : List ResourceData) (resource : ResourceData) → AreResources count resources → is_key_of resources (resource_key resource) ≡ false → All (IsActionAmong count) resource.actions → AreResources count (resources ++ resource ∷ [])
one_more_resource count resources resource are new among = record {
  distinct = all_pairs_push (λ a b. resource_key a ≢ resource_key b) resources resource are.distinct (λ k d within. new_key_at resources (resource_key resource) k d new within);
  among = All-push (λ (r : ResourceData). All (IsActionAmong count) r.actions) resources resource are.among among;
}

either : (a b : Bool) → cond a true b ≡ (a || b)
either true b = refl
either false b = refl

-- a set into which a text was put has that text too
pub one_more_text : {Y S : Type 0} (old new : HashSet (String Y) S) (key : String Y) (text : List ℕ) → string_bytes key ≡ text → UpdatesBy string_eq (string_eq key) old new true → (other : List ℕ) → contains_text new other ≡ (bytes_eq text other || contains_text old other)
one_more_text old new key text is updates other =
    let after = hash_set_updates_text (string_bytes key) old new true updates other in
    subst (λ (t : List ℕ). contains_text new other ≡ (bytes_eq t other || contains_text old other)) is (after ∙ either (bytes_eq (string_bytes key) other) (contains_text old other))

either_way : (a b : Bool) → (a || (b || false)) ≡ (b || a)
either_way true true = refl
either_way true false = refl
either_way false true = refl
either_way false false = refl

-- a set with one more key has the keys of the resources with one more
pub one_more_key : {Y S : Type 0} (old new : HashSet (String Y) S) (resources : List ResourceData) (resource : ResourceData) → contains_text old ≡ is_key_of resources → ((key : List ℕ) → contains_text new key ≡ (bytes_eq (resource_key resource) key || contains_text old key)) → contains_text new ≡ is_key_of (resources ++ resource ∷ [])
one_more_key old new resources resource are more = fun_ext (λ key.
    let own : Bool = bytes_eq (resource_key resource) key in
    more key
    ∙ ap (λ (has : List ℕ → Bool). own || has key) are
    ∙ sym (list_any-append (λ r. bytes_eq (resource_key r) key) resources (resource ∷ []) ∙ either_way (is_key_of resources key) own))
