-- The last match in a list, one entry longer.
use Rattle.std.proofs.Common.{◌≡◌, List, [], ◌∷◌, ◌++◌, Option, Some, None, refl, ap, ◌∙◌, sym, ℕ, ◌+◌, ◌<◌, length, take, get_or, Bor}
use Rattle.std.proofs.lemmas.List.{take_more}
use Rattle.std.specs.Option.{option_or, option_copied, option_map}
use Rattle.history_entry.specs.declared.entry.Entry.{Entry}
use Rattle.history_rules.specs.Entries.{last_match}

or_assoc : {A : Type 0} (a b c : Option A) → option_or (option_or a b) c ≡ option_or a (option_or b c)
or_assoc None b c = refl
or_assoc (Some x) b c = refl

or_none : {A : Type 0} (a : Option A) → option_or a None ≡ a
or_none None = refl
or_none (Some x) = refl

pub last_match_more : {A : Type 0} (f : Entry → Option A) (h : List Entry) (e : Entry) → last_match f (h ++ e ∷ []) ≡ option_or (f e) (last_match f h)
last_match_more f [] e = sym (or_none (f e))
last_match_more f (x ∷ h) e = ap (λ o. option_or o (f x)) (last_match_more f h e) ∙ or_assoc (f e) (last_match f h) (f x)

-- one turn of a loop that keeps the last match
pub last_match_step : {A : Type 0} (f : Entry → Option A) (h : List Entry) (i : ℕ) (e : Entry) (last : Option A) → i < length h → e ≡ get_or h i e → last ≡ last_match f (take i h) → option_or (f e) last ≡ last_match f (take (i + 1) h)
last_match_step f h i e last lt is was =
    let more : take (i + 1) h ≡ take i h ++ e ∷ [] = take_more h i e lt ∙ ap (λ x. take i h ++ x ∷ []) (sym is) in
    ap (λ o. option_or (f e) o) was ∙ sym (last_match_more f (take i h) e) ∙ ap (last_match f) (sym more)

pub copied_or : {A : Type 0} (a b : Option (Bor A)) → option_copied (option_or a b) ≡ option_or (option_copied a) (option_copied b)
copied_or None b = refl
copied_or (Some x) b = refl

pub map_or : {A B : Type 0} (f : A → B) (a b : Option A) → option_map f (option_or a b) ≡ option_or (option_map f a) (option_map f b)
map_or f None b = refl
map_or f (Some x) b = refl
