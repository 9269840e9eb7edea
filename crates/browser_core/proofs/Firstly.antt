-- The run that a core makes: each call of `first` adds the first of the next entries, until there is none.
use Rattle.std.proofs.Common.{◌∙◌, ap, append-nil, arith, refl, subst, sym}
use Rattle.std.specs.Prelude.{◌≡◌, ◌-◌, ◌<◌, ◌++◌, ◌∷◌, [], Bool, List, None, Option, Some, false, is_some, length, slice_get, true, ℕ}
use Rattle.std.specs.Option.{option_map, option_to_list}
use Rattle.history_entry.specs.declared.entry.Entry.{Entry}
use Rattle.script_model.specs.ScriptData.{ScriptData}
use Rattle.service_rule.specs.Services.{ServiceRule}
use Rattle.history.proofs.Runs.{fewer, firsts_more, none_first}
use Rattle.history_steps.specs.Nexts.{nexts}
use Rattle.history_steps.specs.Run.{EachPlace, Finished, IsFirst, IsRun, first_next}
use Rattle.history_steps.specs.ScriptLimits.{IsWithinLimits}

-- a first entry was added
pub record GoesOn (rule : ServiceRule) (s : ScriptData) (h g : List Entry) : Type 0 where
  pub firsts : EachPlace (IsFirst rule s) g
  pub shorter : 400000 - length g < 400000 - length h

-- it was added behind one more
with_first : (rule : ServiceRule) (s : ScriptData) → IsWithinLimits s → (h g : List Entry) (first : Option Entry) → EachPlace (IsFirst rule s) h
    → first ≡ first_next rule s h → g ≡ h ++ option_to_list first → is_some (option_map (λ _. length h) first) ≡ true → GoesOn rule s h g
with_first rule s limits h g None firsts is added some = absurd (cc)
with_first rule s limits h g (Some e) firsts is added some =
    let more = firsts_more rule s h g e firsts (sym is) added in
    record { firsts = more; shorter = fewer rule s limits h g e more added }

pub goes_on : (rule : ServiceRule) (s : ScriptData) → IsWithinLimits s → (h g : List Entry) (place : Option ℕ) → EachPlace (IsFirst rule s) h
    → g ≡ h ++ option_to_list (first_next rule s h) → place ≡ option_map (λ _. length h) (first_next rule s h) → is_some place ≡ true → GoesOn rule s h g
goes_on rule s limits h g place firsts added told some =
    with_first rule s limits h g (first_next rule s h) firsts refl added (sym (ap is_some told) ∙ some)

without_first : (rule : ServiceRule) (s : ScriptData) (h g : List Entry) (first : Option Entry) → EachPlace (IsFirst rule s) h
    → first ≡ first_next rule s h → g ≡ h ++ option_to_list first → is_some (option_map (λ _. length h) first) ≡ false → IsRun rule s g
without_first rule s h g (Some e) firsts is added none = absurd (cc)
without_first rule s h g None firsts is added none =
    let same : h ≡ g = sym (append-nil h) ∙ sym added in
    subst (λ x. IsRun rule s x) same (record { firsts = firsts; finished = none_first (nexts rule s h) is })

-- none was added
pub ends : (rule : ServiceRule) (s : ScriptData) (h g : List Entry) (place : Option ℕ) → EachPlace (IsFirst rule s) h
    → g ≡ h ++ option_to_list (first_next rule s h) → place ≡ option_map (λ _. length h) (first_next rule s h) → is_some place ≡ false → IsRun rule s g
ends rule s h g place firsts added told none =
    without_first rule s h g (first_next rule s h) firsts refl added (sym (ap is_some told) ∙ none)
