-- A run is legal, so it is no longer than the bound, and each turn makes it longer.
use Rattle.std.proofs.Common.{◌≡◌, ◌+◌, ◌-◌, ◌<◌, List, [], ◌∷◌, ◌++◌, length, None, refl, arith, length-append}
use Rattle.std.specs.List.{slice_get}
use Rattle.history_entry.specs.declared.entry.Entry.{Entry}
use Rattle.service_rule.specs.Services.{ServiceRule}
use Rattle.script_model.specs.ScriptData.{ScriptData}
use Rattle.history_steps.proofs.Induction.{push_places}
use Rattle.history_steps.specs.Run.{EachPlace, IsFirst}
use Rattle.history_steps.specs.ScriptLimits.{IsWithinLimits}
use Rattle.history_laws.proofs.Bound.{bounded}
use Rattle.history_laws.proofs.Runs.{firsts_legal}

pub firsts_more : (rule : ServiceRule) (s : ScriptData) (h g : List Entry) (e : Entry) → EachPlace (IsFirst rule s) h → IsFirst rule s h e → g ≡ h ++ e ∷ [] → EachPlace (IsFirst rule s) g
firsts_more rule s h g e firsts first is = rw is (push_places (IsFirst rule s) h e firsts first)

pub fewer : (rule : ServiceRule) (s : ScriptData) → IsWithinLimits s → (h g : List Entry) (e : Entry) → EachPlace (IsFirst rule s) g → g ≡ h ++ e ∷ [] → 400000 - length g < 400000 - length h
fewer rule s limits h g e firsts is =
    let longer : length g ≡ length h + 1 = rw is (length-append h (e ∷ [])) in
    let most : length g < 400000 = bounded rule s limits g (firsts_legal rule s g firsts) in
    omega arith

pub none_first : {X : Type 0} (xs : List X) → None ≡ slice_get xs 0 → xs ≡ []
none_first [] e = refl
none_first (x ∷ xs) e = absurd (cc)
