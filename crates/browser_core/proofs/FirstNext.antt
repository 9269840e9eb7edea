-- The first candidate becomes the first of the next entries.
use Rattle.std.proofs.Common.{◌∙◌, ap, refl, sym}
use Rattle.std.specs.Prelude.{◌≡◌, ◌++◌, ◌∷◌, [], Bool, IsTrue, List, None, Option, Some, false, filter_map, is_some, not, option_map, slice_get, true, ℕ}
use Rattle.std.specs.List.{cons_option}
use Rattle.std.specs.Option.{option_or}
use Rattle.history_entry.specs.declared.entry.Entry.{Entry}
use Rattle.script_model.specs.ScriptData.{ScriptData}
use Rattle.service_rule.specs.Services.{ServiceRule}
use Rattle.history_rules.specs.Documents.{documents}
use Rattle.history_steps.proofs.TheNexts.{nexts_follow}
use Rattle.history_steps.specs.MayFollow.{MayFollow, said_next}
use Rattle.history_steps.specs.Nexts.{commit_nexts, crash_nexts, end_nexts, exit_nexts, head_nexts, local_nexts, nexts, piece_nexts, said_nexts}
use Rattle.history_steps.specs.Run.{Finished, first_next}
use Rattle.history.proofs.Sayings.{said_is_judged}
use Rattle.history.specs.Sayings.{judged, saying_next}
use Rattle.history.specs.declared.documents.Saying.{Saying}
use Rattle.browser_core.proofs.Firsts.{first_behind, first_three}
use Rattle.browser_core.specs.Candidates.{before_messages, behind_messages, first_candidate, sayings}
use Rattle.browser_tasks.specs.Candidates.{entry_of}
use Rattle.browser_tasks.specs.declared.candidate.Candidate.{Candidate}
use Rattle.browser_tasks.specs.declared.candidate.Candidate.TheVariants.{Entry as Ready, Saying as Asks}

nine : {X : Type 0} (a b c d e f g i j : List X)
    → slice_get (a ++ b ++ c ++ d ++ e ++ f ++ g ++ i ++ j) 0
    ≡ option_or (slice_get a 0) (option_or (slice_get b 0) (option_or (slice_get c 0) (option_or (slice_get d 0) (option_or (slice_get e 0)
    (option_or (option_or (slice_get f 0) (option_or (slice_get g 0) (slice_get i 0))) (slice_get j 0))))))
nine [] [] [] [] [] [] [] [] j = refl
nine [] [] [] [] [] [] [] (x ∷ i) j = refl
nine [] [] [] [] [] [] (x ∷ g) i j = refl
nine [] [] [] [] [] (x ∷ f) g i j = refl
nine [] [] [] [] (x ∷ e) f g i j = refl
nine [] [] [] (x ∷ d) e f g i j = refl
nine [] [] (x ∷ c) d e f g i j = refl
nine [] (x ∷ b) c d e f g i j = refl
nine (x ∷ a) b c d e f g i j = refl

said_step : {A B : Type 0} (g : A → B) (o : Option A) (xs : List B) (ys : List A) → slice_get xs 0 ≡ option_map g (slice_get ys 0)
    → slice_get (cons_option (option_map g o) xs) 0 ≡ option_map g (slice_get (cons_option o ys) 0)
said_step g None xs ys same = same
said_step g (Some y) xs ys same = refl

first_given : {A B : Type 0} (F : ℕ → Option B) (f : ℕ → Option A) (g : A → B) → ((d : ℕ) → F d ≡ option_map g (f d)) → (xs : List ℕ)
    → slice_get (filter_map F xs) 0 ≡ option_map g (slice_get (filter_map f xs) 0)
first_given F f g same [] = refl
first_given F f g same (d ∷ xs) =
    ap (λ o. slice_get (cons_option o (filter_map F xs)) 0) (same d)
    ∙ said_step g (f d) (filter_map F xs) (filter_map f xs) (first_given F f g same xs)

first_said : (rule : ServiceRule) (s : ScriptData) (h : List Entry) → slice_get (said_nexts rule s h) 0 ≡ option_map (judged rule s h) (slice_get (sayings s h) 0)
unfolding said_nexts sayings
first_said rule s h = first_given (said_next rule s h) (saying_next s h) (judged rule s h) (said_is_judged rule s h) (documents s h)

becomes : (rule : ServiceRule) (s : ScriptData) (h : List Entry) (a c : Option Entry) (b : Option Saying)
    → option_map (entry_of rule s h) (option_or (option_map Ready a) (option_or (option_map Asks b) (option_map Ready c)))
    ≡ option_or a (option_or (option_map (judged rule s h) b) c)
becomes rule s h None None None = refl
becomes rule s h None (Some e) None = refl
becomes rule s h None c (Some saying) = refl
becomes rule s h (Some e) c b = refl

first_of_nexts : (rule : ServiceRule) (s : ScriptData) (h : List Entry)
    → first_next rule s h ≡ option_or (slice_get (before_messages s h) 0) (option_or (slice_get (said_nexts rule s h) 0) (slice_get (behind_messages s h) 0))
unfolding nexts before_messages
first_of_nexts rule s h =
    nine (before_messages s h) (said_nexts rule s h) (crash_nexts s h) (commit_nexts s h) (local_nexts s h) (head_nexts s h) (piece_nexts s h) (end_nexts s h) (exit_nexts s h)
    ∙ sym (ap (λ o. option_or (slice_get (before_messages s h) 0) (option_or (slice_get (said_nexts rule s h) 0) o))
    (first_behind s h ∙ ap (λ o. option_or (slice_get (crash_nexts s h) 0) (option_or (slice_get (commit_nexts s h) 0)
    (option_or (slice_get (local_nexts s h) 0) (option_or o (slice_get (exit_nexts s h) 0))))) (first_three s h)))

-- what the first candidate becomes
pub first_settled : (rule : ServiceRule) (s : ScriptData) (h : List Entry) → option_map (entry_of rule s h) (first_candidate s h) ≡ first_next rule s h
unfolding first_candidate
first_settled rule s h =
    becomes rule s h (slice_get (before_messages s h) 0) (slice_get (behind_messages s h) 0) (slice_get (sayings s h) 0)
    ∙ ap (λ o. option_or (slice_get (before_messages s h) 0) (option_or o (slice_get (behind_messages s h) 0))) (sym (first_said rule s h))
    ∙ sym (first_of_nexts rule s h)

-- the first of the next entries may follow
pub first_follows : (rule : ServiceRule) (s : ScriptData) (h : List Entry) (e : Entry) → first_next rule s h ≡ Some e → MayFollow rule s h e
first_follows rule s h e is = (nexts_follow rule s h).at 0 e is

none_first : {X : Type 0} (xs : List X) → slice_get xs 0 ≡ None → xs ≡ []
none_first [] is = refl
none_first (x ∷ xs) is = absurd (cc)

none_finishes : (rule : ServiceRule) (s : ScriptData) (h : List Entry) (first : Option Candidate) → first ≡ first_candidate s h → is_some first ≡ false → Finished rule s h
none_finishes rule s h None is none = none_first (nexts rule s h) (sym (ap (option_map (entry_of rule s h)) is ∙ first_settled rule s h))
none_finishes rule s h (Some c) is none = absurd (cc)

some_goes_on : (rule : ServiceRule) (s : ScriptData) (h : List Entry) (first : Option Candidate) → first ≡ first_candidate s h → is_some first ≡ true → Finished rule s h → ⊥
some_goes_on rule s h None is some finished = absurd (cc)
some_goes_on rule s h (Some c) is some finished =
    let some_next : first_next rule s h ≡ Some (entry_of rule s h c) = sym (ap (option_map (entry_of rule s h)) is ∙ first_settled rule s h) in
    let no_next : first_next rule s h ≡ None = ap (λ (xs : List Entry). slice_get xs 0) finished in
    absurd (cc)

-- no entry may follow exactly where there is no candidate
pub finishing : (rule : ServiceRule) (s : ScriptData) (h : List Entry) (some : Bool) → some ≡ is_some (first_candidate s h)
    → (IsTrue (not some) → Finished rule s h) × (Finished rule s h → IsTrue (not some))
finishing rule s h true is = ((λ yes. absurd (cc)), (λ finished. absurd (some_goes_on rule s h (first_candidate s h) refl (sym is) finished)))
finishing rule s h false is = ((λ yes. none_finishes rule s h (first_candidate s h) refl (sym is)), (λ finished. refl))
