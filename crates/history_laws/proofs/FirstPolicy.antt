-- Each entry of a legal history carries a rule of the script's policy.
use Rattle.std.proofs.Common.{ap, refl, subst, ◌∙◌, sym}
use Rattle.std.specs.Prelude.{◌≡◌, ◌&&◌, ◌∷◌, [], if◌then◌else◌, Bool, List, None, Option, Some, bytes_eq, codes, false, filter_map, is_none, nat_le, not, option_and_then, option_map, slice_get, suc, take, true, ℕ}
use Rattle.std.specs.List.{list_all}
use Rattle.std.specs.Option.{option_map_or}
use Rattle.page_origin.specs.declared.origin.Origin.{Origin}
use Rattle.history_entry.specs.CarriedRules.{carried_rule}
use Rattle.history_entry.specs.declared.entry.Entry.{Entry}
use Rattle.history_entry.specs.declared.entry.Entry.TheVariants.{Commit, End, Head, NavEnd, Said}
use Rattle.history_entry.specs.declared.policy.Policy.{Policy}
use Rattle.history_entry.specs.declared.policy.Policy.TheVariants.{One, Two}
use Rattle.history_entry.specs.declared.rule.Rule.{Rule}
use Rattle.history_entry.specs.declared.rule.Rule.TheVariants.{N3, N5, N6, N7, N8, S2, S3, S4}
use Rattle.script_model.specs.ResourceData.{fails_at_once}
use Rattle.script_model.specs.ScriptData.{ScriptData}
use Rattle.script_model.specs.Verdicts.{verdict}
use Rattle.script_model.specs.declared.verdict.Verdict.{Verdict}
use Rattle.service_rule.specs.declared.service.Asked.{Asked}
use Rattle.service_rule.specs.declared.service.ServiceAnswer.{ServiceAnswer}
use Rattle.service_rule.specs.declared.service.ServiceAnswer.TheVariants.{Refused, Said as Answered}
use Rattle.history_rules.proofs.Apart.{and_both, from_cond, from_map}
use Rattle.history_rules.specs.Navigations.{chain_of, is_pending}
use Rattle.script_model.specs.Pieces.{has_ended, seen_body}
use Rattle.history_rules.specs.Redirects.{has_no_content, is_redirect, is_spent, is_web, joined_url, response}
use Rattle.history_rules.specs.Requests.{is_read_chain, request_chain, request_mode, request_origin, request_verdict, response_verdict}
use Rattle.service_rule.specs.Services.{ServiceRule, is_service_rule}
use Rattle.service_rule.specs.Store.{GetKey, RemoveKey, SetKey, StoreRequest, answer_request, answer_text, key_count, store_request, store_rule, value_of}
use Rattle.service_rule.specs.declared.limits.TheConstants.{MAX_STORE_KEYS}
use Rattle.history_steps.proofs.Rows.{commit_row, end_row, head_row, said_row}
use Rattle.history_steps.specs.MayFollow.{MayFollow, chosen_order, does_commit, end_navigation_next, end_rule as navigation_rule, next_of, redirect_rule, response_rule}
use Rattle.history_laws.proofs.FineRules.{commit_fine, end_how_fine, fine, fine_how, fine_if, fine_reply, fine_verdict, first_verdict_fine, judge_fine}
use Rattle.history_laws.specs.PolicyLaw.{RefusesByServiceRules, RulesAreOfThePolicy, carries_rule_of, is_rule_of}

-- what holds at each place holds of all
all_placed : {X : Type 0} (p : X → Bool) (xs : List X) → ((i : ℕ) (x : X) → slice_get xs i ≡ Some x → p x ≡ true) → list_all p xs ≡ true
all_placed p [] each = refl
all_placed p (x ∷ xs) each = and_both (p x) (list_all p xs) (each 0 x refl) (all_placed p xs (λ i y at. each (suc i) y at))

redirect_fine : (o : Option (List ℕ)) → fine (redirect_rule o) ≡ true
redirect_fine None = refl
redirect_fine (Some url) = fine_if (is_web url) None (Some N3) refl refl

module _ (s : ScriptData) where
  response_fine : (chain : List (List ℕ)) → fine (response_rule s chain) ≡ true
  response_fine chain =
      let e = fine_if (has_no_content (response s chain)) (Some N8) None refl refl in
      let f = fine_if (is_spent chain) (Some N5) (redirect_rule (joined_url s chain)) refl (redirect_fine (joined_url s chain)) in
      let g = fine_if (is_redirect (response s chain)) (if is_spent chain then Some N5 else redirect_rule (joined_url s chain)) (if has_no_content (response s chain) then Some N8 else None) f e in
      fine_if (fails_at_once (response s chain)) (Some N7) _ refl g

  navigation_fine : (h : List Entry) (n : ℕ) → fine (navigation_rule s h n) ≡ true
  unfolding navigation_rule
  navigation_fine h n =
      let e = fine_if (is_none (chosen_order s h n)) (Some N6) None refl refl in
      fine_if (does_commit s (chain_of s h n)) (if is_none (chosen_order s h n) then Some N6 else None) (response_rule s (chain_of s h n)) e (response_fine (chain_of s h n))

asked_fine : (read : Bool) (v : Option Verdict) → fine_verdict v ≡ true → fine_verdict (if read then v else None) ≡ true
asked_fine true v e = e
asked_fine false v e = refl

module _ (rule : ServiceRule) (s : ScriptData) (own : RefusesByServiceRules rule) (first : s.policy ≡ One) where
  request_verdict_fine : (h : List Entry) (r : ℕ) → fine_verdict (request_verdict s h r) ≡ true
  unfolding request_verdict response_verdict
  request_verdict_fine h r = by_origin (request_origin h r)
    where
      by_origin : (o : Option Origin) → fine_verdict (option_and_then (λ origin. response_verdict s origin (request_chain h r) (request_mode h r) (response s (request_chain h r))) o) ≡ true
      by_origin None = refl
      by_origin (Some origin) =
          let x = response s (request_chain h r) in
          asked_fine (is_read_chain (request_chain h r)) (verdict s.policy s.rules origin (request_chain h r) (request_mode h r) x.head (seen_body x) (has_ended x))
          (ap (λ p. fine_verdict (verdict p s.rules origin (request_chain h r) (request_mode h r) x.head (seen_body x) (has_ended x))) first
          ∙ first_verdict_fine s.rules origin (request_chain h r) (request_mode h r) x.head (seen_body x) (has_ended x))

  -- an entry that may follow does not carry B8
  step : (h : List Entry) (e : Entry) → MayFollow rule s h e → carries_rule_of One e ≡ true
  unfolding next_of end_navigation_next
  step h (NavEnd n why) may =
      let a = from_cond (is_pending s h n) (option_map (NavEnd n) (navigation_rule s h n)) (NavEnd n why) may in
      let b = from_map (NavEnd n) (navigation_rule s h n) (NavEnd n why) a.1 in
      let same : b.0 ≡ why = (let both = b.2 in cc) in
      subst (λ o. fine o ≡ true) (b.1 ∙ ap (λ x. Some x) same) (navigation_fine s h n)
  step h (Said p d k m reply) may =
      subst (λ x. fine_reply x ≡ true) (said_row rule s h p d k m reply may).judged (judge_fine rule s h own p m)
  step h (Commit p n origin url reply) may =
      subst (λ x. fine_reply x ≡ true) (commit_row rule s h p n origin url reply may).judged (commit_fine rule s h own p n url origin)
  step h (Head r why) may = subst (λ o. fine_verdict o ≡ true) (head_row rule s h r why may).allowed (request_verdict_fine h r)
  step h (End r how) may = subst (λ o. fine_how o ≡ true) (end_row rule s h r how may).1 (end_how_fine s h r (request_verdict_fine h r))
  step h _ may = refl

any_rule : (o : Option Rule) → option_map_or (is_rule_of Two) o true ≡ true
any_rule None = refl
any_rule (Some rule) = refl

pub rules_are_of_the_policy : (rule : ServiceRule) (s : ScriptData) → RulesAreOfThePolicy rule s
rules_are_of_the_policy rule s own h legal = by_policy s.policy refl
  where
    by_policy : (policy : Policy) → s.policy ≡ policy → list_all (carries_rule_of s.policy) h ≡ true
    by_policy One is = all_placed (carries_rule_of s.policy) h (λ i e at. ap (λ p. carries_rule_of p e) is ∙ step rule s own is (take i h) e (legal i e at))
    by_policy Two is = all_placed (carries_rule_of s.policy) h (λ i e at. ap (λ p. carries_rule_of p e) is ∙ any_rule (carried_rule e))

-- ---- the service `store`

abbrev own_refusal : ServiceAnswer → Bool
own_refusal (Answered text) = true
own_refusal (Refused why) = is_service_rule why

own_if : (b : Bool) (x y : ServiceAnswer) → own_refusal x ≡ true → own_refusal y ≡ true → own_refusal (if b then x else y) ≡ true
own_if true x y e f = e
own_if false x y e f = f

own_request : (earlier : List StoreRequest) (q : StoreRequest) → own_refusal (answer_request earlier q) ≡ true
unfolding answer_request
own_request earlier (GetKey key) = refl
own_request earlier (SetKey key value) = own_if (is_none (value_of earlier key) && nat_le MAX_STORE_KEYS (key_count earlier)) (Refused S2) (Answered (codes "done")) refl refl
own_request earlier (RemoveKey key) = refl

own_text : (earlier : List StoreRequest) (o : Option StoreRequest) → own_refusal (option_map_or (answer_request earlier) o (Refused S4)) ≡ true
own_text earlier None = refl
own_text earlier (Some q) = own_request earlier q

-- `store` refuses by rules of services
pub store_refuses : RefusesByServiceRules store_rule
unfolding store_rule
store_refuses name earlier current request why is =
    let es : List StoreRequest = filter_map (λ (asked : Asked). store_request asked.request) earlier in
    let whole : own_refusal (if not (bytes_eq name (codes "store")) then Refused S3 else answer_text es request) ≡ true =
    own_if (not (bytes_eq name (codes "store"))) (Refused S3) (answer_text es request) refl (own_text es (store_request request)) in
    ap own_refusal (sym is) ∙ whole
