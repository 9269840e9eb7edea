-- A process that was never locked to the site of a secret body receives the same of both histories.
use Rattle.std.proofs.Common.{refl, sym, ◌∙◌, ap, arith, inl, inr}
use Rattle.std.specs.Prelude.{◌≡◌, ◌≤◌, ◌∷◌, [], if◌then◌else◌, Bool, List, None, Option, Some, codes, false, filter_map, length, map, not, option_and_then, option_map, suc, take, true, unwrap_or, zero, ℕ}
use Rattle.std.specs.List.{cons_option, list_all, slice_get}
use Rattle.std.proofs.lemmas.Bool.{eq-eqb}
use Rattle.std.proofs.lemmas.Option.{slice_get_within}
use Rattle.http_header.specs.HeaderMap.{get_all}
use Rattle.page_origin.specs.Origins.{equal_sites, has_origin, tuple_of}
use Rattle.page_origin.specs.PageUrls.{key_of}
use Rattle.page_origin.specs.declared.origin.Origin.{Origin}
use Rattle.page_origin.specs.declared.origin.Origin.TheVariants.{Opaque, Tuple}
use Rattle.url_keys.specs.ReadUrls.{IsReadUrl}
use Rattle.site_url.specs.Sites.{site_of, site_of_origin, site_of_tuple}
use Rattle.cors_check.specs.Chains.{compared_text, is_same_origin_chain}
use Rattle.cors_check.specs.Cors.{cors, allows}
use Rattle.cors_check.specs.declared.answer.Cors.TheVariants.{Failed, Passed, SameOrigin}
use Rattle.history_entry.specs.declared.body.Mode.{Mode}
use Rattle.history_entry.specs.declared.body.Mode.TheVariants.{Cors as InCors, NoCors}
use Rattle.history_entry.specs.declared.entry.Entry.{Entry}
use Rattle.history_entry.specs.declared.entry.Entry.TheVariants.{End, Head, Piece}
use Rattle.history_entry.specs.declared.rule.Rule.{Rule}
use Rattle.history_rules.specs.Orders.{OrderData, lock_in}
use Rattle.script_model.specs.ResourceData.{ResourceData}
use Rattle.script_model.specs.ScriptData.{ScriptData, find_resource}
use Rattle.script_model.specs.Verdicts.{cors_verdict, is_left_out, is_same_site_chain, is_tuple, verdict}
use Rattle.script_model.specs.declared.verdict.Verdict.{Verdict}
use Rattle.script_model.specs.declared.verdict.Verdict.TheVariants.{Allow, Block}
use Rattle.history_rules.proofs.Apart.{and_left, and_right, from_cond, from_map_or, from_then, not_both}
use Rattle.history_rules.proofs.Equal.{equal_bytes, origins_same, site_itself, sites_same}
use Rattle.history_rules.specs.Documents.{hosted, origin_of}
use Rattle.script_model.specs.Pieces.{has_ended, pieces, seen_body}
use Rattle.history_rules.specs.Redirects.{last_url, response}
use Rattle.history_rules.specs.Requests.{is_read_chain, request_chain, request_document, request_mode, request_origin, request_verdict, response_verdict}
use Rattle.history_rules.specs.Responses.{resource_at}
use Rattle.service_rule.specs.Services.{ServiceRule}
use Rattle.history_steps.proofs.Fixed.{verdict_from}
use Rattle.history_steps.proofs.Induction.{legal_take}
use Rattle.history_steps.proofs.Orders.{order_entry, order_of_found, order_site}
use Rattle.history_steps.proofs.Requests.{head_states, hosted_ordered}
use Rattle.history_steps.proofs.Rows.{piece_row}
use Rattle.history_steps.specs.Run.{Legal}
use Rattle.history_laws.specs.KillLaw.{is_request_in}
use Rattle.history_laws.specs.Received.{given_if, item_of, received}
use Rattle.history_laws.specs.Secret.{IsHidden, IsHiddenAlike, IsSecretBody, has_key, own_verdict, was_never_of, with_body, with_own_body}
use Rattle.secret_bodies.proofs.Bodies.{of_key}
use Rattle.secret_bodies.proofs.Changed.{NewBytes, after, changed}
use Rattle.secret_bodies.proofs.OwnChains.{let_through, no_cors_by}
use Rattle.history_laws.proofs.ReadChains.{last_read}
use Rattle.secret_bodies.proofs.SameWords.{is_request_in_same}
use Rattle.secret_bodies.proofs.StaysLegal.{new_bytes}

-- what holds of each URL of a chain holds of the last
pub all_last : (q : List ℕ → Bool) (x : List ℕ) (xs : List (List ℕ)) → list_all q (x ∷ xs) ≡ true → q (last_url (x ∷ xs)) ≡ true
all_last q x [] e = and_left (q x) true e
all_last q x (y ∷ ys) e = all_last q y ys (and_right (q x) (list_all q (y ∷ ys)) e)

-- what holds of all that a history gives holds of what this entry gives
pub all_given : {A : Type 0} (q : A → Bool) (f : Entry → Option A) (h : List Entry) (i : ℕ) (e : Entry) (x : A) → list_all q (filter_map f h) ≡ true → slice_get h i ≡ Some e → f e ≡ Some x → q x ≡ true
all_given q f [] i e x all at gives = absurd (cc)
all_given q f (y ∷ h) zero e x all at gives =
    let same : y ≡ e = cc in
    let here : list_all q (x ∷ filter_map f h) ≡ true = ap (λ o. list_all q (cons_option o (filter_map f h))) (sym (ap f same ∙ gives)) ∙ all in
    and_left (q x) (list_all q (filter_map f h)) here
all_given q f (y ∷ h) (suc i) e x all at gives = all_given q f h i e x (rest (f y) all) at gives
  where
    rest : (o : Option _) → list_all q (cons_option o (filter_map f h)) ≡ true → list_all q (filter_map f h) ≡ true
    rest None is = is
    rest (Some z) is = and_right (q z) (list_all q (filter_map f h)) is

-- two lists that give the same at each place give the same
pub filter_map_at : {B : Type 0} (f g : Entry → Option B) (k : Entry → Entry) (h : List Entry) → ((i : ℕ) (e : Entry) → slice_get h i ≡ Some e → f (k e) ≡ g e) → filter_map f (map k h) ≡ filter_map g h
filter_map_at f g k [] same = refl
filter_map_at f g k (e ∷ h) same =
    let here : f (k e) ≡ g e = same 0 e refl in
    let later : filter_map f (map k h) ≡ filter_map g h = filter_map_at f g k h (λ i x at. same (suc i) x at) in
    λ j. cons_option (here j) (later j)

-- a verdict that allows a secret body: the asking origin's site is that of the last URL
module _ (s : ScriptData) (body : List ℕ) (res : ResourceData) (secret : IsSecretBody s.policy res body) (origin : Origin) (x : List ℕ) (xs : List (List ℕ)) (why : Rule) where
  same_origin_site : (o : Origin) → has_origin (last_url (x ∷ xs)) o ≡ true → site_of_origin s.rules o ≡ site_of s.rules (last_url (x ∷ xs))
  same_origin_site (Tuple a) e = ap (λ o. site_of_origin s.rules o) (origins_same (Tuple a) (Tuple (tuple_of (last_url (x ∷ xs)))) e)
  same_origin_site (Opaque a) e = absurd (cc)

  no_values : (values : List (List ℕ)) (compared : List ℕ) → values ≡ [] → allows compared values ≡ false
  no_values values compared none = ap (allows compared) none

  by_cors : (b c : Bool) → is_same_origin_chain origin (x ∷ xs) ≡ b → c ≡ false → cors_verdict (if b then SameOrigin else if c then Passed else Failed) ≡ Allow why → site_of_origin s.rules origin ≡ site_of s.rules (last_url (x ∷ xs))
  by_cors true c all closed e = same_origin_site origin (all_last (λ url. has_origin url origin) x xs all)
  by_cors false true all closed e = absurd (cc)
  by_cors false false all closed e = absurd (cc)

  not_hidden : (v w : Option Verdict) → IsHiddenAlike v w → v ≡ Some (Allow why) → ⊥
  not_hidden None w alike e = absurd (cc)
  not_hidden (Some (Block rule)) w alike e = absurd (cc)
  not_hidden (Some (Allow rule)) w alike e = alike

  -- the body itself does not allow a request that is neither left out nor within the site
  not_outside : IsHidden s.policy res body → is_left_out s.policy s.rules origin (x ∷ xs) res.head ≡ false → is_same_site_chain s.rules origin (x ∷ xs) ≡ false → own_verdict res ≡ Some (Allow why) → ⊥
  not_outside (inl kept) through outside e = not_both (is_same_site_chain s.rules origin (x ∷ xs)) (let_through s.rules s.policy res origin x xs kept through) outside
  not_outside (inr alike) through outside e = not_hidden (own_verdict res) (own_verdict (with_own_body body res)) alike e

  by_site : (out within : Bool) → is_left_out s.policy s.rules origin (x ∷ xs) res.head ≡ out → is_same_site_chain s.rules origin (x ∷ xs) ≡ within
      → no_cors_by out within (own_verdict res) ≡ Some (Allow why) → site_of_origin s.rules origin ≡ site_of s.rules (last_url (x ∷ xs))
  unfolding is_same_site_chain
  by_site true within left all e = absurd (cc)
  by_site false true left all e = sym (sites_same (site_of s.rules (last_url (x ∷ xs))) (site_of_origin s.rules origin)
      (all_last (λ url. equal_sites (site_of s.rules url) (site_of_origin s.rules origin)) x xs (and_right (is_tuple origin) _ all)))
  by_site false false left all e = absurd (not_outside secret.hidden left all e)

  only : (v : Verdict) → Some v ≡ Some (Allow why) → v ≡ Allow why
  only v e = cc

  asked_verdict : Mode → Option Verdict
  asked_verdict mode = verdict s.policy s.rules origin (x ∷ xs) mode res.head (seen_body res) (has_ended res)

  site_by_verdict : (mode : Mode) → asked_verdict mode ≡ Some (Allow why) → site_of_origin s.rules origin ≡ site_of s.rules (last_url (x ∷ xs))
  unfolding asked_verdict cors verdict
  site_by_verdict InCors e =
      let allow : cors_verdict (cors origin (x ∷ xs) res.head.fields) ≡ Allow why = only (cors_verdict (cors origin (x ∷ xs) res.head.fields)) e in
      by_cors (is_same_origin_chain origin (x ∷ xs)) (allows (compared_text origin (x ∷ xs)) (get_all res.head.fields (codes "access-control-allow-origin"))) refl
      (no_values (get_all res.head.fields (codes "access-control-allow-origin")) (compared_text origin (x ∷ xs)) secret.closed) allow
  site_by_verdict NoCors e = by_site (is_left_out s.policy s.rules origin (x ∷ xs) res.head) (is_same_site_chain s.rules origin (x ∷ xs)) refl refl e

  pub allowed_site : (mode : Mode) → response_verdict s origin (x ∷ xs) mode res ≡ Some (Allow why) → site_of_origin s.rules origin ≡ site_of s.rules (last_url (x ∷ xs))
  unfolding asked_verdict response_verdict
  allowed_site mode e = site_by_verdict mode (from_cond (is_read_chain (x ∷ xs)) (asked_verdict mode) (Allow why) e).1

module _ (rule : ServiceRule) (s : ScriptData) (key body : List ℕ) (h : List Entry) (legal : Legal rule s h) (res : ResourceData) (found : find_resource s key ≡ Some res) (secret : IsSecretBody s.policy res body)
    (keeps : (u : List ℕ) → IsReadUrl u → tuple_of (key_of u) ≡ tuple_of u) where
  abbrev to : NewBytes
  to = new_bytes s key body h

  -- whose document gets a piece of the secret is locked to its site
  is_kept_out : (p i r n : ℕ) (bytes : List ℕ) → was_never_of s h key p ≡ true → slice_get h i ≡ Some (Piece r n bytes) → is_request_in h p r ≡ true → has_key h key r ≡ true → ⊥
  unfolding request_chain request_origin request_verdict origin_of was_never_of
  is_kept_out p i r n bytes never at in_process of =
      let g = take i h in
      let row = piece_row rule s g r n bytes (legal i (Piece r n bytes) at) in
      let le : i ≤ length h = omega (arith, slice_get_within h i (Piece r n bytes) at) in
      let document = from_map_or (λ d. hosted h p d) (request_document h r) in_process in
      let d : ℕ = document.0 in
      let state = (head_states rule s g (legal_take rule s h i legal) r).headed row.headed in
      let allowed : request_verdict s h r ≡ Some (Allow state.why) = verdict_from rule s h legal i r le row.headed ∙ state.allowed in
      let asked = from_then (λ origin. response_verdict s origin (request_chain h r) (request_mode h r) (response s (request_chain h r))) (request_origin h r) (Allow state.why) allowed in
      let o = hosted_ordered rule s h legal p d document.2 in
      let order : OrderData = o.0 in
      let origin_is : request_origin h r ≡ Some order.origin = ap (option_and_then (origin_of h)) document.1 ∙ ap (option_map (λ (x : OrderData). x.origin)) o.1 in
      let same_origin : asked.0 ≡ order.origin = (let both : Some asked.0 ≡ Some order.origin = sym asked.1 ∙ origin_is in cc) in
      let own : response s (request_chain h r) ≡ res = of_key s key body res found secret (last_url (request_chain h r)) of in
      let verdict : response_verdict s order.origin (request_chain h r) (request_mode h r) res ≡ Some (Allow state.why) =
      ap (λ y. response_verdict s order.origin (request_chain h r) (request_mode h r) y) (sym own)
      ∙ ap (λ y. response_verdict s y (request_chain h r) (request_mode h r) (response s (request_chain h r))) (sym same_origin) ∙ asked.2 in
      let site : site_of_origin s.rules order.origin ≡ site_of s.rules (last_url (request_chain h r)) = allowed_site s body res secret order.origin _ _ state.why (request_mode h r) verdict in
      let key_is : key_of (last_url (request_chain h r)) ≡ key = equal_bytes (key_of (last_url (request_chain h r))) key of in
      let of_key_site : site_of s.rules (last_url (request_chain h r)) ≡ site_of s.rules key =
      ap (site_of_tuple s.rules) (sym (keeps (last_url (request_chain h r)) (last_read rule s h legal r d document.1))) ∙ ap (site_of s.rules) key_is in
      let ordered = order_of_found h d order o.1 in
      let lock_site : site_of_origin s.rules order.origin ≡ order.site = order_site rule s h legal ordered.place d order ordered.here in
      let locked : lock_in p (order_entry d order) ≡ Some order.site = ap (λ b. if b then Some order.site else None) (eq-eqb order.process p o.2) in
      let never_here : not (equal_sites order.site (site_of s.rules key)) ≡ true = all_given (λ w. not (equal_sites w (site_of s.rules key))) (lock_in p) h ordered.place (order_entry d order) order.site never ordered.here locked in
      let same_site : order.site ≡ site_of s.rules key = sym lock_site ∙ site ∙ of_key_site in
      let equal : equal_sites order.site (site_of s.rules key) ≡ true = ap (λ w. equal_sites w (site_of s.rules key)) same_site ∙ site_itself (site_of s.rules key) in
      let wrong : not true ≡ true = ap not (sym equal) ∙ never_here in
      cc

  item_same : (p : ℕ) → was_never_of s h key p ≡ true → (i : ℕ) (e : Entry) → slice_get h i ≡ Some e → item_of (after to h) p (changed to e) ≡ item_of h p e
  item_same p never i (Head r why) at = λ j. given_if (is_request_in_same to s key body h p r j) (Head r why)
  item_same p never i (End r how) at = λ j. given_if (is_request_in_same to s key body h p r j) (End r how)
  item_same p never i (Piece r n bytes) at = (λ j. given_if (is_request_in_same to s key body h p r j) (Piece r n (to r n bytes))) ∙ by_cases (is_request_in h p r) (has_key h key r) refl refl
    where
      by_cases : (b c : Bool) → is_request_in h p r ≡ b → has_key h key r ≡ c → given_if (is_request_in h p r) (Piece r n (to r n bytes)) ≡ given_if (is_request_in h p r) (Piece r n bytes)
      by_cases true true in_process of = absurd (is_kept_out p i r n bytes never at in_process of)
      by_cases true false in_process of = ap (λ w. given_if (is_request_in h p r) (Piece r n w)) (ap (λ b. if b then unwrap_or (slice_get (pieces (resource_at (with_body s key body) key)) n) bytes else bytes) of)
      by_cases false c in_process of = ap (λ b. given_if b (Piece r n (to r n bytes))) in_process ∙ sym (ap (λ b. given_if b (Piece r n bytes)) in_process)
  item_same p never i _ at = refl

  pub received_same : (p : ℕ) → was_never_of s h key p ≡ true → received (after to h) p ≡ received h p
  unfolding received
  received_same p never = filter_map_at (item_of (after to h) p) (item_of h p) (changed to) h (item_same p never)
