-- Each URL of a request in a legal history was read from a text, and is of class Web.
use Rattle.std.proofs.Common.{refl, sym, ◌∙◌, ap, subst, inl, inr}
use Rattle.std.specs.Prelude.{◌≡◌, ◌⊎◌, ◌||◌, ◌∷◌, [], if◌then◌else◌, Bool, Err, List, None, Ok, Option, Result, Some, cond, false, filter_map, nat_le, not, option_and_then, suc, take, true, unwrap_or, ℕ}
use Rattle.std.specs.List.{cons_option, slice_get}
use Rattle.std.specs.Option.{option_map_or}
use Rattle.std.specs.Result.{result_ok, result_unwrap_or}
use Rattle.page_origin.specs.PageUrls.{class_of, join_url_of, page_url_of}
use Rattle.page_origin.specs.declared.class.UrlClass.{UrlClass}
use Rattle.page_origin.specs.declared.class.UrlClass.TheVariants.{AboutBlank, AboutSrcdoc, DataUrl, Foreign, Web}
use Rattle.page_origin.specs.declared.origin.Origin.{Origin}
use Rattle.url_keys.specs.ReadUrls.{IsReadUrl}
use Rattle.history_entry.specs.declared.body.Body.{Body}
use Rattle.history_entry.specs.declared.body.Body.TheVariants.{Fetch}
use Rattle.history_entry.specs.declared.body.Message.{Message}
use Rattle.history_entry.specs.declared.body.Mode.{Mode}
use Rattle.history_entry.specs.declared.entry.Entry.{Entry}
use Rattle.history_entry.specs.declared.entry.Entry.TheVariants.{Hop}
use Rattle.history_entry.specs.declared.entry.HopOf.TheVariants.{Req}
use Rattle.history_entry.specs.declared.reply.Reply.TheVariants.{Deny, Kill, Ok as Okay}
use Rattle.history_entry.specs.declared.rule.Rule.TheVariants.{F1, K3, L2}
use Rattle.script_model.specs.ResourceData.{fails_at_once}
use Rattle.script_model.specs.ScriptData.{ScriptData}
use Rattle.history_rules.proofs.Apart.{from_cond, from_map_or, from_then}
use Rattle.history_rules.specs.Entries.{accepted, body_makes_request, makes_request}
use Rattle.history_rules.specs.Judgement.{is_own_origin, is_web_text, judge_body, judge_fetch}
use Rattle.history_rules.specs.Redirects.{is_web_class, hop_url, is_redirect, is_spent, is_web, joined_url, last_url, location_of, response}
use Rattle.history_rules.specs.Requests.{fetched_url, hop_of_request, request_chain, request_document, request_maker, requests_made}
use Rattle.service_rule.specs.Services.{ServiceRule}
use Rattle.history_steps.proofs.Commits.{passed}
use Rattle.history_steps.proofs.Presence.{accepted_row, filtered}
use Rattle.history_steps.proofs.Requests.{chain_by, filter_passes, hop_form, maker_found}
use Rattle.history_steps.proofs.Rows.{request_hop_row}
use Rattle.history_steps.specs.MayFollow.{MayFollow}
use Rattle.history_steps.specs.Run.{Legal}

ok_of : {A B : Type 0} (x : Result A B) (y : A) → result_ok x ≡ Some y → x ≡ Ok y
ok_of (Ok x) y e = let same : x ≡ y = cc in ap (λ z. Ok z) same
ok_of (Err x) y e = absurd (cc)

web_class : (c : UrlClass) → is_web_class c ≡ true → c ≡ Web
web_class Web e = refl
web_class AboutBlank e = absurd (cc)
web_class AboutSrcdoc e = absurd (cc)
web_class DataUrl e = absurd (cc)
web_class Foreign e = absurd (cc)

from_other : {A : Type 0} (b : Bool) (o : Option A) (x : A) → cond b None o ≡ Some x → o ≡ Some x
from_other true o x e = absurd (cc)
from_other false o x e = e

-- the last of a first one and of what a history gives
pub record LastAt {A : Type 0} (f : Entry → Option A) (h : List Entry) (x : A) : Type 0 where
  pub place : ℕ
  pub item : Entry
  pub here : slice_get h place ≡ Some item
  pub gives : f item ≡ Some x

pub last_of : (f : Entry → Option (List ℕ)) (x : List ℕ) (h : List Entry) → (last_url (x ∷ filter_map f h) ≡ x) ⊎ LastAt f h (last_url (x ∷ filter_map f h))
last_of f x [] = inl refl
last_of f x (e ∷ h) = by_cases (f e) refl (λ y. last_of f y h)
  where
    later : (y : List ℕ) → LastAt f h y → LastAt f (e ∷ h) y
    later y at = record { place = suc at.place; item = at.item; here = at.here; gives = at.gives }

    -- the first of these hops is the last URL, or a later one is
    here_or : (y : List ℕ) → f e ≡ Some y → (last_url (y ∷ filter_map f h) ≡ y) ⊎ LastAt f h (last_url (y ∷ filter_map f h)) → LastAt f (e ∷ h) (last_url (y ∷ filter_map f h))
    here_or y is (inl same) = record { place = 0; item = e; here = refl; gives = is ∙ ap (λ z. Some z) (sym same) }
    here_or y is (inr at) = later (last_url (y ∷ filter_map f h)) at

    by_cases : (o : Option (List ℕ)) → f e ≡ o → ((y : List ℕ) → (last_url (y ∷ filter_map f h) ≡ y) ⊎ LastAt f h (last_url (y ∷ filter_map f h)))
        → (last_url (x ∷ filter_map f (e ∷ h)) ≡ x) ⊎ LastAt f (e ∷ h) (last_url (x ∷ filter_map f (e ∷ h)))
    by_cases None is more =
        let same : last_url (x ∷ filter_map f (e ∷ h)) ≡ last_url (x ∷ filter_map f h) = ap (λ o. last_url (x ∷ cons_option o (filter_map f h))) is in
        subst (λ (l : List ℕ). (l ≡ x) ⊎ LastAt f (e ∷ h) l) (sym same) (skip (more x))
      where
        skip : (last_url (x ∷ filter_map f h) ≡ x) ⊎ LastAt f h (last_url (x ∷ filter_map f h)) → (last_url (x ∷ filter_map f h) ≡ x) ⊎ LastAt f (e ∷ h) (last_url (x ∷ filter_map f h))
        skip (inl same) = inl same
        skip (inr at) = inr (later (last_url (x ∷ filter_map f h)) at)
    by_cases (Some y) is more =
        let same : last_url (x ∷ filter_map f (e ∷ h)) ≡ last_url (y ∷ filter_map f h) = ap (λ o. last_url (x ∷ cons_option o (filter_map f h))) is in
        inr (subst (λ (l : List ℕ). LastAt f (e ∷ h) l) (sym same) (here_or y is (more y)))

-- the text of the redirect at which a chain ends
abbrev pub location_text : ScriptData → List (List ℕ) → List ℕ
location_text s chain = unwrap_or (location_of (response s chain)) []

module _ (rule : ServiceRule) (s : ScriptData) where
  -- what a fetch that was answered ok names
  pub fetch_reads : (h : List Entry) (p d : ℕ) (url : List ℕ) (mode : Mode) (initiator : Origin) → judge_body rule s h p d (Fetch url mode initiator) ≡ Okay → (u : List ℕ) × (page_url_of url ≡ Ok u) × (class_of u ≡ Web)
  unfolding judge_fetch
  fetch_reads h p d url mode initiator okay =
      let a = passed (is_own_origin h d initiator) (Kill K3) (if not (is_web_text url) then Deny F1 else if nat_le 4096 (requests_made h) then Deny L2 else Okay) refl okay in
      let b = passed (is_web_text url) (Deny F1) (if nat_le 4096 (requests_made h) then Deny L2 else Okay) refl a.1 in
      let c = from_map_or is_web (result_ok (page_url_of url)) b.0 in
      (c.0, ok_of (page_url_of url) c.0 c.1, web_class (class_of c.0) c.2)

  -- the URL of a fetch that was answered ok
  fetch_read : (h : List Entry) (p d : ℕ) (b : Body) → body_makes_request b ≡ true → judge_body rule s h p d b ≡ Okay → IsReadUrl (fetched_url b)
  fetch_read h p d (Fetch url mode initiator) makes okay =
      let c = fetch_reads h p d url mode initiator okay in
      let whole : IsReadUrl c.0 = record { base = None; text = url; read = c.1; web = c.2 } in
      subst IsReadUrl (sym (ap (λ x. result_unwrap_or x []) c.1)) whole
  fetch_read h p d _ makes okay = absurd (cc)

  -- what a redirect goes to
  pub hop_reads : (chain : List (List ℕ)) (url : List ℕ) → hop_url s chain ≡ Some url → (join_url_of (last_url chain) (location_text s chain) ≡ Ok url) × (class_of url ≡ Web)
  unfolding hop_url
  hop_reads chain url goes =
      let a = from_other (fails_at_once (response s chain) || not (is_redirect (response s chain)) || is_spent chain)
      (option_and_then (λ u. if is_web u then Some u else None) (joined_url s chain)) url goes in
      let b = from_then (λ u. if is_web u then Some u else None) (joined_url s chain) url a in
      let c = from_cond (is_web b.0) (Some b.0) url b.2 in
      let same : b.0 ≡ url = cc in
      subst (λ u. (join_url_of (last_url chain) (location_text s chain) ≡ Ok u) × (class_of u ≡ Web)) same (ok_of _ b.0 b.1, web_class (class_of b.0) c.0)

  hop_read : (chain : List (List ℕ)) (url : List ℕ) → hop_url s chain ≡ Some url → IsReadUrl url
  hop_read chain url goes =
      let a = hop_reads chain url goes in
      record { base = Some (last_url chain); text = location_text s chain; read = a.0; web = a.1 }

  -- the last URL of a request
  pub last_read : (h : List Entry) → Legal rule s h → (r d : ℕ) → request_document h r ≡ Some d → IsReadUrl (last_url (request_chain h r))
  unfolding request_maker request_chain
  last_read h legal r d is =
      let f = maker_found h r d is in
      let m : Message = f.0 in
      let maker : request_maker h r ≡ Some m = ap (option_and_then accepted) f.1.listed ∙ f.1.says in
      let chain : request_chain h r ≡ fetched_url m.body ∷ filter_map (hop_of_request r) h = ap (λ o. chain_by o (filter_map (hop_of_request r) h)) maker in
      let at = filtered makes_request h r f.1.item f.1.listed in
      let passes : makes_request f.1.item ≡ true = filter_passes makes_request h r f.1.item f.1.listed in
      let fetches : body_makes_request m.body ≡ true = ap (λ o. option_map_or (λ (x : Message). body_makes_request x.body) o false) (sym f.1.says) ∙ passes in
      let row = accepted_row rule s (take at.0 h) f.1.item m (legal at.0 f.1.item at.1) f.1.says in
      let first : IsReadUrl (fetched_url m.body) = fetch_read (take at.0 h) row.process m.document m.body fetches row.as_judged.judged in
      subst (λ c. IsReadUrl (last_url c)) (sym chain) (by_cases (fetched_url m.body) first (last_of (hop_of_request r) (fetched_url m.body) h))
    where
      by_cases : (x : List ℕ) → IsReadUrl x → (last_url (x ∷ filter_map (hop_of_request r) h) ≡ x) ⊎ LastAt (hop_of_request r) h (last_url (x ∷ filter_map (hop_of_request r) h)) → IsReadUrl (last_url (x ∷ filter_map (hop_of_request r) h))
      by_cases x first (inl same) = subst IsReadUrl (sym same) first
      by_cases x first (inr at) =
          let url = last_url (x ∷ filter_map (hop_of_request r) h) in
          let form : at.item ≡ Hop (Req r) url = hop_form r at.item url at.gives in
          let row = request_hop_row rule s (take at.place h) r url (subst (λ e. MayFollow rule s (take at.place h) e) form (legal at.place at.item at.here)) in
          hop_read (request_chain (take at.place h) r) url row.goes
