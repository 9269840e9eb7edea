-- The URLs of navigations and redirects are spelled as URLs, and their origins and sites are of their form.
use Rattle.std.proofs.Common.{refl, ap, sym, ◌∙◌, subst, arith}
use Rattle.std.specs.Prelude.{◌≡◌, ◌+◌, ◌-◌, ◌<◌, ◌≤◌, ◌||◌, ◌∷◌, [], if◌then◌else◌, Bool, Err, List, None, Ok, Option, Result, Some, cond, count_by, drop, false, filter, filter_map, length, nat_le, nat_lt, not, option_and_then, option_map, suc, take, true, unwrap_or, zero, ℕ}
use Rattle.std.specs.List.{AllByRecursion, cons_option, slice_get}
use Rattle.std.specs.Option.{option_map_or}
use Rattle.std.specs.Result.{result_ok, result_unwrap_or}
use Rattle.std.proofs.lemmas.Bool.{ltb-true, ltb-false}
use Rattle.std.proofs.lemmas.Bool.Decides.{nat_tests}
use Rattle.std.proofs.lemmas.List.Sums.{length-filter}
use Rattle.public_suffix.proofs.LabelStart.{label_start_within}
use Rattle.public_suffix.specs.Labels.{has_empty_label, label_count, label_start}
use Rattle.public_suffix.specs.RegistrableDomain.{SuffixRule, registrable, suffix_label_count}
use Rattle.page_origin.specs.HostSpelling.{is_host}
use Rattle.page_origin.specs.Origins.{tuple_of}
use Rattle.page_origin.specs.PageUrls.{class_of, page_url_of, parts_of}
use Rattle.page_origin.specs.UrlText.{is_url_spelling}
use Rattle.page_origin.specs.declared.class.UrlClass.{UrlClass}
use Rattle.page_origin.specs.declared.class.UrlClass.TheVariants.{AboutBlank, AboutSrcdoc, DataUrl, Foreign, Web}
use Rattle.page_origin.specs.declared.origin.Origin.{Origin}
use Rattle.page_origin.specs.declared.origin.Origin.TheVariants.{Opaque, Tuple}
use Rattle.page_origin.specs.declared.origin.TupleOrigin.{TupleOrigin}
use Rattle.page_origin.specs.declared.page.UrlRefusal.{UrlRefusal}
use Rattle.page_origin.specs.declared.site.Site.{Site}
use Rattle.url_keys.proofs.Keys.{read_spelled, web_tuple}
use Rattle.site_url.proofs.Hosts.{host_end}
use Rattle.site_url.specs.Addresses.{is_ip_address}
use Rattle.site_url.specs.Sites.{SiteRuleData, is_isolated, site_host, site_of_origin, site_of_tuple}
use Rattle.history_entry.specs.declared.body.Body.{Body}
use Rattle.history_entry.specs.declared.body.Body.TheVariants.{AddFrame, Ask, DidCommit, Fetch, Navigate, OpenPage, Post, RemoveFrame}
use Rattle.history_entry.specs.declared.body.Message.{Message}
use Rattle.history_entry.specs.declared.body.Src.{Src}
use Rattle.history_entry.specs.declared.body.Src.TheVariants.{Doc as FromDoc, Url as FromUrl}
use Rattle.history_entry.specs.declared.entry.Entry.{Entry}
use Rattle.history_entry.specs.declared.entry.Entry.TheVariants.{Hop}
use Rattle.history_entry.specs.declared.entry.HopOf.TheVariants.{Nav}
use Rattle.history_entry.specs.declared.reply.Reply.{Reply}
use Rattle.history_entry.specs.declared.reply.Reply.TheVariants.{Deny, Drop, Kill, Ok as Okay}
use Rattle.history_entry.specs.declared.rule.Rule.{Rule}
use Rattle.history_entry.specs.declared.rule.Rule.TheVariants.{G2, K2, K4, L1, N1, N9}
use Rattle.script_model.specs.ResourceData.{fails_at_once}
use Rattle.script_model.specs.ScriptData.{ScriptData, starts}
use Rattle.history_rules.proofs.Apart.{from_cond, from_else, from_map, from_then, or_false}
use Rattle.history_rules.specs.Documents.{is_present, may_navigate, origin_of}
use Rattle.history_rules.specs.Entries.{accepted, body_makes_navigation, makes_navigation}
use Rattle.history_rules.specs.Frames.{adder_of, frame_of, frames_made, is_sandboxed, navigation_maker, navigations_made}
use Rattle.history_rules.specs.Judgement.{in_group, judge_add_frame, judge_body, judge_navigate, judge_open_page, lock_admits, read_url_rows, src_rows, url_rows}
use Rattle.history_rules.specs.Navigations.{base_of_class, base_origin, body_initiator, body_url, chain_of, commit_origin, first_url, hop_of_navigation, initiator_in, initiator_of, opaque_of, src_url, url_of_text}
use Rattle.history_rules.specs.Redirects.{hop_url, is_redirect, is_spent, is_web, joined_url, last_url, location_of, response}
use Rattle.service_rule.specs.Services.{ServiceRule}
use Rattle.history_steps.proofs.Commits.{passed}
use Rattle.history_steps.proofs.Presence.{accepted_row, filtered}
use Rattle.history_steps.proofs.Requests.{filter_passes}
use Rattle.history_steps.specs.Run.{Legal}
use Rattle.entry_reading.specs.Entries.{IsBody, IsEntry, IsMessage, IsNumber, IsOrigin, IsSite}
use Rattle.kept_entries.proofs.Told.{all_at, navigation_maker_kept, origin_kept}
use Rattle.kept_entries.specs.KeptScripts.{IsKeptScript}

abbrev pub IsSpelled : List ℕ → Type 0
IsSpelled url = is_url_spelling url ≡ true

-- ---- the text of a message

read_okay : (s : ScriptData) (h : List Entry) (text : List ℕ) (r : Result (List ℕ) UrlRefusal) → page_url_of text ≡ r → read_url_rows s h r ≡ Okay → IsSpelled (result_unwrap_or r [])
read_okay s h text (Err e) is okay = absurd (cc)
read_okay s h text (Ok url) is okay = read_spelled None text url is

url_okay : (s : ScriptData) (h : List Entry) (text : List ℕ) → url_rows s h text ≡ Okay → IsSpelled (url_of_text text)
url_okay s h text okay = read_okay s h text (page_url_of text) refl okay

src_okay : (s : ScriptData) (h : List Entry) (src : Src) → src_rows s h src ≡ Okay → IsSpelled (src_url src)
unfolding is_url_spelling
src_okay s h (FromUrl text) okay = url_okay s h text okay
src_okay s h (FromDoc index) okay = refl

denied : (b : Bool) (why : Rule) (y : Reply) → cond b (Deny why) y ≡ Okay → y ≡ Okay
denied true why y e = absurd (cc)
denied false why y e = e

body_okay : (rule : ServiceRule) (s : ScriptData) (h : List Entry) (p d : ℕ) (b : Body) → body_makes_navigation b ≡ true → judge_body rule s h p d b ≡ Okay → IsSpelled (body_url b)
unfolding judge_navigate judge_add_frame judge_open_page
body_okay rule s h p d (Navigate frame url initiator) makes okay =
    let a = passed (lock_admits s h p initiator) (Kill K2) (if not (in_group s h d frame) then Kill K4 else if not (is_present s h frame) then Drop G2 else if not (may_navigate s h d frame) then Deny N1 else url_rows s h url) refl okay in
    let b = passed (in_group s h d frame) (Kill K4) (if not (is_present s h frame) then Drop G2 else if not (may_navigate s h d frame) then Deny N1 else url_rows s h url) refl a.1 in
    let c = passed (is_present s h frame) (Drop G2) (if not (may_navigate s h d frame) then Deny N1 else url_rows s h url) refl b.1 in
    let e = passed (may_navigate s h d frame) (Deny N1) (url_rows s h url) refl c.1 in
    url_okay s h url e.1
body_okay rule s h p d (AddFrame src sandbox) makes okay = src_okay s h src (denied (nat_le 64 (frames_made s h)) L1 (src_rows s h src) okay)
body_okay rule s h p d (OpenPage url) makes okay =
    url_okay s h url (denied (nat_le 64 (frames_made s h)) L1 (url_rows s h url) (denied (is_sandboxed s h (frame_of s h d)) N9 (if nat_le 64 (frames_made s h) then Deny L1 else url_rows s h url) okay))
body_okay rule s h p d _ makes okay = absurd (cc)

pub got : {X : Type 0} (xs : List X) (i : ℕ) → i < length xs → (x : X) × (slice_get xs i ≡ Some x)
got [] i lt = absurd (omega arith)
got (x ∷ xs) zero lt = (x, refl)
got (x ∷ xs) (suc i) lt = got xs i (omega arith)

-- ---- chains

last_kept : (P : List ℕ → Type 0) (x : List ℕ) (xs : List (List ℕ)) → P x → AllByRecursion P xs → P (last_url (x ∷ xs))
last_kept P x [] is all = is
last_kept P x (y ∷ ys) is all = last_kept P y ys all.0 all.1

pub hops_kept : {B : Type 0} (P : B → Type 0) (f : Entry → Option B) → ((e : Entry) (url : B) → IsEntry e → f e ≡ Some url → P url) → (h : List Entry) → AllByRecursion IsEntry h → AllByRecursion P (filter_map f h)
hops_kept P f each [] all = tt
hops_kept P f each (e ∷ h) all = by_cases (f e) refl (hops_kept P f each h all.1)
  where
    by_cases : (o : Option _) → f e ≡ o → AllByRecursion P (filter_map f h) → AllByRecursion P (cons_option o (filter_map f h))
    by_cases None is more = more
    by_cases (Some url) is more = (each e url all.0 is, more)

hop_kept : (n : ℕ) (e : Entry) (url : List ℕ) → IsEntry e → hop_of_navigation n e ≡ Some url → IsSpelled url
hop_kept n (Hop (Nav m) u) url is gives =
    let a = from_cond _ (Some u) url gives in
    let same : u ≡ url = (let both = a.1 in cc) in
    subst IsSpelled same is.1
hop_kept n _ url is gives = absurd (cc)

ok_of : {A B : Type 0} (x : Result A B) (y : A) → result_ok x ≡ Some y → x ≡ Ok y
ok_of (Ok x) y e = let same : x ≡ y = cc in ap (λ z. Ok z) same
ok_of (Err x) y e = absurd (cc)

-- the URL that a redirect goes to
pub followed_spelled : (s : ScriptData) (chain : List (List ℕ)) (url : List ℕ) → hop_url s chain ≡ Some url → IsSpelled url
unfolding hop_url
followed_spelled s chain url goes =
    let a = from_else (fails_at_once (response s chain) || not (is_redirect (response s chain)) || is_spent chain) (option_and_then (λ u. if is_web u then Some u else None) (joined_url s chain)) url goes in
    let b = from_then (λ u. if is_web u then Some u else None) (joined_url s chain) url a.1 in
    let c = from_cond (is_web b.0) (Some b.0) url b.2 in
    let same : b.0 ≡ url = (let both = c.1 in cc) in
    subst IsSpelled same (read_spelled (parts_of (last_url chain)) (unwrap_or (location_of (response s chain)) []) b.0 (ok_of _ b.0 b.1))

module _ (rule : ServiceRule) (s : ScriptData) (script : IsKeptScript s) (h : List Entry) (legal : Legal rule s h) (kept : AllByRecursion IsEntry h) where
  made_spelled : (i : ℕ) → i < count_by makes_navigation h → IsSpelled (option_map_or (λ (m : Message). body_url m.body) (option_and_then accepted (slice_get (filter makes_navigation h) i)) [])
  made_spelled i lt =
      let len : length (filter makes_navigation h) ≡ count_by makes_navigation h = length-filter makes_navigation h in
      let item = got (filter makes_navigation h) i (omega (arith, len, lt)) in
      let at = filtered makes_navigation h i item.0 item.1 in
      let passes : makes_navigation item.0 ≡ true = filter_passes makes_navigation h i item.0 item.1 in
      subst (λ o. IsSpelled (option_map_or (λ (m : Message). body_url m.body) (option_and_then accepted o) [])) (sym item.1) (by_message at.0 item.0 at.1 passes (accepted item.0) refl)
    where
      by_message : (place : ℕ) (e : Entry) → slice_get h place ≡ Some e → makes_navigation e ≡ true → (o : Option Message) → accepted e ≡ o → IsSpelled (option_map_or (λ (m : Message). body_url m.body) (accepted e) [])
      by_message place e here makes None is =
          let wrong : option_map_or (λ (m : Message). body_makes_navigation m.body) None false ≡ true = ap (λ o. option_map_or (λ (m : Message). body_makes_navigation m.body) o false) (sym is) ∙ makes in
          absurd (cc)
      by_message place e here makes (Some m) is =
          let makes_m : body_makes_navigation m.body ≡ true = ap (λ o. option_map_or (λ (x : Message). body_makes_navigation x.body) o false) (sym is) ∙ makes in
          let row = accepted_row rule s (take place h) e m (legal place e here) is in
          subst (λ o. IsSpelled (option_map_or (λ (x : Message). body_url x.body) o [])) (sym is) (body_okay rule s (take place h) row.process m.document m.body makes_m row.as_judged.judged)

  first_spelled : (n : ℕ) → n < navigations_made s h → IsSpelled (first_url s h n)
  unfolding first_url navigation_maker
  first_spelled n lt = by_cases (nat_lt n (starts s)) refl
    where
      by_cases : (b : Bool) → nat_lt n (starts s) ≡ b → IsSpelled (cond b (unwrap_or (slice_get s.start n) []) (option_map_or (λ (m : Message). body_url m.body) (cond (nat_lt n (starts s)) None (option_and_then accepted (slice_get (filter makes_navigation h) (n - starts s)))) []))
      by_cases true e =
          let page = got s.start n (ltb-true n (starts s) e) in
          subst (λ o. IsSpelled (unwrap_or o [])) (sym page.1) (all_at IsSpelled s.start n page.0 script.start page.1)
      by_cases false e =
          let from : starts s ≤ n = ltb-false n (starts s) e in
          subst (λ b. IsSpelled (option_map_or (λ (m : Message). body_url m.body) (cond b None (option_and_then accepted (slice_get (filter makes_navigation h) (n - starts s)))) [])) (sym e) (made_spelled (n - starts s) (omega (arith, from, lt)))

  pub chain_spelled : (n : ℕ) → n < navigations_made s h → IsSpelled (last_url (chain_of s h n))
  unfolding chain_of
  chain_spelled n lt = last_kept IsSpelled (first_url s h n) (filter_map (hop_of_navigation n) h) (first_spelled n lt) (hops_kept IsSpelled (hop_of_navigation n) (hop_kept n) h kept)

-- ---- origins and sites

start_within : (rules : List SuffixRule) (host : List ℕ) (start : ℕ) → registrable rules host ≡ Some start → start < length host
unfolding registrable
start_within rules host start is =
    let most : ℕ = suffix_label_count rules host in
    let count : ℕ = label_count host - (most + 1) in
    let a = from_else (has_empty_label host || nat_le (label_count host) most) (Some (label_start host count)) start is in
    let b = or_false (has_empty_label host) (nat_le (label_count host) most) a.0 in
    let same : label_start host count ≡ start = (let both = a.1 in cc) in
    let fewer : most < label_count host = (let test = b.1 in grind (arith, nat_tests)) in
    subst (λ n. n < length host) same (label_start_within host count b.0 (omega (arith, fewer)))

site_host_kept : (rules : List SuffixRule) (host : List ℕ) → is_host host ≡ true → is_host (site_host rules host) ≡ true
unfolding site_host
site_host_kept rules host is = by_cases (is_ip_address host) refl
  where
    by_start : (o : Option ℕ) → registrable rules host ≡ o → is_ip_address host ≡ false → is_host (option_map_or (λ start. drop start host) o host) ≡ true
    by_start None e name = is
    by_start (Some start) e name = host_end host start is name (start_within rules host start e)

    by_cases : (b : Bool) → is_ip_address host ≡ b → is_host (cond b host (option_map_or (λ start. drop start host) (registrable rules host) host)) ≡ true
    by_cases true e = is
    by_cases false e = by_start (registrable rules host) refl e

-- the site of a tuple origin, by whether it is isolated
abbrev site_by : SiteRuleData → TupleOrigin → Bool → Site
site_by rules o b = if b then record { scheme = o.scheme; host = o.host; only = Some o.port }
    else record { scheme = o.scheme; host = site_host rules.suffixes o.host; only = None }

site_by_kept : (rules : SiteRuleData) (o : TupleOrigin) → IsOrigin (Tuple o) → (b : Bool) → IsSite (site_by rules o b)
site_by_kept rules o is true = (is.0, is.1)
site_by_kept rules o is false = (site_host_kept rules.suffixes o.host is.0, tt)

tuple_site_kept : (rules : SiteRuleData) (o : TupleOrigin) → IsOrigin (Tuple o) → IsSite (site_of_tuple rules o)
unfolding site_of_tuple
tuple_site_kept rules o is = site_by_kept rules o is (is_isolated rules.isolated o)

pub site_kept : (rules : SiteRuleData) (o : Origin) → IsOrigin o → IsSite (site_of_origin rules o)
site_kept rules (Tuple o) is = tuple_site_kept rules o is
site_kept rules (Opaque o) is = is.1

pub opaque_kept : (s : ScriptData) (n : ℕ) (o : Origin) → IsNumber n → IsOrigin o → IsOrigin (opaque_of s n o)
opaque_kept s n o small is = (small, site_kept s.rules o is)

only_origin : (a b : Origin) → IsOrigin a → Some a ≡ Some b → IsOrigin b
only_origin a b is e = let same : a ≡ b = cc in subst IsOrigin same is

body_initiator_kept : (b : Body) (own : Option Origin) (o : Origin) → IsBody b → ((x : Origin) → own ≡ Some x → IsOrigin x) → body_initiator own b ≡ Some o → IsOrigin o
body_initiator_kept (Navigate frame url initiator) own o is owned e = only_origin initiator o is.2 e
body_initiator_kept (AddFrame src sandbox) own o is owned e = owned o e
body_initiator_kept (RemoveFrame frame) own o is owned e = owned o e
body_initiator_kept (OpenPage url) own o is owned e = owned o e
body_initiator_kept (Fetch url mode initiator) own o is owned e = owned o e
body_initiator_kept (Post frame target source text) own o is owned e = owned o e
body_initiator_kept (Ask service origin request) own o is owned e = owned o e
body_initiator_kept (DidCommit nav url origin) own o is owned e = owned o e

module _ (s : ScriptData) (h : List Entry) (kept : AllByRecursion IsEntry h) where
  initiator_kept : (n : ℕ) (o : Origin) → initiator_of s h n ≡ Some o → IsOrigin o
  unfolding initiator_of
  initiator_kept n o is =
      let a = from_then (initiator_in h) (navigation_maker s h n) o is in
      let m : Message = a.0 in
      let message : IsMessage m = navigation_maker_kept s h kept n m a.1 in
      body_initiator_kept m.body (origin_of h m.document) o message.1 (λ x e. origin_kept s h kept m.document x e) a.2

  base_kept : (n : ℕ) (c : UrlClass) (o : Origin) → IsNumber n → class_of (last_url (chain_of s h n)) ≡ c → base_of_class s h n c ≡ Some o → IsOrigin o
  base_kept n Web o small class e = only_origin (Tuple (tuple_of (last_url (chain_of s h n)))) o (web_tuple (last_url (chain_of s h n)) class) e
  base_kept n AboutBlank o small class e = initiator_kept n o e
  base_kept n AboutSrcdoc o small class e = let a = from_then (origin_of h) (adder_of s h (frame_of s h n)) o e in origin_kept s h kept a.0 o a.2
  base_kept n DataUrl o small class e = let a = from_map (opaque_of s n) (initiator_of s h n) o e in subst IsOrigin a.2 (opaque_kept s n a.0 small (initiator_kept n a.0 a.1))
  base_kept n Foreign o small class e = absurd (cc)

  -- the origin that is ordered
  pub commit_origin_kept : (n : ℕ) (o : Origin) → IsNumber n → commit_origin s h n ≡ Some o → IsOrigin o
  unfolding commit_origin base_origin
  commit_origin_kept n o small e = by_cases (is_sandboxed s h (frame_of s h n)) e
    where
      by_cases : (b : Bool) → cond b (option_map (opaque_of s n) (base_of_class s h n (class_of (last_url (chain_of s h n))))) (base_of_class s h n (class_of (last_url (chain_of s h n)))) ≡ Some o → IsOrigin o
      by_cases true f = let a = from_map (opaque_of s n) (base_of_class s h n (class_of (last_url (chain_of s h n)))) o f in subst IsOrigin a.2 (opaque_kept s n a.0 small (base_kept n (class_of (last_url (chain_of s h n))) a.0 small refl a.1))
      by_cases false f = base_kept n (class_of (last_url (chain_of s h n))) o small refl f
