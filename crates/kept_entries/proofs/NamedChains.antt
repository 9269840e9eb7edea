-- Each URL of a request of a legal history was read from bytes, so it names itself.
use Rattle.std.proofs.Common.{refl, sym, ◌∙◌, ap, subst, arith}
use Rattle.std.specs.Prelude.{◌≡◌, ◌&&◌, ◌<◌, ◌∷◌, [], Bool, IfSome, List, None, Option, Some, bytes_eq, false, filter, filter_map, option_and_then, option_map, suc, take, true, unwrap_or, ℕ}
use Rattle.std.specs.List.{AllByRecursion, cons_option, list_all, slice_get}
use Rattle.std.specs.Option.{option_map_or}
use Rattle.std.specs.Result.{result_ok, result_unwrap_or}
use Rattle.std.proofs.lemmas.Bool.Decides.{nat_tests}
use Rattle.std.proofs.lemmas.List.Elements.{All-cons, All-from_get_or, All-nil}
use Rattle.std.proofs.lemmas.List.Sums.{length-filter}
use Rattle.hex.specs.Hex.{IsBytes}
use Rattle.page_origin.specs.PageUrls.{key_of, parts_of}
use Rattle.page_origin.specs.UrlText.{is_printable, is_url_spelling}
use Rattle.url_keys.proofs.Keys.{read_spelled}
use Rattle.url_keys.proofs.OwnTexts.{names_itself}
use Rattle.url_keys.specs.ReadUrls.{IsOfBytes, IsReadOfBytes, IsReadUrl}
use Rattle.history_entry.specs.declared.body.Body.{Body}
use Rattle.history_entry.specs.declared.body.Body.TheVariants.{Fetch}
use Rattle.history_entry.specs.declared.body.Message.{Message}
use Rattle.history_entry.specs.declared.entry.Entry.{Entry}
use Rattle.history_entry.specs.declared.entry.Entry.TheVariants.{Hop}
use Rattle.history_entry.specs.declared.entry.HopOf.TheVariants.{Req}
use Rattle.history_entry.specs.declared.reply.Reply.TheVariants.{Ok as Okay}
use Rattle.script_model.specs.ResourceData.{ResourceData}
use Rattle.script_model.specs.ScriptData.{ScriptData, find_resource}
use Rattle.entry_reading.proofs.FieldsBack.{text_bytes}
use Rattle.entry_reading.specs.Entries.{IsBody, IsEntry, IsMessage}
use Rattle.history_rules.proofs.Apart.{and_right, from_map_or}
use Rattle.history_rules.proofs.Equal.{same_bytes}
use Rattle.history_rules.specs.Entries.{accepted, body_makes_request, makes_request}
use Rattle.history_rules.specs.Judgement.{judge_body}
use Rattle.history_rules.specs.Redirects.{is_web, is_web_class, last_url, location_of}
use Rattle.history_rules.specs.Requests.{fetched_url, hop_of_request, is_read_chain, is_read_web, request_chain, request_document, request_maker, requests_made}
use Rattle.history_rules.specs.Responses.{absent, resource_at}
use Rattle.service_rule.specs.Services.{ServiceRule}
use Rattle.history_steps.proofs.Induction.{legal_take}
use Rattle.history_steps.proofs.Presence.{accepted_row, filtered}
use Rattle.history_steps.proofs.Requests.{chain_by, filter_passes, hop_form, live_document, maker_found}
use Rattle.history_steps.proofs.Rows.{request_hop_row}
use Rattle.history_steps.specs.MayFollow.{MayFollow}
use Rattle.history_steps.specs.Run.{Legal}
use Rattle.history_laws.proofs.ReadChains.{fetch_reads, hop_reads, last_read, location_text}
use Rattle.kept_entries.proofs.Entries.{entries_kept, found_at}
use Rattle.kept_entries.proofs.Spelled.{got}
use Rattle.kept_entries.proofs.Told.{accepted_kept, all_at}
use Rattle.kept_entries.specs.EntryLaw.{ChainsAreRead}
use Rattle.kept_entries.specs.KeptScripts.{IsKeptResource, IsKeptScript}

-- ---- texts of bytes

of_bytes : (text : List ℕ) → IsBytes text → IsOfBytes text
of_bytes text are = All-from_get_or (λ b. b < 256) text 0 (λ i lt. are i)

printable_bytes : (text : List ℕ) → list_all is_printable text ≡ true → IsOfBytes text
printable_bytes [] all = All-nil (λ b. b < 256)
printable_bytes (x ∷ xs) all =
    let below : x < 256 = grind (arith, nat_tests) in
    All-cons (λ b. b < 256) x xs below (printable_bytes xs (and_right (is_printable x) (list_all is_printable xs) all))

read_bytes : (url : List ℕ) → IsReadUrl url → IsOfBytes url
unfolding is_url_spelling
read_bytes url read = printable_bytes url (and_right _ (list_all is_printable url) (read_spelled (option_and_then parts_of read.base) read.text url read.read))

-- the Location of a script's resource
location_bytes : (s : ScriptData) (url : List ℕ) → IsKeptScript s → IsOfBytes (unwrap_or (location_of (resource_at s url)) [])
unfolding find_resource
location_bytes s url script = by_cases (find_resource s (key_of url)) refl
  where
    by_value : (o : Option (List ℕ)) → IfSome o IsBytes → IsOfBytes (unwrap_or o [])
    by_value None is = All-nil (λ b. b < 256)
    by_value (Some value) is = of_bytes value is

    by_cases : (o : Option ResourceData) → find_resource s (key_of url) ≡ o → IsOfBytes (unwrap_or (location_of (unwrap_or o (absent url))) [])
    by_cases None e = All-nil (λ b. b < 256)
    by_cases (Some r) e = by_value (location_of r) (found_at IsKeptResource (λ x. bytes_eq (key_of x.url) (key_of url)) s.resources r script.resources e).location

-- ---- URLs that name themselves

read_web : (url : List ℕ) → IsReadOfBytes url → is_read_web url ≡ true
read_web url read =
    ap (λ r. option_map_or (λ u. bytes_eq u url && is_web u) (result_ok r) false) (names_itself url read)
    ∙ ap (λ b. b && is_web url) (same_bytes url) ∙ ap is_web_class read.read.web

hops_pass : (p : List ℕ → Bool) (f : Entry → Option (List ℕ)) (h : List Entry) → ((i : ℕ) (e : Entry) (url : List ℕ) → slice_get h i ≡ Some e → f e ≡ Some url → p url ≡ true) → list_all p (filter_map f h) ≡ true
hops_pass p f [] each = refl
hops_pass p f (e ∷ h) each = by_cases (f e) refl (hops_pass p f h (λ i x url at gives. each (suc i) x url at gives))
  where
    by_cases : (o : Option (List ℕ)) → f e ≡ o → list_all p (filter_map f h) ≡ true → list_all p (cons_option o (filter_map f h)) ≡ true
    by_cases None is more = more
    by_cases (Some url) is more = ap (λ b. b && list_all p (filter_map f h)) (each 0 e url refl is) ∙ more

-- the document of a request that was made
document_of : (h : List Entry) (r : ℕ) → r < requests_made h → (d : ℕ) × (request_document h r ≡ Some d)
unfolding request_maker
document_of h r lt =
    let g = got (filter makes_request h) r (omega (arith, lt, length-filter makes_request h)) in
    let passes : makes_request g.0 ≡ true = filter_passes makes_request h r g.0 g.1 in
    let says = from_map_or (λ (m : Message). body_makes_request m.body) (accepted g.0) passes in
    let maker : request_maker h r ≡ Some says.0 = ap (option_and_then accepted) g.1 ∙ says.1 in
    (says.0.document, ap (option_map (λ m. m.document)) maker)

module _ (rule : ServiceRule) (s : ScriptData) (script : IsKeptScript s) (h : List Entry) (legal : Legal rule s h) (kept : AllByRecursion IsEntry h) where
  fetch_of_bytes : (g : List Entry) (p d : ℕ) (b : Body) → body_makes_request b ≡ true → IsBody b → judge_body rule s g p d b ≡ Okay → IsReadOfBytes (fetched_url b)
  fetch_of_bytes g p d (Fetch url mode initiator) makes is okay =
      let c = fetch_reads rule s g p d url mode initiator okay in
      let whole : IsReadOfBytes c.0 = record {
        read = record { base = None; text = url; read = c.1; web = c.2 };
        text = of_bytes url (text_bytes url is.0);
        base = tt;
      } in
      subst IsReadOfBytes (sym (ap (λ x. result_unwrap_or x []) c.1)) whole
  fetch_of_bytes g p d _ makes is okay = absurd (cc)

  hop_of_bytes : (r i : ℕ) (e : Entry) (url : List ℕ) → slice_get h i ≡ Some e → hop_of_request r e ≡ Some url → IsReadOfBytes url
  hop_of_bytes r i e url at gives =
      let g = take i h in
      let chain = request_chain g r in
      let form : e ≡ Hop (Req r) url = hop_form r e url gives in
      let row = request_hop_row rule s g r url (subst (λ x. MayFollow rule s g x) form (legal i e at)) in
      let d = live_document s g r row.live in
      let goes = hop_reads rule s chain url row.goes in
      record {
        read = record { base = Some (last_url chain); text = location_text s chain; read = goes.0; web = goes.1 };
        text = location_bytes s (last_url chain) script;
        base = read_bytes (last_url chain) (last_read rule s g (legal_take rule s h i legal) r d.0 d.1);
      }

  pub chain_read : (r : ℕ) → r < requests_made h → is_read_chain (request_chain h r) ≡ true
  unfolding is_read_chain request_chain request_maker
  chain_read r lt =
      let d = document_of h r lt in
      let f = maker_found h r d.0 d.1 in
      let m : Message = f.0 in
      let maker : request_maker h r ≡ Some m = ap (option_and_then accepted) f.1.listed ∙ f.1.says in
      let at = filtered makes_request h r f.1.item f.1.listed in
      let passes : makes_request f.1.item ≡ true = filter_passes makes_request h r f.1.item f.1.listed in
      let fetches : body_makes_request m.body ≡ true = ap (λ o. option_map_or (λ (x : Message). body_makes_request x.body) o false) (sym f.1.says) ∙ passes in
      let row = accepted_row rule s (take at.0 h) f.1.item m (legal at.0 f.1.item at.1) f.1.says in
      let message : IsMessage m = accepted_kept f.1.item m (all_at IsEntry h at.0 f.1.item kept at.1) f.1.says in
      let first = read_web (fetched_url m.body) (fetch_of_bytes (take at.0 h) row.process m.document m.body fetches message.1 row.as_judged.judged) in
      let hops = hops_pass is_read_web (hop_of_request r) h (λ i e url here gives. read_web url (hop_of_bytes r i e url here gives)) in
      ap (λ o. list_all is_read_web (chain_by o (filter_map (hop_of_request r) h))) maker
      ∙ ap (λ b. b && list_all is_read_web (filter_map (hop_of_request r) h)) first ∙ hops

pub chains_are_read : (rule : ServiceRule) (s : ScriptData) → ChainsAreRead rule s
chains_are_read rule s answers script limits h legal r lt = chain_read rule s script h legal (entries_kept rule s answers script limits h legal) r lt
