-- Requests in legal histories: what a request is stays as it was, and its chain too once it has a Head or an End.
use Rattle.std.proofs.Common.{refl, sym, ◌∙◌, ap, subst, arith}
use Rattle.std.specs.Prelude.{◌≡◌, ◌&&◌, ◌<◌, ◌≤◌, ◌==◌, ◌+◌, ◌++◌, ◌∷◌, [], Bool, List, None, Option, Some, cond, false, filter, filter_map, is_some, length, not, option_and_then, option_map, slice_get, suc, take, true, zero, ℕ}
use Rattle.std.specs.Option.{option_map_or}
use Rattle.std.proofs.lemmas.Bool.{eqb-true, eq-eqb}
use Rattle.std.proofs.lemmas.List.Elements.{filter-append}
use Rattle.std.proofs.lemmas.List.Sums.{length-filter}
use Rattle.std.proofs.lemmas.Option.{slice_get_within}
use Rattle.page_origin.specs.declared.origin.Origin.{Origin}
use Rattle.cors_check.specs.Cors.{cors}
use Rattle.history_entry.specs.declared.body.Body.{Body}
use Rattle.history_entry.specs.declared.body.Body.TheVariants.{Fetch}
use Rattle.history_entry.specs.declared.body.Message.{Message}
use Rattle.history_entry.specs.declared.body.Mode.{Mode}
use Rattle.history_entry.specs.declared.body.Mode.TheVariants.{NoCors}
use Rattle.history_entry.specs.declared.entry.EndHow.{EndHow}
use Rattle.history_entry.specs.declared.entry.Entry.{Entry}
use Rattle.history_entry.specs.declared.entry.Entry.TheVariants.{End, Head, Hop, Piece}
use Rattle.history_entry.specs.declared.entry.HopOf.TheVariants.{Req}
use Rattle.history_entry.specs.declared.rule.Rule.{Rule}
use Rattle.history_rules.specs.Orders.{OrderData, order_of}
use Rattle.script_model.specs.ResourceData.{fails_at_once}
use Rattle.script_model.specs.ScriptData.{ScriptData}
use Rattle.script_model.specs.Verdicts.{is_cors, is_failed}
use Rattle.script_model.specs.declared.verdict.Verdict.{Verdict}
use Rattle.script_model.specs.declared.verdict.Verdict.TheVariants.{Allow}
use Rattle.history_rules.proofs.Apart.{and_left, any_found, any_here, from_cond, from_map, from_map_or, from_then}
use Rattle.history_rules.proofs.Growth.{count_more, count_still, filter_map_still, get_front, get_kept, match_still, of_take, match_new}
use Rattle.history_rules.specs.Documents.{hosted, is_current, origin_of}
use Rattle.history_rules.specs.Entries.{accepted, hosts, makes_request, body_makes_request}
use Rattle.history_rules.specs.Judgement.{is_did_commit}
use Rattle.script_model.specs.Pieces.{pieces}
use Rattle.history_rules.specs.Redirects.{is_redirect, response}
use Rattle.history_rules.specs.Requests.{cors_fails, delivered, fetched_mode, fetched_url, has_end, has_head, head_in, head_of, hop_of_request, is_end_of, is_live_request, is_piece_of, is_read_chain, request_chain, request_document, request_maker, request_mode, request_origin, request_verdict, requests_made, response_verdict}
use Rattle.service_rule.specs.Services.{ServiceRule}
use Rattle.history_steps.proofs.Commits.{commit_of, hosts_to}
use Rattle.history_steps.proofs.Induction.{legal_ind, legal_more}
use Rattle.history_steps.proofs.Orders.{had_order_found, order_entry, order_is, order_of_found}
use Rattle.history_steps.proofs.Presence.{accepted_row, filtered, or_other}
use Rattle.history_steps.proofs.Rows.{head_row, piece_row, request_hop_row}
use Rattle.history_steps.proofs.Shapes.{commit_data, order_data}
use Rattle.history_steps.specs.MayFollow.{MayFollow}
use Rattle.history_steps.specs.Run.{Legal}

-- a request that has a maker was made
pub record HasMaker (h : List Entry) (r : ℕ) (m : Message) : Type 0 where
  pub item : Entry
  pub listed : slice_get (filter makes_request h) r ≡ Some item
  pub says : accepted item ≡ Some m

pub maker_found : (h : List Entry) (r d : ℕ) → request_document h r ≡ Some d → (m : Message) × (HasMaker h r m) × (m.document ≡ d)
unfolding request_maker
maker_found h r d e =
    let a = from_map (λ m. m.document) (request_maker h r) d e in
    let b = from_then accepted (slice_get (filter makes_request h) r) a.0 a.1 in
    (a.0, record { item = b.0; listed = b.1; says = b.2 }, a.2)

pub request_made : (h : List Entry) (r d : ℕ) → request_document h r ≡ Some d → r < requests_made h
request_made h r d e =
    let f = maker_found h r d e in
    omega (arith, slice_get_within (filter makes_request h) r f.1.item f.1.listed, length-filter makes_request h)

-- what began a request stays
pub request_maker_kept : (g k : List Entry) (r : ℕ) → r < requests_made g → request_maker (g ++ k) r ≡ request_maker g r
unfolding request_maker
request_maker_kept g k r lt = ap (option_and_then accepted) (ap (λ xs. slice_get xs r) (filter-append makes_request g k) ∙ get_front (filter makes_request g) (filter makes_request k) r (omega (arith, length-filter makes_request g)))

pub request_document_kept : (g k : List Entry) (r d : ℕ) → request_document g r ≡ Some d → request_document (g ++ k) r ≡ Some d
request_document_kept g k r d e = ap (option_map (λ m. m.document)) (request_maker_kept g k r (request_made g r d e)) ∙ e

abbrev pub chain_by : Option Message → List (List ℕ) → List (List ℕ)
chain_by maker hops = option_map_or (λ m. fetched_url m.body) maker [] ∷ hops

abbrev pub mode_by : Option Message → Mode
mode_by maker = option_map_or (λ m. fetched_mode m.body) maker NoCors

abbrev pub verdict_by : ScriptData → Option Origin → List (List ℕ) → Mode → Option Verdict
verdict_by s origin chain mode = option_and_then (λ o. response_verdict s o chain mode (response s chain)) origin

abbrev pub cors_by : ScriptData → Option Origin → List (List ℕ) → Mode → Bool
cors_by s origin chain mode = is_cors mode && is_read_chain chain && option_map_or (λ o. is_failed (cors o chain (response s chain).head.fields)) origin false

-- the same request in two histories
pub record IsSameRequest (s : ScriptData) (g h : List Entry) (r : ℕ) : Type 0 where
  pub chain : request_chain h r ≡ request_chain g r
  pub mode : request_mode h r ≡ request_mode g r
  pub origin : request_origin h r ≡ request_origin g r

pub same_verdict : (s : ScriptData) (g h : List Entry) (r : ℕ) → IsSameRequest s g h r → request_verdict s h r ≡ request_verdict s g r
unfolding request_verdict
same_verdict s g h r same =
    ap (λ o. verdict_by s o (request_chain h r) (request_mode h r)) same.origin
    ∙ ap (λ c. verdict_by s (request_origin g r) c (request_mode h r)) same.chain
    ∙ ap (λ m. verdict_by s (request_origin g r) (request_chain g r) m) same.mode

pub same_cors : (s : ScriptData) (g h : List Entry) (r : ℕ) → IsSameRequest s g h r → cors_fails s h r ≡ cors_fails s g r
unfolding cors_fails
same_cors s g h r same =
    ap (λ o. cors_by s o (request_chain h r) (request_mode h r)) same.origin
    ∙ ap (λ c. cors_by s (request_origin g r) c (request_mode h r)) same.chain
    ∙ ap (λ m. cors_by s (request_origin g r) (request_chain g r) m) same.mode

pub head_form : (r : ℕ) (e : Entry) (why : Rule) → head_in r e ≡ Some why → e ≡ Head r why
head_form r (Head q rule) why is =
    let a = from_cond (q == r) (Some rule) why is in
    let same : q ≡ r = eqb-true q r a.0 in
    let same_rule : rule ≡ why = cc in
    ap (λ x. Head x rule) same ∙ ap (λ x. Head r x) same_rule
head_form r _ why is = absurd (cc)

pub piece_form : (r : ℕ) (e : Entry) → is_piece_of r e ≡ true → (i : ℕ) × (bytes : List ℕ) × (e ≡ Piece r i bytes)
piece_form r (Piece q i bytes) is = let same : q ≡ r = eqb-true q r is in (i, bytes, ap (λ x. Piece x i bytes) same)
piece_form r _ is = absurd (cc)

pub end_form : (r : ℕ) (e : Entry) → is_end_of r e ≡ true → (how : EndHow) × (e ≡ End r how)
end_form r (End q how) is = let same : q ≡ r = eqb-true q r is in (how, ap (λ x. End x how) same)
end_form r _ is = absurd (cc)

pub hop_form : (r : ℕ) (e : Entry) (url : List ℕ) → hop_of_request r e ≡ Some url → e ≡ Hop (Req r) url
hop_form r (Hop (Req q) u) url is =
    let a = from_cond (q == r) (Some u) url is in
    let same : q ≡ r = eqb-true q r a.0 in
    let same_url : u ≡ url = cc in
    ap (λ x. Hop (Req x) u) same ∙ ap (λ x. Hop (Req r) x) same_url
hop_form r _ url is = absurd (cc)

makes_fetch : (b : Body) → body_makes_request b ≡ true → is_did_commit b ≡ false
makes_fetch (Fetch url mode initiator) e = refl
makes_fetch _ e = absurd (cc)

filter_passes_by : {X : Type 0} (p : X → Bool) (y : X) (xs : List X) (i : ℕ) (x : X) (b : Bool) → p y ≡ b → ((j : ℕ) → slice_get (filter p xs) j ≡ Some x → p x ≡ true) → slice_get (cond b (y ∷ filter p xs) (filter p xs)) i ≡ Some x → p x ≡ true
filter_passes_by p y xs zero x true is more at = let same : y ≡ x = cc in ap p (sym same) ∙ is
filter_passes_by p y xs (suc i) x true is more at = more i at
filter_passes_by p y xs i x false is more at = more i at

pub filter_passes : {X : Type 0} (p : X → Bool) (xs : List X) (i : ℕ) (x : X) → slice_get (filter p xs) i ≡ Some x → p x ≡ true
filter_passes p [] i x at = absurd (cc)
filter_passes p (y ∷ xs) i x at = filter_passes_by p y xs i x (p y) refl (λ j here. filter_passes p xs j x here) at

module _ (rule : ServiceRule) (s : ScriptData) where
  -- a document that was committed was ordered
  pub hosted_ordered : (h : List Entry) → Legal rule s h → (p d : ℕ) → hosted h p d ≡ true → (o : OrderData) × (order_of h d ≡ Some o) × (o.process ≡ p)
  unfolding hosted
  hosted_ordered h legal p d is =
      let f = any_found (hosts p d) h is in
      let row = commit_of rule s (take f.place h) f.item (commit_data p d) (legal f.place f.item f.here) (hosts_to f.item p d f.passes) in
      let o = had_order_found (take f.place h) p d row.had in
      let at = of_take h o.place f.place (order_entry d (order_data p o.site o.origin o.url)) o.here in
      ((order_data p o.site o.origin o.url), order_is rule s h legal o.place d (order_data p o.site o.origin o.url) at.1, refl)

  -- the document of a request was committed
  pub request_hosted : (h : List Entry) → Legal rule s h → (r d : ℕ) → request_document h r ≡ Some d → (p : ℕ) × (hosted h p d ≡ true)
  unfolding hosted
  request_hosted h legal r d e =
      let f = maker_found h r d e in
      let m : Message = f.0 in
      let c = filtered makes_request h r f.1.item f.1.listed in
      let passes : makes_request f.1.item ≡ true = filter_passes makes_request h r f.1.item f.1.listed in
      let fetches : body_makes_request m.body ≡ true = ap (λ o. option_map_or (λ (x : Message). body_makes_request x.body) o false) (sym f.1.says) ∙ passes in
      let row = accepted_row rule s (take c.0 h) f.1.item m (legal c.0 f.1.item c.1) f.1.says in
      let by : hosted (take c.0 h) row.process m.document ≡ true = or_other (is_did_commit m.body) (hosted (take c.0 h) row.process m.document) (makes_fetch m.body fetches) row.as_judged.of_process in
      let x = any_found (hosts row.process m.document) (take c.0 h) by in
      let at = of_take h x.place c.0 x.item x.here in
      let all : hosted h row.process m.document ≡ true = any_here (hosts row.process m.document) h x.place x.item at.1 x.passes in
      (row.process, ap (hosted h row.process) (sym f.2) ∙ all)

  -- an order stays what facts look at
  pub order_of_kept : (h : List Entry) (e : Entry) → Legal rule s h → MayFollow rule s h e → (n : ℕ) (o : OrderData) → order_of h n ≡ Some o → order_of (h ++ e ∷ []) n ≡ Some o
  order_of_kept h e legal may n o is =
      let f = order_of_found h n o is in
      order_is rule s (h ++ e ∷ []) (legal_more rule s h e legal may) f.place n o (get_kept h (e ∷ []) f.place (order_entry n o) f.here)

  pub request_origin_kept : (h : List Entry) (e : Entry) → Legal rule s h → MayFollow rule s h e → (r d : ℕ) → request_document h r ≡ Some d → request_origin (h ++ e ∷ []) r ≡ request_origin h r
  unfolding origin_of request_origin
  request_origin_kept h e legal may r d is =
      let by = request_hosted h legal r d is in
      let o = hosted_ordered h legal by.0 d by.1 in
      let before : request_origin h r ≡ Some o.0.origin = ap (option_and_then (origin_of h)) is ∙ ap (option_map (λ (x : OrderData). x.origin)) o.1 in
      let after : request_origin (h ++ e ∷ []) r ≡ Some o.0.origin = ap (option_and_then (origin_of (h ++ e ∷ []))) (request_document_kept h (e ∷ []) r d is) ∙ ap (option_map (λ (x : OrderData). x.origin)) (order_of_kept h e legal may d o.0 o.1) in
      after ∙ sym before

  -- an entry that is no Hop of it leaves a request as it was
  pub request_kept : (h : List Entry) (e : Entry) → Legal rule s h → MayFollow rule s h e → (r d : ℕ) → request_document h r ≡ Some d → hop_of_request r e ≡ None → IsSameRequest s h (h ++ e ∷ []) r
  unfolding request_chain
  request_kept h e legal may r d is stays =
      let maker = request_maker_kept h (e ∷ []) r (request_made h r d is) in
      record {
        chain = ap (λ m. chain_by m (filter_map (hop_of_request r) (h ++ e ∷ []))) maker ∙ ap (λ xs. chain_by (request_maker h r) xs) (filter_map_still (hop_of_request r) h e stays);
        mode = ap mode_by maker;
        origin = request_origin_kept h e legal may r d is;
      }

-- what is so once a request has its head
pub record IsHeaded (s : ScriptData) (h : List Entry) (r : ℕ) : Type 0 where
  pub document : ℕ
  pub document_is : request_document h r ≡ Some document
  pub why : Rule
  pub allowed : request_verdict s h r ≡ Some (Allow why)
  pub arrives : fails_at_once (response s (request_chain h r)) ≡ false
  pub stays : is_redirect (response s (request_chain h r)) ≡ false
  pub few : delivered h r ≤ length (pieces (response s (request_chain h r)))

pub record HeadState (s : ScriptData) (h : List Entry) (r : ℕ) : Type 0 where
  pub headed : has_head h r ≡ true → IsHeaded s h r
  pub unheaded : has_head h r ≡ false → delivered h r ≡ 0

pub live_document : (s : ScriptData) (h : List Entry) (r : ℕ) → is_live_request s h r ≡ true → (d : ℕ) × (request_document h r ≡ Some d)
unfolding is_live_request
live_document s h r live =
    let a = from_map_or (is_current s h) (request_document h r) (and_left (option_map_or (is_current s h) (request_document h r) false) (not (has_end h r)) live) in
    (a.0, a.1)

module _ (rule : ServiceRule) (s : ScriptData) (h : List Entry) (e : Entry) (legal : Legal rule s h) (may : MayFollow rule s h e) (r : ℕ) (before : HeadState s h r) where
  -- an entry that is no Hop of it keeps what a head says, with as many pieces or one more
  headed_kept : (g : List Entry) → g ≡ h ++ e ∷ [] → hop_of_request r e ≡ None → IsHeaded s h r → delivered g r ≤ length (pieces (response s (request_chain h r))) → IsHeaded s g r
  headed_kept g is none was few =
      let same = request_kept rule s h e legal may r was.document was.document_is none in
      let made : IsHeaded s (h ++ e ∷ []) r = record {
        document = was.document;
        document_is = request_document_kept h (e ∷ []) r was.document was.document_is;
        why = was.why;
        allowed = same_verdict s h (h ++ e ∷ []) r same ∙ was.allowed;
        arrives = ap (λ c. fails_at_once (response s c)) same.chain ∙ was.arrives;
        stays = ap (λ c. is_redirect (response s c)) same.chain ∙ was.stays;
        few = subst (λ c. delivered (h ++ e ∷ []) r ≤ length (pieces (response s c))) (sym same.chain) (subst (λ x. delivered x r ≤ length (pieces (response s (request_chain h r)))) is few);
      } in
      subst (λ x. IsHeaded s x r) (sym is) made

  -- neither a head nor a piece nor a hop of it
  quiet_state : head_in r e ≡ None → is_piece_of r e ≡ false → hop_of_request r e ≡ None → HeadState s (h ++ e ∷ []) r
  unfolding head_of delivered has_head
  quiet_state no_head no_piece no_hop =
      let head_same : head_of (h ++ e ∷ []) r ≡ head_of h r = match_still (head_in r) h e no_head in
      let count_same : delivered (h ++ e ∷ []) r ≡ delivered h r = count_still (is_piece_of r) h e no_piece in
      record {
        headed = λ some. (
            let was = before.headed (ap (λ o. is_some o) (sym head_same) ∙ some) in
            let few = was.few in
            headed_kept (h ++ e ∷ []) refl no_hop was (omega arith));
        unheaded = λ none. count_same ∙ before.unheaded (ap (λ o. is_some o) (sym head_same) ∙ none);
      }

  hop_state : (url : List ℕ) → hop_of_request r e ≡ Some url → HeadState s (h ++ e ∷ []) r
  unfolding head_of has_head delivered
  hop_state url is =
      let form : e ≡ Hop (Req r) url = hop_form r e url is in
      let row = request_hop_row rule s h r url (subst (λ x. MayFollow rule s h x) form may) in
      let head_same : head_of (h ++ e ∷ []) r ≡ head_of h r = match_still (head_in r) h e (ap (head_in r) form) in
      let none : has_head (h ++ e ∷ []) r ≡ false = ap (λ o. is_some o) head_same ∙ row.headless in
      let count_same : delivered (h ++ e ∷ []) r ≡ delivered h r = count_still (is_piece_of r) h e (ap (is_piece_of r) form) in
      record {
        headed = λ some. absurd (let both : false ≡ true = sym none ∙ some in cc);
        unheaded = λ nothing. count_same ∙ before.unheaded row.headless;
      }

  piece_state : (i : ℕ) (bytes : List ℕ) → e ≡ Piece r i bytes → HeadState s (h ++ e ∷ []) r
  unfolding head_of has_head delivered
  piece_state i bytes form =
      let row = piece_row rule s h r i bytes (subst (λ x. MayFollow rule s h x) form may) in
      let was = before.headed row.headed in
      let head_same : head_of (h ++ e ∷ []) r ≡ head_of h r = match_still (head_in r) h e (ap (head_in r) form) in
      let some : has_head (h ++ e ∷ []) r ≡ true = ap (λ o. is_some o) head_same ∙ row.headed in
      let passes : is_piece_of r e ≡ true = ap (is_piece_of r) form ∙ eq-eqb r r refl in
      let count_next : delivered (h ++ e ∷ []) r ≡ delivered h r + 1 = count_more (is_piece_of r) h e passes in
      let within : delivered h r < length (pieces (response s (request_chain h r))) = slice_get_within (pieces (response s (request_chain h r))) (delivered h r) bytes row.bytes_are in
      record {
        headed = λ it. headed_kept (h ++ e ∷ []) refl (ap (hop_of_request r) form) was (omega arith);
        unheaded = λ none. absurd (let both : true ≡ false = sym some ∙ none in cc);
      }

  head_state : (why : Rule) → head_in r e ≡ Some why → HeadState s (h ++ e ∷ []) r
  unfolding delivered has_head head_of
  head_state why is =
      let form : e ≡ Head r why = head_form r e why is in
      let row = head_row rule s h r why (subst (λ x. MayFollow rule s h x) form may) in
      let d = live_document s h r row.live in
      let zero_yet : delivered h r ≡ 0 = before.unheaded row.headless in
      let was : IsHeaded s h r = record { document = d.0; document_is = d.1; why = why; allowed = row.allowed; arrives = row.arrives; stays = row.stays; few = omega arith } in
      let count_same : delivered (h ++ e ∷ []) r ≡ delivered h r = count_still (is_piece_of r) h e (ap (is_piece_of r) form) in
      let some : has_head (h ++ e ∷ []) r ≡ true = ap (λ o. is_some o) (match_new (head_in r) h e why is) in
      record {
        headed = λ it. headed_kept (h ++ e ∷ []) refl (ap (hop_of_request r) form) was (omega arith);
        unheaded = λ none. absurd (let both : true ≡ false = sym some ∙ none in cc);
      }

  next_state : HeadState s (h ++ e ∷ []) r
  next_state = at_head (head_in r e) refl
    where
      at_hop : (o : Option (List ℕ)) → head_in r e ≡ None → is_piece_of r e ≡ false → hop_of_request r e ≡ o → HeadState s (h ++ e ∷ []) r
      at_hop None no_head no_piece is = quiet_state no_head no_piece is
      at_hop (Some url) no_head no_piece is = hop_state url is

      at_piece : (b : Bool) → head_in r e ≡ None → is_piece_of r e ≡ b → HeadState s (h ++ e ∷ []) r
      at_piece true no_head is = let f = piece_form r e is in piece_state f.0 f.1 f.2
      at_piece false no_head is = at_hop (hop_of_request r e) no_head is refl

      at_head : (o : Option Rule) → head_in r e ≡ o → HeadState s (h ++ e ∷ []) r
      at_head None is = at_piece (is_piece_of r e) is refl
      at_head (Some why) is = head_state why is

-- what each request's head says of it
pub head_states : (rule : ServiceRule) (s : ScriptData) (h : List Entry) → Legal rule s h → (r : ℕ) → HeadState s h r
unfolding delivered has_head head_of
head_states rule s h legal = legal_ind rule s (λ g. (r : ℕ) → HeadState s g r) none (λ g e is_legal may before r. next_state rule s g e is_legal may r (before r)) h legal
  where
    none : (r : ℕ) → HeadState s [] r
    none r = record { headed = λ some. absurd (cc); unheaded = λ nothing. refl }
