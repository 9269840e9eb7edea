-- What services keep goes with what the history accepted.
use Rattle.std.proofs.Common.{◌∙◌, ap, append-nil, arith, length, refl, sym}
use Rattle.std.specs.Prelude.{◌≡◌, ◌<◌, ◌≤◌, ◌++◌, ◌-◌, ◌^◌, ◌∷◌, [], Bool, List, None, Ok, Option, Some, cond, false, filter_map, suc, true, ℕ}
use Rattle.std.specs.List.{cons_option}
use Rattle.std.specs.Option.{option_to_list}
use Rattle.std.proofs.lemmas.List.Elements.{filter_map-append}
use Rattle.page_origin.specs.declared.origin.Origin.TheVariants.{Opaque, Tuple}
use Rattle.page_origin.specs.declared.origin.TupleOrigin.{TupleOrigin}
use Rattle.history_entry.specs.declared.body.Body.{Body}
use Rattle.history_entry.specs.declared.body.Body.TheVariants.{AddFrame, Ask, DidCommit, Fetch, Navigate, OpenPage, Post, RemoveFrame}
use Rattle.history_entry.specs.declared.body.Message.{Message}
use Rattle.history_entry.specs.declared.entry.Entry.{Entry}
use Rattle.history_entry.specs.declared.entry.Entry.TheVariants.{Commit, Crash, End, Exit, Head, Hop, Local, NavEnd, Opened, Order, Piece, Said, Warm}
use Rattle.history_entry.specs.declared.reply.Reply.{Reply}
use Rattle.history_laws.proofs.Bound.{bounded}
use Rattle.history_rules.specs.Services.{accepted_requests, asked_in, body_asked, is_answer}
use Rattle.history_steps.specs.ScriptLimits.{IsWithinLimits}
use Rattle.message_filter.specs.Asking.{HaveRoom, KeepAccepted, Kept, gained_by}
use Rattle.script_model.specs.ScriptData.{ScriptData}
use Rattle.service_rule.specs.Services.{ServiceRule}
use Rattle.service_rule.specs.declared.service.Asked.{Asked}
use Rattle.browser_tasks.specs.Candidates.{is_said}
use Rattle.browser_core.specs.Cores.{IsInStep, KeepAllAccepted}

one_asked : {A B : Type 0} (f : A → Option B) (x : A) → filter_map f (x ∷ []) ≡ option_to_list (f x)
one_asked f x = elim (f x) as (λ o. cons_option o [] ≡ option_to_list o) [ None ↦ refl | Some y ↦ refl ]

accepted_more : (h : List Entry) (e : Entry) (name : List ℕ) (tuple : TupleOrigin)
    → accepted_requests (h ++ e ∷ []) name tuple ≡ accepted_requests h name tuple ++ option_to_list (asked_in name tuple e)
unfolding accepted_requests
accepted_more h e name tuple =
    filter_map-append (asked_in name tuple) h (e ∷ []) ∙ ap (λ xs. filter_map (asked_in name tuple) h ++ xs) (one_asked (asked_in name tuple) e)

given_fewer : {A B : Type 0} (f : A → Option B) (o : Option B) (xs : List B) (n : ℕ) → length xs ≤ n → length (cons_option o xs) ≤ suc n
given_fewer f None xs n le = omega (arith, le)
given_fewer f (Some y) xs n le = omega (arith, le)

fewer : {A B : Type 0} (f : A → Option B) (xs : List A) → length (filter_map f xs) ≤ length xs
fewer f [] = omega arith
fewer f (x ∷ xs) = given_fewer f (f x) (filter_map f xs) (length xs) (fewer f xs)

accepted_few : (h : List Entry) (name : List ℕ) (tuple : TupleOrigin) → length (accepted_requests h name tuple) ≤ length h
unfolding accepted_requests
accepted_few h name tuple = fewer (asked_in name tuple) h

-- services that are in step may be asked
pub may_ask : (rule : ServiceRule) (kept : Kept) (s : ScriptData) (h : List Entry) (body : Body) → IsInStep rule kept s h → KeepAccepted kept h body
may_ask rule kept s h (Ask service (Tuple o) request) step = λ name. step.keeps name o
may_ask rule kept s h (Ask service (Opaque o) request) step = tt
may_ask rule kept s h (Navigate frame url initiator) step = tt
may_ask rule kept s h (AddFrame src sandbox) step = tt
may_ask rule kept s h (RemoveFrame frame) step = tt
may_ask rule kept s h (OpenPage url) step = tt
may_ask rule kept s h (Fetch url mode initiator) step = tt
may_ask rule kept s h (Post frame target source text) step = tt
may_ask rule kept s h (DidCommit nav url origin) step = tt

room_of : (rule : ServiceRule) (kept : Kept) (s : ScriptData) (h : List Entry) (service : List ℕ) (o : TupleOrigin) → IsWithinLimits s → IsInStep rule kept s h
    → length (kept service o) < 2 ^ 32 - 1
room_of rule kept s h service o limits step =
    let most : length h < 400000 = bounded rule s limits h step.is_legal in
    let few = accepted_few h service o in
    let same : length (kept service o) ≡ length (accepted_requests h service o) = ap (λ (xs : List Asked). length xs) (step.keeps service o) in
    omega (arith, most, few, same)

-- and there is room for one request more
pub has_room : (rule : ServiceRule) (kept : Kept) (s : ScriptData) (h : List Entry) (body : Body) → IsWithinLimits s → IsInStep rule kept s h → HaveRoom kept body
has_room rule kept s h (Ask service (Tuple o) request) limits step = room_of rule kept s h service o limits step
has_room rule kept s h (Ask service (Opaque o) request) limits step = tt
has_room rule kept s h (Navigate frame url initiator) limits step = tt
has_room rule kept s h (AddFrame src sandbox) limits step = tt
has_room rule kept s h (RemoveFrame frame) limits step = tt
has_room rule kept s h (OpenPage url) limits step = tt
has_room rule kept s h (Fetch url mode initiator) limits step = tt
has_room rule kept s h (Post frame target source text) limits step = tt
has_room rule kept s h (DidCommit nav url origin) limits step = tt

either_list : {X : Type 0} (b : Bool) (o : Option X) → cond b (option_to_list o) [] ≡ option_to_list (cond b o None)
either_list true o = refl
either_list false o = refl

-- after the judgement of a message they are in step with its entry
pub said_kept : (E : Type 0) (before after : Kept) (h : List Entry) (p d k : ℕ) (m : Message) (reply : Reply) → KeepAllAccepted before h
    → ((name : List ℕ) (tuple : TupleOrigin) → after name tuple ≡ before name tuple ++ gained_by {E = E} (Ok reply) m.document m.body name tuple)
    → KeepAllAccepted after (h ++ Said p d k m reply ∷ [])
said_kept E before after h p d k m reply was gains name tuple =
    gains name tuple
    ∙ ap (λ xs. xs ++ gained_by {E = E} (Ok reply) m.document m.body name tuple) (was name tuple)
    ∙ ap (λ xs. accepted_requests h name tuple ++ xs) (either_list (is_answer reply) (body_asked name tuple m.document m.body))
    ∙ sym (accepted_more h (Said p d k m reply) name tuple)

quiet_asks : (name : List ℕ) (tuple : TupleOrigin) (e : Entry) → is_said e ≡ false → asked_in name tuple e ≡ None
quiet_asks name tuple (Said p d k m reply) is = absurd (cc)
quiet_asks name tuple (Opened k) is = refl
quiet_asks name tuple (Warm p) is = refl
quiet_asks name tuple (Hop of url) is = refl
quiet_asks name tuple (Order n p site origin url) is = refl
quiet_asks name tuple (NavEnd n why) is = refl
quiet_asks name tuple (Crash p) is = refl
quiet_asks name tuple (Commit p n origin url reply) is = refl
quiet_asks name tuple (Local p d k what) is = refl
quiet_asks name tuple (Head r why) is = refl
quiet_asks name tuple (Piece r i bytes) is = refl
quiet_asks name tuple (End r how) is = refl
quiet_asks name tuple (Exit p) is = refl

-- an entry that is no message changes nothing that is kept
pub quiet_kept : (kept : Kept) (h : List Entry) (e : Entry) → is_said e ≡ false → KeepAllAccepted kept h → KeepAllAccepted kept (h ++ e ∷ [])
quiet_kept kept h e quiet was name tuple =
    was name tuple
    ∙ sym (append-nil (accepted_requests h name tuple))
    ∙ ap (λ o. accepted_requests h name tuple ++ option_to_list o) (sym (quiet_asks name tuple e quiet))
    ∙ sym (accepted_more h e name tuple)
