-- Of an act: what is found is of it and may follow, and where nothing is found nothing of it may.
use Rattle.std.proofs.Common.{◌∙◌, ap, refl, subst, sym}
use Rattle.std.specs.Prelude.{◌≡◌, ◌≢◌, ◌&&◌, Bool, IfSome, List, None, Option, Some, false, option_and_then, option_map, ℕ}
use Rattle.history_entry.specs.declared.body.Message.{Message}
use Rattle.history_entry.specs.declared.entry.Entry.{Entry}
use Rattle.history_entry.specs.declared.entry.Entry.TheVariants.{Commit, Crash, End, Exit, Head, Hop, Local, NavEnd, Opened, Order, Piece, Said, Warm}
use Rattle.history_entry.specs.declared.entry.LocalWhat.{LocalWhat}
use Rattle.history_entry.specs.declared.reply.Reply.{Reply}
use Rattle.script_model.specs.ScriptData.{ScriptData}
use Rattle.service_rule.specs.Services.{ServiceRule}
use Rattle.history_rules.proofs.Apart.{from_cond, from_map, from_then, some_same}
use Rattle.history_rules.specs.Documents.{actions_done, is_current, process_of}
use Rattle.history_rules.specs.Processes.{is_locked}
use Rattle.history_rules.specs.Sights.{next_act}
use Rattle.history_rules.specs.declared.act.Act.{Act}
use Rattle.history_rules.specs.declared.act.Act.TheVariants as acts
use Rattle.history_steps.proofs.TheNexts.{from_local, from_said}
use Rattle.history_steps.specs.MayFollow.{MayFollow, is_crash, local_next, next_of, said_next}
use Rattle.history_steps.specs.Run.{Legal}
use Rattle.history.proofs.Sayings.{said_is_judged}
use Rattle.history.specs.Sayings.{judged, saying_in, saying_next, saying_of}
use Rattle.history.specs.declared.documents.Saying.{Saying}
use Rattle.browser_tasks.proofs.Forms.{local_form}
use Rattle.browser_tasks.proofs.Hosting.{crash_fine, crash_here}
use Rattle.browser_tasks.proofs.Jobs.{none_some}
use Rattle.browser_tasks.specs.Candidates.{entry_of, is_said}
use Rattle.browser_tasks.specs.Kept.{IsLocalOf, IsSayingOf, Keeps}
use Rattle.browser_tasks.specs.Objects.{Crashes, document_crash}
use Rattle.browser_tasks.specs.Outcomes.{Answers, AnswersAct, Fits, IsDoneAlone, IsOfAct}
use Rattle.browser_tasks.specs.declared.candidate.Candidate.{Candidate}
use Rattle.browser_tasks.specs.declared.candidate.Candidate.TheVariants.{Entry as Ready, Saying as Asks}
use Rattle.browser_tasks.specs.declared.outcome.ActDone.{ActDone}

saying_form : (h : List Entry) (p d : ℕ) (act : Act) (saying : Saying) → saying_of h p d act ≡ Some saying → saying.place.document ≡ d
saying_form h p d (acts.Message m) saying is = sym (ap (λ (x : Saying). x.place.document) (some_same is))
saying_form h p d _ saying is = absurd (cc)

-- a document says what has its number
pub saying_document : (s : ScriptData) (h : List Entry) (d : ℕ) (saying : Saying) → saying_next s h d ≡ Some saying → saying.place.document ≡ d
unfolding saying_next saying_in
saying_document s h d saying is =
    let a = from_cond (is_current s h d) (option_and_then (saying_in s h d) (process_of h d)) saying is in
    let b = from_then (saying_in s h d) (process_of h d) saying a.1 in
    let c = from_cond (is_locked h b.0) (saying_of h b.0 d (next_act s h d)) saying b.2 in
    saying_form h b.0 d (next_act s h d) saying c.1

message_apart : (m : Message) (act : Act) → act ≡ acts.Message m → IsDoneAlone act → ⊥
message_apart m act is alone = subst IsDoneAlone is alone

crash_apart : (act : Act) → act ≡ acts.Crash → IsDoneAlone act → ⊥
crash_apart act is alone = subst IsDoneAlone is alone

abbrev done_of : ℕ → ℕ → Act → ActDone
done_of d k act = record { document = d; action = k; act = act }

module _ (s : ScriptData) (h : List Entry) (d k : ℕ) where
  -- the saying of a document, if it is this message
  pub said_some : (m : Message) (given : Option Saying) (saying : Saying) → given ≡ saying_next s h d → given ≡ Some saying → IsSayingOf k m saying
      → AnswersAct s h d k (acts.Message m) (Some (Asks saying))
  said_some m given saying is some fits rule legal =
      let next : saying_next s h d ≡ Some saying = sym is ∙ some in (
        (saying_document s h d saying next, fits.0, ap acts.Message (sym fits.1)),
        from_said rule s h d (judged rule s h saying) (said_is_judged rule s h d ∙ ap (option_map (judged rule s h)) next),
      )

  no_saying : (m : Message) (given : Option Saying) → given ≡ saying_next s h d → IfSome given (λ x. IsSayingOf k m x → ⊥)
      → (rule : ServiceRule) (p document action : ℕ) (message : Message) (reply : Reply) → document ≡ d → action ≡ k → acts.Message m ≡ acts.Message message
      → said_next rule s h document ≡ Some (Said p document action message reply) → ⊥
  no_saying m given is none rule p document action message reply same number says may =
      let e : Entry = Said p document action message reply in
      let next : option_map (judged rule s h) (saying_next s h d) ≡ Some e =
      ap (λ x. option_map (judged rule s h) (saying_next s h x)) (sym same) ∙ sym (said_is_judged rule s h document) ∙ may in
      let a = from_map (judged rule s h) (saying_next s h d) e next in
      let x : Saying = a.0 in
      let formed : judged rule s h x ≡ e = a.2 in
      let one : x.place.action ≡ action = cc in
      let two : x.message ≡ message = cc in
      let three : m ≡ message = cc in
      subst (λ o. IfSome o (λ y. IsSayingOf k m y → ⊥)) (is ∙ a.1) none (one ∙ number, two ∙ sym three)

  pub said_none : (m : Message) (given : Option Saying) → given ≡ saying_next s h d → IfSome given (λ x. IsSayingOf k m x → ⊥)
      → AnswersAct s h d k (acts.Message m) None
  unfolding next_of
  said_none m given is none rule legal = record { none = λ e of may. no e of may }
    where
      no : (e : Entry) → IsOfAct s h (done_of d k (acts.Message m)) e → MayFollow rule s h e → ⊥
      no (Said p document action message reply) of may = no_saying m given is none rule p document action message reply of.0 of.1 of.2 may
      no (Local p document action what) of may = of.2
      no (Crash p) of may = absurd (cc)
      no e of may = absurd of

  -- the document's own next act, if it is this one
  abbrev document_is : Entry → Type 0
  document_is (Local p document action what) = document ≡ d
  document_is _ = Unit {0}

  local_is : (act : Act) (e : Entry) → IsLocalOf k act e → document_is e → IsOfAct s h (done_of d k act) e
  local_is act (Local p document action what) fits same = (same, fits.0, fits.1)
  local_is act e fits same = absurd fits

  pub local_some : (act : Act) (given : Option Entry) (e : Entry) → given ≡ local_next s h d → given ≡ Some e → IsLocalOf k act e
      → AnswersAct s h d k act (Some (Ready e))
  local_some act given e is some fits rule legal =
      let next : local_next s h d ≡ Some e = sym is ∙ some in
      (local_is act e fits (local_form s h document_is d (λ p action what. refl) e next), from_local rule s h d e next)

  pub local_quiet : (act : Act) (e : Entry) → IsLocalOf k act e → is_said e ≡ false
  local_quiet act (Local p document action what) fits = refl
  local_quiet act e fits = absurd fits

  pub local_none : (act : Act) (given : Option Entry) → IsDoneAlone act → given ≡ local_next s h d → IfSome given (λ x. IsLocalOf k act x → ⊥)
      → AnswersAct s h d k act None
  unfolding next_of
  local_none act given alone is none rule legal = record { none = λ e of may. no e of may }
    where
      no : (e : Entry) → IsOfAct s h (done_of d k act) e → MayFollow rule s h e → ⊥
      no (Said p document action message reply) of may = message_apart message act of.2 alone
      no (Local p document action what) of may =
          let next : local_next s h d ≡ Some (Local p document action what) = ap (local_next s h) (sym of.0) ∙ may in
          subst (λ o. IfSome o (λ x. IsLocalOf k act x → ⊥)) (is ∙ next) none (of.1, of.2)
      no (Crash p) of may = crash_apart act of.0 alone
      no e of may = absurd of

  -- the crash of the document's process
  pub crash_some : (given : Option Entry) (e : Entry) → actions_done h d ≡ k → given ≡ document_crash s h d → given ≡ Some e → AnswersAct s h d k acts.Crash (Some (Ready e))
  crash_some given e number is some rule legal =
      let a = crash_fine rule s h legal d e (sym is ∙ some) in
      (subst (IsOfAct s h (done_of d k acts.Crash)) a.1 (refl, number, a.2), a.3)

  pub crash_quiet : (given : Option Entry) (e : Entry) → given ≡ document_crash s h d → given ≡ Some e → is_said e ≡ false
  unfolding document_crash
  crash_quiet given e is some =
      let a = from_cond (is_current s h d && is_crash (next_act s h d)) (option_map Crash (process_of h d)) e (sym is ∙ some) in
      let b = from_map Crash (process_of h d) e a.1 in
      sym (ap is_said b.2)

  pub crash_none : (given : Option Entry) → given ≡ document_crash s h d → given ≡ None → AnswersAct s h d k acts.Crash None
  crash_none given is none rule legal = record { none = λ e of may. no e of }
    where
      no : (e : Entry) → IsOfAct s h (done_of d k acts.Crash) e → ⊥
      no (Said p document action message reply) of = absurd (cc)
      no (Local p document action what) of = of.2
      no (Crash p) of =
          let x = crash_here s h d p of.2 in
          none_some (document_crash s h d) x.0 (sym is ∙ none) x.1
      no e of = absurd of

  pub crash_other : actions_done h d ≢ k → AnswersAct s h d k acts.Crash None
  crash_other other rule legal = record { none = λ e of may. no e of }
    where
      no : (e : Entry) → IsOfAct s h (done_of d k acts.Crash) e → ⊥
      no (Said p document action message reply) of = absurd (cc)
      no (Local p document action what) of = of.2
      no (Crash p) of = other of.1
      no e of = absurd of

  -- no such action
  pub done_answers : AnswersAct s h d k acts.Done None
  done_answers rule legal = record { none = λ e of may. no e of }
    where
      no : (e : Entry) → IsOfAct s h (done_of d k acts.Done) e → ⊥
      no (Said p document action message reply) of = absurd (cc)
      no (Local p document action what) of = of.2
      no (Crash p) of = absurd (cc)
      no e of = absurd of
