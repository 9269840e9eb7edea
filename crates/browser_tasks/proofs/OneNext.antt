-- Of an outcome at most one entry may follow a legal history.
use Rattle.std.proofs.Common.{◌∙◌, ap, refl, subst, sym}
use Rattle.std.specs.Prelude.{◌≡◌, Bool, List, true, ℕ}
use Rattle.history_entry.specs.declared.body.Message.{Message}
use Rattle.history_entry.specs.declared.entry.Entry.{Entry}
use Rattle.history_entry.specs.declared.entry.Entry.TheVariants.{Commit, Crash, End, Exit, Head, Hop, Local, NavEnd, Opened, Order, Piece, Said, Warm}
use Rattle.history_entry.specs.declared.entry.HopOf.TheVariants.{Nav, Req}
use Rattle.history_entry.specs.declared.entry.LocalWhat.{LocalWhat}
use Rattle.history_entry.specs.declared.reply.Reply.{Reply}
use Rattle.script_model.specs.ScriptData.{ScriptData}
use Rattle.service_rule.specs.Services.{ServiceRule}
use Rattle.history_rules.proofs.Apart.{and_right}
use Rattle.history_rules.specs.Documents.{hosted}
use Rattle.history_rules.specs.declared.act.Act.{Act}
use Rattle.history_rules.specs.declared.act.Act.TheVariants as acts
use Rattle.history_steps.proofs.Commits.{one_process}
use Rattle.history_steps.proofs.OneEach.{at_most_one}
use Rattle.history_steps.specs.MayFollow.{MayFollow}
use Rattle.history_steps.specs.Objects.{DocumentOf, NavigationOf, Object, OrderOf, ProcessOf, RequestOf, StartPages, WarmProcess, object_of}
use Rattle.history_steps.specs.Run.{Legal}
use Rattle.work_queue.specs.declared.task.BrowserJob.{BrowserJob}
use Rattle.work_queue.specs.declared.task.BrowserJob.TheVariants as jobs
use Rattle.browser_tasks.proofs.Loads.{delivery_object, step_delivers}
use Rattle.browser_tasks.specs.Objects.{IsOfJob}
use Rattle.browser_tasks.specs.Outcomes.{Fits, HasOneNext, IsEntryOf, IsOfAct}
use Rattle.browser_tasks.specs.declared.outcome.ActDone.{ActDone}
use Rattle.browser_tasks.specs.declared.outcome.Outcome.{Outcome}
use Rattle.browser_tasks.specs.declared.outcome.Outcome.TheVariants as outcomes

abbrev job_object : BrowserJob → Object
job_object (jobs.Open k) = StartPages
job_object jobs.Warm = WarmProcess
job_object (jobs.Nav n) = NavigationOf n
job_object (jobs.Commit n) = OrderOf n
job_object (jobs.Request r) = RequestOf r
job_object (jobs.Exit p) = ProcessOf p

of_job : (s : ScriptData) (h : List Entry) (job : BrowserJob) (e : Entry) → IsOfJob s h job e → object_of e ≡ job_object job
of_job s h (jobs.Open k) (Opened page) is = refl
of_job s h jobs.Warm (Warm p) is = refl
of_job s h (jobs.Nav n) (Hop (Nav m) url) is = ap NavigationOf is
of_job s h (jobs.Nav n) (Order m p site origin url) is = ap NavigationOf is
of_job s h (jobs.Nav n) (NavEnd m why) is = ap NavigationOf is
of_job s h (jobs.Commit n) (Commit p m origin url reply) is = ap OrderOf is
of_job s h (jobs.Request r) (Hop (Req q) url) is = ap RequestOf is
of_job s h (jobs.Request r) (End q how) is = ap RequestOf is.0
of_job s h (jobs.Exit p) (Exit q) is = ap ProcessOf is
of_job s h job e is = absurd is

message_no_crash : (act : Act) (m : Message) → act ≡ acts.Message m → act ≡ acts.Crash → ⊥
message_no_crash act m a b =
    let same : acts.Message m ≡ acts.Crash = sym a ∙ b in
    absurd (cc)

crash_fits : (act : Act) (what : LocalWhat) → act ≡ acts.Crash → Fits act what → ⊥
crash_fits act what is fits = subst (λ a. Fits a what) is fits

module _ (rule : ServiceRule) (s : ScriptData) (h : List Entry) (legal : Legal rule s h) where
  -- of one document
  both_of_document : (d : ℕ) (a b : Entry) → object_of a ≡ DocumentOf d → object_of b ≡ DocumentOf d → MayFollow rule s h a → MayFollow rule s h b → a ≡ b
  both_of_document d a b x y may_a may_b = at_most_one rule s h a b legal may_a may_b (x ∙ sym y)

  with_said : (done : ActDone) (p d k : ℕ) (m : Message) (reply : Reply) → IsOfAct s h done (Said p d k m reply) → (b : Entry) → IsOfAct s h done b
      → MayFollow rule s h (Said p d k m reply) → MayFollow rule s h b → Said p d k m reply ≡ b
  with_said done p d k m reply x (Said q e i n answer) y may_a may_b =
      both_of_document done.document (Said p d k m reply) (Said q e i n answer) (ap DocumentOf x.0) (ap DocumentOf y.0) may_a may_b
  with_said done p d k m reply x (Local q e i what) y may_a may_b =
      both_of_document done.document (Said p d k m reply) (Local q e i what) (ap DocumentOf x.0) (ap DocumentOf y.0) may_a may_b
  with_said done p d k m reply x (Crash q) y may_a may_b = absurd (message_no_crash done.act m x.2 y.0)
  with_said done p d k m reply x b y may_a may_b = absurd y

  with_local : (done : ActDone) (p d k : ℕ) (what : LocalWhat) → IsOfAct s h done (Local p d k what) → (b : Entry) → IsOfAct s h done b
      → MayFollow rule s h (Local p d k what) → MayFollow rule s h b → Local p d k what ≡ b
  with_local done p d k what x (Said q e i m reply) y may_a may_b =
      both_of_document done.document (Local p d k what) (Said q e i m reply) (ap DocumentOf x.0) (ap DocumentOf y.0) may_a may_b
  with_local done p d k what x (Local q e i other) y may_a may_b =
      both_of_document done.document (Local p d k what) (Local q e i other) (ap DocumentOf x.0) (ap DocumentOf y.0) may_a may_b
  with_local done p d k what x (Crash q) y may_a may_b = absurd (crash_fits done.act what y.0 x.2)
  with_local done p d k what x b y may_a may_b = absurd y

  with_crash : (done : ActDone) (p : ℕ) → IsOfAct s h done (Crash p) → (b : Entry) → IsOfAct s h done b → Crash p ≡ b
  with_crash done p x (Said q d k m reply) y = absurd (message_no_crash done.act m y.2 x.0)
  with_crash done p x (Local q d k what) y = absurd (crash_fits done.act what x.0 y.2)
  with_crash done p x (Crash q) y =
      let host_p : hosted h p done.document ≡ true = and_right _ _ x.2.0 in
      let host_q : hosted h q done.document ≡ true = and_right _ _ y.2.0 in
      ap Crash (one_process rule s h legal p q done.document host_p host_q)
  with_crash done p x b y = absurd y

  act_one : (done : ActDone) (a b : Entry) → IsOfAct s h done a → IsOfAct s h done b → MayFollow rule s h a → MayFollow rule s h b → a ≡ b
  act_one done (Said p d k m reply) b x y may_a may_b = with_said done p d k m reply x b y may_a may_b
  act_one done (Local p d k what) b x y may_a may_b = with_local done p d k what x b y may_a may_b
  act_one done (Crash p) b x y may_a may_b = with_crash done p x b y
  act_one done a b x y may_a may_b = absurd x

pub one_next : (rule : ServiceRule) (s : ScriptData) → HasOneNext rule s
one_next rule s h (outcomes.Browser job) a b legal x y may_a may_b =
    at_most_one rule s h a b legal may_a may_b (of_job s h job a x ∙ sym (of_job s h job b y))
one_next rule s h (outcomes.Act done) a b legal x y may_a may_b = act_one rule s h legal done a b x y may_a may_b
one_next rule s h (outcomes.Load done) a b legal x y may_a may_b =
    at_most_one rule s h a b legal may_a may_b
    (delivery_object done.request a (step_delivers done.request done.step a x.0) ∙ sym (delivery_object done.request b (step_delivers done.request done.step b y.0)))
