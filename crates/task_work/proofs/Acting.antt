-- What an act comes to may follow the history of its claim.
use Rattle.std.proofs.Common.{ap, refl, subst, sym, ◌∙◌}
use Rattle.std.specs.Prelude.{◌≡◌, ◌&&◌, List, Some, option_and_then, option_map, slice_get, true, ℕ}
use Rattle.std.specs.Option.{option_map_or}
use Rattle.history_entry.specs.declared.entry.Entry.{Entry}
use Rattle.history_entry.specs.declared.entry.Entry.TheVariants.{Crash, Local, Said}
use Rattle.history_entry.specs.declared.entry.LocalWhat.{LocalWhat}
use Rattle.history_entry.specs.declared.entry.LocalWhat.TheVariants.{Took, Waited}
use Rattle.history_rules.proofs.Apart.{from_cond, from_else, from_map, from_then, some_same}
use Rattle.history_rules.specs.Actions.{act_in}
use Rattle.history_rules.specs.Documents.{actions_done, hosted, is_current, process_of}
use Rattle.history_rules.specs.Inboxes.{inbox}
use Rattle.history_rules.specs.Processes.{is_locked}
use Rattle.history_rules.specs.Requests.{has_live_request}
use Rattle.history_rules.specs.Sights.{act_of, next_act}
use Rattle.history_rules.specs.declared.act.Act.{Act as ActData}
use Rattle.history_rules.specs.declared.act.Act.TheVariants as acts
use Rattle.history_steps.proofs.Rows.{said_row}
use Rattle.history_steps.specs.MayFollow.{MayFollow, is_crash, local_in, local_next, local_what, next_of}
use Rattle.script_model.specs.ScriptData.{ScriptData}
use Rattle.script_model.specs.declared.post.Posted.{Posted}
use Rattle.service_rule.specs.Services.{ServiceRule}
use Rattle.work_queue.specs.declared.task.ActTask.{ActTask}
use Rattle.work_queue.specs.declared.task.Task.TheVariants.{Act}
use Rattle.work_queue.specs.declared.task.TaskKey.TheVariants as keys
use Rattle.browser_tasks.specs.Objects.{IsOfKey}
use Rattle.browser_tasks.specs.Outcomes.{CanFollow, Fits}
use Rattle.browser_tasks.specs.TaskData.{HoldsAct}
use Rattle.browser_tasks.specs.declared.outcome.ActDone.{ActDone}
use Rattle.browser_tasks.specs.declared.outcome.Outcome.TheVariants as outcomes
use Rattle.task_work.specs.Claimed.{IsTaskOf}

crash_is : (act : ActData) → is_crash act ≡ true → act ≡ acts.Crash
crash_is acts.Crash is = refl
crash_is _ is = absurd (cc)

fits_by : (s : ScriptData) (h : List Entry) (d : ℕ) (act : ActData) (what : LocalWhat) → local_what s h d act ≡ Some what → Fits act what
unfolding local_what
fits_by s h d acts.Wait what is =
    let a = from_else (has_live_request s h d) (Some Waited) what is in
    subst (λ (w : LocalWhat). Fits acts.Wait w) (some_same a.1) tt
fits_by s h d acts.Recv what is =
    let a = from_map (λ (post : Posted). Took post.source post.text) (slice_get (inbox s h d) 0) what is in
    subst (λ (w : LocalWhat). Fits acts.Recv w) a.2 tt
fits_by s h d acts.Skip what is = subst (λ (w : LocalWhat). Fits acts.Skip w) (some_same is) tt
fits_by s h d _ what is = absurd (cc)

-- what a document does by itself is its next action
record IsNextLocal (s : ScriptData) (h : List Entry) (d k : ℕ) (what : LocalWhat) : Type 0 where
  number : k ≡ actions_done h d
  fits : Fits (next_act s h d) what

next_local : (rule : ServiceRule) (s : ScriptData) (h : List Entry) (p d k : ℕ) (what : LocalWhat) → MayFollow rule s h (Local p d k what) → IsNextLocal s h d k what
unfolding next_of local_next local_in
next_local rule s h p d k what may =
    let e : Entry = Local p d k what in
    let a = from_cond (is_current s h d) (option_and_then (local_in s h d) (process_of h d)) e may in
    let b = from_then (local_in s h d) (process_of h d) e a.1 in
    let c = from_cond (is_locked h b.0) (option_map (Local b.0 d (actions_done h d)) (local_what s h d (next_act s h d))) e b.2 in
    let f = from_map (Local b.0 d (actions_done h d)) (local_what s h d (next_act s h d)) e c.1 in
    let same_number : k ≡ actions_done h d = cc in
    let same_what : f.0 ≡ what = cc in
    record { number = same_number; fits = fits_by s h d (next_act s h d) what (f.1 ∙ ap (λ w. Some w) same_what) }

module _ (rule : ServiceRule) (s : ScriptData) (h : List Entry) (task : ActTask) where
  abbrev d : ℕ
  d = task.sight.document

  -- the task's act is the next of its document
  next_is : HoldsAct s h task → next_act s h d ≡ act_in s task.sight task.action
  unfolding next_act act_of
  next_is holds =
      ap (λ o. option_map_or (λ sight. act_in s sight (actions_done h d)) o acts.Done) holds.sight ∙ ap (λ k. act_in s task.sight k) holds.action

  done_by : (done : ActDone) → done.document ≡ d → done.action ≡ task.action → done.act ≡ next_act s h d → HoldsAct s h task
      → (e : Entry) → IsOfKey s h (keys.Act d) e → MayFollow rule s h e → CanFollow rule s h (outcomes.Act done)
  done_by done same number act holds (Said p document k message reply) is may =
      let row = said_row rule s h p document k message reply may in record {
        entry = Said p document k message reply;
        is_of = (
          is ∙ sym same,
          row.number ∙ ap (actions_done h) is ∙ holds.action ∙ sym number,
          act ∙ ap (next_act s h) (sym is) ∙ row.sends,
        );
        follows = may;
      }
  done_by done same number act holds (Local p document k what) is may =
      let next = next_local rule s h p document k what may in record {
        entry = Local p document k what;
        is_of = (
          is ∙ sym same,
          next.number ∙ ap (actions_done h) is ∙ holds.action ∙ sym number,
          subst (λ (a : ActData). Fits a what) (ap (next_act s h) is ∙ sym act) next.fits,
        );
        follows = may;
      }
  done_by done same number act holds (Crash p) is may = record {
    entry = Crash p;
    is_of = (
      act ∙ crash_is (next_act s h d) is.1,
      ap (actions_done h) same ∙ holds.action ∙ sym number,
      (ap (λ x. is_current s h x && hosted h p x) same ∙ is.0, ap (λ x. is_crash (next_act s h x)) same ∙ is.1),
    );
    follows = may;
  }
  done_by done same number act holds e is may = absurd is

pub act_follows : (rule : ServiceRule) (s : ScriptData) (h : List Entry) (task : ActTask) (act : ActData) → act ≡ act_in s task.sight task.action → IsTaskOf rule s h (Act task)
    → CanFollow rule s h (outcomes.Act (record { document = task.sight.document; action = task.action; act = act }))
act_follows rule s h task act is claim =
    done_by rule s h task (record { document = task.sight.document; action = task.action; act = act }) refl refl (is ∙ sym (next_is rule s h task claim.holds)) claim.holds claim.entry claim.is_of claim.follows
