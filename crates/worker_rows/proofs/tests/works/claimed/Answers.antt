use Rattle.std.proofs.Common.{subst, sym, ◌∙◌}
use Rattle.std.specs.Prelude.{◌≡◌, List}
use Rattle.history_entry.specs.declared.entry.Entry.{Entry}
use Rattle.history_steps.specs.Run.{Legal}
use Rattle.script_model.specs.ScriptData.{ScriptData}
use Rattle.service_rule.specs.Services.{ServiceRule}
use Rattle.service_rule.specs.Store.{store_rule}
use Rattle.work_queue.specs.Keys.{key_of}
use Rattle.work_queue.specs.declared.task.Kind.{Kind}
use Rattle.work_queue.specs.declared.task.Task.{Task}
use Rattle.work_queue.specs.declared.task.TaskKey.{TaskKey}
use Rattle.work_queue.specs.declared.tasks.Claim.{Claim}
use Rattle.browser_core.specs.Claiming.{Claims, HandsOut}
use Rattle.browser_core.specs.Cores.{CoreData}
use Rattle.browser_tasks.specs.Readiness.{IsReady}
use Rattle.browser_tasks.specs.TaskData.{HoldsFacts}
use Rattle.task_work.specs.Claimed.{IsClaimed, IsTaskOf}
use Rattle.worker_rows.proofs.tests.works.claimed.Goals as goal

claimed_of : (rule : ServiceRule) (s : ScriptData) (kind : Kind) (old new : CoreData) (task : Task) (entries : List Entry) → old.script ≡ s → new.script ≡ old.script → entries ≡ new.entries
    → Legal rule new.script new.entries → HandsOut rule kind old new task
    → ((rule : ServiceRule) (out : List TaskKey) → Legal rule s entries → HoldsFacts s entries task → IsReady rule s entries out (key_of task) → IsTaskOf rule s entries task) → IsClaimed s task
claimed_of rule s kind old new task entries script kept same legal hands read =
    let before : entries ≡ old.entries = same ∙ hands.entries in
    record {
      rule = rule;
      history = entries;
      is_of = read rule old.out
          (subst (λ (h : List Entry). Legal rule s h) (sym same) (subst (λ (x : ScriptData). Legal rule x new.entries) (kept ∙ script) legal))
          (subst (λ (h : List Entry). HoldsFacts s h task) (sym before) (subst (λ (x : ScriptData). HoldsFacts x old.entries task) script hands.holds))
          (subst (λ (h : List Entry). IsReady rule s h old.out (key_of task)) (sym before) (subst (λ (x : ScriptData). IsReady rule x old.entries old.out (key_of task)) script hands.chosen.ready));
    }

pub returns-in-Task : goal.returns-in-Task
returns-in-Task c =
    let hands = subst (λ (claim : Claim). Claims store_rule c.args.kind c.args.core c.claim.new.self claim) c.in-Task.is c.in_ok-task.ensures.claims in
    claimed_of store_rule c.args.script.now c.args.kind c.args.core c.claim.new.self c.in-Task.task c.entries.result.now c.requires c.in_ok-task.ensures.script
    (c.entries.ensures ∙ c.history.ensures.history) c.history.ensures.legal hands c.claim_is_read.ensures
