-- What is known of a task that a worker claimed. Own rules.
use Rattle.std.specs.Prelude.{◌≡◌, List, true, ⊤}
use Rattle.history_entry.specs.declared.entry.Entry.{Entry}
use Rattle.history_rules.specs.Redirects.{response}
use Rattle.history_rules.specs.Requests.{is_read_chain}
use Rattle.history_steps.specs.MayFollow.{MayFollow}
use Rattle.history_steps.specs.Run.{Legal}
use Rattle.read_verdict.specs.Cases.{Case}
use Rattle.script_model.specs.ScriptData.{ScriptData}
use Rattle.service_rule.specs.Services.{ServiceRule}
use Rattle.work_queue.specs.Keys.{key_of}
use Rattle.work_queue.specs.declared.task.LoadTask.{LoadTask}
use Rattle.work_queue.specs.declared.task.Task.{Task}
use Rattle.work_queue.specs.declared.task.Task.TheVariants.{Act, Browser, Load}
use Rattle.browser_tasks.specs.Objects.{IsOfKey}
use Rattle.browser_tasks.specs.TaskData.{HoldsFacts}

-- the URLs of a load name themselves, so that verdicts are asked of them
abbrev pub IsReadTask : Task → Type 0
IsReadTask (Load load) = is_read_chain load.chain ≡ true
IsReadTask (Act act) = ⊤
IsReadTask (Browser job) = ⊤

-- a task of a history: it holds facts of the history, which is legal, and an entry of its object may follow
pub record IsTaskOf (rule : ServiceRule) (s : ScriptData) (h : List Entry) (task : Task) : Type 0 where
  pub legal : Legal rule s h
  pub holds : HoldsFacts s h task
  pub read : IsReadTask task
  pub entry : Entry
  pub is_of : IsOfKey s h (key_of task) entry
  pub follows : MayFollow rule s h entry

-- it is the task of some history, under some rule of services
pub record IsClaimed (s : ScriptData) (task : Task) : Type 0 where
  pub rule : ServiceRule
  pub history : List Entry
  pub is_of : IsTaskOf rule s history task

-- what the response to a load is judged by: the script's rules and policy, what the load holds, and the head of the response
abbrev pub case_of : ScriptData → LoadTask → Case
case_of s task = record {
  rules = s.rules;
  policy = s.policy;
  request = task.request;
  origin = task.origin;
  chain = task.chain;
  mode = task.mode;
  head = (response s task.chain).head;
}
