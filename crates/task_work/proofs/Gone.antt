-- Where the process of a load is dead, that it is gone may be brought back, and comes too late for every entry of its request.
use Rattle.std.proofs.Common.{subst, sym}
use Rattle.std.proofs.Math.Seq.{take-length}
use Rattle.std.specs.Prelude.{◌≡◌, List, Some, length, take, ℕ}
use Rattle.history_entry.specs.declared.entry.Entry.{Entry}
use Rattle.history_entry.specs.declared.entry.Entry.TheVariants.{End, Head, Piece}
use Rattle.history_rules.proofs.Apart.{from_then}
use Rattle.history_rules.specs.Documents.{process_of}
use Rattle.history_rules.specs.Requests.{request_document}
use Rattle.process_standings.proofs.Deaths.{dead_get_nothing_later, dead_stay_dead, requests_stay, table_dead}
use Rattle.process_standings.specs.Laws.{request_process}
use Rattle.read_verdict.specs.declared.step.Step.TheVariants.{Gone}
use Rattle.service_rule.specs.Services.{ServiceRule}
use Rattle.browser_tasks.proofs.Loads.{delivery_object, step_delivers}
use Rattle.browser_tasks.specs.Objects.{IsDelivery}
use Rattle.browser_tasks.specs.Outcomes.{IsHostDead, IsOfStep}
use Rattle.task_work.proofs.Following.{some_follows}
use Rattle.task_work.specs.Laws.{GoneComesBack, GoneIsTooLate, IsHostGone}
use Rattle.task_work.specs.Stands.{script_of}
use Rattle.task_work.specs.declared.load.TaskLoad.{TaskLoad}

-- what a request is delivered is of a step that found the process dead
gone_step : (r : ℕ) (e : Entry) → IsDelivery r e → IsOfStep r Gone e
gone_step r (Head q why) is = (is, tt)
gone_step r (Piece q i bytes) is = (is, tt)
gone_step r (End q how) is = (is, tt)
gone_step r e is = absurd is

module _ (rule : ServiceRule) (h : List Entry) (load : TaskLoad) (gone : IsHostGone rule h load) where
  process_now : request_process h load.task.request ≡ Some load.task.process
  process_now = requests_stay rule (script_of load) h gone.stands.place load.task.request load.task.process gone.legal gone.stands.at.holds.process

  host_dead : IsHostDead h load.task.request
  host_dead =
      let a = from_then (process_of h) (request_document h load.task.request) load.task.process process_now in
      (a.0, load.task.process, a.1, a.2, table_dead h load.task.process (dead_stay_dead h gone.place load.task.process gone.dead))

pub gone_comes_back : (rule : ServiceRule) → GoneComesBack rule
gone_comes_back rule h load gone =
    let g = take gone.stands.place h in
    let next = some_follows rule g load gone.stands.at in record {
      place = gone.stands.place;
      within = gone.stands.within;
      could = record { entry = next.entry; is_of = (gone_step load.task.request next.entry next.is_of, tt); follows = next.follows };
      vouched = (tt, (length h, subst (λ (k : List Entry). IsHostDead k load.task.request) (sym (take-length h)) (host_dead rule h load gone)));
    }

pub gone_is_too_late : (rule : ServiceRule) → GoneIsTooLate rule
gone_is_too_late rule h load gone =
    let nothing = dead_get_nothing_later rule (script_of load) h gone.stands.place gone.place load.task.request load.task.process gone.legal gone.stands.at.holds.process gone.dead in
    record { none = λ e is may. nothing.none_follows e (delivery_object load.task.request e (step_delivers load.task.request Gone e is.0)) may }
