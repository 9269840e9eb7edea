-- What a worker was told, by what it asked.
use Rattle.std.proofs.Common.{subst, sym}
use Rattle.std.specs.Prelude.{List}
use Rattle.history_entry.specs.declared.entry.Entry.{Entry}
use Rattle.script_model.specs.ScriptData.{ScriptData}
use Rattle.service_rule.specs.Services.{ServiceRule}
use Rattle.work_queue.specs.declared.task.Kind.{Kind}
use Rattle.work_queue.specs.declared.tasks.Claim.{Claim}
use Rattle.browser_tasks.specs.declared.outcome.Outcome.{Outcome}
use Rattle.browser_core.specs.declared.applying.Applied.{Applied}
use Rattle.browser_workers.specs.Asking.{Claims, IsBrought, IsTold}
use Rattle.browser_workers.specs.declared.asking.Ask.TheVariants as asks
use Rattle.browser_workers.specs.declared.asking.Told.TheVariants as tells

module _ (rule : ServiceRule) (s : ScriptData) (seen after : List Entry) where
  -- a task was asked for
  pub told_claim : (kind : Kind) (claim : Claim) → IsTold rule s seen (asks.Claim kind) (tells.Claim claim) after → Claims rule s after claim
  told_claim kind claim told = subst (λ (h : List Entry). Claims rule s h claim) (sym told.does.0) told.does.1

  pub no_applied : (kind : Kind) (applied : Applied) → IsTold rule s seen (asks.Claim kind) (tells.Applied applied) after → ⊥
  no_applied kind applied told = told.does

  -- an outcome was brought back
  pub told_applied : (outcome : Outcome) (applied : Applied) → IsTold rule s seen (asks.Apply outcome) (tells.Applied applied) after → IsBrought rule s outcome seen after applied
  told_applied outcome applied told = record { found = told.found; begins = told.begins; brings = told.does }

  pub no_claim : (outcome : Outcome) (claim : Claim) → IsTold rule s seen (asks.Apply outcome) (tells.Claim claim) after → ⊥
  no_claim outcome claim told = told.does
