use Rattle.std.proofs.Common.{ap, ◌∙◌}
use Rattle.std.specs.Option.{option_copied}
use Rattle.std.specs.Prelude.{◌≡◌, List, unwrap_or, ℕ}
use Rattle.history_rules.specs.Redirects.{last_url, response}
use Rattle.history_rules.specs.Responses.{absent}
use Rattle.script_model.specs.ResourceData.{ResourceData}
use Rattle.task_work.proofs.Beginning.{begins, begins_there, fresh_load}
use Rattle.task_work.specs.Claimed.{case_of}
use Rattle.task_work.specs.declared.load.TaskLoad.{TaskLoad}
use Rattle.task_work.proofs.load.TaskLoad.new.Goals as goal

pub returns-clause-stands : goal.returns-clause-stands
returns-clause-stands c rule h claim =
    let url : List ℕ = last_url c.as_slice.result.now in
    let resource : ResourceData = unwrap_or (option_copied c.last_resource-resource.result) (absent url) in
    let found : resource ≡ response c.args.script.now c.args.task.chain =
    c.last_resource-resource.ensures ∙ ap (λ (chain : List (List ℕ)). response c.args.script.now chain) c.as_slice.ensures in
    let load : TaskLoad = record { script = c.args.script; task = c.args.task; load = c.in_ok-load.load; wire = c.wire_at.result } in
    let loaded = c.in_ok-load.ensures.loaded (case_of c.args.script.now c.args.task) c.in_ok-judge.ensures in
    begins rule load (fresh_load load resource c.in_ok-load.ensures.fresh loaded (c.wire_at.ensures url) found) h claim

pub returns-clause-at : goal.returns-clause-at
returns-clause-at c rule h claim none =
    let url : List ℕ = last_url c.as_slice.result.now in
    let resource : ResourceData = unwrap_or (option_copied c.last_resource-resource.result) (absent url) in
    let found : resource ≡ response c.args.script.now c.args.task.chain =
    c.last_resource-resource.ensures ∙ ap (λ (chain : List (List ℕ)). response c.args.script.now chain) c.as_slice.ensures in
    let load : TaskLoad = record { script = c.args.script; task = c.args.task; load = c.in_ok-load.load; wire = c.wire_at.result } in
    let loaded = c.in_ok-load.ensures.loaded (case_of c.args.script.now c.args.task) c.in_ok-judge.ensures in
    begins_there rule load (fresh_load load resource c.in_ok-load.ensures.fresh loaded (c.wire_at.ensures url) found) h claim none
