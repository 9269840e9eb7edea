use Rattle.task_work.proofs.Stepping.{steps_from}
use Rattle.task_work.proofs.load.TaskLoad.step.Goals as goal

pub returns-clause-steps : goal.returns-clause-steps
returns-clause-steps c =
    let step = c.step.ensures in
    steps_from c.args.self.now c.step.new.self c.step.new.wire c.step.result (record {
      says = step.says;
      goes_on = step.goes_on;
      wire = step.wire;
      used_up = step.used_up;
      unmoved = step.unmoved;
      steady = step.steady;
    })
