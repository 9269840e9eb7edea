use Rattle.script_input.proofs.ResourceLimits.{one_more_text}
use Rattle.script_input.proofs.resource.take.Goals as goal

pub returns : goal.returns
returns c = one_more_text c.args.taken.now c.insert.new.self c.in_ok-from_str.field-0 c.args.key.now c.in_ok-from_str.ensures.ok c.in_ok-insert.ensures.updates
