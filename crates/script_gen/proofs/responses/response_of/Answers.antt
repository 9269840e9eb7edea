use Rattle.script_gen.proofs.ResponseLimits.{parts_are_kept}
use Rattle.script_gen.proofs.responses.response_of.Goals as goal

pub resource_of-requires : goal.resource_of-requires
resource_of-requires c = parts_are_kept c.args.response _ _ _ _ c.requires c.in_ok-url.ensures c.in_ok-fields.ensures c.in_ok-body.ensures c.in_ok-cuts.ensures
