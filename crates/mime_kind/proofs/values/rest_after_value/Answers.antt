use Rattle.mime_kind.proofs.Joining.{after_both}
use Rattle.mime_kind.proofs.values.rest_after_value.Goals as goal

pub returns-in-Some : goal.returns-in-Some
returns-in-Some c = after_both c.args.text.now c.args.separator.now c.args.value.now c.in-Some.rest.now c.in-Some.ensures c.rest_after-in-Some.result c.rest_after-in-Some.ensures
