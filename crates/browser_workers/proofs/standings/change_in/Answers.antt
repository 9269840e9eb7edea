use Rattle.std.proofs.Common.{◌<◌, arith, length}
use Rattle.history_laws.proofs.Bound.{bounded}
use Rattle.browser_workers.proofs.standings.change_in.Goals as goal

pub last_change-requires : goal.last_change-requires
last_change-requires c =
    let few : length c.args.entries.now < 400000 = bounded c.requires.rule c.args.script.now c.script_is_within_limits.ensures c.args.entries.now c.requires.legal in omega arith

pub returns : goal.returns
returns c = c.last_change.ensures.change c.requires.rule c.args.script.now c.requires.legal
