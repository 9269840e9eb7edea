use Rattle.std.proofs.Common.{◌<◌, arith, length}
use Rattle.history_laws.proofs.Bound.{bounded}
use Rattle.browser_workers.proofs.standings.standing_in.Goals as goal

pub standing_of-requires : goal.standing_of-requires
standing_of-requires c =
    let few : length c.args.entries.now < 400000 = bounded c.requires.rule c.args.script.now c.script_is_within_limits.ensures c.args.entries.now c.requires.legal in omega arith
