use Rattle.std.proofs.Common.{rules}
use Rattle.page_origin.proofs.PageUrlLemmas.{tuple_of-own}
use Rattle.page_origin.proofs.page.PageUrl.port.Goals as goal

pub returns : goal.returns
returns c = rw (tuple_of-own c.self.inside.url c.args.self.now c.self.invariant.parses c.self.view_is) (search rules)
