use Rattle.std.proofs.Common.{◌≡◌, ◌∙◌, true, ◌==◌, eq-eqb, append-nil, rules}
use Rattle.page_origin.specs.Origins.{default_port_of}
use Rattle.page_origin.proofs.origin_spelling.tuple_text.Goals as goal

pub returns-then-port-default_port : goal.returns-then-port-default_port
returns-then-port-default_port c =
    let same : (c.args.tuple.now.port == default_port_of c.args.tuple.now.scheme) ≡ true = eq-eqb _ _ (c.if-port-default_port.true ∙ c.default_port.ensures) in
    rw (same, append-nil) (search rules)
