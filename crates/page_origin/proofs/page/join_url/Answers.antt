use Rattle.std.proofs.Common.{◌≡◌, Some, ap, sym, ◌∙◌}
use Rattle.page_origin.specs.PageUrls.{parts_of}
use Rattle.page_origin.proofs.PageUrlLemmas.{parts_of-url_text}
use Rattle.page_origin.proofs.page.join_url.Goals as goal

pub returns : goal.returns
returns c =
    let base : parts_of c.args.base.now ≡ Some c.base.inside.url = ap parts_of (sym c.base.view_is) ∙ parts_of-url_text c.base.inside.url c.base.invariant.parses in
    rw base c.join_parsed.ensures
