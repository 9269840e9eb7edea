use Rattle.std.proofs.Common.{ap, sym, ◌∙◌}
use Rattle.page_origin.specs.PageUrls.{class_of}
use Rattle.page_origin.proofs.PageUrlLemmas.{class_of-url_text}
use Rattle.page_origin.proofs.page.PageUrl.class.Goals as goal

pub returns : goal.returns
returns c = c.class_of_url.ensures ∙ sym (class_of-url_text c.self.inside.url c.self.invariant.parses) ∙ ap class_of c.self.view_is
