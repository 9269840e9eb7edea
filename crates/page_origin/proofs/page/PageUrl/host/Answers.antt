use Rattle.std.proofs.Common.{sym, ap, subst, ◌∙◌}
use Rattle.url.specs.Host.{IsHostOf}
use Rattle.url.specs.Parts.{host_or_empty}
use Rattle.url.proofs.SetterLemmas.{own_host}
use Rattle.url.proofs.ValidLemmas.{special_has_authority}
use Rattle.url.specs.Scheme.{is_special}
use Rattle.page_origin.specs.PageUrls.{class_of}
use Rattle.page_origin.proofs.PageUrlLemmas.{tuple_of-own, class_of-url_text}
use Rattle.page_origin.proofs.HostLemmas.{is_host-host_text, web_kind}
use Rattle.page_origin.proofs.page.PageUrl.host.Goals as goal

pub returns-clause-value : goal.returns-clause-value
returns-clause-value c = rw (tuple_of-own c.self.inside.url c.args.self.now c.self.invariant.parses c.self.view_is) c.host_of_url.ensures

pub returns-clause-host : goal.returns-clause-host
returns-clause-host c =
    let url = c.self.inside.url in
    let web = sym (class_of-url_text url c.self.invariant.parses) ∙ ap class_of c.self.view_is ∙ c.requires in
    let kind = web_kind url web in
    let head = c.as_str-valid.ensures.valid.head in
    rw c.host_of_url.ensures (is_host-host_text (host_or_empty url) (subst (λ k. IsHostOf k (host_or_empty url)) kind (own_host url head (special_has_authority url head (ap is_special kind)))))
