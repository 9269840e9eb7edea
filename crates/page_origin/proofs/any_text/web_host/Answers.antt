use Rattle.std.proofs.Common.{ap, subst}
use Rattle.url.specs.Host.{IsHostOf}
use Rattle.url.specs.Parts.{host_or_empty}
use Rattle.url.proofs.SetterLemmas.{own_host}
use Rattle.url.proofs.ValidLemmas.{special_has_authority}
use Rattle.url.specs.Scheme.{is_special}
use Rattle.page_origin.proofs.HostLemmas.{is_host-host_text, web_kind}
use Rattle.page_origin.proofs.any_text.web_host.Goals as goal

pub returns-clause-host : goal.returns-clause-host
returns-clause-host c =
    let url = c.args.url.now in
    let kind = web_kind url c.requires in
    let head = c.as_str-valid.ensures.valid.head in
    rw c.host_of_url.ensures (is_host-host_text (host_or_empty url) (subst (λ k. IsHostOf k (host_or_empty url)) kind (own_host url head (special_has_authority url head (ap is_special kind)))))
