use Rattle.std.proofs.Common.{◌≡◌, ◌∙◌, ◌<◌, length, ap, sym, arith, true}
use Rattle.page_origin.specs.HostSpelling.{is_host}
use Rattle.site_url.proofs.Hosts.{host_end, host_ascii}
use Rattle.site_url.proofs.sites.site_host.Goals as goal

pub range_from-requires : goal.range_from-requires
range_from-requires c =
    let valid : is_host c.as_str-text.result.now ≡ true = ap is_host c.as_str-text.ensures.text ∙ c.as_str-text.ensures.host in
    let low = host_ascii c.as_str-text.result.now c.in-Some.start valid (sym c.if-is_ip_address.ensures) in
    let within : c.in-Some.start < length c.as_str-text.result.now = c.in-Some.ensures.within in
    λ some. (omega arith, λ inside high. omega (arith, low))

pub returns-in-Some-clause-host : goal.returns-in-Some-clause-host
returns-in-Some-clause-host c =
    let valid : is_host c.as_str-text.result.now ≡ true = ap is_host c.as_str-text.ensures.text ∙ c.as_str-text.ensures.host in
    rw c.range_from.ensures.value (host_end c.as_str-text.result.now c.in-Some.start valid (sym c.if-is_ip_address.ensures) c.in-Some.ensures.within)
