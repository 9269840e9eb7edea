use Rattle.std.proofs.Common.{◌≡◌, true, take}
use Rattle.std.specs.List.{list_all}
use Rattle.page_origin.specs.Origins.{equal_sites}
use Rattle.site_url.specs.Sites.{site_of, site_of_origin}
use Rattle.script_model.proofs.early.is_same_site_chain.Given as goal

abbrev pub invariant-loop-url : goal.invariant-loop-url
invariant-loop-url l =
    list_all (λ url. equal_sites (site_of l.rules url) (site_of_origin l.rules l.origin)) (take l.url-index l.chain) ≡ true
