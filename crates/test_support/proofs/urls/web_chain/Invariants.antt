use Rattle.std.proofs.Common.{◌≡◌, All}
use Rattle.page_origin.specs.PageUrls.{class_of}
use Rattle.page_origin.specs.declared.class.UrlClass.TheVariants.{Web}
use Rattle.test_support.proofs.urls.web_chain.Given as goal

abbrev pub invariant-loop-text : goal.invariant-loop-text
invariant-loop-text l = All (λ url. class_of url ≡ Web) l.chain.items
