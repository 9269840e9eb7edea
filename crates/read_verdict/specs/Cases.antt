-- What a judge is made for.
use Rattle.std.specs.Prelude.{ℕ, Bool, Option, List}
use Rattle.site_url.specs.Sites.{SiteRuleData}
use Rattle.page_origin.specs.declared.origin.Origin.{Origin}
use Rattle.mime_kind.specs.declared.head.Head.{Head}
use Rattle.history_entry.specs.declared.body.Mode.{Mode}
use Rattle.history_entry.specs.declared.policy.Policy.{Policy}
use Rattle.script_model.specs.Verdicts.{verdict}
use Rattle.script_model.specs.declared.verdict.Verdict.{Verdict}

-- the rules and the policy that it goes by, a request, its chain of URLs, and the head of the response to the last of them
pub record Case : Type 0 where
  pub rules : SiteRuleData
  pub policy : Policy
  -- the request's number
  pub request : ℕ
  pub origin : Origin
  pub chain : List (List ℕ)
  pub mode : Mode
  pub head : Head

-- the verdict on the case's response, by the bytes of its body so far and whether it has ended with them
abbrev pub verdict_on : Case → List ℕ → Bool → Option Verdict
verdict_on case bytes ended = verdict case.policy case.rules case.origin case.chain case.mode case.head bytes ended
