-- The verdict of read blocking: whether the document that made a request may read its response, and by which row of one
-- table; the first row that applies decides. Own table, after Chromium's explainer of Cross-Origin Read Blocking (CORB), and
-- the CORS check and the header `Cross-Origin-Resource-Policy` of the Fetch Standard. A body is judged as one whole list of
-- bytes. Row B8 stands in the second policy alone.
use Rattle.std.specs.Prelude.{ℕ, Bool, true, false, not, ◌==◌, ◌&&◌, Option, Some, None, List, if◌then◌else◌}
use Rattle.std.specs.List.{list_all}
use Rattle.std.specs.Option.{option_or}
use Rattle.page_origin.specs.declared.origin.Origin.{Origin}
use Rattle.page_origin.specs.declared.origin.Origin.TheVariants.{Tuple, Opaque}
use Rattle.page_origin.specs.Origins.{equal_sites}
use Rattle.site_url.specs.Sites.{SiteRuleData, site_of, site_of_origin}
use Rattle.mime_kind.specs.declared.head.Head.{Head}
use Rattle.mime_kind.specs.declared.kind.Kind.{Kind}
use Rattle.mime_kind.specs.declared.kind.Kind.TheVariants.{Html, Xml, Json, Plain, Css, Other}
use Rattle.mime_kind.specs.Kinds.{kind_of}
use Rattle.mime_kind.specs.Nosniff.{nosniff}
use Rattle.mime_kind.specs.declared.policy.ResourcePolicy.{ResourcePolicy}
use Rattle.mime_kind.specs.declared.policy.ResourcePolicy.TheVariants as resource
use Rattle.mime_kind.specs.ResourcePolicies.{resource_policy}
use Rattle.corb_sniff.specs.declared.kind.SniffKind.{SniffKind}
use Rattle.corb_sniff.specs.declared.kind.SniffKind.TheVariants as sniffed_as
use Rattle.corb_sniff.specs.declared.kind.Sniffed.{Sniffed}
use Rattle.corb_sniff.specs.declared.kind.Sniffed.TheVariants as found
use Rattle.corb_sniff.specs.declared.kind.Answer.{Answer}
use Rattle.corb_sniff.specs.declared.kind.Answer.TheVariants.{More, Confirmed, Clear}
use Rattle.corb_sniff.specs.Answers.{answer_of}
use Rattle.cors_check.specs.declared.answer.Cors.{Cors}
use Rattle.cors_check.specs.declared.answer.Cors.TheVariants.{SameOrigin, Passed, Failed}
use Rattle.cors_check.specs.Cors.{cors}
use Rattle.cors_check.specs.Chains.{is_same_origin_chain}
use Rattle.history_entry.specs.declared.body.Mode.{Mode}
use Rattle.history_entry.specs.declared.body.Mode.TheVariants as modes
use Rattle.history_entry.specs.declared.policy.Policy.{Policy}
use Rattle.history_entry.specs.declared.policy.Policy.TheVariants.{One, Two}
use Rattle.history_entry.specs.declared.rule.Rule.{Rule}
use Rattle.history_entry.specs.declared.rule.Rule.TheVariants.{A1, A2, A3, A4, A5, B1, B2, B3, B4, B5, B6, B7, B8}
use Rattle.script_model.specs.declared.verdict.Verdict.{Verdict}
use Rattle.script_model.specs.declared.verdict.Verdict.TheVariants.{Allow, Block}

-- the mode is cors
abbrev pub is_cors : Mode → Bool
is_cors modes.Cors = true
is_cors modes.NoCors = false

-- the CORS check fails
abbrev pub is_failed : Cors → Bool
is_failed SameOrigin = false
is_failed Passed = false
is_failed Failed = true

-- the origin is a tuple
abbrev pub is_tuple : Origin → Bool
is_tuple (Tuple o) = true
is_tuple (Opaque o) = false

-- the origin is a tuple, and every URL of the chain has its site
unfoldable pub is_same_site_chain : SiteRuleData → Origin → List (List ℕ) → Bool
is_same_site_chain rules origin chain =
    is_tuple origin && list_all (λ url. equal_sites (site_of rules url) (site_of_origin rules origin)) chain

-- the resource policy leaves the request out: one of its own origin alone, where some URL of the chain has not the request's
-- origin; one of its own site alone, where the chain does not stay in the site of a tuple origin
abbrev pub leaves_out : SiteRuleData → Origin → List (List ℕ) → ResourcePolicy → Bool
leaves_out rules origin chain resource.Any = false
leaves_out rules origin chain resource.SameOrigin = not (is_same_origin_chain origin chain)
leaves_out rules origin chain resource.SameSite = not (is_same_site_chain rules origin chain)

-- row B8, under the second policy: the response's resource policy leaves the request out
unfoldable pub is_left_out : Policy → SiteRuleData → Origin → List (List ℕ) → Head → Bool
is_left_out One rules origin chain head = false
is_left_out Two rules origin chain head = leaves_out rules origin chain (resource_policy head.fields)

-- the protected kinds: what pages of other sites are not to read
abbrev pub is_protected : Kind → Bool
is_protected Html = true
is_protected Xml = true
is_protected Json = true
is_protected Plain = false
is_protected Css = false
is_protected Other = false

-- a protected kind or Plain
abbrev pub is_protected_or_plain : Kind → Bool
is_protected_or_plain Plain = true
is_protected_or_plain kind = is_protected kind

-- rows A1, A2 and B1, by the CORS check
abbrev pub cors_verdict : Cors → Verdict
cors_verdict SameOrigin = Allow A1
cors_verdict Passed = Allow A2
cors_verdict Failed = Block B1

-- rows B2 and B3: status 206 and a protected kind; `nosniff` and a protected kind or Plain
unfoldable pub head_verdict : Head → Option Verdict
head_verdict head =
    if head.status == 206 && is_protected (kind_of head.fields) then Some (Block B2)
    else (if nosniff head.fields && is_protected_or_plain (kind_of head.fields) then Some (Block B3)
    else None)

-- rows B4 to B7: the body is found to be what its kind is tested for
abbrev pub confirmed_verdict : Sniffed → Verdict
confirmed_verdict found.Html = Block B4
confirmed_verdict found.Xml = Block B5
confirmed_verdict found.Json = Block B6
confirmed_verdict found.Prefix = Block B7

-- rows A4 and A5: the body can't be found to be that. Kinds Css and Other have A4
abbrev pub clear_verdict : Kind → Verdict
clear_verdict kind = if is_protected_or_plain kind then Allow A5 else Allow A4

-- the rows from B4 on, by what sniffing answers; none while it asks for more
abbrev pub sniffed_verdict : Kind → Answer → Option Verdict
sniffed_verdict kind (Confirmed sniffed) = Some (confirmed_verdict sniffed)
sniffed_verdict kind Clear = Some (clear_verdict kind)
sniffed_verdict kind More = None

-- as what a kind is sniffed
abbrev pub sniff_kind : Kind → SniffKind
sniff_kind Html = sniffed_as.Html
sniff_kind Xml = sniffed_as.Xml
sniff_kind Json = sniffed_as.Json
sniff_kind Plain = sniffed_as.Plain
sniff_kind Css = sniffed_as.Css
sniff_kind Other = sniffed_as.Other

-- the rows from B4 on, by the bytes so far and whether the body has ended with them
unfoldable pub bytes_verdict : Kind → List ℕ → Bool → Option Verdict
bytes_verdict kind bytes ended = sniffed_verdict kind (answer_of (sniff_kind kind) bytes ended)

-- the part of the table from B2 on
unfoldable pub body_verdict : Head → List ℕ → Bool → Option Verdict
body_verdict head bytes ended = option_or (head_verdict head) (bytes_verdict (kind_of head.fields) bytes ended)

-- the verdict on a request's response, of which these bytes have come, or none where they don't settle it yet: in mode cors
-- that of the CORS check; else B8 where the resource policy leaves it out; else A3 where the chain stays in the site of a
-- tuple origin; else the part from B2 on
unfoldable pub verdict : Policy → SiteRuleData → Origin → List (List ℕ) → Mode → Head → List ℕ → Bool → Option Verdict
verdict policy rules origin chain mode head bytes ended =
    if is_cors mode then Some (cors_verdict (cors origin chain head.fields))
    else (if is_left_out policy rules origin chain head then Some (Block B8)
    else (if is_same_site_chain rules origin chain then Some (Allow A3)
    else body_verdict head bytes ended))

-- the verdict by the rows that need no byte of the body: A1, A2, B1, B8, A3, B2 and B3
unfoldable pub early_verdict : Policy → SiteRuleData → Origin → List (List ℕ) → Mode → Head → Option Verdict
early_verdict policy rules origin chain mode head =
    if is_cors mode then Some (cors_verdict (cors origin chain head.fields))
    else (if is_left_out policy rules origin chain head then Some (Block B8)
    else (if is_same_site_chain rules origin chain then Some (Allow A3)
    else head_verdict head))

-- the rules that allow
abbrev pub is_allow_rule : Rule → Bool
is_allow_rule A1 = true
is_allow_rule A2 = true
is_allow_rule A3 = true
is_allow_rule A4 = true
is_allow_rule A5 = true
is_allow_rule rule = false

-- the rules that block
abbrev pub is_block_rule : Rule → Bool
is_block_rule B1 = true
is_block_rule B2 = true
is_block_rule B3 = true
is_block_rule B4 = true
is_block_rule B5 = true
is_block_rule B6 = true
is_block_rule B7 = true
is_block_rule B8 = true
is_block_rule rule = false

-- a verdict allows by a rule that allows, and blocks by one that blocks
abbrev pub has_own_rule : Verdict → Bool
has_own_rule (Allow rule) = is_allow_rule rule
has_own_rule (Block rule) = is_block_rule rule
