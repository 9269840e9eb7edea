-- The verdict by the rows that need no byte and those that do; that it stays; and which rules it has.
use Rattle.std.proofs.Common.{◌≡◌, ◌≢◌, ℕ, Bool, true, false, Option, Some, None, List, ◌++◌, refl, sym, ap, ◌∙◌}
use Rattle.std.specs.Prelude.{if◌then◌else◌}
use Rattle.std.specs.Option.{option_or, option_map_or}
use Rattle.site_url.specs.Sites.{SiteRuleData}
use Rattle.page_origin.specs.declared.origin.Origin.{Origin}
use Rattle.mime_kind.specs.declared.head.Head.{Head}
use Rattle.mime_kind.specs.declared.kind.Kind.{Kind}
use Rattle.mime_kind.specs.Kinds.{kind_of}
use Rattle.corb_sniff.specs.declared.kind.Sniffed.{Sniffed}
use Rattle.corb_sniff.specs.declared.kind.Sniffed.TheVariants as found
use Rattle.corb_sniff.specs.declared.kind.Answer.{Answer}
use Rattle.corb_sniff.specs.declared.kind.Answer.TheVariants.{More, Confirmed, Clear}
use Rattle.corb_sniff.proofs.Settled.{answer_stays}
use Rattle.cors_check.specs.declared.answer.Cors.{Cors}
use Rattle.cors_check.specs.declared.answer.Cors.TheVariants.{SameOrigin, Passed, Failed}
use Rattle.history_entry.specs.declared.body.Mode.{Mode}
use Rattle.history_entry.specs.declared.policy.Policy.{Policy}
use Rattle.history_entry.specs.declared.rule.Rule.TheVariants.{A3, A4, A5, B2, B3, B8}
use Rattle.script_model.specs.declared.verdict.Verdict.{Verdict}
use Rattle.script_model.specs.declared.verdict.Verdict.TheVariants.{Allow, Block}
use Rattle.script_model.specs.Verdicts.{is_cors, is_left_out, is_same_site_chain, is_protected_or_plain, cors_verdict, head_verdict, confirmed_verdict, sniffed_verdict, sniff_kind, bytes_verdict, body_verdict, verdict, early_verdict, has_own_rule}

by_rows : (in_cors left_out same_site : Bool) (a b c : Verdict) (head bytes : Option Verdict) → (if in_cors then Some a else (if left_out then Some b else (if same_site then Some c else option_or head bytes))) ≡ option_or (if in_cors then Some a else (if left_out then Some b else (if same_site then Some c else head))) bytes
by_rows true left_out same_site a b c head bytes = refl
by_rows false true same_site a b c head bytes = refl
by_rows false false true a b c head bytes = refl
by_rows false false false a b c head bytes = refl

-- a verdict is that of the rows that need no byte, or else that of the bytes
pub verdict_by_early : (policy : Policy) (rules : SiteRuleData) (origin : Origin) (chain : List (List ℕ)) (mode : Mode) (head : Head) (bytes : List ℕ) (ended : Bool) → verdict policy rules origin chain mode head bytes ended ≡ option_or (early_verdict policy rules origin chain mode head) (bytes_verdict (kind_of head.fields) bytes ended)
unfolding verdict early_verdict body_verdict
verdict_by_early policy rules origin chain mode head bytes ended =
    by_rows (is_cors mode) (is_left_out policy rules origin chain head) (is_same_site_chain rules origin chain) _ _ _ _ _

not_more : (kind : Kind) (answer : Answer) (v : Verdict) → sniffed_verdict kind answer ≡ Some v → answer ≢ More
not_more kind answer v h = λ more. let none : sniffed_verdict kind answer ≡ None = ap (sniffed_verdict kind) more in cc

bytes_stay : (kind : Kind) (bytes more : List ℕ) (ended : Bool) (v : Verdict) → bytes_verdict kind bytes false ≡ Some v → bytes_verdict kind (bytes ++ more) ended ≡ Some v
unfolding bytes_verdict
bytes_stay kind bytes more ended v h =
    ap (sniffed_verdict kind) (answer_stays (sniff_kind kind) bytes more ended (not_more kind _ v h)) ∙ h

either_stays : (early bytes more : Option Verdict) (v : Verdict) → (bytes ≡ Some v → more ≡ Some v) → option_or early bytes ≡ Some v → option_or early more ≡ Some v
either_stays (Some w) bytes more v stays h = h
either_stays None bytes more v stays h = stays h

-- a verdict that is settled is that of every list that begins with these bytes
pub verdict_stays : (policy : Policy) (rules : SiteRuleData) (origin : Origin) (chain : List (List ℕ)) (mode : Mode) (head : Head) (bytes more : List ℕ) (ended : Bool) (v : Verdict) → verdict policy rules origin chain mode head bytes false ≡ Some v → verdict policy rules origin chain mode head (bytes ++ more) ended ≡ Some v
verdict_stays policy rules origin chain mode head bytes more ended v h =
    verdict_by_early policy rules origin chain mode head (bytes ++ more) ended
    ∙ either_stays (early_verdict policy rules origin chain mode head) _ _ v (bytes_stay (kind_of head.fields) bytes more ended v)
    (sym (verdict_by_early policy rules origin chain mode head bytes false) ∙ h)

-- the verdict, if there is one, has its own rule
abbrev owns : Option Verdict → Bool
owns v = option_map_or has_own_rule v true

owns_cors : (answer : Cors) → has_own_rule (cors_verdict answer) ≡ true
owns_cors SameOrigin = refl
owns_cors Passed = refl
owns_cors Failed = refl

owns_confirmed : (sniffed : Sniffed) → has_own_rule (confirmed_verdict sniffed) ≡ true
owns_confirmed found.Html = refl
owns_confirmed found.Xml = refl
owns_confirmed found.Json = refl
owns_confirmed found.Prefix = refl

owns_clear : (t : Bool) → has_own_rule (if t then Allow A5 else Allow A4) ≡ true
owns_clear true = refl
owns_clear false = refl

pub owns_sniffed : (kind : Kind) (answer : Answer) → owns (sniffed_verdict kind answer) ≡ true
owns_sniffed kind (Confirmed sniffed) = owns_confirmed sniffed
owns_sniffed kind Clear = owns_clear (is_protected_or_plain kind)
owns_sniffed kind More = refl

owns_rows : (in_cors left_out same_site partial no_sniff : Bool) (answer : Cors) → owns (if in_cors then Some (cors_verdict answer) else (if left_out then Some (Block B8) else (if same_site then Some (Allow A3) else (if partial then Some (Block B2) else (if no_sniff then Some (Block B3) else None))))) ≡ true
owns_rows true left_out same_site partial no_sniff answer = owns_cors answer
owns_rows false true same_site partial no_sniff answer = refl
owns_rows false false true partial no_sniff answer = refl
owns_rows false false false true no_sniff answer = refl
owns_rows false false false false true answer = refl
owns_rows false false false false false answer = refl

pub owns_early : (policy : Policy) (rules : SiteRuleData) (origin : Origin) (chain : List (List ℕ)) (mode : Mode) (head : Head) → owns (early_verdict policy rules origin chain mode head) ≡ true
unfolding early_verdict head_verdict
owns_early policy rules origin chain mode head =
    owns_rows (is_cors mode) (is_left_out policy rules origin chain head) (is_same_site_chain rules origin chain) _ _ _

owns_either : (early bytes : Option Verdict) → owns early ≡ true → owns bytes ≡ true → owns (option_or early bytes) ≡ true
owns_either (Some v) bytes first second = first
owns_either None bytes first second = second

owns_bytes : (kind : Kind) (bytes : List ℕ) (ended : Bool) → owns (bytes_verdict kind bytes ended) ≡ true
unfolding bytes_verdict
owns_bytes kind bytes ended = owns_sniffed kind _

-- a verdict allows by a rule that allows, and blocks by one that blocks
pub verdict_owns : (policy : Policy) (rules : SiteRuleData) (origin : Origin) (chain : List (List ℕ)) (mode : Mode) (head : Head) (bytes : List ℕ) (ended : Bool) (v : Verdict) → verdict policy rules origin chain mode head bytes ended ≡ Some v → has_own_rule v ≡ true
verdict_owns policy rules origin chain mode head bytes ended v h =
    ap owns (sym h ∙ verdict_by_early policy rules origin chain mode head bytes ended)
    ∙ owns_either (early_verdict policy rules origin chain mode head) _ (owns_early policy rules origin chain mode head) (owns_bytes (kind_of head.fields) bytes ended)
