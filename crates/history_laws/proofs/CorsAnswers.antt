-- A CORS answer that fails is the verdict of its request.
use Rattle.std.proofs.Common.{refl, ◌∙◌, ap}
use Rattle.std.specs.Prelude.{◌≡◌, ◌&&◌, Bool, List, None, Some, cond, false, true, ℕ}
use Rattle.std.specs.Option.{option_map_or}
use Rattle.cors_check.specs.Cors.{cors}
use Rattle.cors_check.specs.declared.answer.Cors.{Cors}
use Rattle.cors_check.specs.declared.answer.Cors.TheVariants.{Failed, Passed, SameOrigin}
use Rattle.history_entry.specs.declared.body.Mode.{Mode}
use Rattle.history_entry.specs.declared.body.Mode.TheVariants.{Cors as InCors, NoCors}
use Rattle.history_entry.specs.declared.entry.Entry.{Entry}
use Rattle.history_entry.specs.declared.rule.Rule.TheVariants.{B1}
use Rattle.script_model.specs.ResourceData.{ResourceData}
use Rattle.script_model.specs.ScriptData.{ScriptData}
use Rattle.script_model.specs.Verdicts.{cors_verdict, is_cors, is_failed, verdict}
use Rattle.script_model.specs.declared.verdict.Verdict.TheVariants.{Block}
use Rattle.history_rules.proofs.Apart.{and_left, and_right, from_map_or}
use Rattle.script_model.specs.Pieces.{has_ended, seen_body}
use Rattle.history_rules.specs.Redirects.{response}
use Rattle.history_rules.specs.Requests.{cors_fails, is_read_chain, request_chain, request_mode, request_origin, request_verdict, response_verdict}
use Rattle.history_steps.proofs.Requests.{verdict_by}

cors_only : (m : Mode) → is_cors m ≡ true → m ≡ InCors
cors_only InCors e = refl
cors_only NoCors e = absurd (cc)

failed_only : (c : Cors) → is_failed c ≡ true → cors_verdict c ≡ Block B1
failed_only SameOrigin e = absurd (cc)
failed_only Passed e = absurd (cc)
failed_only Failed e = refl

pub cors_blocks : (s : ScriptData) (h : List Entry) (r : ℕ) → cors_fails s h r ≡ true → request_verdict s h r ≡ Some (Block B1)
unfolding verdict cors_fails request_verdict response_verdict
cors_blocks s h r e =
    let chain : List (List ℕ) = request_chain h r in
    let x : ResourceData = response s chain in
    let failing : Bool = option_map_or (λ o. is_failed (cors o chain x.head.fields)) (request_origin h r) false in
    let tested = and_left (is_cors (request_mode h r) && is_read_chain chain) failing e in
    let in_cors : request_mode h r ≡ InCors = cors_only (request_mode h r) (and_left (is_cors (request_mode h r)) (is_read_chain chain) tested) in
    let read : is_read_chain chain ≡ true = and_right (is_cors (request_mode h r)) (is_read_chain chain) tested in
    let a = from_map_or (λ o. is_failed (cors o chain x.head.fields)) (request_origin h r) (and_right (is_cors (request_mode h r) && is_read_chain chain) failing e) in
    ap (λ m. verdict_by s (request_origin h r) chain m) in_cors
    ∙ ap (λ o. verdict_by s o chain InCors) a.1
    ∙ ap (λ b. cond b (verdict s.policy s.rules a.0 chain InCors x.head (seen_body x) (has_ended x)) None) read
    ∙ ap (λ v. Some v) (failed_only (cors a.0 chain x.head.fields) a.2)
