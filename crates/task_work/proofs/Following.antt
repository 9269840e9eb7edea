-- What may follow a history at which a load stands, by the verdict on its whole response and the pieces that were delivered.
use Rattle.std.proofs.Common.{ap, arith, le-leb, refl, ◌∙◌}
use Rattle.std.specs.Prelude.{◌≡◌, ◌≤◌, ◌&&◌, ◌∷◌, [], Bool, List, None, Option, Some, cond, false, is_none, is_some, length, nat_le, not, option_and_then, option_map, slice_get, suc, true, zero, ℕ}
use Rattle.history_entry.specs.declared.entry.EndHow.{EndHow}
use Rattle.history_entry.specs.declared.entry.EndHow.TheVariants.{Blocked as WasBlocked, Failed as WasCut}
use Rattle.history_entry.specs.declared.entry.Entry.{Entry}
use Rattle.history_entry.specs.declared.entry.Entry.TheVariants.{End, Head, Piece}
use Rattle.history_entry.specs.declared.rule.Rule.{Rule}
use Rattle.history_entry.specs.declared.rule.Rule.TheVariants.{N7}
use Rattle.history_rules.proofs.Apart.{and_both}
use Rattle.history_rules.specs.Redirects.{is_redirect, response}
use Rattle.history_rules.specs.Requests.{delivered, has_head, is_live_request, is_read_chain, request_chain, request_mode, request_verdict, response_verdict}
use Rattle.history_steps.proofs.Requests.{IsHeaded, head_states, verdict_by}
use Rattle.history_steps.proofs.TheNexts.{from_end, from_head, from_piece}
use Rattle.history_steps.specs.Deliveries.{body_end, end_how, end_next, head_by, head_next, piece_next, redirect_end, wire_end}
use Rattle.history_steps.specs.MayFollow.{MayFollow}
use Rattle.loader.specs.Loads.{bytes_of}
use Rattle.read_verdict.specs.Cases.{verdict_on}
use Rattle.script_model.specs.Pieces.{has_ended, pieces, seen_body}
use Rattle.script_model.specs.ResourceData.{fails_at_once}
use Rattle.script_model.specs.ScriptData.{ScriptData}
use Rattle.script_model.specs.Verdicts.{verdict}
use Rattle.script_model.specs.declared.verdict.Verdict.{Verdict}
use Rattle.script_model.specs.declared.verdict.Verdict.TheVariants.{Allow, Block}
use Rattle.service_rule.specs.Services.{ServiceRule}
use Rattle.work_queue.specs.declared.task.LoadTask.{LoadTask}
use Rattle.browser_tasks.specs.Objects.{IsDelivery}
use Rattle.task_work.proofs.Requests.{by_load_from}
use Rattle.task_work.specs.Claimed.{case_of}
use Rattle.task_work.specs.Stands.{StandsAt, response_of, script_of}
use Rattle.task_work.specs.declared.load.TaskLoad.{TaskLoad}

none_there : {X : Type 0} (xs : List X) (i : ℕ) → slice_get xs i ≡ None → length xs ≤ i
none_there [] i is = omega arith
none_there (x ∷ xs) zero is = absurd (cc)
none_there (x ∷ xs) (suc i) is = let le = none_there xs i is in omega (arith, le)

not_of : (b : Bool) → b ≡ false → not b ≡ true
not_of b is = ap not is

pub none_is : {A : Type 0} (o : Option A) → is_none o ≡ not (is_some o)
none_is None = refl
none_is (Some x) = refl

taken : (b : Bool) (x : Option Entry) → b ≡ true → cond b x None ≡ x
taken b x is = ap (λ t. cond {A = Option Entry} t x None) is

read_verdict_is : (s : ScriptData) (task : LoadTask) → is_read_chain task.chain ≡ true
    → response_verdict s task.origin task.chain task.mode (response s task.chain) ≡ verdict_on (case_of s task) (bytes_of (pieces (response s task.chain))) (not (is_some (response s task.chain).fail_after))
unfolding response_verdict seen_body
read_verdict_is s task read =
    let body : List ℕ = bytes_of (pieces (response s task.chain)) in
    ap (λ b. cond b (verdict s.policy s.rules task.origin task.chain task.mode (response s task.chain).head body (has_ended (response s task.chain))) None) read
    ∙ ap (λ e. verdict s.policy s.rules task.origin task.chain task.mode (response s task.chain).head body e) (none_is (response s task.chain).fail_after)

module _ (rule : ServiceRule) (h : List Entry) (load : TaskLoad) (stands : StandsAt rule h load) where
  abbrev s : ScriptData
  s = script_of load

  abbrev r : ℕ
  r = load.task.request

  -- the verdict on all that its wire carries is that of the request
  pub verdict_is : request_verdict s h r ≡ verdict_on (case_of s load.task) (bytes_of (pieces (response_of load))) (not (is_some (response_of load).fail_after))
  unfolding request_verdict
  verdict_is =
      let holds = stands.holds in
      ap (λ o. verdict_by s o (request_chain h r) (request_mode h r)) holds.origin
      ∙ ap (λ c. verdict_by s (Some load.task.origin) c (request_mode h r)) holds.chain
      ∙ ap (λ m. verdict_by s (Some load.task.origin) load.task.chain m) holds.mode
      ∙ read_verdict_is s load.task stands.read

  response_is : response s (request_chain h r) ≡ response_of load
  response_is = ap (λ c. response s c) stands.holds.chain

  pub head_follows : (why : Rule) → has_head h r ≡ false → request_verdict s h r ≡ Some (Allow why) → MayFollow rule s h (Head r why)
  unfolding head_next
  head_follows why none allowed =
      let by = by_load_from s h r stands.by_load in
      let passes = and_both _ _ (and_both _ _ (and_both _ _ stands.live (not_of (has_head h r) none)) (not_of (fails_at_once (response s (request_chain h r))) by.arrives)) (not_of (is_redirect (response s (request_chain h r))) by.stays) in
      let next : head_next s h r ≡ Some (Head r why) =
      taken (is_live_request s h r && not (has_head h r) && not (fails_at_once (response s (request_chain h r))) && not (is_redirect (response s (request_chain h r))))
      (option_and_then (head_by r) (request_verdict s h r)) passes ∙ ap (option_and_then (head_by r)) allowed in
      from_head rule s h r (Head r why) next

  pub piece_follows : (bytes : List ℕ) → has_head h r ≡ true → slice_get (pieces (response_of load)) (delivered h r) ≡ Some bytes → MayFollow rule s h (Piece r (delivered h r) bytes)
  unfolding piece_next
  piece_follows bytes some at =
      let there : slice_get (pieces (response s (request_chain h r))) (delivered h r) ≡ Some bytes = ap (λ x. slice_get (pieces x) (delivered h r)) response_is ∙ at in
      let next : piece_next s h r ≡ Some (Piece r (delivered h r) bytes) =
      taken (is_live_request s h r && has_head h r) (option_map (Piece r (delivered h r)) (slice_get (pieces (response s (request_chain h r))) (delivered h r))) (and_both _ _ stands.live some)
      ∙ ap (option_map (Piece r (delivered h r))) there in
      from_piece rule s h r (Piece r (delivered h r) bytes) next

  pub end_follows : (how : EndHow) → body_end s h r (request_verdict s h r) ≡ Some how → MayFollow rule s h (End r how)
  unfolding end_next end_how
  end_follows how ends =
      let by = by_load_from s h r stands.by_load in
      let ends_so : end_how s h r ≡ Some how =
      ap (λ b. cond b (Some (WasCut N7)) (cond (is_redirect (response s (request_chain h r))) (redirect_end s h r) (body_end s h r (request_verdict s h r)))) by.arrives
      ∙ ap (λ b. cond b (redirect_end s h r) (body_end s h r (request_verdict s h r))) by.stays ∙ ends in
      let next : end_next s h r ≡ Some (End r how) = taken (is_live_request s h r) (option_map (End r) (end_how s h r)) stands.live ∙ ap (option_map (End r)) ends_so in
      from_end rule s h r (End r how) next

  -- a response that is blocked, and one that settles nothing
  pub blocked_follows : (why : Rule) → request_verdict s h r ≡ Some (Block why) → MayFollow rule s h (End r (WasBlocked why))
  unfolding body_end
  blocked_follows why blocked = end_follows (WasBlocked why) (ap (body_end s h r) blocked)

  pub open_follows : request_verdict s h r ≡ None → MayFollow rule s h (End r (WasCut N7))
  unfolding body_end
  open_follows settles_none = end_follows (WasCut N7) (ap (body_end s h r) settles_none)

  headed_state : has_head h r ≡ true → IsHeaded s h r
  headed_state some = (head_states rule s h stands.legal r).headed some

  -- behind the head and all pieces, the end of the wire
  pub wire_end_follows : has_head h r ≡ true → length (pieces (response_of load)) ≤ delivered h r → MayFollow rule s h (End r (wire_end (response_of load)))
  unfolding body_end
  wire_end_follows some all =
      let headed = headed_state some in
      let enough : nat_le (length (pieces (response s (request_chain h r)))) (delivered h r) ≡ true = ap (λ x. nat_le (length (pieces x)) (delivered h r)) response_is ∙ le-leb _ _ all in
      end_follows (wire_end (response_of load))
      (ap (body_end s h r) headed.allowed
      ∙ ap (λ b. cond {A = Option EndHow} b (Some (wire_end (response s (request_chain h r)))) None) (and_both _ _ some enough)
      ∙ ap (λ x. Some (wire_end x)) response_is)

  -- something may follow
  pub record IsDelivered : Type 0 where
    pub entry : Entry
    pub is_of : IsDelivery r entry
    pub follows : MayFollow rule s h entry

  pub some_follows : IsDelivered
  some_follows = by_head (has_head h r) refl
    where
      by_place : has_head h r ≡ true → (o : Option (List ℕ)) → slice_get (pieces (response_of load)) (delivered h r) ≡ o → IsDelivered
      by_place some (Some bytes) at = record { entry = Piece r (delivered h r) bytes; is_of = refl; follows = piece_follows bytes some at }
      by_place some None at = record { entry = End r (wire_end (response_of load)); is_of = refl; follows = wire_end_follows some (none_there (pieces (response_of load)) (delivered h r) at) }

      by_verdict : has_head h r ≡ false → (v : Option Verdict) → request_verdict s h r ≡ v → IsDelivered
      by_verdict none (Some (Allow why)) is = record { entry = Head r why; is_of = refl; follows = head_follows why none is }
      by_verdict none (Some (Block why)) is = record { entry = End r (WasBlocked why); is_of = refl; follows = blocked_follows why is }
      by_verdict none None is = record { entry = End r (WasCut N7); is_of = refl; follows = open_follows is }

      by_head : (b : Bool) → has_head h r ≡ b → IsDelivered
      by_head true some = by_place some (slice_get (pieces (response_of load)) (delivered h r)) refl
      by_head false none = by_verdict none (request_verdict s h r) refl
