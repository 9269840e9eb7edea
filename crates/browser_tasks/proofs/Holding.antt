-- The facts of a ready task are there.
use Rattle.std.proofs.Common.{◌∙◌, ap, refl, subst, sym}
use Rattle.std.specs.Prelude.{◌≡◌, ◌<◌, List, None, Option, Some, is_some, option_and_then, option_map, true, ℕ}
use Rattle.std.specs.List.{AllByRecursion}
use Rattle.entry_reading.specs.Entries.{IsEntry}
use Rattle.history_entry.specs.declared.entry.Entry.{Entry}
use Rattle.history_entry.specs.declared.entry.Entry.TheVariants.{Commit, Crash, End, Exit, Head, Hop, Local, NavEnd, Opened, Order, Piece, Said, Warm}
use Rattle.page_origin.specs.declared.origin.Origin.{Origin}
use Rattle.script_model.specs.ScriptData.{ScriptData}
use Rattle.service_rule.specs.Services.{ServiceRule}
use Rattle.history_rules.specs.Documents.{actions_done, hosted, is_current, origin_of, process_of}
use Rattle.history_rules.specs.Frames.{frame_of}
use Rattle.history_rules.specs.Orders.{OrderData, order_of}
use Rattle.history_rules.specs.Requests.{is_live_request, request_document, request_origin}
use Rattle.history_rules.specs.Sights.{sight_of, sight_with}
use Rattle.history_rules.specs.declared.sight.Sight.{Sight}
use Rattle.history_steps.proofs.Current.{current_found, last_hosted}
use Rattle.history_steps.proofs.Requests.{hosted_ordered, live_document, request_hosted}
use Rattle.history_steps.proofs.Rows.{end_row, head_row, piece_row}
use Rattle.history_steps.specs.MayFollow.{MayFollow}
use Rattle.history_steps.specs.Run.{Legal}
use Rattle.kept_entries.proofs.NamedChains.{chain_read}
use Rattle.kept_entries.specs.KeptScripts.{IsKeptScript}
use Rattle.work_queue.specs.declared.task.Kind.{Kind}
use Rattle.work_queue.specs.declared.task.TaskKey.{TaskKey}
use Rattle.work_queue.specs.declared.task.TaskKey.TheVariants as keys
use Rattle.browser_tasks.proofs.Below.{act_current, delivery_below}
use Rattle.browser_tasks.proofs.Hosting.{hosted_process}
use Rattle.browser_tasks.specs.Objects.{IsDelivery, IsOfKey}
use Rattle.browser_tasks.specs.Readiness.{ChoosesWell, IsReady}
use Rattle.browser_tasks.specs.TaskData.{CanHold, CanLoad, HoldsAct, IsLegal}

mapped : {X Y : Type 0} (f : X → Y) (o : Option X) (x : X) → o ≡ Some x → is_some (option_map f o) ≡ true
mapped f None x is = absurd (cc)
mapped f (Some y) x is = refl

there : {X : Type 0} (o : Option X) (x : X) → o ≡ Some x → is_some o ≡ true
there None x is = absurd (cc)
there (Some y) x is = refl

sees : (s : ScriptData) (h : List Entry) (d : ℕ) (o : Option Origin) (sight : Sight) → option_map (sight_with s h d) o ≡ Some sight → sight.document ≡ d
sees s h d None sight is = absurd (cc)
sees s h d (Some origin) sight is = cc

pub sight_document : (s : ScriptData) (h : List Entry) (d : ℕ) (sight : Sight) → Some sight ≡ sight_of s h d → sight.document ≡ d
unfolding sight_of
sight_document s h d sight is = sees s h d (origin_of h d) sight (sym is)

pub holds_act : (s : ScriptData) (h : List Entry) (d k : ℕ) (sight : Sight) → Some sight ≡ sight_of s h d → k ≡ actions_done h d → HoldsAct s h (record { sight = sight; action = k })
holds_act s h d k sight is number =
    let same : sight.document ≡ d = sight_document s h d sight is in
    record { sight = ap (sight_of s h) same ∙ sym is; action = ap (actions_done h) same ∙ sym number }

module _ (rule : ServiceRule) (s : ScriptData) (h : List Entry) (legal : Legal rule s h) where
  hosted_origin : (p d : ℕ) → hosted h p d ≡ true → is_some (origin_of h d) ≡ true
  unfolding origin_of
  hosted_origin p d host =
      let order = hosted_ordered rule s h legal p d host in
      mapped (λ (o : OrderData). o.origin) (order_of h d) order.0 order.1

  current_sight : (d : ℕ) → is_current s h d ≡ true → is_some (sight_of s h d) ≡ true
  unfolding sight_of
  current_sight d current =
      let found = current_found s h d current in
      let origin = hosted_origin found.process d (last_hosted s h (frame_of s h d) found.process d found.last) in
      mapped_some (origin_of h d) origin
    where
      mapped_some : (o : Option Origin) → is_some o ≡ true → is_some (option_map (sight_with s h d) o) ≡ true
      mapped_some None is = absurd (cc)
      mapped_some (Some x) is = refl

  delivery_live : (r : ℕ) (e : Entry) → IsDelivery r e → MayFollow rule s h e → is_live_request s h r ≡ true
  delivery_live r (Head q why) is may = subst (λ x. is_live_request s h x ≡ true) is (head_row rule s h q why may).live
  delivery_live r (Piece q i bytes) is may = subst (λ x. is_live_request s h x ≡ true) is (piece_row rule s h q i bytes may).live
  delivery_live r (End q how) is may = subst (λ x. is_live_request s h x ≡ true) is (end_row rule s h q how may).0
  delivery_live r e is may = absurd is

  can_load : (script : IsKeptScript s) → AllByRecursion IsEntry h → (r : ℕ) (e : Entry) → IsDelivery r e → MayFollow rule s h e → CanLoad h r
  unfolding request_origin
  can_load script kept r e is may =
      let document = live_document s h r (delivery_live r e is may) in
      let d : ℕ = document.0 in
      let host = request_hosted rule s h legal r d document.1 in
      let process = hosted_process h host.0 d host.1 in
      record {
        process = there (option_and_then (process_of h) (request_document h r)) process.0 (ap (option_and_then (process_of h)) document.1 ∙ process.1);
        origin = ap (λ o. is_some (option_and_then (origin_of h) o)) document.1 ∙ hosted_origin host.0 d host.1;
        chain = chain_read rule s script h legal kept r (delivery_below rule s h legal r e is may);
      }

-- whoever is ready can hold its facts
pub can_hold : (s : ScriptData) (h : List Entry) (out : List TaskKey) (kind : Kind) (key : TaskKey) → IsLegal s h → IsKeptScript s → AllByRecursion IsEntry h
    → ChoosesWell s h out kind (Some key) → CanHold s h key
can_hold s h out kind (keys.Browser job) legal script kept chosen = tt
can_hold s h out kind (keys.Act d) legal script kept chosen =
    let ready = (chosen legal.rule legal.legal).ready in
    current_sight legal.rule s h legal.legal d (act_current legal.rule s h legal.legal d ready.entry ready.is_of ready.follows)
can_hold s h out kind (keys.Load r) legal script kept chosen =
    let ready = (chosen legal.rule legal.legal).ready in
    can_load legal.rule s h legal.legal script kept r ready.entry ready.is_of.0 ready.follows
