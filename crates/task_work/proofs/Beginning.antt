-- A load that was made of a claimed task stands within each history whose task it is: where its head is there already, at the
-- beginning before that.
use Rattle.std.proofs.Common.{ap, arith, inl, inr, refl, subst, sym, ◌∙◌}
use Rattle.std.proofs.Math.Seq.{take-length}
use Rattle.std.proofs.lemmas.Option.{slice_get_within}
use Rattle.std.specs.Prelude.{◌≡◌, ◌≤◌, ◌++◌, [], List, None, Option, Some, false, is_some, length, take, true, ℕ}
use Rattle.browser_io.specs.Scripted.{ScriptedWire}
use Rattle.history_entry.specs.declared.entry.Entry.{Entry}
use Rattle.history_entry.specs.declared.entry.Entry.TheVariants.{Head}
use Rattle.history_rules.proofs.Apart.{from_is_some, true_or_false}
use Rattle.history_rules.proofs.Growth.{match_found}
use Rattle.history_rules.specs.Requests.{has_head, head_in, head_of, is_live_request}
use Rattle.history_steps.proofs.Induction.{legal_take}
use Rattle.history_steps.proofs.Requests.{head_form, head_states}
use Rattle.history_steps.proofs.Rows.{head_row}
use Rattle.history_steps.specs.MayFollow.{MayFollow}
use Rattle.history_steps.specs.Run.{Legal}
use Rattle.loader.specs.Loads.{HasLoaded, IsFresh}
use Rattle.read_verdict.specs.ClearedData.{ClearedData}
use Rattle.script_model.specs.Pieces.{pieces}
use Rattle.script_model.specs.ResourceData.{ResourceData}
use Rattle.script_model.specs.ScriptData.{ScriptData}
use Rattle.service_rule.specs.Services.{ServiceRule}
use Rattle.work_queue.specs.declared.task.Task.TheVariants.{Load}
use Rattle.browser_tasks.specs.Objects.{is_taken_at_once}
use Rattle.browser_tasks.specs.TaskData.{HoldsLoad}
use Rattle.task_work.proofs.Requests.{by_load_to, delivery_live, holds_before}
use Rattle.task_work.specs.Claimed.{IsReadTask, IsTaskOf, case_of}
use Rattle.task_work.specs.Stands.{StandsAt, StandsWithin, response_of, script_of}
use Rattle.task_work.specs.declared.load.TaskLoad.{TaskLoad}

-- nothing was loaded so far, and the wire is that of the response
pub record IsFreshLoad (load : TaskLoad) : Type 0 where
  pub fresh : IsFresh load.load.progress
  pub loaded : HasLoaded load.load.progress (case_of (script_of load) load.task) []
  pub left : load.wire.left ≡ pieces (response_of load)
  pub fails : load.wire.fails ≡ is_some (response_of load).fail_after

-- it was made so, over the wire of this resource, which is the response
pub fresh_load : (load : TaskLoad) (resource : ResourceData) → IsFresh load.load.progress → HasLoaded load.load.progress (case_of (script_of load) load.task) []
    → load.wire ≡ record { left = pieces resource; fails = is_some resource.fail_after; faults = 0 } → resource ≡ response_of load → IsFreshLoad load
fresh_load load resource fresh loaded wire found = record {
  fresh = fresh;
  loaded = loaded;
  left = ap (λ (w : ScriptedWire). w.left) wire ∙ ap (λ (r : ResourceData). pieces r) found;
  fails = ap (λ (w : ScriptedWire). w.fails) wire ∙ ap (λ (r : ResourceData). is_some r.fail_after) found;
}

none_headed : (o : Option ClearedData) → o ≡ None → is_some o ≡ false
none_headed None is = refl
none_headed (Some x) is = absurd (cc)

module _ (rule : ServiceRule) (load : TaskLoad) (fresh : IsFreshLoad load) where
  abbrev s : ScriptData
  s = script_of load

  abbrev r : ℕ
  r = load.task.request

  -- before the head
  begins_at : (g : List Entry) → Legal rule s g → is_live_request s g r ≡ true → HoldsLoad g load.task → IsReadTask (Load load.task) → is_taken_at_once s g r ≡ false → has_head g r ≡ false
      → StandsAt rule g load
  begins_at g legal live holds read by_load none =
      let begun = fresh.fresh in record {
        legal = legal;
        live = live;
        holds = holds;
        read = read;
        by_load = by_load;
        out = [];
        count = (head_states rule s g legal r).unheaded none;
        headed = none_headed load.load.progress.cleared begun.cleared ∙ sym none;
        loaded = fresh.loaded;
        wire = record {
          pieces = ap (λ held. ([] ++ held) ++ load.wire.left) begun.held ∙ fresh.left;
          end = λ ended. absurd (let open_end = begun.open_end in cc);
        };
        fails = fresh.fails;
      }

  module _ (h : List Entry) (claim : IsTaskOf rule s h (Load load.task)) where
    -- where the head is there
    begins_before : has_head h r ≡ true → StandsWithin rule h load
    unfolding has_head head_of
    begins_before some =
        let why = from_is_some (head_of h r) some in
        let at = match_found (head_in r) h why.0 why.1 in
        let may : MayFollow rule s (take at.place h) (Head r why.0) = subst (λ x. MayFollow rule s (take at.place h) x) (head_form r at.item why.0 at.gives) (claim.legal at.place at.item at.here) in
        let row = head_row rule s (take at.place h) r why.0 may in
        let below = slice_get_within h at.place at.item at.here in
        let within : at.place ≤ length h = omega (arith, below) in record {
          place = at.place;
          within = within;
          at = begins_at (take at.place h) (legal_take rule s h at.place claim.legal) row.live
              (holds_before rule s h claim.legal at.place within load.task row.live row.stays claim.holds) claim.read
              (by_load_to s (take at.place h) r (record { arrives = row.arrives; stays = row.stays })) row.headless;
        }

    -- where it is not
    pub begins_there : has_head h r ≡ false → StandsAt rule h load
    begins_there none =
        begins_at h claim.legal (delivery_live rule s h claim.legal r claim.entry claim.is_of.0 claim.follows) claim.holds claim.read claim.is_of.1 none

    pub begins : StandsWithin rule h load
    begins = elim (true_or_false (has_head h r)) [
      | inl some ↦ begins_before some
      | inr none ↦ record {
        place = length h;
        within = omega arith;
        at = subst (λ g. StandsAt rule g load) (sym (take-length h)) (begins_there none);
      }
    ]
