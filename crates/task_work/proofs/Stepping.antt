-- A step of a load, at a history at which the load stands.
use Rattle.std.proofs.Common.{ap, arith, inl, inr, length-append, refl, subst, sym, ◌∙◌}
use Rattle.std.proofs.lemmas.Bool.{eq-eqb}
use Rattle.std.specs.Prelude.{◌≡◌, ◌≤◌, ◌+◌, ◌++◌, ◌∷◌, [], Bool, Err, IfOk, List, None, Ok, Option, Result, Some, cond, false, is_some, length, not, slice_get, take, true, ℕ}
use Rattle.browser_io.specs.Scripted.{ScriptedWire}
use Rattle.browser_io.specs.Wires.{IsUsedUp}
use Rattle.history_entry.specs.declared.entry.EndHow.{EndHow}
use Rattle.history_entry.specs.declared.entry.EndHow.TheVariants.{Blocked as WasBlocked, Failed as WasCut, Whole as WasWhole}
use Rattle.history_entry.specs.declared.entry.Entry.{Entry}
use Rattle.history_entry.specs.declared.entry.Entry.TheVariants.{End as EndEntry, Head as HeadEntry, Piece as PieceEntry}
use Rattle.history_entry.specs.declared.rule.Rule.{Rule}
use Rattle.history_entry.specs.declared.rule.Rule.TheVariants.{N7}
use Rattle.history_rules.proofs.Apart.{some_same, true_or_false}
use Rattle.history_rules.proofs.Growth.{count_more, count_still, match_new, match_still}
use Rattle.history_rules.specs.Redirects.{is_redirect, response}
use Rattle.history_rules.specs.Requests.{delivered, has_head, head_in, head_of, is_live_request, is_piece_of, request_chain, request_verdict}
use Rattle.history_steps.proofs.Induction.{legal_more}
use Rattle.history_steps.proofs.Requests.{head_states}
use Rattle.history_steps.proofs.Rows.{head_row, piece_row}
use Rattle.history_steps.specs.Deliveries.{wire_end}
use Rattle.history_steps.specs.MayFollow.{MayFollow}
use Rattle.history_steps.specs.Run.{Legal}
use Rattle.loader.proofs.Whole.{steps_say_of_whole}
use Rattle.loader.specs.Loads.{HasLoaded, IsWireOf, bytes_of}
use Rattle.loader.specs.Steps.{GoesOn, Says, out_after}
use Rattle.loader.specs.Whole.{IsStepOver, Moment, SaysOfWhole, headed_after, is_headed}
use Rattle.loader.specs.declared.load.Load.{Load}
use Rattle.loader.specs.declared.progress.Progress.{Progress}
use Rattle.read_verdict.specs.Cases.{Case, verdict_on}
use Rattle.read_verdict.specs.ClearedData.{ClearedData}
use Rattle.read_verdict.specs.declared.part.Part.{Part}
use Rattle.read_verdict.specs.declared.step.Step.{Step}
use Rattle.read_verdict.specs.declared.step.Step.TheVariants.{Blocked, Fault, Gone, Head, Held, Piece, Whole}
use Rattle.script_model.specs.Pieces.{pieces}
use Rattle.script_model.specs.ResourceData.{fails_at_once}
use Rattle.script_model.specs.ScriptData.{ScriptData}
use Rattle.script_model.specs.declared.verdict.Verdict.{Verdict}
use Rattle.script_model.specs.declared.verdict.Verdict.TheVariants.{Allow, Block}
use Rattle.service_rule.specs.Services.{ServiceRule}
use Rattle.browser_tasks.specs.Outcomes.{CanFollow, IsCleared, IsOfStep, has_more}
use Rattle.browser_tasks.specs.TaskData.{HoldsLoad}
use Rattle.task_work.proofs.Following.{blocked_follows, head_follows, none_is, open_follows, piece_follows, verdict_is, wire_end_follows}
use Rattle.task_work.proofs.Prefixes.{longer, take_twice}
use Rattle.task_work.proofs.Requests.{by_load_from, by_load_to, head_live, holds_later, piece_live}
use Rattle.task_work.specs.Claimed.{case_of}
use Rattle.task_work.specs.Stands.{StandsAt, response_of, script_of}
use Rattle.task_work.specs.Steps.{StepsAt, StepsFrom, TellsResponse, outcome_of}
use Rattle.task_work.specs.declared.load.TaskLoad.{TaskLoad}

-- what the loader says of a step over the wire of a script
pub record LoadSteps {E : Type 0} (old new : Progress) (before after : ScriptedWire) (result : Result Step E) : Type 0 where
  pub says : (case : Case) (out : List (List ℕ)) → HasLoaded old case out → IfOk result (Says case out old new)
  pub goes_on : (case : Case) (out : List (List ℕ)) → HasLoaded old case out → IfOk result (λ step. GoesOn step → HasLoaded new case (out_after out step))
  pub wire : (out all : List (List ℕ)) → IsWireOf old out (Some before.left) before.fails all → IfOk result (λ step. IsWireOf new (out_after out step) (Some after.left) after.fails all)
  pub used_up : result ≡ Ok Fault → IsUsedUp (Some before.left) before.fails true
  pub unmoved : result ≡ Ok Fault → Some after.left ≡ Some before.left
  pub steady : after.fails ≡ before.fails

-- the entry of a head, and that of a piece
head_entry : (r : ℕ) (cleared : ClearedData) (e : Entry) → IsOfStep r (Head cleared) e → e ≡ HeadEntry r cleared.rule
head_entry r cleared (HeadEntry q why) is = ap (λ x. HeadEntry x why) is.0 ∙ ap (HeadEntry r) is.1
head_entry r cleared (PieceEntry q i bytes) is = absurd is.1
head_entry r cleared (EndEntry q how) is = absurd is.1
head_entry r cleared e is = absurd is

piece_entry : (r : ℕ) (part : Part) (e : Entry) → IsOfStep r (Piece part) e → e ≡ PieceEntry r part.index part.bytes
piece_entry r part (HeadEntry q why) is = absurd is.1
piece_entry r part (PieceEntry q i bytes) is = ap (λ x. PieceEntry x i bytes) is.0 ∙ ap (λ j. PieceEntry r j bytes) is.1.0 ∙ ap (PieceEntry r part.index) is.1.1
piece_entry r part (EndEntry q how) is = absurd is.1
piece_entry r part e is = absurd is

module _ {E : Type 0} (old : TaskLoad) (load : Load) (wire : ScriptedWire) (step : Step) (steps : LoadSteps {E = E} old.load.progress load.progress old.wire wire (Ok step))
    (rule : ServiceRule) (h : List Entry) (stands : StandsAt rule h old) where
  abbrev new : TaskLoad
  new = record { script = old.script; task = old.task; load = load; wire = wire }

  abbrev s : ScriptData
  s = script_of old

  abbrev r : ℕ
  r = old.task.request

  abbrev all : List (List ℕ)
  all = pieces (response_of old)

  abbrev m : Moment
  m = record { case = case_of s old.task; all = all; fails = old.wire.fails; headed = has_head h r; out = stands.out }

  wire_next : IsWireOf load.progress (out_after stands.out step) (Some wire.left) wire.fails all
  wire_next = steps.wire stands.out all stands.wire

  loaded_next : GoesOn step → HasLoaded load.progress (case_of s old.task) (out_after stands.out step)
  loaded_next on = steps.goes_on (case_of s old.task) stands.out stands.loaded on

  over : IsStepOver m old.load.progress load.progress old.wire.left wire.left step
  over = record {
    loaded = stands.loaded;
    headed = stands.headed;
    says = steps.says (case_of s old.task) stands.out stands.loaded;
    wire_before = stands.wire;
    wire = subst (λ (f : Bool). IsWireOf load.progress (out_after stands.out step) (Some wire.left) f all) steps.steady wire_next;
    used_up = λ is. (let u = steps.used_up (ap Ok is) in (some_same (steps.unmoved (ap Ok is)) ∙ u.0, u.1));
  }

  said : SaysOfWhole m step
  said = (steps_say_of_whole m old.load.progress load.progress old.wire.left wire.left step over).0

  headed_next : GoesOn step → is_headed load.progress ≡ headed_after (has_head h r) step
  headed_next on = (steps_say_of_whole m old.load.progress load.progress old.wire.left wire.left step over).1 on

  -- ---- what the response comes to may follow

  verdict_by : (v : Option Verdict) → verdict_on (case_of s old.task) (bytes_of all) (not old.wire.fails) ≡ v → request_verdict s h r ≡ v
  verdict_by v is = verdict_is rule h old stands ∙ ap (λ f. verdict_on (case_of s old.task) (bytes_of all) (not f)) (sym stands.fails) ∙ is

  wire_end_by : (fails : Bool) → old.wire.fails ≡ fails → wire_end (response_of old) ≡ cond fails (WasCut N7) WasWhole
  wire_end_by fails is =
      ap (λ b. cond b WasWhole (WasCut N7)) (none_is (response_of old).fail_after ∙ ap not (sym stands.fails ∙ is)) ∙ turned fails
    where
      turned : (b : Bool) → cond (not b) WasWhole (WasCut N7) ≡ cond b (WasCut N7) WasWhole
      turned true = refl
      turned false = refl

  all_out : stands.out ≡ all → length all ≤ delivered h r
  all_out is = let same : length stands.out ≡ length all = ap (λ (ps : List (List ℕ)). length ps) is in let count = stands.count in omega (arith, same, count)

  ends_by : (fails : Bool) → old.wire.fails ≡ fails → has_head h r ≡ true → stands.out ≡ all → MayFollow rule s h (EndEntry r (cond fails (WasCut N7) WasWhole))
  ends_by fails is some out =
      subst (λ (how : EndHow). MayFollow rule s h (EndEntry r how)) (wire_end_by fails is) (wire_end_follows rule h old stands some (all_out out))

  could_by : (x : Step) → SaysOfWhole m x → TellsResponse x → CanFollow rule s h (outcome_of old x)
  could_by (Head cleared) so tells = record {
    entry = HeadEntry r cleared.rule;
    is_of = ((refl, refl), stands.by_load);
    follows = head_follows rule h old stands cleared.rule so.0 (verdict_by (Some (Allow cleared.rule)) so.2);
  }
  could_by (Piece part) so tells = record {
    entry = PieceEntry r part.index part.bytes;
    is_of = ((refl, (refl, refl)), stands.by_load);
    follows = subst (λ i. MayFollow rule s h (PieceEntry r i part.bytes)) (stands.count ∙ sym so.2)
        (piece_follows rule h old stands part.bytes so.0 (ap (λ i. slice_get all i) stands.count ∙ so.3));
  }
  could_by Whole so tells = record {
    entry = EndEntry r WasWhole;
    is_of = ((refl, tt), stands.by_load);
    follows = ends_by false so.2 so.0 so.1;
  }
  could_by (Blocked why) so tells = record {
    entry = EndEntry r (WasBlocked why);
    is_of = ((refl, refl), stands.by_load);
    follows = blocked_follows rule h old stands why (verdict_by (Some (Block why)) so.1);
  }
  could_by Fault so tells = record {
    entry = EndEntry r (WasCut N7);
    is_of = ((refl, refl), stands.by_load);
    follows = elim (true_or_false (has_head h r)) [
      | inl some ↦ ends_by true so.0 some (so.1 some)
      | inr none ↦ open_follows rule h old stands (verdict_by None (ap (λ f. verdict_on (case_of s old.task) (bytes_of all) (not f)) so.0 ∙ so.2 none))
    ];
  }
  could_by Held so tells = absurd tells
  could_by Gone so tells = absurd tells

  cleared_by : (x : Step) → SaysOfWhole m x → IsCleared r x
  cleared_by (Head cleared) so = so.1
  cleared_by (Piece part) so = so.1
  cleared_by Held so = tt
  cleared_by Whole so = tt
  cleared_by (Blocked why) so = tt
  cleared_by Fault so = tt
  cleared_by Gone so = tt

  -- ---- where the load stands afterwards

  held_by : step ≡ Held → StandsAt rule h new
  held_by is =
      let on : GoesOn step = subst (λ (x : Step). GoesOn x) (sym is) tt in record {
        legal = stands.legal;
        live = stands.live;
        holds = stands.holds;
        read = stands.read;
        by_load = stands.by_load;
        out = stands.out;
        count = stands.count;
        headed = headed_next on ∙ ap (headed_after (has_head h r)) is;
        loaded = subst (λ (x : Step). HasLoaded load.progress (case_of s old.task) (out_after stands.out x)) is (loaded_next on);
        wire = subst (λ (x : Step). IsWireOf load.progress (out_after stands.out x) (Some wire.left) wire.fails all) is wire_next;
        fails = steps.steady ∙ stands.fails;
      }

  module _ (later : List Entry) (legal : Legal rule s (h ++ later)) where
    -- behind an entry that was added later
    stands_on : (e : Entry) → MayFollow rule s (h ++ later) e → (x : Step) → step ≡ x → GoesOn x → is_live_request s ((h ++ later) ++ e ∷ []) r ≡ true
        → delivered ((h ++ later) ++ e ∷ []) r ≡ length (out_after stands.out x) → headed_after (has_head h r) x ≡ has_head ((h ++ later) ++ e ∷ []) r
        → StandsAt rule ((h ++ later) ++ e ∷ []) new
    stands_on e may x is on live count headed =
        let g = (h ++ later) ++ e ∷ [] in
        let legal_g : Legal rule s g = legal_more rule s (h ++ later) e legal may in
        let back : h ≡ take (length h) g = sym (take_twice h later (e ∷ [])) in
        let by = by_load_from s h r stands.by_load in
        let live_h : is_live_request s (take (length h) g) r ≡ true = subst (λ (k : List Entry). is_live_request s k r ≡ true) back stands.live in
        let stays_h : is_redirect (response s (request_chain (take (length h) g) r)) ≡ false = subst (λ (k : List Entry). is_redirect (response s (request_chain k r)) ≡ false) back by.stays in
        let holds_h : HoldsLoad (take (length h) g) old.task = subst (λ (k : List Entry). HoldsLoad k old.task) back stands.holds in
        let holds_g : HoldsLoad g old.task = holds_later rule s g legal_g (length h) (longer h later (e ∷ [])) old.task live_h stays_h holds_h in
        let chain : request_chain g r ≡ request_chain h r = holds_g.chain ∙ sym stands.holds.chain in
        let on_step : GoesOn step = subst (λ (y : Step). GoesOn y) (sym is) on in record {
          legal = legal_g;
          live = live;
          holds = holds_g;
          read = stands.read;
          by_load = by_load_to s g r (record { arrives = ap (λ c. fails_at_once (response s c)) chain ∙ by.arrives; stays = ap (λ c. is_redirect (response s c)) chain ∙ by.stays });
          out = out_after stands.out x;
          count = count;
          headed = headed_next on_step ∙ ap (headed_after (has_head h r)) is ∙ headed;
          loaded = subst (λ (y : Step). HasLoaded load.progress (case_of s old.task) (out_after stands.out y)) is (loaded_next on_step);
          wire = subst (λ (y : Step). IsWireOf load.progress (out_after stands.out y) (Some wire.left) wire.fails all) is wire_next;
          fails = steps.steady ∙ stands.fails;
        }

    on_head : (cleared : ClearedData) → step ≡ Head cleared → SaysOfWhole m (Head cleared) → MayFollow rule s (h ++ later) (HeadEntry r cleared.rule)
        → StandsAt rule ((h ++ later) ++ HeadEntry r cleared.rule ∷ []) new
    unfolding delivered has_head head_of
    on_head cleared is so may =
        let e = HeadEntry r cleared.rule in
        let row = head_row rule s (h ++ later) r cleared.rule may in
        let none_before : delivered h r ≡ 0 = (head_states rule s h stands.legal r).unheaded so.0 in
        let none_later : delivered (h ++ later) r ≡ 0 = (head_states rule s (h ++ later) legal r).unheaded row.headless in
        let named : head_in r e ≡ Some cleared.rule = ap (λ b. cond {A = Option Rule} b (Some cleared.rule) None) (eq-eqb r r refl) in
        stands_on e may (Head cleared) is tt (head_live rule s (h ++ later) legal r cleared.rule may r row.live)
        (count_still (is_piece_of r) (h ++ later) e refl ∙ none_later ∙ sym none_before ∙ stands.count)
        (sym (ap (λ (o : Option Rule). is_some o) (match_new (head_in r) (h ++ later) e cleared.rule named)))

    on_piece : (part : Part) → step ≡ Piece part → SaysOfWhole m (Piece part) → MayFollow rule s (h ++ later) (PieceEntry r part.index part.bytes)
        → StandsAt rule ((h ++ later) ++ PieceEntry r part.index part.bytes ∷ []) new
    unfolding delivered has_head head_of
    on_piece part is so may =
        let e = PieceEntry r part.index part.bytes in
        let row = piece_row rule s (h ++ later) r part.index part.bytes may in
        let more : delivered ((h ++ later) ++ e ∷ []) r ≡ delivered (h ++ later) r + 1 = count_more (is_piece_of r) (h ++ later) e (eq-eqb r r refl) in
        let number : part.index ≡ delivered (h ++ later) r = row.number in
        let index : part.index ≡ length stands.out = so.2 in
        let longer_out : length (stands.out ++ part.bytes ∷ []) ≡ length stands.out + 1 = length-append stands.out (part.bytes ∷ []) in
        let head_same : head_of ((h ++ later) ++ e ∷ []) r ≡ head_of (h ++ later) r = match_still (head_in r) (h ++ later) e refl in
        let count : delivered ((h ++ later) ++ e ∷ []) r ≡ length (stands.out ++ part.bytes ∷ []) = omega (arith, more, number, index, longer_out) in
        stands_on e may (Piece part) is tt (piece_live rule s (h ++ later) legal r part.index part.bytes may r row.live) count
        (so.0 ∙ sym (ap (λ (o : Option Rule). is_some o) head_same ∙ row.headed))

    goes_by : (x : Step) → step ≡ x → SaysOfWhole m x → (e : Entry) → IsOfStep r x e → MayFollow rule s (h ++ later) e → has_more x ≡ true → StandsAt rule ((h ++ later) ++ e ∷ []) new
    goes_by (Head cleared) is so e of may more =
        let form = head_entry r cleared e of in
        subst (λ (y : Entry). StandsAt rule ((h ++ later) ++ y ∷ []) new) (sym form) (on_head cleared is so (subst (λ (y : Entry). MayFollow rule s (h ++ later) y) form may))
    goes_by (Piece part) is so e of may more =
        let form = piece_entry r part e of in
        subst (λ (y : Entry). StandsAt rule ((h ++ later) ++ y ∷ []) new) (sym form) (on_piece part is so (subst (λ (y : Entry). MayFollow rule s (h ++ later) y) form may))
    goes_by Held is so e of may more = absurd (cc)
    goes_by Whole is so e of may more = absurd (cc)
    goes_by (Blocked why) is so e of may more = absurd (cc)
    goes_by Fault is so e of may more = absurd (cc)
    goes_by Gone is so e of may more = absurd (cc)

  pub steps_at : StepsAt rule h old new step
  steps_at = record {
    could = could_by step said;
    cleared = cleared_by step said;
    held = held_by;
    goes_on = λ later e legal of may more. goes_by later legal step refl said e of.0 may more;
  }

-- the same of an answer
pub steps_from : {E : Type 0} (old : TaskLoad) (load : Load) (wire : ScriptedWire) (result : Result Step E) → LoadSteps old.load.progress load.progress old.wire wire result
    → IfOk result (StepsFrom old (record { script = old.script; task = old.task; load = load; wire = wire }))
steps_from old load wire (Ok step) steps = λ rule h stands. steps_at old load wire step steps rule h stands
steps_from old load wire (Err error) steps = tt

-- a step that found the process dead leaves the load as it was
pub gone_from : (load : TaskLoad) → StepsFrom load load Gone
gone_from load rule h stands = record {
  could = λ tells. absurd tells;
  cleared = tt;
  held = λ is. absurd (cc);
  goes_on = λ later e legal of may more. absurd (cc);
}
