-- Documents and the presence of frames in legal histories: what adds a frame was committed, and what is lost stays lost.
use Rattle.std.proofs.Common.{refl, sym, ◌∙◌, ap, subst, inl, inr, arith, drop}
use Rattle.std.specs.Prelude.{◌≡◌, ◌⊎◌, ◌||◌, ◌<◌, ◌==◌, ◌-◌, ◌++◌, ◌∷◌, [], Bool, List, None, Option, Some, cond, false, filter, nat_lt, not, option_and_then, option_map, slice_get, suc, take, true, zero, ℕ}
use Rattle.std.specs.List.{list_all, list_any}
use Rattle.std.specs.Option.{option_map_or, option_or}
use Rattle.std.proofs.lemmas.Bool.{eqb-true, eq-eqb}
use Rattle.std.proofs.lemmas.List.{take-append-drop}
use Rattle.history_entry.specs.declared.body.Body.{Body}
use Rattle.history_entry.specs.declared.body.Body.TheVariants.{AddFrame}
use Rattle.history_entry.specs.declared.body.Message.{Message}
use Rattle.history_entry.specs.declared.entry.Entry.{Entry}
use Rattle.history_entry.specs.declared.entry.Entry.TheVariants.{Said}
use Rattle.history_entry.specs.declared.reply.Reply.TheVariants.{Ok as Okay}
use Rattle.history_rules.specs.Orders.{OrderData}
use Rattle.script_model.specs.ScriptData.{ScriptData, starts}
use Rattle.history_rules.proofs.Apart.{and_both, and_left, and_right, any_found, any_here, from_cond, from_map_or, from_or, from_then, not_true, true_or_false, from_else}
use Rattle.history_rules.proofs.Growth.{any_kept, match_push, of_take, get_kept}
use Rattle.history_rules.specs.Documents.{commit_at, hosted, is_current, is_kept, is_last_living, is_present, last_in, living, was_removed}
use Rattle.history_rules.specs.Entries.{CommitData, accepted, commit_in, commits, ends_process, hosts, is_okay, last_match, makes_frame, removes}
use Rattle.history_rules.specs.Frames.{adder_in, adder_of, body_adds, frame_maker, frame_of, frames_made, lineage, lineage_within, navigations_made, parent_of, was_made}
use Rattle.history_rules.specs.Judgement.{is_did_commit}
use Rattle.history_rules.specs.Navigations.{began, is_committed, is_newest, is_pending}
use Rattle.history_rules.specs.Processes.{is_dead, is_locked}
use Rattle.service_rule.specs.Services.{ServiceRule}
use Rattle.history_steps.proofs.Commits.{IsAccepted, accepted_message, commit_of, commits_from, hosts_from, hosts_to, okay_is, waiting_uncommitted}
use Rattle.history_steps.proofs.Current.{commit_at_form, current_found, living_last}
use Rattle.history_steps.proofs.Frames.{adder_of_kept, began_below, began_kept, frame_of_kept, frames_more, made_below, navigations_more}
use Rattle.history_steps.proofs.Induction.{legal_take}
use Rattle.history_steps.proofs.Orders.{had_order_found, order_entry}
use Rattle.history_steps.proofs.Rows.{order_row, said_row}
use Rattle.history_steps.proofs.Shapes.{commit_data, order_data}
use Rattle.history_steps.specs.MayFollow.{MayFollow}
use Rattle.history_steps.specs.Run.{Legal}

-- an element that a filter lets through
filtered_by : {X : Type 0} (p : X → Bool) (y : X) (xs : List X) (i : ℕ) (x : X) (b : Bool) → p y ≡ b → ((j : ℕ) → slice_get (filter p xs) j ≡ Some x → (k : ℕ) × (slice_get xs k ≡ Some x)) → slice_get (cond b (y ∷ filter p xs) (filter p xs)) i ≡ Some x → (k : ℕ) × (slice_get (y ∷ xs) k ≡ Some x)
filtered_by p y xs zero x true is more at = (0, at)
filtered_by p y xs (suc i) x true is more at = let r = more i at in (suc r.0, r.1)
filtered_by p y xs i x false is more at = let r = more i at in (suc r.0, r.1)

pub filtered : {X : Type 0} (p : X → Bool) (xs : List X) (i : ℕ) (x : X) → slice_get (filter p xs) i ≡ Some x → (k : ℕ) × (slice_get xs k ≡ Some x)
filtered p [] i x at = absurd (cc)
filtered p (y ∷ xs) i x at = filtered_by p y xs i x (p y) refl (λ j here. filtered p xs j x here) at

-- an accepted message is one that was said and answered ok
pub record IsSaidOkay (e : Entry) (m : Message) : Type 0 where
  pub process : ℕ
  pub document : ℕ
  pub number : ℕ
  pub is : e ≡ Said process document number m Okay

pub accepted_form : (e : Entry) (m : Message) → accepted e ≡ Some m → IsSaidOkay e m
accepted_form (Said p d k message reply) m e =
    let a = from_cond (is_okay reply) (Some message) m e in
    let same : message ≡ m = cc in
    record { process = p; document = d; number = k; is = ap (λ x. Said p d k x reply) same ∙ ap (λ x. Said p d k m x) (okay_is reply a.0) }
accepted_form _ m e = absurd (cc)

pub record IsAcceptedSaid (rule : ServiceRule) (s : ScriptData) (h : List Entry) (m : Message) : Type 0 where
  pub process : ℕ
  pub locked : is_locked h process ≡ true
  pub as_judged : IsAccepted rule s h process m

pub accepted_row : (rule : ServiceRule) (s : ScriptData) (h : List Entry) (e : Entry) (m : Message) → MayFollow rule s h e → accepted e ≡ Some m → IsAcceptedSaid rule s h m
accepted_row rule s h e m may is =
    let f = accepted_form e m is in
    let row = said_row rule s h f.process f.document f.number m Okay (subst (λ x. MayFollow rule s h x) f.is may) in
    record { process = f.process; locked = row.locked; as_judged = accepted_message rule s h f.process m row.judged }

pub or_other : (a b : Bool) → a ≡ false → (a || b) ≡ true → b ≡ true
or_other true b no_first e = absurd (cc)
or_other false b no_first e = e

adds_only : (b : Body) → body_adds b ≡ true → is_did_commit b ≡ false
adds_only (AddFrame src sandbox) e = refl
adds_only _ e = absurd (cc)

-- the message that made a frame stands at a place
pub record IsMadeAt (s : ScriptData) (h : List Entry) (f : ℕ) (m : Message) : Type 0 where
  pub place : ℕ
  pub item : Entry
  pub here : slice_get h place ≡ Some item
  pub says : accepted item ≡ Some m

pub frame_maker_found : (s : ScriptData) (h : List Entry) (f : ℕ) (m : Message) → frame_maker s h f ≡ Some m → IsMadeAt s h f m
unfolding frame_maker
frame_maker_found s h f m e =
    let a = from_else (nat_lt f (starts s)) (option_and_then accepted (slice_get (filter makes_frame h) (f - starts s))) m e in
    let b = from_then accepted (slice_get (filter makes_frame h) (f - starts s)) m a.1 in
    let c = filtered makes_frame h (f - starts s) b.0 b.1 in
    record { place = c.0; item = b.0; here = c.1; says = b.2 }

match_same : {A : Type 0} (f g : Entry → Option A) (h : List Entry) → ((i : ℕ) (x : Entry) → slice_get h i ≡ Some x → f x ≡ g x) → last_match f h ≡ last_match g h
match_same f g [] all = refl
match_same f g (x ∷ h) all = ap (λ o. option_or o (f x)) (match_same f g h (λ i y at. all (suc i) y at)) ∙ ap (λ o. option_or (last_match g h) o) (all 0 x refl)

-- a document that added a frame: it was committed, in a frame that was made
pub record IsAdder (s : ScriptData) (h : List Entry) (d : ℕ) : Type 0 where
  pub process : ℕ
  pub committed : hosted h process d ≡ true
  pub below : d < navigations_made s h
  pub frame_below : frame_of s h d < frames_made s h

module _ (rule : ServiceRule) (s : ScriptData) where
  -- an ordered navigation began
  pub ordered_began : (h : List Entry) → Legal rule s h → (i n : ℕ) (o : OrderData) → slice_get h i ≡ Some (order_entry n o) → began s h n ≡ true
  unfolding is_newest is_pending
  ordered_began h legal i n o at =
      let row = order_row rule s (take i h) n o.process o.site o.origin o.url (legal i (order_entry n o) at) in
      let newest : is_newest s (take i h) n ≡ true = and_left _ _ (and_left _ _ row.pending) in
      let before : began s (take i h) n ≡ true = and_left _ _ (and_left _ _ newest) in
      let after : began s (take i h ++ drop i h) n ≡ true = began_kept s (take i h) (drop i h) n before in
      subst (λ g. began s g n ≡ true) (take-append-drop i h) after

  -- a committed document is one that began
  pub hosted_began : (h : List Entry) → Legal rule s h → (p d : ℕ) → hosted h p d ≡ true → began s h d ≡ true
  unfolding hosted
  hosted_began h legal p d is =
      let f = any_found (hosts p d) h is in
      let row = commit_of rule s (take f.place h) f.item (commit_data p d) (legal f.place f.item f.here) (hosts_to f.item p d f.passes) in
      let o = had_order_found (take f.place h) p d row.had in
      let at = of_take h o.place f.place (order_entry d (order_data p o.site o.origin o.url)) o.here in
      ordered_began h legal o.place d (order_data p o.site o.origin o.url) at.1

  pub adder : (h : List Entry) → Legal rule s h → (f d : ℕ) → adder_of s h f ≡ Some d → IsAdder s h d
  unfolding hosted is_present
  adder h legal f d is =
      let a = from_then adder_in (frame_maker s h f) d is in
      let m : Message = a.0 in
      let made = frame_maker_found s h f m a.1 in
      let b = from_cond (body_adds m.body) (Some m.document) d a.2 in
      let same : m.document ≡ d = cc in
      let g = take made.place h in
      let row = accepted_row rule s g made.item m (legal made.place made.item made.here) made.says in
      let by : hosted g row.process m.document ≡ true = or_other (is_did_commit m.body) (hosted g row.process m.document) (adds_only m.body b.0) row.as_judged.of_process in
      let current : is_current s g m.document ≡ true = or_other (is_did_commit m.body) (is_current s g m.document) (adds_only m.body b.0) row.as_judged.of_current in
      let legal_before : Legal rule s g = legal_take rule s h made.place legal in
      let below : m.document < navigations_made s g = began_below s g m.document (hosted_began g legal_before row.process m.document by) in
      let found = current_found s g m.document current in
      let frame_below : frame_of s g m.document < frames_made s g = made_below s g (frame_of s g m.document) (and_left _ _ found.present) in
      let whole : IsAdder s (g ++ drop made.place h) m.document = record {
        process = row.process;
        committed = any_appended (hosts row.process m.document) g (drop made.place h) by;
        below = omega (arith, navigations_more s g (drop made.place h));
        frame_below = omega (arith, frames_more s g (drop made.place h), frame_of_kept s g (drop made.place h) m.document below);
      } in
      let all : IsAdder s h m.document = subst (λ x. IsAdder s x m.document) (take-append-drop made.place h) whole in
      subst (λ (x : ℕ). IsAdder s h x) same all
    where
      any_appended : (p : Entry → Bool) (xs ys : List Entry) → list_any p xs ≡ true → list_any p (xs ++ ys) ≡ true
      any_appended p xs ys e = let x = any_found p xs e in any_here p (xs ++ ys) x.place x.item (get_kept xs ys x.place x.item x.here) x.passes

  -- the last commit in a frame is that of the new entry, or else the one before
  pub last_push : (h : List Entry) (e : Entry) → Legal rule s h → (f : ℕ) → last_in s (h ++ e ∷ []) f ≡ option_or (commit_at s (h ++ e ∷ []) f e) (last_in s h f)
  unfolding hosted last_in
  last_push h e legal f =
      match_push (commit_at s (h ++ e ∷ []) f) h e
      ∙ ap (λ o. option_or (commit_at s (h ++ e ∷ []) f e) o) (match_same (commit_at s (h ++ e ∷ []) f) (commit_at s h f) h (λ i x at. by_cases i x at (commit_in x) refl))
    where
      by_cases : (i : ℕ) (x : Entry) → slice_get h i ≡ Some x → (o : Option CommitData) → commit_in x ≡ o → commit_at s (h ++ e ∷ []) f x ≡ commit_at s h f x
      by_cases i x at None is = rw is refl
      by_cases i x at (Some c) is =
          let below : c.document < navigations_made s h = began_below s h c.document (hosted_began h legal c.process c.document (any_here (hosts c.process c.document) h i x at (hosts_from x c is))) in
          rw is (ap (λ g. cond {A = Option CommitData} (g == f) (Some c) None) (frame_of_kept s h (e ∷ []) c.document below))

module _ (rule : ServiceRule) (s : ScriptData) (h : List Entry) (e : Entry) (legal : Legal rule s h) (may : MayFollow rule s h e) where
  -- a document that was committed is not committed again
  pub committed_before : (p q d : ℕ) → hosted h p d ≡ true → commit_in e ≡ Some (commit_data q d) → ⊥
  unfolding hosted is_committed
  committed_before p q d was is =
      let f = any_found (hosts p d) h was in
      let row = commit_of rule s h e (commit_data q d) may is in
      let none : is_committed h d ≡ false = waiting_uncommitted s h d row.waiting in
      let some : is_committed h d ≡ true = any_here (commits d) h f.place f.item f.here (commits_from f.item (commit_data p d) d (hosts_to f.item p d f.passes) refl) in
      cc

  -- a committed document that is the last of its frame and lives was so before
  pub living_before : (p d : ℕ) → hosted h p d ≡ true → is_last_living s (h ++ e ∷ []) d ≡ true → is_last_living s h d ≡ true
  unfolding is_dead
  living_before p d was is =
      let below : d < navigations_made s h = began_below s h d (hosted_began rule s h legal p d was) in
      let f : ℕ = frame_of s h d in
      let a = from_map_or (λ c. c == d) (option_and_then (living (h ++ e ∷ [])) (last_in s (h ++ e ∷ []) (frame_of s (h ++ e ∷ []) d))) is in
      let same : a.0 ≡ d = eqb-true a.0 d a.2 in
      let l = living_last (h ++ e ∷ []) (last_in s (h ++ e ∷ []) (frame_of s (h ++ e ∷ []) d)) d (a.1 ∙ ap (λ x. Some x) same) in
      let last : option_or (commit_at s (h ++ e ∷ []) f e) (last_in s h f) ≡ Some (commit_data l.0 d) = sym (last_push rule s h e legal f) ∙ ap (last_in s (h ++ e ∷ [])) (sym (frame_of_kept s h (e ∷ []) d below)) ∙ l.1 in
      let alive : is_dead h l.0 ≡ false = dead_before l.0 l.2 in
      elim (from_or (commit_at s (h ++ e ∷ []) f e) (last_in s h f) (commit_data l.0 d) last) [
        | inl new ↦ absurd (committed_before p l.0 d was (commit_at_form s (h ++ e ∷ []) f e (commit_data l.0 d) new).0)
        | inr old ↦ (ap (λ o. option_map_or (λ c. c == d) (option_and_then (living h) o) false) old.1 ∙ ap (λ b. option_map_or (λ c. c == d) (cond {A = Option ℕ} b None (Some d)) false) alive ∙ eq-eqb d d refl)
      ]
    where
      dead_before : (q : ℕ) → is_dead (h ++ e ∷ []) q ≡ false → is_dead h q ≡ false
      dead_before q none = elim (true_or_false (is_dead h q)) [
        | inl some ↦ (let more : is_dead (h ++ e ∷ []) q ≡ true = any_kept (ends_process q) h e some in absurd (cc))
        | inr alive ↦ alive
      ]

  -- a frame that is kept was kept before
  kept_before : (f : ℕ) → f < frames_made s h → is_kept s (h ++ e ∷ []) f ≡ true → is_kept s h f ≡ true
  unfolding is_kept
  kept_before f lt is =
      let here : was_removed (h ++ e ∷ []) f ≡ false = not_true _ (and_left (not (was_removed (h ++ e ∷ []) f)) (option_map_or (is_last_living s (h ++ e ∷ [])) (adder_of s (h ++ e ∷ []) f) true) is) in
      let above : option_map_or (is_last_living s (h ++ e ∷ [])) (adder_of s (h ++ e ∷ []) f) true ≡ true = and_right (not (was_removed (h ++ e ∷ []) f)) (option_map_or (is_last_living s (h ++ e ∷ [])) (adder_of s (h ++ e ∷ []) f) true) is in
      and_both (not (was_removed h f)) (option_map_or (is_last_living s h) (adder_of s h f) true)
      (ap not (removed_before (true_or_false (was_removed h f)) here))
      (adder_before (adder_of s h f) refl (ap (λ o. option_map_or (is_last_living s (h ++ e ∷ [])) o true) (sym (adder_of_kept s h (e ∷ []) f lt)) ∙ above))
    where
      removed_before : (was_removed h f ≡ true) ⊎ (was_removed h f ≡ false) → was_removed (h ++ e ∷ []) f ≡ false → was_removed h f ≡ false
      removed_before (inl some) none = let more : was_removed (h ++ e ∷ []) f ≡ true = any_kept (removes f) h e some in absurd (cc)
      removed_before (inr there) none = there

      adder_before : (o : Option ℕ) → adder_of s h f ≡ o → option_map_or (is_last_living s (h ++ e ∷ [])) o true ≡ true → option_map_or (is_last_living s h) o true ≡ true
      adder_before None at lives = refl
      adder_before (Some d) at lives = let a = adder rule s h legal f d at in living_before a.process d a.committed lives

  lineage_before : (m f : ℕ) → f < frames_made s h → list_all (is_kept s (h ++ e ∷ [])) (lineage_within s (h ++ e ∷ []) m f) ≡ true → list_all (is_kept s h) (lineage_within s h m f) ≡ true
  lineage_before zero f lt all = refl
  lineage_before (suc m) f lt all =
      and_both (is_kept s h f) (list_all (is_kept s h) (option_map_or (λ g. lineage_within s h m g) (parent_of s h f) []))
      (kept_before f lt (and_left (is_kept s (h ++ e ∷ []) f) (list_all (is_kept s (h ++ e ∷ [])) (option_map_or (λ g. lineage_within s (h ++ e ∷ []) m g) (parent_of s (h ++ e ∷ []) f) [])) all))
      (at_adder (adder_of s h f) refl (λ g below. lineage_before m g below)
      (ap (λ o. list_all (is_kept s (h ++ e ∷ [])) (option_map_or (λ g. lineage_within s (h ++ e ∷ []) m g) (option_map (frame_of s (h ++ e ∷ [])) o) [])) (sym (adder_of_kept s h (e ∷ []) f lt))
      ∙ and_right (is_kept s (h ++ e ∷ []) f) (list_all (is_kept s (h ++ e ∷ [])) (option_map_or (λ g. lineage_within s (h ++ e ∷ []) m g) (parent_of s (h ++ e ∷ []) f) [])) all))
    where
      at_adder : (o : Option ℕ) → adder_of s h f ≡ o
          → ((g : ℕ) → g < frames_made s h → list_all (is_kept s (h ++ e ∷ [])) (lineage_within s (h ++ e ∷ []) m g) ≡ true → list_all (is_kept s h) (lineage_within s h m g) ≡ true)
          → list_all (is_kept s (h ++ e ∷ [])) (option_map_or (λ g. lineage_within s (h ++ e ∷ []) m g) (option_map (frame_of s (h ++ e ∷ [])) o) []) ≡ true
          → list_all (is_kept s h) (option_map_or (λ g. lineage_within s h m g) (option_map (frame_of s h) o) []) ≡ true
      at_adder None at more above = refl
      at_adder (Some d) at more above =
          let a = adder rule s h legal f d at in
          more (frame_of s h d) a.frame_below (ap (λ g. list_all (is_kept s (h ++ e ∷ [])) (lineage_within s (h ++ e ∷ []) m g)) (sym (frame_of_kept s h (e ∷ []) d a.below)) ∙ above)

  -- a frame that was made and is present was present before
  pub present_before : (f : ℕ) → was_made s h f ≡ true → is_present s (h ++ e ∷ []) f ≡ true → is_present s h f ≡ true
  unfolding is_present lineage
  present_before f made is =
      and_both (was_made s h f) (list_all (is_kept s h) (lineage s h f)) made
      (lineage_before (suc f) f (made_below s h f made) (and_right (was_made s (h ++ e ∷ []) f) (list_all (is_kept s (h ++ e ∷ [])) (lineage s (h ++ e ∷ []) f)) is))
