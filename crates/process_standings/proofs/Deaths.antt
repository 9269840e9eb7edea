-- What a death tells of all later histories.
use Rattle.std.proofs.Common.{ap, drop, inl, inr, refl, subst, sym, ◌∙◌}
use Rattle.std.specs.Prelude.{◌≡◌, ◌⊎◌, ◌==◌, Bool, List, None, Option, Some, cond, false, not, option_and_then, take, true, ℕ}
use Rattle.std.specs.List.{list_any}
use Rattle.std.specs.Option.{option_map_or}
use Rattle.std.proofs.lemmas.Bool.{eq-eqb}
use Rattle.std.proofs.lemmas.List.{take-append-drop}
use Rattle.page_origin.specs.declared.site.Site.{Site}
use Rattle.history_entry.specs.declared.entry.Entry.{Entry}
use Rattle.history_entry.specs.declared.entry.Entry.TheVariants.{End, Head, Hop, Piece}
use Rattle.history_entry.specs.declared.entry.HopOf.TheVariants.{Req}
use Rattle.history_rules.proofs.Apart.{and_left, any_found, any_here, from_then, true_or_false}
use Rattle.history_rules.proofs.Growth.{match_some, of_take}
use Rattle.history_rules.specs.Documents.{hosted, is_current, process_in, process_of}
use Rattle.history_rules.specs.Entries.{CommitData, ends_process, hosts}
use Rattle.history_rules.specs.Processes.{is_dead, is_warm, lock_of, stage_of_lock, standing}
use Rattle.history_rules.specs.Processes as stages
use Rattle.history_rules.specs.Requests.{has_end, is_live_request, request_document}
use Rattle.history_laws.proofs.Honest.{process_hosts}
use Rattle.history_laws.proofs.Killed.{current_alive}
use Rattle.history_steps.proofs.Commits.{hosts_to, one_process}
use Rattle.history_steps.proofs.Requests.{request_document_kept}
use Rattle.history_steps.proofs.Rows.{end_row, head_row, piece_row, request_hop_row}
use Rattle.history_steps.specs.MayFollow.{MayFollow}
use Rattle.history_steps.specs.Objects.{RequestOf, object_of}
use Rattle.history_steps.specs.Run.{Legal}
use Rattle.policy_table.specs.declared.standing.Standing.TheVariants.{Dead}
use Rattle.process_standings.specs.Laws.{DeadGetNothing, DeadGetNothingLater, DeadStayDead, GetsNothing, RequestsStay, request_process}
use Rattle.process_standings.specs.Standings.{numbered, table_standing}
use Rattle.script_model.specs.ScriptData.{ScriptData}
use Rattle.service_rule.specs.Services.{ServiceRule}

-- ---- death is for good

dead_form : (h : List Entry) (dead warm : Bool) (o : Option Site) → numbered h (cond dead stages.Dead (cond warm stages.Warm (stage_of_lock o))) ≡ Dead → dead ≡ true
dead_form h true warm o e = refl
dead_form h false true o e = absurd (cc)
dead_form h false false None e = absurd (cc)
dead_form h false false (Some site) e = absurd (cc)

pub table_dead : (h : List Entry) (p : ℕ) → table_standing h p ≡ Dead → is_dead h p ≡ true
unfolding table_standing standing
table_dead h p e = dead_form h (is_dead h p) (is_warm h p) (lock_of h p) e

pub dead_table : (h : List Entry) (p : ℕ) → is_dead h p ≡ true → table_standing h p ≡ Dead
unfolding table_standing standing
dead_table h p e = ap (λ b. numbered h (cond b stages.Dead (cond (is_warm h p) stages.Warm (stage_of_lock (lock_of h p))))) e

-- what passes in a prefix passes in the whole
any_taken : (test : Entry → Bool) (h : List Entry) (i : ℕ) → list_any test (take i h) ≡ true → list_any test h ≡ true
any_taken test h i e =
    let f = any_found test (take i h) e in
    any_here test h f.place f.item (of_take h f.place i f.item f.here).1 f.passes

pub dead_stay_dead : DeadStayDead
unfolding is_dead
dead_stay_dead h i p e = dead_table h p (any_taken (ends_process p) h i (table_dead (take i h) p e))

-- ---- the process of a request stays

hosted_taken : (h : List Entry) (i p d : ℕ) → hosted (take i h) p d ≡ true → hosted h p d ≡ true
unfolding hosted
hosted_taken h i p d e = any_taken (hosts p d) h i e

hosts_gives : (e : Entry) (p d : ℕ) → hosts p d e ≡ true → process_in d e ≡ Some p
hosts_gives e p d is =
    ap (option_and_then (λ (c : CommitData). cond {A = Option ℕ} (c.document == d) (Some c.process) None)) (hosts_to e p d is)
    ∙ ap (λ b. cond {A = Option ℕ} b (Some p) None) (eq-eqb d d refl)

process_some : (h : List Entry) (p d : ℕ) → hosted h p d ≡ true → (q : ℕ) × (process_of h d ≡ Some q)
unfolding hosted process_of
process_some h p d e =
    let f = any_found (hosts p d) h e in
    match_some (process_in d) h f.place f.item p f.here (hosts_gives f.item p d f.passes)

module _ (rule : ServiceRule) (s : ScriptData) where
  process_stays : (h : List Entry) (i p d : ℕ) → Legal rule s h → process_of (take i h) d ≡ Some p → process_of h d ≡ Some p
  process_stays h i p d legal e =
      let by : hosted h p d ≡ true = hosted_taken h i p d (process_hosts (take i h) p d e) in
      let found = process_some h p d by in
      let same : found.0 ≡ p = one_process rule s h legal found.0 p d (process_hosts h found.0 d found.1) by in
      found.1 ∙ ap (λ q. Some q) same

  document_stays : (h : List Entry) (i r d : ℕ) → request_document (take i h) r ≡ Some d → request_document h r ≡ Some d
  document_stays h i r d e =
      subst (λ g. request_document g r ≡ Some d) (take-append-drop i h) (request_document_kept (take i h) (drop i h) r d e)

  pub requests_stay : RequestsStay rule s
  requests_stay h i r p legal e =
      let t = from_then (process_of (take i h)) (request_document (take i h) r) p e in
      ap (option_and_then (process_of h)) (document_stays h i r t.0 t.1) ∙ process_stays h i p t.0 legal t.2

  -- ---- a dead process gets nothing

  live_alive : (h : List Entry) (r p : ℕ) → Legal rule s h → request_process h r ≡ Some p → is_live_request s h r ≡ true → is_dead h p ≡ false
  unfolding is_live_request
  live_alive h r p legal of live =
      let t = from_then (process_of h) (request_document h r) p of in
      let awaited : option_map_or (is_current s h) (request_document h r) false ≡ true = and_left (option_map_or (is_current s h) (request_document h r) false) (not (has_end h r)) live in
      let current : is_current s h t.0 ≡ true = ap (λ o. option_map_or (is_current s h) o false) (sym t.1) ∙ awaited in
      current_alive rule s h legal p t.0 current (process_hosts h p t.0 t.2)

  follows_live : (h : List Entry) (r : ℕ) (e : Entry) → object_of e ≡ RequestOf r → MayFollow rule s h e → is_live_request s h r ≡ true
  follows_live h r (Hop (Req q) url) is may = let same : q ≡ r = cc in ap (is_live_request s h) (sym same) ∙ (request_hop_row rule s h q url may).live
  follows_live h r (Head q why) is may = let same : q ≡ r = cc in ap (is_live_request s h) (sym same) ∙ (head_row rule s h q why may).live
  follows_live h r (Piece q i bytes) is may = let same : q ≡ r = cc in ap (is_live_request s h) (sym same) ∙ (piece_row rule s h q i bytes may).live
  follows_live h r (End q how) is may = let same : q ≡ r = cc in ap (is_live_request s h) (sym same) ∙ (end_row rule s h q how may).0
  follows_live h r _ is may = absurd (cc)

  pub dead_get_nothing : DeadGetNothing rule s
  dead_get_nothing h r p legal of dead = by_live (true_or_false (is_live_request s h r))
    where
      by_live : (is_live_request s h r ≡ true) ⊎ (is_live_request s h r ≡ false) → GetsNothing rule s h r
      by_live (inl live) = absurd (let alive : is_dead h p ≡ false = live_alive h r p legal of live in let is = table_dead h p dead in cc)
      by_live (inr none) = record { not_live = none; none_follows = λ e is may. (let live = follows_live h r e is may in cc) }

  pub dead_get_nothing_later : DeadGetNothingLater rule s
  dead_get_nothing_later h i j r p legal of dead = dead_get_nothing h r p legal (requests_stay h i r p legal of) (dead_stay_dead h j p dead)
