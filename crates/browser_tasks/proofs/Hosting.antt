-- The process that committed a document, and the crash of a document's process.
use Rattle.std.proofs.Common.{◌∙◌, ap, refl, subst, sym}
use Rattle.std.specs.Prelude.{◌≡◌, ◌==◌, ◌&&◌, ◌<◌, if◌then◌else◌, Bool, List, None, Option, Some, cond, false, option_and_then, option_map, true, ℕ}
use Rattle.std.specs.List.{list_any}
use Rattle.std.proofs.lemmas.Bool.{eq-eqb, eqb-true}
use Rattle.history_entry.specs.declared.entry.Entry.{Entry}
use Rattle.history_entry.specs.declared.entry.Entry.TheVariants.{Crash}
use Rattle.script_model.specs.ScriptData.{ScriptData}
use Rattle.service_rule.specs.Services.{ServiceRule}
use Rattle.history_rules.proofs.Apart.{and_both, and_left, and_right, any_found, any_here, from_cond, from_map, from_then}
use Rattle.history_rules.proofs.Growth.{match_found, match_some}
use Rattle.history_rules.specs.Documents.{documents, hosted, is_current, is_current_in, process_in, process_of}
use Rattle.history_rules.specs.Entries.{CommitData, commit_in, hosts}
use Rattle.history_rules.specs.Frames.{navigations_made}
use Rattle.history_rules.specs.Sights.{next_act}
use Rattle.history_steps.proofs.Commits.{hosts_from, hosts_to}
use Rattle.history_steps.proofs.Frames.{at_number}
use Rattle.history_steps.proofs.Shapes.{commit_data}
use Rattle.history_steps.proofs.TheNexts.{current_below, from_crash}
use Rattle.history_steps.specs.MayFollow.{MayFollow, crash_next, is_crash}
use Rattle.history_steps.specs.Run.{Legal}
use Rattle.browser_tasks.specs.Objects.{Crashes, document_crash}

some_number : (x y : ℕ) → Some x ≡ Some y → x ≡ y
some_number x y is = cc

in_hosts : (e : Entry) (p d : ℕ) → process_in d e ≡ Some p → hosts p d e ≡ true
in_hosts e p d is =
    let a = from_then (λ (c : CommitData). if c.document == d then Some c.process else None) (commit_in e) p is in
    let c : CommitData = a.0 in
    let b = from_cond (c.document == d) (Some c.process) p a.2 in
    let host : hosts c.process c.document e ≡ true = hosts_from e c a.1 in
    subst (λ n. hosts p n e ≡ true) (eqb-true c.document d b.0) (subst (λ q. hosts q c.document e ≡ true) (some_number c.process p b.1) host)

hosts_in : (e : Entry) (p d : ℕ) → hosts p d e ≡ true → process_in d e ≡ Some p
hosts_in e p d is =
    ap (option_and_then (λ (c : CommitData). if c.document == d then Some c.process else None)) (hosts_to e p d is)
    ∙ ap (λ b. cond {A = Option ℕ} b (Some p) None) (eq-eqb d d refl)

-- the process of a document hosted it
pub process_hosted : (h : List Entry) (p d : ℕ) → process_of h d ≡ Some p → hosted h p d ≡ true
unfolding process_of hosted
process_hosted h p d is =
    let m = match_found (process_in d) h p is in
    any_here (hosts p d) h m.place m.item m.here (in_hosts m.item p d m.gives)

-- a document that was hosted has a process
pub hosted_process : (h : List Entry) (p d : ℕ) → hosted h p d ≡ true → (q : ℕ) × (process_of h d ≡ Some q)
unfolding process_of hosted
hosted_process h p d is =
    let f = any_found (hosts p d) h is in
    match_some (process_in d) h f.place f.item p f.here (hosts_in f.item p d f.passes)

-- the crash of a document's process is such a one, and may follow
pub crash_fine : (rule : ServiceRule) (s : ScriptData) (h : List Entry) → Legal rule s h → (d : ℕ) (e : Entry) → document_crash s h d ≡ Some e
    → (p : ℕ) × (Crash p ≡ e) × Crashes s h d p × MayFollow rule s h e
unfolding document_crash crash_next
crash_fine rule s h legal d e is =
    let a = from_cond (is_current s h d && is_crash (next_act s h d)) (option_map Crash (process_of h d)) e is in
    let b = from_map Crash (process_of h d) e a.1 in
    let p : ℕ = b.0 in
    let current : is_current s h d ≡ true = and_left _ _ a.0 in
    let crash : is_crash (next_act s h d) ≡ true = and_right _ _ a.0 in
    let there : is_current_in s h p d ≡ true = and_both _ _ current (process_hosted h p d b.1) in
    let any : list_any (λ x. is_current_in s h p x && is_crash (next_act s h x)) (documents s h) ≡ true =
    any_here (λ x. is_current_in s h p x && is_crash (next_act s h x)) (documents s h) d d (at_number (navigations_made s h) d (current_below rule s h legal d current)) (and_both _ _ there crash) in
    let next : crash_next s h p ≡ Some (Crash p) = ap (λ t. cond {A = Option Entry} t (Some (Crash p)) None) any in
    (p, b.2, (there, crash), from_crash rule s h p e (next ∙ ap (λ x. Some x) b.2))

-- a document that crashes its process has one
pub crash_here : (s : ScriptData) (h : List Entry) (d p : ℕ) → Crashes s h d p → (e : Entry) × (document_crash s h d ≡ Some e)
unfolding document_crash
crash_here s h d p is =
    let current : is_current s h d ≡ true = and_left _ _ is.0 in
    let host : hosted h p d ≡ true = and_right _ _ is.0 in
    let q = hosted_process h p d host in
    (Crash q.0, ap (λ t. cond {A = Option Entry} t (option_map Crash (process_of h d)) None) (and_both _ _ current is.1) ∙ ap (option_map Crash) q.1)
