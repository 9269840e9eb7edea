-- A command ends in one way over an input, where no read and no write fails and memory is found.
use Rattle.std.proofs.Common.{◌≡◌, ◌∙◌, ◌++◌, ◌⊎◌, List, Some, Err, Ok, ap, drop, inl, inr, length, refl, subst, sym, take, ℕ, ⊎_elim}
use Rattle.std.proofs.Math.Seq.{drop-append_seam, take-append_seam}
use Rattle.std.proofs.lemmas.Bool.{cases_lt}
use Rattle.decimal_text.specs.Numbers.{decimal_number}
use Rattle.script_model.specs.ScriptData.{ScriptData}
use Rattle.script_input.specs.ScriptReading.{script_of}
use Rattle.script_input.specs.declared.refusal.Refusal.{Refusal}
use Rattle.service_rule.specs.Store.{store_rule}
use Rattle.service_rule.specs.Services.{ServiceRule}
use Rattle.audit_run.specs.Audits.{HasOneAudit, IsAudit}
use Rattle.browser_cli.specs.Answers.{IsAnswer, IsAuditOf, IsRefusal, status_of_audit}
use Rattle.browser_cli.specs.Browse.{IsEnding, StatusesAreUnique}
use Rattle.browser_cli.specs.Commands.{IsCut, IsFramed, input_limit}
use Rattle.browser_cli.specs.declared.command.Command.{Command}
use Rattle.browser_cli.specs.declared.command.Command.TheVariants.{Audit, Gen, One, Run}
use Rattle.browser_cli.specs.declared.status.Status.{Status}
use Rattle.browser_cli.specs.declared.status.Status.TheVariants.{Illegal, NoMemory, Ran, ReadFault, Refused, TooLarge, Usage, WriteFault}
use Rattle.browser_cli.proofs.Frames.{number_digits, same_cut}

same_front : (a b c d : List ℕ) → length a ≡ length c → a ++ b ≡ c ++ d → a ≡ c
same_front a b c d long same = sym (take-append_seam a b) ∙ ap (λ n. take n (a ++ b)) long ∙ ap (take (length c)) same ∙ take-append_seam c d

same_back : (a b c d : List ℕ) → length a ≡ length c → a ++ b ≡ c ++ d → b ≡ d
same_back a b c d long same = sym (drop-append_seam a b) ∙ ap (λ n. drop n (a ++ b)) long ∙ ap (drop (length c)) same ∙ drop-append_seam c d

-- a text behind the word is cut in one way
one_cut : (rest a b c d : List ℕ) → IsCut rest a b → IsCut rest c d → (a ≡ c) × (b ≡ d)
one_cut rest a b c d one other =
    let parts = same_cut one.number (a ++ b) other.number (c ++ d) (number_digits one.number (length a) one.is_length)
    (number_digits other.number (length c) other.is_length) (sym one.whole ∙ other.whole) in
    let counts : Some (length a) ≡ Some (length c) = sym one.is_length ∙ ap decimal_number parts.0 ∙ other.is_length in
    let long : length a ≡ length c = cc in
    (same_front a b c d long parts.1, same_back a b c d long parts.1)

-- an input has one frame
one_frame : (input a b c d : List ℕ) → IsFramed input a b → IsFramed input c d → (a ≡ c) × (b ≡ d)
one_frame input a b c d one other =
    let same : one.rest ≡ other.rest = ap (drop 7) (sym one.word ∙ other.word) in
    one_cut other.rest a b c d (subst (λ rest. IsCut rest a b) same one.is_cut) other.is_cut

-- what the audit of one text tells for one script
same_audit : ((rule : ServiceRule) (s : ScriptData) → HasOneAudit rule s) → (script_text text : List ℕ) (s t : Status) (o p : List ℕ)
    → IsAuditOf script_text text s o → IsAuditOf script_text text t p → s ≡ t
same_audit unique script_text text s t o p one other =
    let scripts : Ok one.script ≡ Ok other.script = sym one.is_script ∙ other.is_script in
    let script : one.script ≡ other.script = cc in
    let audits : one.audit ≡ other.audit = unique store_rule other.script text one.audit other.audit
    (subst (λ x. IsAudit store_rule x text one.audit) script one.is_audit) other.is_audit in
    one.is_status ∙ ap status_of_audit audits ∙ sym other.is_status

-- ---- answers and refusals

same_answers : ((rule : ServiceRule) (s : ScriptData) → HasOneAudit rule s) → (command : Command) (input : List ℕ) (s t : Status) (o p : List ℕ)
    → IsAnswer command input s o → IsAnswer command input t p → s ≡ t
same_answers unique One input s t o p one other = one.0 ∙ sym other.0
same_answers unique (Gen number) input s t o p one other = one.0 ∙ sym other.0
same_answers unique (Run count) input s t o p one other = one.0 ∙ sym other.0
same_answers unique Audit input s t o p one other =
    let parts = one_frame input one.script_text one.text other.script_text other.text one.is_framed other.is_framed in
    same_audit unique other.script_text other.text s t o p
    (subst (λ x. IsAuditOf x other.text s o) parts.0 (subst (λ x. IsAuditOf one.script_text x s o) parts.1 one.is_audit)) other.is_audit

same_refusals : (command : Command) (input : List ℕ) (x y : Refusal) → IsRefusal command input x → IsRefusal command input y → x ≡ y
same_refusals One input x y one other =
    let both : Err x ≡ Err y = sym one ∙ other in
    cc
same_refusals Audit input x y (inl one) (inl other) = one.1 ∙ sym other.1
same_refusals Audit input x y (inl one) (inr other) = absurd (one.0 other.script_text other.text other.is_framed)
same_refusals Audit input x y (inr one) (inl other) = absurd (other.0 one.script_text one.text one.is_framed)
same_refusals Audit input x y (inr one) (inr other) =
    let parts = one_frame input one.script_text one.text other.script_text other.text one.is_framed other.is_framed in
    let both : Err x ≡ Err y = sym one.is_refused ∙ ap script_of parts.0 ∙ other.is_refused in
    cc
same_refusals (Gen number) input x y one other = absurd one
same_refusals (Run count) input x y one other =
    let both : Err x ≡ Err y = sym one ∙ other in
    cc

not_both : (command : Command) (input : List ℕ) (s : Status) (o : List ℕ) (x : Refusal) → IsAnswer command input s o → IsRefusal command input x → ⊥
not_both One input s o x answer refusal =
    let both : Ok answer.1.script ≡ Err x = sym answer.1.is_script ∙ refusal in
    absurd cc
not_both Audit input s o x answer (inl refusal) = refusal.0 answer.script_text answer.text answer.is_framed
not_both Audit input s o x answer (inr refusal) =
    let parts = one_frame input answer.script_text answer.text refusal.script_text refusal.text answer.is_framed refusal.is_framed in
    let both : Ok answer.is_audit.script ≡ Err x = sym answer.is_audit.is_script ∙ ap script_of parts.0 ∙ refusal.is_refused in
    absurd cc
not_both (Gen number) input s o x answer refusal = refusal
not_both (Run count) input s o x answer refusal =
    let both : Ok answer.1.script ≡ Err x = sym answer.1.is_script ∙ refusal in
    absurd cc

-- ---- endings

-- a command answers or refuses
abbrev Ends : Command → List ℕ → Status → Type 0
Ends command input s = ((output : List ℕ) × IsAnswer command input s output) ⊎ ((x : Refusal) × (s ≡ Refused x) × IsRefusal command input x)

ends : (command : Command) (input : List ℕ) (s : Status) → IsEnding command input s → Ends command input s
ends command input Ran ending = inl ending
ends command input (Illegal finding) ending = inl ending
ends command input (Refused refusal) ending = inr (refusal, refl, ending)
ends command input Usage ending = absurd ending
ends command input ReadFault ending = absurd ending
ends command input WriteFault ending = absurd ending
ends command input TooLarge ending = absurd ending
ends command input NoMemory ending = absurd ending

same_ends : ((rule : ServiceRule) (s : ScriptData) → HasOneAudit rule s) → (command : Command) (input : List ℕ) (s t : Status)
    → Ends command input s → Ends command input t → s ≡ t
same_ends unique command input s t (inl one) (inl other) = same_answers unique command input s t one.0 other.0 one.1 other.1
same_ends unique command input s t (inl one) (inr other) = absurd (not_both command input s one.0 other.0 one.1 other.2)
same_ends unique command input s t (inr one) (inl other) = absurd (not_both command input t other.0 one.0 other.1 one.2)
same_ends unique command input s t (inr one) (inr other) =
    one.1 ∙ ap (λ x. Refused x) (same_refusals command input one.0 other.0 one.2 other.2) ∙ sym other.1

-- a command ends in one way, where audits do
pub one_status : ((rule : ServiceRule) (s : ScriptData) → HasOneAudit rule s) → StatusesAreUnique
one_status unique command input a b one other = ⊎_elim
    (λ long. one.too_large long ∙ sym (other.too_large long))
    (λ fits. same_ends unique command input a b (ends command input a (one.fits fits)) (ends command input b (other.fits fits)))
    (cases_lt (input_limit command) (length input))
