-- Secret independence of every legal history.
use Rattle.std.proofs.Common.{refl, sym, ◌∙◌, ap, subst}
use Rattle.std.specs.Prelude.{◌≡◌, IsSomeAnd, List, None, Option, Some, true, ℕ}
use Rattle.url_keys.proofs.Keys.{keys_keep_their_origin}
use Rattle.history_entry.specs.declared.entry.Entry.{Entry}
use Rattle.history_entry.specs.declared.policy.Policy.{Policy}
use Rattle.script_model.specs.ResourceData.{ResourceData}
use Rattle.script_model.specs.ScriptData.{ScriptData, find_resource}
use Rattle.service_rule.specs.Services.{ServiceRule}
use Rattle.history_steps.specs.Run.{Legal}
use Rattle.history_laws.specs.Received.{received}
use Rattle.history_laws.specs.Secret.{IsSecretBody, Secret, SecretsAreKept, swap_body, was_never_of, with_body}
use Rattle.secret_bodies.proofs.SameReceived.{received_same}
use Rattle.secret_bodies.proofs.StaysLegal.{swap_is, swapped_legal}

found_secret : (policy : Policy) (o : Option ResourceData) (body : List ℕ) → IsSomeAnd o (λ r. IsSecretBody policy r body) → (r : ResourceData) × (o ≡ Some r) × IsSecretBody policy r body
found_secret policy None body is = absurd is
found_secret policy (Some r) body is = (r, refl, is)

module _ (rule : ServiceRule) (s : ScriptData) (key body : List ℕ) (h : List Entry) (legal : Legal rule s h) (secret : Secret s key body) where
  -- the swapped history is legal for the changed script
  pub stays_legal : Legal rule (with_body s key body) (swap_body s key body h)
  stays_legal =
      let f = found_secret s.policy (find_resource s key) body secret in
      subst (Legal rule (with_body s key body)) (sym (swap_is s key body h)) (swapped_legal rule s key body h legal f.0 f.1 f.2)

  -- a process that was never of the site receives the same
  pub receives_same : (p : ℕ) → was_never_of s h key p ≡ true → received h p ≡ received (swap_body s key body h) p
  receives_same p never =
      let f = found_secret s.policy (find_resource s key) body secret in
      sym (ap (λ g. received g p) (swap_is s key body h) ∙ received_same rule s key body h legal f.0 f.1 f.2 keys_keep_their_origin p never)

pub secrets_are_kept : (rule : ServiceRule) (s : ScriptData) → SecretsAreKept rule s
secrets_are_kept rule s key body h legal secret = record { legal = stays_legal rule s key body h legal secret; same = receives_same rule s key body h legal secret }
