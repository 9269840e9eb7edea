-- A request that a resource policy of the resource's own origin or site lets through stays in the site of its origin.
use Rattle.std.proofs.Common.{ap, refl, ◌∙◌}
use Rattle.std.specs.Prelude.{◌≡◌, ◌∷◌, [], if◌then◌else◌, Bool, List, Option, Some, false, true, ℕ}
use Rattle.std.specs.List.{list_all}
use Rattle.page_origin.specs.Origins.{equal_sites, has_origin, tuple_of}
use Rattle.page_origin.specs.declared.origin.Origin.{Origin}
use Rattle.page_origin.specs.declared.origin.Origin.TheVariants.{Opaque, Tuple}
use Rattle.page_origin.specs.declared.origin.TupleOrigin.{TupleOrigin}
use Rattle.mime_kind.specs.ResourcePolicies.{resource_policy}
use Rattle.mime_kind.specs.declared.policy.ResourcePolicy.{ResourcePolicy}
use Rattle.mime_kind.specs.declared.policy.ResourcePolicy.TheVariants as resource
use Rattle.site_url.specs.Sites.{SiteRuleData, site_of, site_of_origin}
use Rattle.cors_check.specs.Chains.{is_same_origin_chain}
use Rattle.history_entry.specs.declared.policy.Policy.{Policy}
use Rattle.history_entry.specs.declared.policy.Policy.TheVariants.{One, Two}
use Rattle.history_entry.specs.declared.rule.Rule.TheVariants.{A3, B8}
use Rattle.script_model.specs.ResourceData.{ResourceData}
use Rattle.script_model.specs.Verdicts.{is_left_out, is_same_site_chain, leaves_out}
use Rattle.script_model.specs.declared.verdict.Verdict.{Verdict}
use Rattle.script_model.specs.declared.verdict.Verdict.TheVariants.{Allow, Block}
use Rattle.history_rules.proofs.Apart.{and_both, and_left, and_right, not_false}
use Rattle.history_rules.proofs.Equal.{origins_same, site_itself}
use Rattle.history_laws.specs.Secret.{is_kept_back, is_own_policy}

module _ (rules : SiteRuleData) where
  -- a URL of an origin is of its site
  own_site : (o : TupleOrigin) (url : List ℕ) → has_origin url (Tuple o) ≡ true → equal_sites (site_of rules url) (site_of_origin rules (Tuple o)) ≡ true
  own_site o url e =
      let same : Tuple o ≡ Tuple (tuple_of url) = origins_same (Tuple o) (Tuple (tuple_of url)) e in
      ap (λ w. equal_sites (site_of rules url) (site_of_origin rules w)) same ∙ site_itself (site_of rules url)

  all_own : (o : TupleOrigin) (chain : List (List ℕ)) → list_all (λ url. has_origin url (Tuple o)) chain ≡ true → list_all (λ url. equal_sites (site_of rules url) (site_of_origin rules (Tuple o))) chain ≡ true
  all_own o [] all = refl
  all_own o (url ∷ chain) all =
      let own : equal_sites (site_of rules url) (site_of_origin rules (Tuple o)) ≡ true = own_site o url (and_left (has_origin url (Tuple o)) (list_all (λ u. has_origin u (Tuple o)) chain) all) in
      and_both (equal_sites (site_of rules url) (site_of_origin rules (Tuple o))) (list_all (λ u. equal_sites (site_of rules u) (site_of_origin rules (Tuple o))) chain)
      own (all_own o chain (and_right (has_origin url (Tuple o)) (list_all (λ u. has_origin u (Tuple o)) chain) all))

  -- a chain that stays in an origin stays in its site, and the origin is a tuple
  own_chain : (origin : Origin) (x : List ℕ) (xs : List (List ℕ)) → is_same_origin_chain origin (x ∷ xs) ≡ true → is_same_site_chain rules origin (x ∷ xs) ≡ true
  unfolding is_same_site_chain
  own_chain (Tuple o) x xs all = all_own o (x ∷ xs) all
  own_chain (Opaque o) x xs all = absurd (cc)

  -- what B8 does not leave out, where the resource policy is for its own origin or site alone, stays in the site
  pub let_through : (policy : Policy) (r : ResourceData) (origin : Origin) (x : List ℕ) (xs : List (List ℕ)) → is_kept_back policy r ≡ true → is_left_out policy rules origin (x ∷ xs) r.head ≡ false → is_same_site_chain rules origin (x ∷ xs) ≡ true
  unfolding is_left_out
  let_through One r origin x xs kept through = absurd (cc)
  let_through Two r origin x xs kept through = by_resource (resource_policy r.head.fields) kept through
    where
      by_resource : (p : ResourcePolicy) → is_own_policy p ≡ true → leaves_out rules origin (x ∷ xs) p ≡ false → is_same_site_chain rules origin (x ∷ xs) ≡ true
      by_resource resource.Any own in_it = absurd (cc)
      by_resource resource.SameOrigin own in_it = own_chain origin x xs (not_false (is_same_origin_chain origin (x ∷ xs)) in_it)
      by_resource resource.SameSite own in_it = not_false (is_same_site_chain rules origin (x ∷ xs)) in_it

-- the verdict without CORS, by whether the request is left out, whether it stays in the site, and the verdict of the body
abbrev pub no_cors_by : Bool → Bool → Option Verdict → Option Verdict
no_cors_by out within body = if out then Some (Block B8) else (if within then Some (Allow A3) else body)

-- no body is looked at where each request is left out or within the site
pub unread : (out within : Bool) (v w : Option Verdict) → (out ≡ false → within ≡ true) → no_cors_by out within v ≡ no_cors_by out within w
unread true within v w one = refl
unread false true v w one = refl
unread false false v w one = absurd (let wrong = one refl in cc)
