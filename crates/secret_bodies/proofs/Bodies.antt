-- The script with another body: what a resource keeps, and the verdict that it keeps.
use Rattle.std.proofs.Common.{refl, sym, ◌∙◌, ap, inl, inr}
use Rattle.std.specs.Prelude.{◌≡◌, ◌==◌, ◌+◌, ◌-◌, ◌∷◌, [], Bool, List, None, Option, Some, bytes_eq, cond, drop, false, filter, length, map, min, nat_lt, not, option_map, suc, take, true, unwrap_or, ℕ}
use Rattle.std.specs.List.{find, position, position_or_len, prefix_len}
use Rattle.std.specs.Option.{option_map_or}
use Rattle.std.proofs.lemmas.List.{length-map, length-take}
use Rattle.page_origin.specs.PageUrls.{key_of}
use Rattle.page_origin.specs.declared.origin.Origin.{Origin}
use Rattle.url_keys.proofs.Texts.{key_twice as key_of_key}
use Rattle.history_entry.specs.declared.body.Mode.{Mode}
use Rattle.history_entry.specs.declared.body.Mode.TheVariants.{Cors as InCors, NoCors}
use Rattle.script_model.specs.ResourceData.{ResourceData}
use Rattle.script_model.specs.ScriptData.{ScriptData, find_resource}
use Rattle.script_model.specs.Verdicts.{is_left_out, is_same_site_chain, verdict}
use Rattle.script_model.specs.declared.verdict.Verdict.{Verdict}
use Rattle.script_model.specs.declared.verdict.Verdict.TheVariants.{Allow, Block}
use Rattle.history_rules.proofs.Equal.{equal_bytes, same_bytes}
use Rattle.script_model.specs.Pieces.{cut_at, pieces, sent_bytes}
use Rattle.history_rules.specs.Requests.{is_read_chain, response_verdict}
use Rattle.history_rules.specs.Responses.{absent, resource_at}
use Rattle.history_laws.specs.Secret.{IsHidden, IsHiddenAlike, IsSecretBody, own_verdict, with_body, with_body_at, with_own_body}
use Rattle.secret_bodies.proofs.OwnChains.{let_through, no_cors_by, unread}

find_mapped : {X : Type 0} (p : X → Bool) (g : X → X) → ((x : X) → p (g x) ≡ p x) → (xs : List X) → find p (map g xs) ≡ option_map g (find p xs)
find_mapped p g same [] = refl
find_mapped p g same (x ∷ xs) = (λ i. cond (same x i) (Some (g x)) (find_mapped p g same xs i)) ∙ by_cases (p x)
  where
    by_cases : (b : Bool) → cond b (Some (g x)) (option_map g (find p xs)) ≡ option_map g (cond b (Some x) (find p xs))
    by_cases true = refl
    by_cases false = refl

find_passes_by : {X : Type 0} (p : X → Bool) (y : X) (o : Option X) (x : X) (b : Bool) → p y ≡ b → (o ≡ Some x → p x ≡ true) → cond b (Some y) o ≡ Some x → p x ≡ true
find_passes_by p y o x true is more e = let same : y ≡ x = cc in ap p (sym same) ∙ is
find_passes_by p y o x false is more e = more e

pub find_passes : {X : Type 0} (p : X → Bool) (xs : List X) (x : X) → find p xs ≡ Some x → p x ≡ true
find_passes p [] x e = absurd (cc)
find_passes p (y ∷ xs) x e = find_passes_by p y (find p xs) x (p y) refl (λ f. find_passes p xs x f) e

prefix_mapped : {X : Type 0} (p : X → Bool) (g : X → X) → ((x : X) → p (g x) ≡ p x) → (xs : List X) → prefix_len p (map g xs) ≡ prefix_len p xs
prefix_mapped p g same [] = refl
prefix_mapped p g same (x ∷ xs) = λ i. cond (same x i) (1 + prefix_mapped p g same xs i) 0

-- the place of the first that passes, where the elements were changed and the test was not
pub position_mapped : {X : Type 0} (p : X → Bool) (g : X → X) → ((x : X) → p (g x) ≡ p x) → (xs : List X) → position p (map g xs) ≡ position p xs
position_mapped p g same xs =
    let place : position_or_len p (map g xs) ≡ position_or_len p xs = prefix_mapped (λ x. not (p x)) g (λ x. ap not (same x)) xs in
    λ i. cond (nat_lt (place i) (length-map xs g i)) (Some (place i)) None

cut_length : (from : ℕ) (cuts bytes : List ℕ) → length (cut_at from cuts bytes) ≡ suc (length cuts)
cut_length from [] bytes = refl
cut_length from (c ∷ cuts) bytes = ap suc (cut_length c cuts (drop (c - from) bytes))

hidden_same : (v w : Option Verdict) → IsHiddenAlike v w → w ≡ v
hidden_same None w is = is
hidden_same (Some (Block rule)) w is = is
hidden_same (Some (Allow rule)) w is = absurd is

module _ (s : ScriptData) (key body : List ℕ) where
  abbrev s2 : ScriptData
  s2 = with_body s key body

  -- what doesn't look at a body
  pub at_same : {A : Type 0} (F : ResourceData → A) (x : ResourceData) → F (with_own_body body x) ≡ F x → F (with_body_at key body x) ≡ F x
  at_same F x is = by_cases (bytes_eq (key_of x.url) key)
    where
      by_cases : (b : Bool) → F (cond b (with_own_body body x) x) ≡ F x
      by_cases true = is
      by_cases false = refl

  find_other : (k : List ℕ) → find_resource s2 k ≡ option_map (with_body_at key body) (find_resource s k)
  unfolding find_resource
  find_other k = find_mapped (λ x. bytes_eq (key_of x.url) k) (with_body_at key body) (λ x. at_same (λ y. bytes_eq (key_of y.url) k) x refl) s.resources

  -- what stands at the key, as it is found without a fragment
  pub at_key : (r : ResourceData) → find_resource s (key_of key) ≡ Some r → resource_at s2 key ≡ with_body_at key body r
  at_key r found = ap (λ o. unwrap_or o (absent key)) (find_other (key_of key) ∙ ap (option_map (with_body_at key body)) found)

  pub none_at_key : find_resource s (key_of key) ≡ None → resource_at s2 key ≡ absent key
  none_at_key found = ap (λ o. unwrap_or o (absent key)) (find_other (key_of key) ∙ ap (option_map (with_body_at key body)) found)

  pub other_url : (url : List ℕ) → bytes_eq (key_of url) key ≡ false → resource_at s2 url ≡ resource_at s url
  unfolding find_resource
  other_url url e = ap (λ o. unwrap_or o (absent url)) (find_other (key_of url)) ∙ by_cases (find_resource s (key_of url)) refl
    where
      by_cases : (o : Option ResourceData) → find_resource s (key_of url) ≡ o → unwrap_or (option_map (with_body_at key body) (find_resource s (key_of url))) (absent url) ≡ unwrap_or (find_resource s (key_of url)) (absent url)
      by_cases None is = ap (λ o. unwrap_or (option_map (with_body_at key body) o) (absent url)) is ∙ sym (ap (λ o. unwrap_or o (absent url)) is)
      by_cases (Some x) is =
          let same : key_of x.url ≡ key_of url = equal_bytes (key_of x.url) (key_of url) (find_passes (λ y. bytes_eq (key_of y.url) (key_of url)) s.resources x is) in
          let stays : with_body_at key body x ≡ x = ap (λ b. cond b (with_own_body body x) x) (ap (λ k. bytes_eq k key) same ∙ e) in
          ap (λ o. unwrap_or (option_map (with_body_at key body) o) (absent url)) is ∙ stays ∙ sym (ap (λ o. unwrap_or o (absent url)) is)

  module _ (r : ResourceData) (found : find_resource s key ≡ Some r) (secret : IsSecretBody s.policy r body) where
    pub has_the_key : bytes_eq (key_of r.url) key ≡ true
    unfolding find_resource
    has_the_key = find_passes (λ x. bytes_eq (key_of x.url) key) s.resources r found

    pub key_twice : bytes_eq (key_of key) key ≡ true
    key_twice =
        let same : key_of r.url ≡ key = equal_bytes (key_of r.url) key has_the_key in
        ap (λ k. bytes_eq (key_of k) k) (sym same) ∙ ap (λ k. bytes_eq k (key_of r.url)) (key_of_key r.url) ∙ same_bytes (key_of r.url)

    pub of_key : (url : List ℕ) → bytes_eq (key_of url) key ≡ true → resource_at s url ≡ r
    of_key url e = ap (λ o. unwrap_or o (absent url)) (ap (find_resource s) (equal_bytes (key_of url) key e) ∙ found)

    pub of_key_other : (url : List ℕ) → bytes_eq (key_of url) key ≡ true → resource_at s2 url ≡ with_own_body body r
    of_key_other url e =
        ap (λ o. unwrap_or o (absent url)) (find_other (key_of url) ∙ ap (option_map (with_body_at key body)) (ap (find_resource s) (equal_bytes (key_of url) key e) ∙ found))
        ∙ ap (λ b. cond b (with_own_body body r) r) has_the_key

    -- what agrees on the two bodies agrees on the two scripts
    pub resource_same : {A : Type 0} (F : ResourceData → A) → F (with_own_body body r) ≡ F r → (url : List ℕ) → F (resource_at s2 url) ≡ F (resource_at s url)
    resource_same F is url = by_cases (bytes_eq (key_of url) key) refl
      where
        by_cases : (b : Bool) → bytes_eq (key_of url) key ≡ b → F (resource_at s2 url) ≡ F (resource_at s url)
        by_cases true e = ap F (of_key_other url e) ∙ is ∙ sym (ap F (of_key url e))
        by_cases false e = ap F (other_url url e)

    sent_length : length (sent_bytes (with_own_body body r)) ≡ length (sent_bytes r)
    sent_length = by_cases r.fail_after
      where
        by_cases : (o : Option ℕ) → length (option_map_or (λ k. take k body) o body) ≡ length (option_map_or (λ k. take k r.body) o r.body)
        by_cases None = secret.same_length
        by_cases (Some k) = length-take k body ∙ ap (min k) secret.same_length ∙ sym (length-take k r.body)

    pub pieces_length : length (pieces (with_own_body body r)) ≡ length (pieces r)
    unfolding pieces
    pieces_length = by_number (sent_bytes (with_own_body body r)) ∙ (λ i. number (sent_length i)) ∙ sym (by_number (sent_bytes r))
      where
        number : ℕ → ℕ
        number n = cond (n == 0) 0 (suc (length (filter (λ c. nat_lt c n) r.cuts)))

        by_cases : (b : Bool) (bytes : List ℕ) → length (cond b [] (cut_at 0 (filter (λ c. nat_lt c (length bytes)) r.cuts) bytes)) ≡ cond b 0 (suc (length (filter (λ c. nat_lt c (length bytes)) r.cuts)))
        by_cases true bytes = refl
        by_cases false bytes = cut_length 0 (filter (λ c. nat_lt c (length bytes)) r.cuts) bytes

        by_number : (bytes : List ℕ) → length (cond (length bytes == 0) [] (cut_at 0 (filter (λ c. nat_lt c (length bytes)) r.cuts) bytes)) ≡ number (length bytes)
        by_number bytes = by_cases (length bytes == 0) bytes

    -- without CORS: the request is left out or within the site, or the body hides as the other does
    no_cors_same : (origin : Origin) (x : List ℕ) (xs : List (List ℕ)) → IsHidden s.policy r body
        → no_cors_by (is_left_out s.policy s.rules origin (x ∷ xs) r.head) (is_same_site_chain s.rules origin (x ∷ xs)) (own_verdict (with_own_body body r))
        ≡ no_cors_by (is_left_out s.policy s.rules origin (x ∷ xs) r.head) (is_same_site_chain s.rules origin (x ∷ xs)) (own_verdict r)
    no_cors_same origin x xs (inl kept) = unread (is_left_out s.policy s.rules origin (x ∷ xs) r.head) (is_same_site_chain s.rules origin (x ∷ xs))
        (own_verdict (with_own_body body r)) (own_verdict r) (let_through s.rules s.policy r origin x xs kept)
    no_cors_same origin x xs (inr alike) = ap (no_cors_by (is_left_out s.policy s.rules origin (x ∷ xs) r.head) (is_same_site_chain s.rules origin (x ∷ xs)))
        (hidden_same (own_verdict r) (own_verdict (with_own_body body r)) alike)

    -- the verdict of who asks
    pub verdict_same : (origin : Origin) (x : List ℕ) (xs : List (List ℕ)) (mode : Mode) → response_verdict s2 origin (x ∷ xs) mode (with_own_body body r) ≡ response_verdict s origin (x ∷ xs) mode r
    unfolding response_verdict verdict
    verdict_same origin x xs InCors = refl
    verdict_same origin x xs NoCors = ap (λ v. cond (is_read_chain (x ∷ xs)) v None) (no_cors_same origin x xs secret.hidden)
