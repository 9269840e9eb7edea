-- A legal history with a secret body's new pieces is legal for the changed script.
use Rattle.std.proofs.Common.{refl, sym, ◌∙◌, ap, arith, subst}
use Rattle.std.specs.Prelude.{◌≡◌, ◌&&◌, ◌<◌, ◌≤◌, if◌then◌else◌, Bool, List, None, Some, bytes_eq, cond, false, length, map, option_map, slice_get, suc, take, true, unwrap_or, zero, ◌∷◌, [], ℕ}
use Rattle.std.proofs.lemmas.Option.{slice_get-map, slice_get_within}
use Rattle.page_origin.specs.PageUrls.{key_of}
use Rattle.history_entry.specs.declared.entry.Entry.{Entry}
use Rattle.history_entry.specs.declared.entry.Entry.TheVariants.{Piece}
use Rattle.script_model.specs.ResourceData.{ResourceData}
use Rattle.script_model.specs.ScriptData.{ScriptData, find_resource}
use Rattle.history_rules.proofs.Apart.{from_map}
use Rattle.script_model.specs.Pieces.{pieces}
use Rattle.history_rules.specs.Redirects.{last_url, response}
use Rattle.history_rules.specs.Requests.{delivered, has_head, is_live_request, request_chain}
use Rattle.history_rules.specs.Responses.{resource_at}
use Rattle.service_rule.specs.Services.{ServiceRule}
use Rattle.history_steps.proofs.Fixed.{fixed_from}
use Rattle.history_steps.proofs.Rows.{piece_row}
use Rattle.history_steps.specs.Deliveries.{piece_next}
use Rattle.history_steps.specs.MayFollow.{MayFollow, next_of}
use Rattle.history_steps.specs.Run.{Legal}
use Rattle.history_laws.specs.Secret.{IsSecretBody, has_key, swap_body, swapped, with_body, with_own_body}
use Rattle.secret_bodies.proofs.Bodies.{key_twice, of_key, of_key_other, other_url, pieces_length}
use Rattle.secret_bodies.proofs.Changed.{NewBytes, after, changed, take_same}
use Rattle.secret_bodies.proofs.SameNexts.{next_same}
use Rattle.secret_bodies.proofs.SameWords.{delivered_same, has_head_same, is_live_request_same, request_chain_same}

-- the new bytes of a piece
abbrev pub new_bytes : ScriptData → List ℕ → List ℕ → List Entry → NewBytes
new_bytes s key body h r i bytes =
    if has_key h key r then unwrap_or (slice_get (pieces (resource_at (with_body s key body) key)) i) bytes else bytes

-- swapping is such a change
swapped_is : (s : ScriptData) (key body : List ℕ) (h : List Entry) (e : Entry) → swapped s key body h e ≡ changed (new_bytes s key body h) e
swapped_is s key body h (Piece r i bytes) = by_cases (has_key h key r)
  where
    by_cases : (b : Bool) → cond b (Piece r i (unwrap_or (slice_get (pieces (resource_at (with_body s key body) key)) i) bytes)) (Piece r i bytes)
        ≡ Piece r i (cond b (unwrap_or (slice_get (pieces (resource_at (with_body s key body) key)) i) bytes) bytes)
    by_cases true = refl
    by_cases false = refl
swapped_is s key body h _ = refl

pub swap_is : (s : ScriptData) (key body : List ℕ) (h : List Entry) → swap_body s key body h ≡ after (new_bytes s key body h) h
unfolding swap_body
swap_is s key body h = λ i. map (λ e. swapped_is s key body h e i) h

got : {X : Type 0} (xs : List X) (i : ℕ) → i < length xs → (x : X) × (slice_get xs i ≡ Some x)
got [] i lt = absurd (omega arith)
got (x ∷ xs) zero lt = (x, refl)
got (x ∷ xs) (suc i) lt = got xs i (omega arith)

module _ (rule : ServiceRule) (s : ScriptData) (key body : List ℕ) (h : List Entry) (legal : Legal rule s h) (res : ResourceData) (found : find_resource s key ≡ Some res) (secret : IsSecretBody s.policy res body) where
  abbrev s2 : ScriptData
  s2 = with_body s key body

  abbrev to : NewBytes
  to = new_bytes s key body h

  -- the piece that the changed script has where the script has this one
  new_piece : (chain : List (List ℕ)) (r i : ℕ) (bytes : List ℕ) → request_chain h r ≡ chain → slice_get (pieces (response s chain)) i ≡ Some bytes → slice_get (pieces (response s2 chain)) i ≡ Some (to r i bytes)
  new_piece chain r i bytes same at = by_cases (bytes_eq (key_of (last_url chain)) key) refl
    where
      is_key : has_key h key r ≡ bytes_eq (key_of (last_url chain)) key
      is_key = ap (λ c. bytes_eq (key_of (last_url c)) key) same

      by_cases : (b : Bool) → bytes_eq (key_of (last_url chain)) key ≡ b → slice_get (pieces (response s2 chain)) i ≡ Some (to r i bytes)
      by_cases false e =
          let stays : to r i bytes ≡ bytes = ap (λ b. cond b (unwrap_or (slice_get (pieces (resource_at s2 key)) i) bytes) bytes) (is_key ∙ e) in
          ap (λ x. slice_get (pieces x) i) (other_url s key body (last_url chain) e) ∙ at ∙ ap (λ x. Some x) (sym stays)
      by_cases true e =
          let own : response s chain ≡ res = of_key s key body res found secret (last_url chain) e in
          let other : response s2 chain ≡ with_own_body body res = of_key_other s key body res found secret (last_url chain) e in
          let of_swap : resource_at s2 key ≡ with_own_body body res = of_key_other s key body res found secret key (key_twice s key body res found secret) in
          let within : i < length (pieces (response s chain)) = slice_get_within (pieces (response s chain)) i bytes at in
          let lengths : length (pieces (with_own_body body res)) ≡ length (pieces (response s chain)) = pieces_length s key body res found secret ∙ sym (ap (λ x. length (pieces x)) own) in
          let there = got (pieces (with_own_body body res)) i (omega (arith, within, lengths)) in
          let goes : to r i bytes ≡ there.0 =
          ap (λ b. cond b (unwrap_or (slice_get (pieces (resource_at s2 key)) i) bytes) bytes) (is_key ∙ e)
          ∙ ap (λ x. unwrap_or (slice_get (pieces x) i) bytes) of_swap ∙ ap (λ o. unwrap_or o bytes) there.1 in
          ap (λ x. slice_get (pieces x) i) other ∙ there.1 ∙ ap (λ x. Some x) (sym goes)

  piece_step : (i r n : ℕ) (bytes : List ℕ) → slice_get h i ≡ Some (Piece r n bytes) → MayFollow rule s2 (after to (take i h)) (Piece r n (to r n bytes))
  unfolding piece_next next_of
  piece_step i r n bytes at =
      let g = take i h in
      let row = piece_row rule s g r n bytes (legal i (Piece r n bytes) at) in
      let le : i ≤ length h = omega (arith, slice_get_within h i (Piece r n bytes) at) in
      let fixed = fixed_from rule s h legal i r le row.headed in
      let bytes_at : slice_get (pieces (response s (request_chain g r))) n ≡ Some bytes = ap (λ k. slice_get (pieces (response s (request_chain g r))) k) row.number ∙ row.bytes_are in
      let new = new_piece (request_chain g r) r n bytes fixed.chain bytes_at in
      let words : piece_next s2 (after to g) r ≡ (if is_live_request s g r && has_head g r
      then option_map (Piece r (delivered g r)) (slice_get (pieces (response s2 (request_chain g r))) (delivered g r)) else None) =
      (λ k. if is_live_request_same to s key body g r k && has_head_same to s key body g r k
      then option_map (Piece r (delivered_same to s key body g r k)) (slice_get (pieces (response s2 (request_chain_same to s key body g r k))) (delivered_same to s key body g r k)) else None) in
      words
      ∙ ap (λ b. if b && has_head g r then option_map (Piece r (delivered g r)) (slice_get (pieces (response s2 (request_chain g r))) (delivered g r)) else None) row.live
      ∙ ap (λ b. if b then option_map (Piece r (delivered g r)) (slice_get (pieces (response s2 (request_chain g r))) (delivered g r)) else None) row.headed
      ∙ ap (λ k. option_map (Piece r k) (slice_get (pieces (response s2 (request_chain g r))) k)) (sym row.number)
      ∙ ap (option_map (Piece r n)) new

  step : (i : ℕ) (e : Entry) → slice_get h i ≡ Some e → MayFollow rule s2 (after to (take i h)) (changed to e)
  step i (Piece r n bytes) at = piece_step i r n bytes at
  step i e at = next_same rule to s key body (take i h) res found secret e tt ∙ legal i e at

  pub swapped_legal : Legal rule s2 (after to h)
  swapped_legal i e at =
      let was = from_map (changed to) (slice_get h i) e (sym (slice_get-map (changed to) h i) ∙ at) in
      subst (λ x. MayFollow rule s2 x e) (sym (take_same to i h)) (subst (λ x. MayFollow rule s2 (after to (take i h)) x) was.2 (step i was.0 was.1))
