-- What a sniffer has read, and what its states say of that list.
use Rattle.std.proofs.Common.{◌≡◌, ◌≢◌, ℕ, zero, suc, ◌+◌, ◌-◌, ◌<◌, ◌≤◌, ◌⊎◌, inl, inr, min, leb, Bool, true, false, not, ◌&&◌, ◌||◌, cond, None, Some, List, [], ◌∷◌, ◌++◌, length, take, refl, sym, ap, ◌∙◌, append_assoc, append-nil, length-append, arith}
use Rattle.std.specs.List.{find}
use Rattle.std.proofs.lemmas.List.{take_all, take_min, length-take}
use Rattle.std.proofs.lemmas.Bool.{cases_lt, or_left, or_right, le-leb, lt-leb, not_from_false, true_from_ne_false}
use Rattle.corb_sniff.specs.Confirmation.{window, meets, is_tested, all_sniffed, found_in, confirms}
use Rattle.corb_sniff.specs.Hope.{may_be_found}
use Rattle.corb_sniff.specs.Answers.{is_settled, answer_by, answer_of}
use Rattle.corb_sniff.proofs.MayBeFound.{hopeless_from, may_be_found-hopeless}
use Rattle.corb_sniff.specs.Reading.{Reads, sample_of, is_met, met_now, IsHopelessNow, AnswersNow}
use Rattle.corb_sniff.specs.HasRead.{HasRead}
use Rattle.corb_sniff.specs.declared.kind.SniffKind.{SniffKind}
use Rattle.corb_sniff.specs.declared.kind.Sniffed.{Sniffed}
use Rattle.corb_sniff.specs.declared.kind.Sniffed.TheVariants.{Html, Xml, Json, Prefix}
use Rattle.corb_sniff.specs.declared.kind.Answer.{Answer}
use Rattle.corb_sniff.specs.declared.kind.Answer.TheVariants.{More, Confirmed, Clear}
use Rattle.corb_sniff.specs.declared.sniffer.Sniffer.{Sniffer}

-- each of the four
pub each_hopeless : (s : Sniffer) → IsHopelessNow s Html → IsHopelessNow s Xml → IsHopelessNow s Json → IsHopelessNow s Prefix → (sniffed : Sniffed) → IsHopelessNow s sniffed
each_hopeless s h x j p Html = h
each_hopeless s h x j p Xml = x
each_hopeless s h x j p Json = j
each_hopeless s h x j p Prefix = p

pub take-append : (n : ℕ) (xs ys : List ℕ) → take n (xs ++ ys) ≡ take n xs ++ take (n - length xs) ys
take-append zero xs ys = let e : 0 ≡ 0 - length xs = omega arith in ap (λ k. take k ys) e
take-append (suc n) [] ys = let e : suc n ≡ suc n - 0 = omega arith in ap (λ k. take k ys) e
take-append (suc n) (x ∷ xs) ys =
    let e : n - length xs ≡ suc n - suc (length xs) = omega arith in
    ap (λ l. x ∷ l) (take-append n xs ys ∙ ap (λ k. take n xs ++ take k ys) e)

-- the window grows by as much of the piece as there is room for
window-append : (list piece : List ℕ) (room : ℕ) → room ≡ min (length piece) (1024 - length (window list)) → window (list ++ piece) ≡ window list ++ take room piece
window-append list piece room e =
    let left = 1024 - length list in
    let same : min left (length piece) ≡ room = omega (arith, e, length-take 1024 list) in
    take-append 1024 list piece ∙ ap (λ l. window list ++ l) (sym (take_min left piece) ∙ ap (λ k. take k piece) same)

pub HasRead-reads : (old new : Sniffer) (kind : SniffKind) (list piece : List ℕ) (room : ℕ) → HasRead old kind list → room ≡ min (length piece) (1024 - old.seen) → Reads old (take room piece) new → HasRead new kind (list ++ piece)
HasRead-reads old new kind list piece room read e reads =
    let whole = window-append list piece room (e ∙ ap (λ n. min (length piece) (1024 - n)) read.seen) in
    record {
      kind_is = reads.kind ∙ read.kind_is;
      seen =
          reads.seen ∙ ap (λ n. n + length (take room piece)) read.seen
          ∙ sym (length-append (window list) (take room piece)) ∙ ap length (sym whole);
      alike = λ sniffed more.
          ap (λ l. meets sniffed (l ++ more)) whole
          ∙ ap (meets sniffed) (append_assoc (window list) (take room piece) more)
          ∙ read.alike sniffed (take room piece ++ more)
          ∙ ap (meets sniffed) (sym (append_assoc (sample_of old sniffed) (take room piece) more))
          ∙ reads.alike sniffed more;
    }

find-same : (p q : Sniffed → Bool) → ((x : Sniffed) → p x ≡ q x) → (xs : List Sniffed) → find p xs ≡ find q xs
find-same p q same [] = refl
find-same p q same (x ∷ xs) =
    ap (λ b. cond b (Some x) (find p xs)) (same x) ∙ ap (λ o. cond (q x) (Some x) o) (find-same p q same xs)

-- what the samples meet, the window meets
meets-now : (s : Sniffer) (kind : SniffKind) (list : List ℕ) (sniffed : Sniffed) → HasRead s kind list → meets sniffed (sample_of s sniffed) ≡ meets sniffed (window list)
meets-now s kind list sniffed read =
    ap (meets sniffed) (sym (append-nil (sample_of s sniffed))) ∙ sym (read.alike sniffed []) ∙ ap (meets sniffed) (append-nil (window list))

met_now-window : (s : Sniffer) (kind : SniffKind) (list : List ℕ) → HasRead s kind list → met_now s ≡ confirms kind list
unfolding found_in
met_now-window s kind list read =
    find-same (is_met s) (λ sniffed. is_tested kind sniffed && meets sniffed (window list))
    (λ sniffed. ap (λ k. is_tested k sniffed && meets sniffed (sample_of s sniffed)) read.kind_is ∙ ap (λ b. is_tested kind sniffed && b) (meets-now s kind list sniffed read))
    all_sniffed

-- of a list that is shorter, the window is all
pub window-all : (list : List ℕ) → length list < 1024 → window list ≡ list
window-all list short = take_all 1024 list (omega arith)

abbrev AreAllHopeless : Sniffer → Type 0
AreAllHopeless s = (sniffed : Sniffed) → IsHopelessNow s sniffed

-- a short list is as hopeless as the samples
none_found : (s : Sniffer) (kind : SniffKind) (list : List ℕ) → HasRead s kind list → length list < 1024 → AreAllHopeless s → may_be_found kind list ≡ false
none_found s kind list read short all =
    may_be_found-hopeless kind list
    (λ sniffed tested more.
    ap (λ l. meets sniffed (l ++ more)) (sym (window-all list short)) ∙ read.alike sniffed more
    ∙ (all sniffed).hopeless (ap (λ k. is_tested k sniffed) read.kind_is ∙ tested) more)

all_hopeless : (s : Sniffer) (kind : SniffKind) (list : List ℕ) → HasRead s kind list → length list < 1024 → may_be_found kind list ≡ false → AreAllHopeless s
all_hopeless s kind list read short none sniffed = record {
  hopeless = λ tested more.
      sym (read.alike sniffed more) ∙ ap (λ l. meets sniffed (l ++ more)) (window-all list short)
      ∙ hopeless_from kind list none sniffed (ap (λ k. is_tested k sniffed) (sym read.kind_is) ∙ tested) more;
}

pub settled_long : (kind : SniffKind) (list : List ℕ) (ended : Bool) → 1024 ≤ length list → is_settled kind list ended ≡ true
unfolding is_settled
settled_long kind list ended long =
    or_left _ _ (or_right ended (leb 1024 (length list)) (le-leb 1024 (length list) long))

settled_from : (s : Sniffer) (kind : SniffKind) (list : List ℕ) (ended : Bool) → HasRead s kind list → (ended ≡ true) ⊎ ((s.seen ≡ 1024) ⊎ AreAllHopeless s) → is_settled kind list ended ≡ true
unfolding is_settled
settled_from s kind list ended read (inl end) = or_left _ _ (or_left ended (leb 1024 (length list)) end)
settled_from s kind list ended read (inr (inl full)) =
    settled_long kind list ended (omega (arith, read.seen, full, length-take 1024 list))
settled_from s kind list ended read (inr (inr all)) =
    elim (cases_lt (length list) 1024) [
      | inl short ↦ or_right _ _ (not_from_false _ (none_found s kind list read short all))
      | inr long ↦ settled_long kind list ended long
    ]

unsettled_by : (ended full some : Bool) → ended ≡ false → full ≡ false → some ≡ true → (ended || full || not some) ≡ false
unsettled_by true full some e f g = e
unsettled_by false true some e f g = f
unsettled_by false false true e f g = refl
unsettled_by false false false e f g = sym g

unsettled_from : (s : Sniffer) (kind : SniffKind) (list : List ℕ) (ended : Bool) → HasRead s kind list → ended ≡ false → s.seen ≢ 1024 → (AreAllHopeless s → ⊥) → is_settled kind list ended ≡ false
unfolding is_settled
unsettled_from s kind list ended read going room some =
    let short : length list < 1024 = omega (arith, room, read.seen, length-take 1024 list) in
    unsettled_by ended (leb 1024 (length list)) (may_be_found kind list) going (lt-leb 1024 (length list) short)
    (true_from_ne_false (may_be_found kind list) (λ none. some (all_hopeless s kind list read short none)))

-- the answer by the states is the answer on the list
pub answer-read : (s : Sniffer) (kind : SniffKind) (list : List ℕ) (ended : Bool) (answer : Answer) → HasRead s kind list → AnswersNow s ended answer → answer ≡ answer_of kind list ended
answer-read s kind list ended (Confirmed sniffed) read now =
    ap (λ o. answer_by o (is_settled kind list ended)) (sym now ∙ met_now-window s kind list read)
answer-read s kind list ended Clear read now =
    ap (λ settled. answer_by None settled) (sym (settled_from s kind list ended read now.1))
    ∙ ap (λ o. answer_by o (is_settled kind list ended)) (sym now.0 ∙ met_now-window s kind list read)
answer-read s kind list ended More read now =
    ap (λ settled. answer_by None settled) (sym (unsettled_from s kind list ended read now.1 now.2 now.3))
    ∙ ap (λ o. answer_by o (is_settled kind list ended)) (sym now.0 ∙ met_now-window s kind list read)
