-- The frame of each navigation, where the history has one entry more.
use Rattle.std.proofs.Common.{refl, sym, ◌∙◌, ap, arith, get_or}
use Rattle.std.specs.Prelude.{◌≡◌, ◌<◌, ◌≤◌, ◌+◌, ◌-◌, ◌++◌, ◌∷◌, [], if◌then◌else◌, Bool, List, None, Option, Some, cond, count_by, false, filter, length, map, nat_lt, option_and_then, slice_get, suc, take, true, unwrap_or, zero, ℕ}
use Rattle.std.specs.Int.{from_bool}
use Rattle.std.specs.List.{range_with_len}
use Rattle.std.specs.Option.{option_map_or, option_to_list}
use Rattle.std.proofs.lemmas.Bool.{lt-ltb, le-ltb, ltb-false, ltb-true}
use Rattle.std.proofs.lemmas.List.{take-append-le, take_more}
use Rattle.std.proofs.lemmas.List.Elements.{filter-append}
use Rattle.std.proofs.lemmas.List.FromFn.{length-map-range_with_len, map-range_with_len_more, get_or-map-range_with_len}
use Rattle.std.proofs.lemmas.List.Sums.{length-filter, sum_by-append}
use Rattle.std.proofs.lemmas.Option.{slice_get_past, unwrap_or-slice_get}
use Rattle.std.proofs.Math.Seq.{take-append_seam}
use Rattle.history_entry.specs.declared.body.Body.{Body}
use Rattle.history_entry.specs.declared.body.Body.TheVariants.{AddFrame, Ask, DidCommit, Fetch, Navigate, OpenPage, Post, RemoveFrame}
use Rattle.history_entry.specs.declared.body.Message.{Message}
use Rattle.history_entry.specs.declared.entry.Entry.{Entry}
use Rattle.script_model.specs.ScriptData.{ScriptData, starts}
use Rattle.history_rules.proofs.Growth.{count_more, count_still, get_front}
use Rattle.history_rules.specs.Documents.{documents}
use Rattle.history_rules.specs.Entries.{accepted, body_makes_frame, body_makes_navigation, makes_frame, makes_navigation}
use Rattle.history_rules.specs.Frames.{body_frame, frame_of, frames_made, made_before, navigation_maker, navigations_made}
use Rattle.plain_facts.specs.Begun.{begun_frame}

module _ (s : ScriptData) (g k : List Entry) where
  get_filtered : (p : Entry → Bool) (i : ℕ) → i < count_by p g → slice_get (filter p (g ++ k)) i ≡ slice_get (filter p g) i
  get_filtered p i lt = rw (filter-append p g k) (get_front (filter p g) (filter p k) i (omega (arith, length-filter p g)))

  navigation_maker_kept : (n : ℕ) → n < navigations_made s g → navigation_maker s (g ++ k) n ≡ navigation_maker s g n
  unfolding navigation_maker
  navigation_maker_kept n lt = by_cases (nat_lt n (starts s)) refl
    where
      by_cases : (b : Bool) → nat_lt n (starts s) ≡ b → navigation_maker s (g ++ k) n ≡ navigation_maker s g n
      by_cases true is = rw is refl
      by_cases false is =
          let above : starts s ≤ n = ltb-false n (starts s) is in
          rw is (ap (option_and_then accepted) (get_filtered makes_navigation (n - starts s) (omega arith)))

  made_before_kept : (n : ℕ) → n < navigations_made s g → made_before s (g ++ k) n ≡ made_before s g n
  made_before_kept n lt =
      let few : n - starts s ≤ length (filter makes_navigation g) = omega (arith, length-filter makes_navigation g) in
      ap (λ xs. starts s + count_by makes_frame xs) (ap (take (n - starts s)) (filter-append makes_navigation g k) ∙ take-append-le (n - starts s) (filter makes_navigation g) (filter makes_navigation k) few)

  -- a navigation keeps its frame
  pub frame_of_kept : (n : ℕ) → n < navigations_made s g → frame_of s (g ++ k) n ≡ frame_of s g n
  unfolding frame_of
  frame_of_kept n lt =
      ap (λ o. if nat_lt n (starts s) then n else option_map_or (λ m. body_frame (made_before s (g ++ k) n) m.body) o 0) (navigation_maker_kept n lt)
      ∙ ap (λ x. if nat_lt n (starts s) then n else option_map_or (λ m. body_frame x m.body) (navigation_maker s g n) 0) (made_before_kept n lt)

map_same : {B : Type 0} (f g : ℕ → B) (a n : ℕ) → ((k : ℕ) → k < a + n → f k ≡ g k) → map f (range_with_len a n) ≡ map g (range_with_len a n)
map_same f g a zero same = refl
map_same f g a (suc n) same =
    let later : map f (range_with_len (a + 1) n) ≡ map g (range_with_len (a + 1) n) = map_same f g (a + 1) n (λ k lt. same k (omega arith)) in
    ap (λ x. x ∷ map f (range_with_len (a + 1) n)) (same a (omega arith)) ∙ ap (λ xs. g a ∷ xs) later

map_itself : (f : ℕ → ℕ) (a n : ℕ) → ((k : ℕ) → k < a + n → f k ≡ k) → map f (range_with_len a n) ≡ range_with_len a n
map_itself f a zero same = refl
map_itself f a (suc n) same =
    let later : map f (range_with_len (a + 1) n) ≡ range_with_len (a + 1) n = map_itself f (a + 1) n (λ k lt. same k (omega arith)) in
    ap (λ x. x ∷ map f (range_with_len (a + 1) n)) (same a (omega arith)) ∙ ap (λ xs. a ∷ xs) later

start_frame : (s : ScriptData) (h : List Entry) (n : ℕ) → n < starts s → frame_of s h n ≡ n
unfolding frame_of
start_frame s h n lt = rw (lt-ltb n (starts s) lt) refl

-- before the first entry there are the frames of the start pages
pub frames_at_start : (s : ScriptData) → range_with_len 0 (starts s) ≡ map (frame_of s []) (documents s [])
frames_at_start s =
    let e : navigations_made s [] ≡ starts s = omega arith in
    sym (ap (λ n. map (frame_of s []) (range_with_len 0 n)) e ∙ map_itself (frame_of s []) 0 (starts s) (λ k lt. start_frame s [] k (omega arith)))

get_seam : {X : Type 0} (xs : List X) (x : X) → slice_get (xs ++ x ∷ []) (length xs) ≡ Some x
get_seam [] x = refl
get_seam (y ∷ xs) x = get_seam xs x

-- a message that makes a frame begins a navigation
frame_begins : (body : Body) → body_makes_navigation body ≡ false → body_makes_frame body ≡ false
frame_begins (Navigate frame url initiator) e = refl
frame_begins (AddFrame src sandbox) e = e
frame_begins (RemoveFrame frame) e = e
frame_begins (OpenPage url) e = e
frame_begins (Fetch url mode initiator) e = e
frame_begins (Post frame target source text) e = e
frame_begins (Ask service origin request) e = e
frame_begins (DidCommit nav url origin) e = e

no_frame_by : (o : Option Message) → option_map_or (λ m. body_makes_navigation m.body) o false ≡ false → option_map_or (λ m. body_makes_frame m.body) o false ≡ false
no_frame_by None e = refl
no_frame_by (Some m) e = frame_begins m.body e

no_frame : (e : Entry) → makes_navigation e ≡ false → makes_frame e ≡ false
no_frame e is = no_frame_by (accepted e) is

count_cons : {X : Type 0} (p : X → Bool) (x : X) (xs : List X) → count_by p (x ∷ xs) ≡ count_by p (x ∷ []) + count_by p xs
count_cons p x xs = sum_by-append (λ y. cond (p y) 1 0) (x ∷ []) xs

count_none : {X : Type 0} (p : X → Bool) (x : X) → p x ≡ false → count_by p (x ∷ []) ≡ 0
count_none p x is = ap (λ b. 0 + cond b 1 0) is

-- each message that makes a frame is among those that begin navigations
frames_among : (h : List Entry) → count_by makes_frame (filter makes_navigation h) ≡ count_by makes_frame h
frames_among [] = refl
frames_among (e ∷ h) = by_cases (makes_navigation e) refl (frames_among h)
  where
    by_cases : (b : Bool) → makes_navigation e ≡ b → count_by makes_frame (filter makes_navigation h) ≡ count_by makes_frame h → count_by makes_frame (filter makes_navigation (e ∷ h)) ≡ count_by makes_frame (e ∷ h)
    by_cases true is more =
        ap (λ b. count_by makes_frame (cond b (e ∷ filter makes_navigation h) (filter makes_navigation h))) is
        ∙ count_cons makes_frame e (filter makes_navigation h) ∙ ap (λ n. count_by makes_frame (e ∷ []) + n) more ∙ sym (count_cons makes_frame e h)
    by_cases false is more =
        let quiet : count_by makes_frame (e ∷ []) ≡ 0 = count_none makes_frame e (no_frame e is) in
        let same : count_by makes_frame h ≡ count_by makes_frame (e ∷ h) = omega (arith, quiet, count_cons makes_frame e h) in
        ap (λ b. count_by makes_frame (cond b (e ∷ filter makes_navigation h) (filter makes_navigation h))) is ∙ more ∙ same

module _ (s : ScriptData) (h : List Entry) (e : Entry) where
  filter_seam : makes_navigation e ≡ true → filter makes_navigation (h ++ e ∷ []) ≡ filter makes_navigation h ++ e ∷ []
  filter_seam is = filter-append makes_navigation h (e ∷ []) ∙ ap (λ b. filter makes_navigation h ++ cond b (e ∷ []) []) is

  place : navigations_made s h - starts s ≡ length (filter makes_navigation h)
  place = omega (arith, length-filter makes_navigation h)

  made_before_new : makes_navigation e ≡ true → made_before s (h ++ e ∷ []) (navigations_made s h) ≡ frames_made s h
  made_before_new is =
      let front : take (navigations_made s h - starts s) (filter makes_navigation (h ++ e ∷ [])) ≡ filter makes_navigation h =
      ap (λ n. take n (filter makes_navigation (h ++ e ∷ []))) place ∙ ap (take (length (filter makes_navigation h))) (filter_seam is)
      ∙ take-append_seam (filter makes_navigation h) (e ∷ []) in
      ap (λ xs. starts s + count_by makes_frame xs) front ∙ ap (λ n. starts s + n) (frames_among h)

  maker_new : makes_navigation e ≡ true → navigation_maker s (h ++ e ∷ []) (navigations_made s h) ≡ accepted e
  unfolding navigation_maker
  maker_new is =
      let above : nat_lt (navigations_made s h) (starts s) ≡ false = le-ltb (navigations_made s h) (starts s) (omega arith) in
      let found : slice_get (filter makes_navigation (h ++ e ∷ [])) (navigations_made s h - starts s) ≡ Some e =
      ap (slice_get (filter makes_navigation (h ++ e ∷ []))) place ∙ ap (λ xs. slice_get xs (length (filter makes_navigation h))) (filter_seam is)
      ∙ get_seam (filter makes_navigation h) e in
      rw above (ap (option_and_then accepted) found)

  frame_of_new : makes_navigation e ≡ true → frame_of s (h ++ e ∷ []) (navigations_made s h) ≡ option_map_or (λ m. body_frame (frames_made s h) m.body) (accepted e) 0
  unfolding frame_of
  frame_of_new is =
      let above : nat_lt (navigations_made s h) (starts s) ≡ false = le-ltb (navigations_made s h) (starts s) (omega arith) in
      rw above
      (ap (λ o. option_map_or (λ m. body_frame (made_before s (h ++ e ∷ []) (navigations_made s h)) m.body) o 0) (maker_new is)
      ∙ ap (λ x. option_map_or (λ m. body_frame x m.body) (accepted e) 0) (made_before_new is))

  kept_all : map (frame_of s (h ++ e ∷ [])) (documents s h) ≡ map (frame_of s h) (documents s h)
  kept_all = map_same (frame_of s (h ++ e ∷ [])) (frame_of s h) 0 (navigations_made s h) (λ n lt. frame_of_kept s h (e ∷ []) n (omega arith))

  frames_still : makes_navigation e ≡ false → map (frame_of s h) (documents s h) ≡ map (frame_of s (h ++ e ∷ [])) (documents s (h ++ e ∷ []))
  frames_still is =
      let same : navigations_made s h ≡ navigations_made s (h ++ e ∷ []) = omega (arith, count_still makes_navigation h e is) in
      sym kept_all ∙ ap (λ n. map (frame_of s (h ++ e ∷ [])) (range_with_len 0 n)) same

  frames_more : makes_navigation e ≡ true → map (frame_of s h) (documents s h) ++ option_map_or (λ m. body_frame (frames_made s h) m.body) (accepted e) 0 ∷ [] ≡ map (frame_of s (h ++ e ∷ [])) (documents s (h ++ e ∷ []))
  frames_more is =
      let more : navigations_made s h + 1 ≡ navigations_made s (h ++ e ∷ []) = omega (arith, count_more makes_navigation h e is) in
      let f : ℕ → ℕ = frame_of s (h ++ e ∷ []) in
      ap (λ xs. xs ++ option_map_or (λ m. body_frame (frames_made s h) m.body) (accepted e) 0 ∷ []) (sym kept_all)
      ∙ ap (λ x. map (frame_of s (h ++ e ∷ [])) (documents s h) ++ x ∷ []) (sym (frame_of_new is))
      ∙ sym (map-range_with_len_more (frame_of s (h ++ e ∷ [])) 0 (navigations_made s h) (navigations_made s h) (omega arith))
      ∙ ap (λ n. map (frame_of s (h ++ e ∷ [])) (range_with_len 0 n)) more

  begun_by : (o : Option Message) (b : Bool) → option_map_or (λ m. body_makes_navigation m.body) o false ≡ b → option_to_list (option_and_then (λ m. if body_makes_navigation m.body then Some (body_frame (frames_made s h) m.body) else None) o) ≡ cond b (option_map_or (λ m. body_frame (frames_made s h) m.body) o 0 ∷ []) []
  begun_by None true is = absurd (cc)
  begun_by None false is = refl
  begun_by (Some m) true is = rw is refl
  begun_by (Some m) false is = rw is refl

  append_nothing : {X : Type 0} (xs : List X) → xs ++ [] ≡ xs
  append_nothing [] = refl
  append_nothing (x ∷ xs) = ap (λ ys. x ∷ ys) (append_nothing xs)

  -- the frames of an entry more
  pub frames_pushed : map (frame_of s h) (documents s h) ++ option_to_list (begun_frame (frames_made s h) e) ≡ map (frame_of s (h ++ e ∷ [])) (documents s (h ++ e ∷ []))
  frames_pushed = by_cases (makes_navigation e) refl
    where
      by_cases : (b : Bool) → makes_navigation e ≡ b → map (frame_of s h) (documents s h) ++ option_to_list (begun_frame (frames_made s h) e) ≡ map (frame_of s (h ++ e ∷ [])) (documents s (h ++ e ∷ []))
      by_cases true is = ap (λ xs. map (frame_of s h) (documents s h) ++ xs) (begun_by (accepted e) true is) ∙ frames_more is
      by_cases false is = ap (λ xs. map (frame_of s h) (documents s h) ++ xs) (begun_by (accepted e) false is) ∙ append_nothing (map (frame_of s h) (documents s h)) ∙ frames_still is

-- one turn of the loop that finds the frames
pub frames_step : (s : ScriptData) (h : List Entry) (i made : ℕ) (e : Entry) (found : List ℕ) → i < length h → e ≡ get_or h i e → made ≡ frames_made s (take i h) → found ≡ map (frame_of s (take i h)) (documents s (take i h)) → found ++ option_to_list (begun_frame made e) ≡ map (frame_of s (take (i + 1) h)) (documents s (take (i + 1) h))
frames_step s h i made e found lt is count was =
    let more : take (i + 1) h ≡ take i h ++ e ∷ [] = take_more h i e lt ∙ ap (λ x. take i h ++ x ∷ []) (sym is) in
    ap (λ xs. xs ++ option_to_list (begun_frame made e)) was
    ∙ ap (λ n. map (frame_of s (take i h)) (documents s (take i h)) ++ option_to_list (begun_frame n e)) count
    ∙ frames_pushed s (take i h) e ∙ ap (λ xs. map (frame_of s xs) (documents s xs)) (sym more)

-- of a navigation that did not begin nothing is known
pub frame_of_past : (s : ScriptData) (h : List Entry) (n : ℕ) → navigations_made s h ≤ n → frame_of s h n ≡ 0
unfolding frame_of navigation_maker
frame_of_past s h n le =
    let above : nat_lt n (starts s) ≡ false = le-ltb n (starts s) (omega arith) in
    let nothing : slice_get (filter makes_navigation h) (n - starts s) ≡ None = slice_get_past (filter makes_navigation h) (n - starts s) (omega (arith, length-filter makes_navigation h)) in
    rw (above, nothing) refl

-- the kept frames say the frame of every navigation
pub kept_frame : (s : ScriptData) (h : List Entry) (n : ℕ) → unwrap_or (slice_get (map (frame_of s h) (documents s h)) n) 0 ≡ frame_of s h n
kept_frame s h n = by_cases (nat_lt n (navigations_made s h)) refl
  where
    by_cases : (b : Bool) → nat_lt n (navigations_made s h) ≡ b → unwrap_or (slice_get (map (frame_of s h) (documents s h)) n) 0 ≡ frame_of s h n
    by_cases true is =
        let lt : n < navigations_made s h = ltb-true n (navigations_made s h) is in
        unwrap_or-slice_get (map (frame_of s h) (documents s h)) n 0 ∙ get_or-map-range_with_len (frame_of s h) 0 (navigations_made s h) n n 0 lt (omega arith)
    by_cases false is =
        let le : navigations_made s h ≤ n = ltb-false n (navigations_made s h) is in
        ap (λ o. unwrap_or o 0) (slice_get_past (map (frame_of s h) (documents s h)) n (omega (arith, length-map-range_with_len (frame_of s h) 0 (navigations_made s h)))) ∙ sym (frame_of_past s h n le)

-- how many frames are kept
pub kept_count : (s : ScriptData) (h : List Entry) → length (map (frame_of s h) (documents s h)) ≡ navigations_made s h
kept_count s h = length-map-range_with_len (frame_of s h) 0 (navigations_made s h)

pub one_at_most : (b : Bool) → from_bool b ≤ 1
one_at_most true = omega arith
one_at_most false = omega arith

frames_by : (s : ScriptData) (h : List Entry) (e : Entry) (b : Bool) → makes_frame e ≡ b → frames_made s h + from_bool b ≡ frames_made s (h ++ e ∷ [])
frames_by s h e true is = omega (arith, count_more makes_frame h e is)
frames_by s h e false is = omega (arith, count_still makes_frame h e is)

-- how many frames were made, one entry further
pub frames_made_step : (s : ScriptData) (h : List Entry) (i made : ℕ) (e : Entry) → i < length h → e ≡ get_or h i e → made ≡ frames_made s (take i h) → made + from_bool (makes_frame e) ≡ frames_made s (take (i + 1) h)
frames_made_step s h i made e lt is count =
    let more : take (i + 1) h ≡ take i h ++ e ∷ [] = take_more h i e lt ∙ ap (λ x. take i h ++ x ∷ []) (sym is) in
    ap (λ n. n + from_bool (makes_frame e)) count ∙ frames_by s (take i h) e (makes_frame e) refl ∙ ap (frames_made s) (sym more)
