-- What a history says whose entries are kept: orders, origins, messages and the numbers of frames.
use Rattle.std.proofs.Common.{refl, subst, arith, take, min}
use Rattle.std.specs.Prelude.{◌≡◌, ◌-◌, ◌≤◌, ◌++◌, ◌∷◌, [], Bool, IfSome, List, None, Option, Some, cond, count_by, false, filter, length, nat_lt, option_and_then, option_map, suc, true, unwrap_or, zero, ℕ, ◌==◌}
use Rattle.std.specs.List.{AllByRecursion, last_or, range_with_len, slice_get}
use Rattle.std.specs.Option.{option_map_or}
use Rattle.std.proofs.lemmas.Bool.{ltb-true}
use Rattle.std.proofs.lemmas.List.{length-take}
use Rattle.std.proofs.lemmas.List.Sums.{count_by-le-length, length-filter}
use Rattle.page_origin.specs.declared.origin.Origin.{Origin}
use Rattle.history_entry.specs.declared.body.Body.{Body}
use Rattle.history_entry.specs.declared.body.Body.TheVariants.{AddFrame, Ask, DidCommit, Fetch, Navigate, OpenPage, Post, RemoveFrame}
use Rattle.history_entry.specs.declared.body.Message.{Message}
use Rattle.history_entry.specs.declared.entry.Entry.{Entry}
use Rattle.history_entry.specs.declared.entry.Entry.TheVariants.{Said}
use Rattle.history_entry.specs.declared.reply.Reply.TheVariants.{Ok as Okay}
use Rattle.history_rules.specs.Orders.{OrderData, order_of}
use Rattle.script_model.specs.ScriptData.{ScriptData, starts}
use Rattle.history_rules.proofs.Apart.{from_else, from_map, from_then}
use Rattle.history_rules.specs.Documents.{origin_of}
use Rattle.history_rules.specs.Entries.{accepted, makes_frame, makes_navigation}
use Rattle.history_rules.specs.Frames.{adder_of, body_frame, frame_maker, frame_of, frames_made, lineage, lineage_within, made_before, navigation_maker, navigations_made, opener_in, opener_of, top_of}
use Rattle.history_rules.specs.Sights.{added_by}
use Rattle.history_steps.proofs.Frames.{in_range}
use Rattle.history_steps.proofs.Orders.{order_entry, order_of_found}
use Rattle.history_steps.proofs.Presence.{accepted_form, filtered}
use Rattle.entry_reading.specs.Entries.{IsBody, IsEntry, IsMessage, IsNumber, IsOrigin}

pub all_at : {X : Type 0} (P : X → Type 0) (xs : List X) (i : ℕ) (x : X) → AllByRecursion P xs → slice_get xs i ≡ Some x → P x
all_at P [] i x all at = absurd (cc)
all_at P (y ∷ xs) zero x all at = let same : y ≡ x = cc in subst P same all.0
all_at P (y ∷ xs) (suc i) x all at = all_at P xs i x all.1 at

pub all_push : {X : Type 0} (P : X → Type 0) (xs : List X) (x : X) → AllByRecursion P xs → P x → AllByRecursion P (xs ++ x ∷ [])
all_push P [] x all is = (is, tt)
all_push P (y ∷ xs) x all is = (all.0, all_push P xs x all.1 is)

pub accepted_kept : (e : Entry) (m : Message) → IsEntry e → accepted e ≡ Some m → IsMessage m
accepted_kept e m is says =
    let f = accepted_form e m says in
    let all : IsEntry (Said f.process f.document f.number m Okay) = subst IsEntry f.is is in
    all.3

small_number : (n : ℕ) → n ≤ 256 → IsNumber n
small_number n few = omega arith

module _ (s : ScriptData) (h : List Entry) (kept : AllByRecursion IsEntry h) where
  pub order_kept : (n : ℕ) (o : OrderData) → order_of h n ≡ Some o → IsEntry (order_entry n o)
  order_kept n o is = let f = order_of_found h n o is in all_at IsEntry h f.place (order_entry n o) kept f.here

  pub origin_kept : (d : ℕ) (o : Origin) → origin_of h d ≡ Some o → IsOrigin o
  unfolding origin_of
  origin_kept d o is =
      let a = from_map (λ (x : OrderData). x.origin) (order_of h d) o is in
      let order = order_kept d a.0 a.1 in
      subst IsOrigin a.2 order.3

  listed_kept : (makes : Entry → Bool) (i : ℕ) (m : Message) → option_and_then accepted (slice_get (filter makes h) i) ≡ Some m → IsMessage m
  listed_kept makes i m is =
      let a = from_then accepted (slice_get (filter makes h) i) m is in
      let at = filtered makes h i a.0 a.1 in
      accepted_kept a.0 m (all_at IsEntry h at.0 a.0 kept at.1) a.2

  pub navigation_maker_kept : (n : ℕ) (m : Message) → navigation_maker s h n ≡ Some m → IsMessage m
  unfolding navigation_maker
  navigation_maker_kept n m is =
      listed_kept makes_navigation (n - starts s) m (from_else (nat_lt n (starts s)) (option_and_then accepted (slice_get (filter makes_navigation h) (n - starts s))) m is).1

  pub frame_maker_kept : (f : ℕ) (m : Message) → frame_maker s h f ≡ Some m → IsMessage m
  unfolding frame_maker
  frame_maker_kept f m is =
      listed_kept makes_frame (f - starts s) m (from_else (nat_lt f (starts s)) (option_and_then accepted (slice_get (filter makes_frame h) (f - starts s))) m is).1

  module _ (few_pages : starts s ≤ 64) (few : navigations_made s h ≤ 256) (few_frames : frames_made s h ≤ 64) where
    made_few : (n : ℕ) → made_before s h n ≤ 256
    made_few n =
        let list : List Entry = filter makes_navigation h in
        let a = count_by-le-length makes_frame (take (n - starts s) list) in
        let b : length (take (n - starts s) list) ≡ min (n - starts s) (length list) = length-take (n - starts s) list in
        let c : length list ≡ count_by makes_navigation h = length-filter makes_navigation h in
        omega (arith, a, b, c, few)

    body_frame_small : (made : ℕ) (b : Body) → made ≤ 256 → IsBody b → IsNumber (body_frame made b)
    body_frame_small made (Navigate frame url initiator) le is = is.0
    body_frame_small made (AddFrame src sandbox) le is = small_number made le
    body_frame_small made (RemoveFrame frame) le is = small_number made le
    body_frame_small made (OpenPage url) le is = small_number made le
    body_frame_small made (Fetch url mode initiator) le is = small_number made le
    body_frame_small made (Post frame target source text) le is = small_number made le
    body_frame_small made (Ask service origin request) le is = small_number made le
    body_frame_small made (DidCommit nav url origin) le is = small_number made le

    pub frame_small : (n : ℕ) → IsNumber (frame_of s h n)
    unfolding frame_of
    frame_small n = by_cases (nat_lt n (starts s)) refl
      where
        by_maker : (o : Option Message) → navigation_maker s h n ≡ o → IsNumber (option_map_or (λ (m : Message). body_frame (made_before s h n) m.body) o 0)
        by_maker None is = small_number 0 (omega arith)
        by_maker (Some m) is = let message : IsMessage m = navigation_maker_kept n m is in body_frame_small (made_before s h n) m.body (made_few n) message.1

        by_cases : (b : Bool) → nat_lt n (starts s) ≡ b → IsNumber (cond b n (option_map_or (λ (m : Message). body_frame (made_before s h n) m.body) (navigation_maker s h n) 0))
        by_cases true is = small_number n (omega (arith, ltb-true n (starts s) is, few_pages))
        by_cases false is = by_maker (navigation_maker s h n) refl

    pub framed_small : (o : Option ℕ) → IfSome (option_map (frame_of s h) o) IsNumber
    framed_small None = tt
    framed_small (Some d) = frame_small d

    lineage_small : (m f : ℕ) → IsNumber f → AllByRecursion IsNumber (lineage_within s h m f)
    lineage_small zero f small = tt
    lineage_small (suc m) f small = (small, by_adder (λ g is. lineage_small m g is) (adder_of s h f))
      where
        by_adder : ((g : ℕ) → IsNumber g → AllByRecursion IsNumber (lineage_within s h m g)) → (o : Option ℕ) → AllByRecursion IsNumber (option_map_or (λ g. lineage_within s h m g) (option_map (frame_of s h) o) [])
        by_adder more None = tt
        by_adder more (Some d) = more (frame_of s h d) (frame_small d)

    last_small : (o : Option ℕ) (xs : List ℕ) → IfSome o IsNumber → AllByRecursion IsNumber xs → IfSome (last_or o xs) IsNumber
    last_small o [] is all = is
    last_small o (x ∷ xs) is all = last_small (Some x) xs all.0 all.1

    unwrapped : (o : Option ℕ) (f : ℕ) → IfSome o IsNumber → IsNumber f → IsNumber (unwrap_or o f)
    unwrapped None f is small = small
    unwrapped (Some n) f is small = is

    pub top_small : (f : ℕ) → IsNumber f → IsNumber (top_of s h f)
    unfolding top_of lineage
    top_small f small = unwrapped (last_or None (lineage s h f)) f (last_small None (lineage s h f) tt (lineage_small (suc f) f small)) small

    pub opener_small : (f : ℕ) → IfSome (opener_of s h f) IsNumber
    unfolding opener_of
    opener_small f = framed_small (option_and_then opener_in (frame_maker s h (top_of s h f)))

    pub added_small : (d i f : ℕ) → slice_get (added_by s h d) i ≡ Some f → IsNumber f
    unfolding added_by
    added_small d i f at =
        let a = filtered (λ g. option_map_or (λ adder. adder == d) (adder_of s h g) false) (range_with_len 0 (frames_made s h)) i f at in
        let b = in_range 0 (frames_made s h) a.0 f a.1 in
        small_number f (omega (arith, b.0, b.1, few_frames))
