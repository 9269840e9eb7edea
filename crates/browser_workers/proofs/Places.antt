-- Lists of workers' places.
use Rattle.std.proofs.Common.{ap, arith, get_or, refl, subst, sym, ◌∙◌}
use Rattle.std.proofs.lemmas.List.{take-append-le, take_all}
use Rattle.std.proofs.lemmas.List.Sums.{sum_by-cons, sum_by_push}
use Rattle.std.specs.Prelude.{◌≡◌, ◌+◌, ◌<◌, ◌++◌, ◌∷◌, [], List, drop, length, suc, take, ℕ}
use Rattle.std.specs.List.{AllByRecursion}
use Rattle.atomic_table.specs.Seated.{TableId}
use Rattle.history_entry.specs.declared.entry.Entry.{Entry}
use Rattle.script_model.specs.ScriptData.{ScriptData}
use Rattle.service_rule.specs.Services.{ServiceRule}
use Rattle.policy_table.proofs.Lists.{starts_with_start}
use Rattle.policy_table.specs.Histories.{StartsWith}
use Rattle.browser_workers.specs.Seats.{AreSeats, BeginsFinished, HasWorked, HaveSeen, HaveWorked, IsSeat, weights}
use Rattle.browser_workers.specs.declared.seats.Seat.{Seat}

-- ---- one element more, and one less

pub each_more : {X : Type 0} (P : X → Type 0) (xs : List X) (x : X) → AllByRecursion P xs → P x → AllByRecursion P (xs ++ x ∷ [])
each_more P [] x all last = (last, tt)
each_more P (y ∷ xs) x all last = (all.0, each_more P xs x all.1 last)

pub each_less : {X : Type 0} (P : X → Type 0) (xs : List X) (x : X) → AllByRecursion P (xs ++ x ∷ []) → AllByRecursion P xs × P x
each_less P [] x all = (tt, all.0)
each_less P (y ∷ xs) x all = let rest = each_less P xs x all.1 in ((all.0, rest.0), rest.1)

pub weights_more : (xs : List Seat) (x : Seat) → weights (xs ++ x ∷ []) ≡ weights xs + x.pass.weight
weights_more xs x = sum_by_push (λ (seat : Seat). seat.pass.weight) xs x

-- ---- after they worked

module _ (rule : ServiceRule) (s : ScriptData) where
  pub have_worked : (xs ys : List Seat) → length xs ≡ length ys → ((i : ℕ) (d : Seat) → i < length xs → HasWorked rule s (get_or xs i d) (get_or ys i d)) → HaveWorked rule s xs ys
  have_worked [] [] same each = tt
  have_worked [] (y ∷ ys) same each = absurd (omega arith)
  have_worked (x ∷ xs) [] same each = absurd (omega arith)
  have_worked (x ∷ xs) (y ∷ ys) same each = (each 0 x (omega arith), have_worked xs ys (omega arith) (λ i d within. each (suc i) d (omega arith)))

  pub still_seats : (desk : TableId) (xs ys : List Seat) → AreSeats rule s desk xs → HaveWorked rule s xs ys → AreSeats rule s desk ys
  still_seats desk [] [] all worked = tt
  still_seats desk [] (y ∷ ys) all worked = absurd worked
  still_seats desk (x ∷ xs) [] all worked = absurd worked
  still_seats desk (x ∷ xs) (y ∷ ys) all worked =
      (record { at_desk = worked.0.on.desk ∙ all.0.at_desk; over = worked.0.over }, still_seats desk xs ys all.1 worked.1)

  pub still_seen : (h : List Entry) (xs ys : List Seat) → HaveSeen h xs → HaveWorked rule s xs ys → HaveSeen h ys
  still_seen h [] [] all worked = tt
  still_seen h [] (y ∷ ys) all worked = absurd worked
  still_seen h (x ∷ xs) [] all worked = absurd worked
  still_seen h (x ∷ xs) (y ∷ ys) all worked = (starts_with_start h x.pass.seen y.pass.seen all.0 worked.0.on.seen, still_seen h xs ys all.1 worked.1)

  pub same_weights : (xs ys : List Seat) → HaveWorked rule s xs ys → weights ys ≡ weights xs
  same_weights [] [] worked = refl
  same_weights [] (y ∷ ys) worked = absurd worked
  same_weights (x ∷ xs) [] worked = absurd worked
  same_weights (x ∷ xs) (y ∷ ys) worked =
      (let rest = same_weights xs ys worked.1 in
      let own = worked.0.on.weight in
      let before = sum_by-cons (λ (seat : Seat). seat.pass.weight) x xs in
      let after = sum_by-cons (λ (seat : Seat). seat.pass.weight) y ys in omega (arith, rest, own, before, after))

  -- what begins with a finished history goes on to do so
  pub still_finished : (h k : List Entry) → StartsWith k h → BeginsFinished rule s h → BeginsFinished rule s k
  still_finished h k longer begins = record { front = begins.front; finished = begins.finished; begins = starts_with_start begins.front h k begins.begins longer }

-- ---- one place is taken out of the list

-- what is known of it, and of those that are left
pub record TakesOut (rule : ServiceRule) (s : ScriptData) (desk : TableId) (all rest : List Seat) (x : Seat) : Type 0 where
  pub seats : AreSeats rule s desk rest
  pub is : IsSeat rule s desk x
  pub weight : x.pass.weight + weights rest ≡ weights all
  pub seen : (h : List Entry) → HaveSeen h all → StartsWith x.pass.seen h

pub takes_out : (rule : ServiceRule) (s : ScriptData) (desk : TableId) (all rest : List Seat) (x : Seat) → all ≡ rest ++ x ∷ [] → AreSeats rule s desk all → TakesOut rule s desk all rest x
takes_out rule s desk all rest x is seats =
    let each = each_less (IsSeat rule s desk) rest x (subst (AreSeats rule s desk) is seats) in record {
      seats = each.0;
      is = each.1;
      weight = (let sum = weights_more rest x in let same : weights all ≡ weights (rest ++ x ∷ []) = ap weights is in omega (arith, sum, same));
      seen = λ h seen. (each_less (λ (seat : Seat). StartsWith seat.pass.seen h) rest x (subst (HaveSeen h) is seen)).1;
    }

pub takes_out_some : (rule : ServiceRule) (s : ScriptData) (desk : TableId) (seats : List Seat) → 0 < weights seats → seats ≡ [] → ⊥
takes_out_some rule s desk seats some none = (let zero : weights seats ≡ 0 = ap weights none in omega (arith, zero, some))

-- ---- the places after the work, in the list that was lent

pub by_call : (rule : ServiceRule) (s : ScriptData) (x y a b : Seat) → a ≡ x → b ≡ y → HasWorked rule s a b → HasWorked rule s x y
by_call rule s x y a b before after worked = subst (λ (v : Seat). HasWorked rule s x v) after (subst (λ (v : Seat). HasWorked rule s v b) before worked)

same_length : (rule : ServiceRule) (s : ScriptData) (xs ys : List Seat) → HaveWorked rule s xs ys → length ys ≡ length xs
same_length rule s [] [] worked = refl
same_length rule s [] (y ∷ ys) worked = absurd worked
same_length rule s (x ∷ xs) [] worked = absurd worked
same_length rule s (x ∷ xs) (y ∷ ys) worked = (let rest = same_length rule s xs ys worked.1 in omega (arith, rest))

whole : {X : Type 0} (len : ℕ) (xs rest : List X) → length xs ≡ len → take len (xs ++ rest) ≡ xs
whole len xs rest is = take-append-le len xs rest (omega (arith, is)) ∙ take_all len xs (omega (arith, is))

-- they are at the desk, have seen as much, and weigh the same
pub record AreStaffed (rule : ServiceRule) (s : ScriptData) (desk : TableId) (h : List Entry) (total : ℕ) (all : List Seat) : Type 0 where
  pub seats : AreSeats rule s desk all
  pub seen : HaveSeen h all
  pub weight : weights all ≡ total

pub after_work : (rule : ServiceRule) (s : ScriptData) (desk : TableId) (h : List Entry) (len total : ℕ) (first lent left : List Seat) → length lent ≡ len → lent ≡ first
    → AreSeats rule s desk first → HaveSeen h first → weights first ≡ total → HaveWorked rule s lent left → AreStaffed rule s desk h total (take len (left ++ drop (length left) first))
after_work rule s desk h len total first lent left long same seats seen weight worked =
    subst (AreStaffed rule s desk h total) (sym (whole len left (drop (length left) first) (same_length rule s lent left worked ∙ long))) (record {
      seats = still_seats rule s desk lent left (subst (AreSeats rule s desk) (sym same) seats) worked;
      seen = still_seen rule s h lent left (subst (HaveSeen h) (sym same) seen) worked;
      weight = same_weights rule s lent left worked ∙ (ap weights same ∙ weight);
    })
