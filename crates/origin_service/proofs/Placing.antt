-- One shelf of a list changed: what is kept of its origin changes, and nothing else.
use Rattle.std.proofs.Common.{ap, arith, length-append, refl, subst, sym, ◌∙◌, get_or, set}
use Rattle.std.proofs.lemmas.Iterator.Adapters.{position_from-zero}
use Rattle.std.specs.List.{position, position_from}
use Rattle.std.specs.Prelude.{◌≤◌, Err, Ok, ◌≡◌, ◌+◌, ◌++◌, ◌<◌, ◌&&◌, ◌∷◌, [], if◌then◌else◌, Bool, List, None, Result, Some, bytes_eq, codes, false, length, suc, true, zero, ℕ}
use Rattle.std.proofs.lemmas.Slice.Eq.{bytes_eq-Decides}
use Rattle.origin_service.proofs.Origins.{tuples_same}
use Rattle.origin_service.specs.Kept.{accepted, gained}
use Rattle.origin_service.specs.Shelves.{ShelfData, kept_by, kept_of}
use Rattle.page_origin.specs.Origins.{equal_tuples}
use Rattle.page_origin.specs.declared.origin.TupleOrigin.{TupleOrigin}
use Rattle.service_rule.specs.declared.service.Asked.{Asked}
use Rattle.service_rule.specs.declared.service.ServiceAnswer.{ServiceAnswer}
use Rattle.service_rule.specs.declared.service.ServiceAnswer.TheVariants.{Refused, Said}

append_nothing : {A : Type 0} (xs : List A) → xs ≡ xs ++ []
append_nothing [] = refl
append_nothing (x ∷ xs) = ap (λ ys. x ∷ ys) (append_nothing xs)

-- a refused request adds nothing
pub gains_nothing : (xs : List Asked) (t : Bool) → xs ≡ xs ++ (if t then [] else [])
gains_nothing xs true = append_nothing xs
gains_nothing xs false = append_nothing xs

-- what a shelf has with these requests more
abbrev pub with_more : ShelfData → List Asked → ShelfData
with_more shelf more = record { origin = shelf.origin; kept = shelf.kept ++ more }

kept_first : Bool → ShelfData → List Asked → List Asked
kept_first true shelf rest = shelf.kept
kept_first false shelf rest = rest

-- what is kept, the first shelf taken off
kept_cons : (shelf : ShelfData) (shelves : List ShelfData) (tuple : TupleOrigin) (t : Bool) → equal_tuples tuple shelf.origin ≡ t → kept_of (shelf ∷ shelves) tuple ≡ kept_first t shelf (kept_of shelves tuple)
unfolding kept_first
kept_cons shelf shelves tuple true e = rw e refl
kept_cons shelf shelves tuple false e = rw e refl

first_empty : (t : Bool) (origin : TupleOrigin) → kept_first t (record { origin = origin; kept = [] }) [] ≡ []
unfolding kept_first
first_empty true origin = refl
first_empty false origin = refl

-- one shelf more, at the end and empty, keeps nothing
pub kept_with_empty : (shelves : List ShelfData) (origin tuple : TupleOrigin) → kept_of (shelves ++ record { origin = origin; kept = [] } ∷ []) tuple ≡ kept_of shelves tuple
kept_with_empty [] origin tuple = kept_cons (record { origin = origin; kept = [] }) [] tuple (equal_tuples tuple origin) refl ∙ first_empty (equal_tuples tuple origin) origin
kept_with_empty (shelf ∷ shelves) origin tuple =
    kept_cons shelf (shelves ++ record { origin = origin; kept = [] } ∷ []) tuple (equal_tuples tuple shelf.origin) refl
    ∙ ap (kept_first (equal_tuples tuple shelf.origin) shelf) (kept_with_empty shelves origin tuple)
    ∙ sym (kept_cons shelf shelves tuple (equal_tuples tuple shelf.origin) refl)

more_by : (t : Bool) (more : List Asked) → List Asked
more_by true more = more
more_by false more = []

-- the first shelf of the origin gains: a shelf of another origin in front stays
gains_behind : (t u : Bool) (shelf : ShelfData) (rest after more : List Asked) → (t ≡ true → u ≡ false) → after ≡ rest ++ (if u then more else [])
    → kept_first t shelf after ≡ kept_first t shelf rest ++ (if u then more else [])
unfolding kept_first
gains_behind true true shelf rest after more apart e = let no : true ≡ false = apart refl in absurd (cc)
gains_behind true false shelf rest after more apart e = append_nothing shelf.kept
gains_behind false u shelf rest after more apart e = e

-- the shelf in front is that of the origin
gains_here : (t u : Bool) (shelf : ShelfData) (rest more : List Asked) → t ≡ u
    → kept_first t (with_more shelf more) rest ≡ kept_first t shelf rest ++ (if u then more else [])
unfolding kept_first
gains_here true true shelf rest more e = refl
gains_here true false shelf rest more e = absurd (cc)
gains_here false true shelf rest more e = absurd (cc)
gains_here false false shelf rest more e = append_nothing rest

other_first : (tuple origin own : TupleOrigin) → equal_tuples origin own ≡ false → equal_tuples tuple own ≡ true → (u : Bool) → equal_tuples tuple origin ≡ u → u ≡ false
other_first tuple origin own apart here true e =
    let same : tuple ≡ origin = tuples_same tuple origin e in
    let yes : equal_tuples origin own ≡ true = subst (λ (o : TupleOrigin). equal_tuples o own ≡ true) same here in
    absurd (cc)
other_first tuple origin own apart here false e = refl

-- the shelf at the first place of the origin gains
pub gains_at : (shelves : List ShelfData) (place : ℕ) (origin tuple : TupleOrigin) (d : ShelfData) (more : List Asked) → place < length shelves
    → equal_tuples origin (get_or shelves place d).origin ≡ true → ((k : ℕ) → k < place → equal_tuples origin (get_or shelves k d).origin ≡ false)
    → kept_of (set shelves place (with_more (get_or shelves place d) more)) tuple ≡ kept_of shelves tuple ++ (if equal_tuples tuple origin then more else [])
gains_at [] place origin tuple d more lt here before = absurd (omega arith)
gains_at (shelf ∷ shelves) zero origin tuple d more lt here before =
    kept_cons (with_more shelf more) shelves tuple (equal_tuples tuple shelf.origin) refl
    ∙ gains_here (equal_tuples tuple shelf.origin) (equal_tuples tuple origin) shelf (kept_of shelves tuple) more (ap (equal_tuples tuple) (sym (tuples_same origin shelf.origin here)))
    ∙ ap (λ xs. xs ++ (if equal_tuples tuple origin then more else [])) (sym (kept_cons shelf shelves tuple (equal_tuples tuple shelf.origin) refl))
gains_at (shelf ∷ shelves) (suc place) origin tuple d more lt here before =
    kept_cons shelf (set shelves place (with_more (get_or shelves place d) more)) tuple (equal_tuples tuple shelf.origin) refl
    ∙ gains_behind (equal_tuples tuple shelf.origin) (equal_tuples tuple origin) shelf (kept_of shelves tuple) (kept_of (set shelves place (with_more (get_or shelves place d) more)) tuple) more
    (λ first. other_first tuple origin shelf.origin (before 0 (omega arith)) first (equal_tuples tuple origin) refl)
    (gains_at shelves place origin tuple d more (omega arith) here (λ k below. before (suc k) (omega arith)))
    ∙ ap (λ xs. xs ++ (if equal_tuples tuple origin then more else [])) (sym (kept_cons shelf shelves tuple (equal_tuples tuple shelf.origin) refl))

-- what is kept at the first place of the origin
pub kept_at : (shelves : List ShelfData) (place : ℕ) (origin : TupleOrigin) (d : ShelfData) → place < length shelves
    → equal_tuples origin (get_or shelves place d).origin ≡ true → ((k : ℕ) → k < place → equal_tuples origin (get_or shelves k d).origin ≡ false)
    → kept_of shelves origin ≡ (get_or shelves place d).kept
unfolding kept_first
kept_at [] place origin d lt here before = absurd (omega arith)
kept_at (shelf ∷ shelves) zero origin d lt here before = kept_cons shelf shelves origin true here
kept_at (shelf ∷ shelves) (suc place) origin d lt here before =
    kept_cons shelf shelves origin false (before 0 (omega arith)) ∙ kept_at shelves place origin d (omega arith) here (λ k below. before (suc k) (omega arith))

added_by : (p : ShelfData → Bool) (first : ShelfData) (shelves : List ShelfData) (shelf : ShelfData) (i : ℕ) (t : Bool) → p first ≡ t → position_from p i (first ∷ shelves) ≡ None
    → (position_from p (i + 1) shelves ≡ None → position_from p (i + 1) (shelves ++ shelf ∷ []) ≡ Some (i + 1 + length shelves))
    → position_from p i ((first ∷ shelves) ++ shelf ∷ []) ≡ Some (i + length (first ∷ shelves))
added_by p first shelves shelf i true e none later = let found : position_from p i (first ∷ shelves) ≡ Some i = rw e refl in absurd (cc)
added_by p first shelves shelf i false e none later = rw e (later (rw e at none) ∙ ap (λ n. Some n) (omega arith))

-- a shelf of the origin behind shelves of others has the place behind them
added_from : (p : ShelfData → Bool) (shelves : List ShelfData) (shelf : ShelfData) (i : ℕ) → p shelf ≡ true → position_from p i shelves ≡ None → position_from p i (shelves ++ shelf ∷ []) ≡ Some (i + length shelves)
added_from p [] shelf i here none = rw here (ap (λ n. Some n) (omega arith))
added_from p (first ∷ shelves) shelf i here none = added_by p first shelves shelf i (p first) refl none (λ e. added_from p shelves shelf (i + 1) here e)

pub place_added : (p : ShelfData → Bool) (shelves : List ShelfData) (shelf : ShelfData) → p shelf ≡ true → position p shelves ≡ None → position p (shelves ++ shelf ∷ []) ≡ Some (length shelves)
place_added p shelves shelf here none =
    position_from-zero p (shelves ++ shelf ∷ []) ∙ added_from p shelves shelf 0 here (sym (position_from-zero p shelves) ∙ none) ∙ ap (λ n. Some n) (omega arith)

named_by : (service name : List ℕ) (t u v : Bool) → bytes_eq service (codes "store") ≡ true → bytes_eq service name ≡ t → bytes_eq name (codes "store") ≡ u → t ≡ u
named_by service name true true v is e f = refl
named_by service name true false v is e f =
    let same : service ≡ name = (bytes_eq-Decides service name).0 e in
    let yes : bytes_eq name (codes "store") ≡ true = subst (λ (n : List ℕ). bytes_eq n (codes "store") ≡ true) same is in
    absurd (cc)
named_by service name false true v is e f =
    let one : service ≡ codes "store" = (bytes_eq-Decides service (codes "store")).0 is in
    let two : name ≡ codes "store" = (bytes_eq-Decides name (codes "store")).0 f in
    let yes : bytes_eq service name ≡ true = (bytes_eq-Decides service name).1 (one ∙ sym two) in
    absurd (cc)
named_by service name false false v is e f = refl

by_name : (t u w : Bool) (old new more : List Asked) → t ≡ u → new ≡ old ++ (if w then more else [])
    → (if u then new else []) ≡ (if u then old else []) ++ (if t && w then more else [])
by_name true true w old new more e is = is
by_name true false w old new more e is = absurd (cc)
by_name false true w old new more e is = absurd (cc)
by_name false false w old new more e is = refl

-- what `store` gains is what the services gain
pub all_gain : {E : Type 0} (old new : List ShelfData) (result : Result ServiceAnswer E) (service : List ℕ) (origin : TupleOrigin) (document : ℕ) (request : List ℕ)
    → bytes_eq service (codes "store") ≡ true
    → ((tuple : TupleOrigin) → kept_of new tuple ≡ kept_of old tuple ++ (if equal_tuples tuple origin then accepted result document request else []))
    → (name : List ℕ) (tuple : TupleOrigin) → kept_by new name tuple ≡ kept_by old name tuple ++ gained result service origin document request name tuple
all_gain old new result service origin document request is gains name tuple =
    by_name (bytes_eq service name) (bytes_eq name (codes "store")) (equal_tuples tuple origin) (kept_of old tuple) (kept_of new tuple) (accepted result document request)
    (named_by service name (bytes_eq service name) (bytes_eq name (codes "store")) true is refl refl) (gains tuple)

few_by : {E : Type 0} (t : Bool) (result : Result ServiceAnswer E) (document : ℕ) (request : List ℕ) → length (if t then accepted result document request else []) ≤ 1
few_by true (Ok (Said text)) document request = omega arith
few_by true (Ok (Refused rule)) document request = omega arith
few_by true (Err e) document request = omega arith
few_by false result document request = omega arith

-- an ask adds at most one request
pub gained_few : {E : Type 0} (result : Result ServiceAnswer E) (service : List ℕ) (origin : TupleOrigin) (document : ℕ) (request name : List ℕ) (tuple : TupleOrigin) (old new : List Asked)
    → new ≡ old ++ gained result service origin document request name tuple → length new ≤ length old + 1
gained_few result service origin document request name tuple old new is =
    let few : length (gained result service origin document request name tuple) ≤ 1 = few_by (bytes_eq service name && equal_tuples tuple origin) result document request in
    let long : length new ≡ length old + length (gained result service origin document request name tuple) =
    ap length is ∙ length-append old (gained result service origin document request name tuple) in
    omega arith
