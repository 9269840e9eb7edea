-- The service `store` answers texts to texts.
use Rattle.std.proofs.Common.{refl, ap, ◌∙◌, subst, arith, inl, inr, get_or}
use Rattle.std.specs.Prelude.{◌≡◌, ◌⊎◌, ◌==◌, ◌+◌, ◌<◌, ◌&&◌, ◌||◌, ◌++◌, ◌∷◌, [], Bool, IsUtf8, List, None, Option, Some, bytes_eq, codes, cond, drop, false, filter_map, is_none, is_some, length, nat_eq, nat_le, not, suc, true, ⊤, ℕ}
use Rattle.std.specs.List.{AllByRecursion, after_first, cons_option, list_any, prefix_len, starts_with}
use Rattle.std.specs.Option.{option_flatten, option_map_or}
use Rattle.std.proofs.lemmas.Bool.{eqb-true}
use Rattle.std.proofs.lemmas.Str.{IsCharBoundary-after_ascii, IsUtf8-append, IsUtf8-drop}
use Rattle.page_origin.proofs.Spellings.{url_is_text}
use Rattle.page_origin.specs.UrlText.{is_url_spelling}
use Rattle.history_entry.specs.declared.rule.Rule.TheVariants.{S2, S3, S4}
use Rattle.service_rule.specs.declared.service.Asked.{Asked}
use Rattle.service_rule.specs.declared.service.ServiceAnswer.TheVariants.{Said as Answered, Refused}
use Rattle.history_rules.proofs.Apart.{and_left, and_right, from_cond, from_or}
use Rattle.service_rule.specs.declared.limits.TheConstants.{MAX_STORE_KEYS}
use Rattle.service_rule.specs.Store.{GetKey, RemoveKey, SetKey, StoreRequest, answer_request, answer_text, is_blank_byte, is_store_key, key_count, keyed, last_left, leaves, read_set, store_request, store_rule, value_of}
use Rattle.kept_entries.specs.EntryLaw.{AnswersTexts, IsTextAsked}

-- the value that a request sets is a text
abbrev IsTextRequest : StoreRequest → Type 0
IsTextRequest (GetKey key) = ⊤
IsTextRequest (SetKey key value) = IsUtf8 value
IsTextRequest (RemoveKey key) = ⊤

text_of : (text : List ℕ) → is_url_spelling text ≡ true → IsUtf8 text
text_of text is = url_is_text text is

done : IsUtf8 (codes "done")
unfolding is_url_spelling
done = text_of (codes "done") refl

none : IsUtf8 (codes "none")
unfolding is_url_spelling
none = text_of (codes "none") refl

some : IsUtf8 (codes "some ")
unfolding is_url_spelling
some = text_of (codes "some ") refl

-- ---- the value of a request

record FirstAt (p : ℕ → Bool) (xs : List ℕ) : Type 0 where
  within : prefix_len (λ x. not (p x)) xs < length xs
  passes : p (get_or xs (prefix_len (λ x. not (p x)) xs) 0) ≡ true

first_at : (p : ℕ → Bool) (xs : List ℕ) → list_any p xs ≡ true → FirstAt p xs
first_at p [] any = absurd (cc)
first_at p (x ∷ xs) any = by_cases (p x) refl any (λ more. first_at p xs more)
  where
    n : ℕ
    n = prefix_len (λ y. not (p y)) xs

    by_cases : (b : Bool) → p x ≡ b → (b || list_any p xs) ≡ true → (list_any p xs ≡ true → FirstAt p xs) → FirstAt p (x ∷ xs)
    by_cases true is e more =
        let len : prefix_len (λ y. not (p y)) (x ∷ xs) ≡ 0 = ap (λ b. cond (not b) (1 + n) 0) is in
        record { within = omega (arith, len); passes = ap (λ k. p (get_or (x ∷ xs) k 0)) len ∙ is }
    by_cases false is e more =
        let f = more e in
        let next : 1 + n ≡ suc n = omega arith in
        let len : prefix_len (λ y. not (p y)) (x ∷ xs) ≡ suc n = ap (λ b. cond (not b) (1 + n) 0) is ∙ next in
        let inside : n < length xs = f.within in
        record { within = omega (arith, len, inside); passes = ap (λ k. p (get_or (x ∷ xs) k 0)) len ∙ f.passes }

after_blank : (xs : List ℕ) → IsUtf8 xs → list_any is_blank_byte xs ≡ true → IsUtf8 (after_first is_blank_byte xs)
after_blank xs is any =
    let f = first_at is_blank_byte xs any in
    let n : ℕ = prefix_len (λ x. not (is_blank_byte x)) xs in
    let byte : get_or xs n 0 ≡ 32 = eqb-true (get_or xs n 0) 32 f.passes in
    IsUtf8-drop xs (n + 1) is (IsCharBoundary-after_ascii xs n is f.within (omega (arith, byte)))

after_set : (text : List ℕ) → IsUtf8 text → starts_with nat_eq text (codes "set ") ≡ true → IsUtf8 (drop 4 text)
after_set [] is starts = absurd (cc)
after_set (a ∷ []) is starts = absurd (let wrong = and_right (115 == a) false starts in cc)
after_set (a ∷ b ∷ []) is starts = absurd (let x = and_right (115 == a) _ starts in let wrong = and_right (101 == b) false x in cc)
after_set (a ∷ b ∷ c ∷ []) is starts = absurd (let x = and_right (115 == a) _ starts in let y = and_right (101 == b) _ x in let wrong = and_right (116 == c) false y in cc)
after_set (a ∷ b ∷ c ∷ d ∷ rest) is starts =
    let x = and_right (115 == a) _ starts in
    let y = and_right (101 == b) _ x in
    let z = and_right (116 == c) _ y in
    let byte : 32 ≡ d = eqb-true 32 d (and_left (32 == d) _ z) in
    let all : List ℕ = a ∷ b ∷ c ∷ d ∷ rest in
    IsUtf8-drop all 4 is (IsCharBoundary-after_ascii all 3 is (omega arith) (omega (arith, byte)))

only : (a b : StoreRequest) → IsTextRequest a → Some a ≡ Some b → IsTextRequest b
only a b is e = let same : a ≡ b = cc in subst IsTextRequest same is

request_text : (text : List ℕ) (q : StoreRequest) → IsUtf8 text → store_request text ≡ Some q → IsTextRequest q
unfolding store_request
request_text text q is e = by_get (starts_with nat_eq text (codes "get ")) e
  where
    by_remove : (b : Bool) → cond b (keyed RemoveKey (drop 7 text)) None ≡ Some q → IsTextRequest q
    by_remove true f = only (RemoveKey (drop 7 text)) q tt (from_cond (is_store_key (drop 7 text)) (Some (RemoveKey (drop 7 text))) q f).1
    by_remove false f = absurd (cc)

    by_set : (b : Bool) → starts_with nat_eq text (codes "set ") ≡ b → cond b (read_set (drop 4 text)) (cond (starts_with nat_eq text (codes "remove ")) (keyed RemoveKey (drop 7 text)) None) ≡ Some q → IsTextRequest q
    by_set true starts f =
        let a = from_cond _ _ q f in
        only _ q (after_blank (drop 4 text) (after_set text is starts) (and_left (list_any is_blank_byte (drop 4 text)) _ a.0)) a.1
    by_set false starts f = by_remove (starts_with nat_eq text (codes "remove ")) f

    by_get : (b : Bool) → cond b (keyed GetKey (drop 4 text)) (cond (starts_with nat_eq text (codes "set ")) (read_set (drop 4 text)) (cond (starts_with nat_eq text (codes "remove ")) (keyed RemoveKey (drop 7 text)) None)) ≡ Some q → IsTextRequest q
    by_get true f = only (GetKey (drop 4 text)) q tt (from_cond (is_store_key (drop 4 text)) (Some (GetKey (drop 4 text))) q f).1
    by_get false f = by_set (starts_with nat_eq text (codes "set ")) refl f

-- ---- the answer

requests_text : (earlier : List Asked) → AllByRecursion IsTextAsked earlier → AllByRecursion IsTextRequest (filter_map (λ asked. store_request asked.request) earlier)
requests_text [] all = tt
requests_text (a ∷ earlier) all = by_cases (store_request a.request) refl (requests_text earlier all.1)
  where
    by_cases : (o : Option StoreRequest) → store_request a.request ≡ o → AllByRecursion IsTextRequest (filter_map (λ asked. store_request asked.request) earlier) → AllByRecursion IsTextRequest (cons_option o (filter_map (λ asked. store_request asked.request) earlier))
    by_cases None e more = more
    by_cases (Some q) e more = (request_text a.request q all.0 e, more)

abbrev removed : Option (Option (List ℕ))
removed = Some None

left_text : (key : List ℕ) (q : StoreRequest) (v : List ℕ) → IsTextRequest q → leaves key q ≡ Some (Some v) → IsUtf8 v
left_text key (GetKey k) v is e = absurd (cc)
left_text key (SetKey k value) v is e =
    let a = from_cond (bytes_eq k key) (Some (Some value)) (Some v) e in
    let same : value ≡ v = (let both = a.1 in cc) in
    subst IsUtf8 same is
left_text key (RemoveKey k) v is e = absurd (let a = from_cond (bytes_eq k key) removed (Some v) e in let wrong = a.1 in cc)

last_text : (key : List ℕ) (es : List StoreRequest) (v : List ℕ) → AllByRecursion IsTextRequest es → last_left key es ≡ Some (Some v) → IsUtf8 v
last_text key [] v all e = absurd (cc)
last_text key (q ∷ es) v all e = either (from_or (last_left key es) (leaves key q) (Some v) e) (λ f. last_text key es v all.1 f)
  where
    either : (last_left key es ≡ Some (Some v)) ⊎ ((last_left key es ≡ None) × (leaves key q ≡ Some (Some v))) → (last_left key es ≡ Some (Some v) → IsUtf8 v) → IsUtf8 v
    either (inl f) more = more f
    either (inr f) more = left_text key q v all.0 f.1

the_text : (a b : List ℕ) → IsUtf8 a → Answered a ≡ Answered b → IsUtf8 b
the_text a b is e = let same : a ≡ b = cc in subst IsUtf8 same is

answer_is_text : (es : List StoreRequest) (q : StoreRequest) (text : List ℕ) → AllByRecursion IsTextRequest es → answer_request es q ≡ Answered text → IsUtf8 text
unfolding answer_request value_of
answer_is_text es (GetKey key) text all e = the_text _ text (by_left (last_left key es) refl) e
  where
    by_left : (o : Option (Option (List ℕ))) → last_left key es ≡ o → IsUtf8 (option_map_or (λ value. codes "some " ++ value) (option_flatten o) (codes "none"))
    by_left None f = none
    by_left (Some None) f = none
    by_left (Some (Some v)) f = IsUtf8-append (codes "some ") v some (last_text key es v all f)
answer_is_text es (SetKey key value) text all e = by_cases (is_none (value_of es key) && nat_le MAX_STORE_KEYS (key_count es)) e
  where
    by_cases : (b : Bool) → cond b (Refused S2) (Answered (codes "done")) ≡ Answered text → IsUtf8 text
    by_cases true f = absurd (cc)
    by_cases false f = the_text (codes "done") text done f
answer_is_text es (RemoveKey key) text all e = the_text _ text (by_cases (is_some (value_of es key))) e
  where
    by_cases : (b : Bool) → IsUtf8 (cond b (codes "done") (codes "none"))
    by_cases true = done
    by_cases false = none

pub store_answers_texts : AnswersTexts store_rule
unfolding store_rule
store_answers_texts name earlier current request text all is e = by_name (not (bytes_eq name (codes "store"))) e
  where
    es : List StoreRequest
    es = filter_map (λ asked. store_request asked.request) earlier

    by_request : (o : Option StoreRequest) → option_map_or (answer_request es) o (Refused S4) ≡ Answered text → IsUtf8 text
    by_request None f = absurd (cc)
    by_request (Some q) f = answer_is_text es q text (requests_text earlier all) f

    by_name : (b : Bool) → cond b (Refused S3) (answer_text es request) ≡ Answered text → IsUtf8 text
    by_name true f = absurd (cc)
    by_name false f = by_request (store_request request) f
