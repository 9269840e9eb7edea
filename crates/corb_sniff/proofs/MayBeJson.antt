-- A list may be JSON exactly where some continuation is. Stage by stage: a byte behind white space, then a string.
use Rattle.std.proofs.Common.{◌≡◌, ℕ, Bool, true, false, cond, eqb, leb, ◌&&◌, ◌||◌, Option, Some, None, List, [], ◌∷◌, ◌++◌, codes, refl, sym, ap, ◌∙◌, inl, inr, eq-eqb, append_assoc}
use Rattle.std.specs.Option.{option_map_or, is_some}
use Rattle.std.specs.List.{list_all}
use Rattle.std.proofs.lemmas.Bool.{false≢true, and_parts, or_cases}
use Rattle.corb_sniff.specs.Fronts.{is_white, after_white, after_byte}
use Rattle.call_answers.specs.Chains.{◌>>=◌}
use Rattle.corb_sniff.specs.JsonGrammar.{after_string, after_escape, is_json}
use Rattle.corb_sniff.specs.Hope.{is_open_string, is_open_escape, may_be_colon, may_be_name, may_be_object, may_be_json}
use Rattle.corb_sniff.proofs.Longer.{Longer, after_white_byte-longer, after_string-longer}

-- the byte behind white space
stage : ℕ → List ℕ → Option (List ℕ)
stage byte list = after_byte byte (after_white list)

-- nothing but white space, or what is left behind the byte passes
pub may_pass : ℕ → (List ℕ → Bool) → List ℕ → Bool
may_pass byte test list = list_all is_white list || option_map_or test (after_byte byte (after_white list)) false

passed_byte : (is white : Bool) (list more : List ℕ) (f : List ℕ → Option (List ℕ)) (test : List ℕ → Bool) → ((rest : List ℕ) → is_some (f (rest ++ more)) ≡ true → test rest ≡ true) → is_some (cond is (Some (list ++ more)) None >>= f) ≡ true → option_map_or test (cond is (Some list) None) false ≡ true
passed_byte true white list more f test g h = g list h
passed_byte false white list more f test g h = absurd (false≢true h)

passed_if : (white : Bool) (byte b : ℕ) (list more left left' : List ℕ) (all : Bool) (f : List ℕ → Option (List ℕ)) (test : List ℕ → Bool) → ((rest : List ℕ) → is_some (f (rest ++ more)) ≡ true → test rest ≡ true) → (is_some (after_byte byte left' >>= f) ≡ true → (all || option_map_or test (after_byte byte left) false) ≡ true) → is_some (after_byte byte (cond white left' (b ∷ (list ++ more))) >>= f) ≡ true → ((white && all) || option_map_or test (after_byte byte (cond white left (b ∷ list))) false) ≡ true
passed_if true byte b list more left left' all f test g h e = h e
passed_if false byte b list more left left' all f test g h e = passed_byte (eqb b byte) false list more f test g e

-- where a longer list passes the stage and what is behind it, the list may
stage_before : (byte : ℕ) (f : List ℕ → Option (List ℕ)) (test : List ℕ → Bool) (list more : List ℕ) → ((rest : List ℕ) → is_some (f (rest ++ more)) ≡ true → test rest ≡ true) → is_some (stage byte (list ++ more) >>= f) ≡ true → may_pass byte test list ≡ true
unfolding stage may_pass
stage_before byte f test [] more g h = refl
stage_before byte f test (b ∷ list) more g h =
    passed_if (is_white b) byte b list more (after_white list) (after_white (list ++ more)) (list_all is_white list) f test g (stage_before byte f test list more g) h

string_if : (quote back plain : Bool) (list more : List ℕ) (unended unended_escape : Bool) (o o' e e' : Option (List ℕ)) (f : List ℕ → Option (List ℕ)) (test : List ℕ → Bool)
    → ((rest : List ℕ) → is_some (f (rest ++ more)) ≡ true → test rest ≡ true)
    → (is_some (e' >>= f) ≡ true → (unended_escape || option_map_or test e false) ≡ true)
    → (is_some (o' >>= f) ≡ true → (unended || option_map_or test o false) ≡ true)
    → is_some (cond quote (Some (list ++ more)) (cond back e' (cond plain o' None)) >>= f) ≡ true
    → (cond quote false (cond back unended_escape (cond plain unended false)) || option_map_or test (cond quote (Some list) (cond back e (cond plain o None))) false) ≡ true
string_if true back plain list more unended unended_escape o o' e e' f test g escape string h = g list h
string_if false true plain list more unended unended_escape o o' e e' f test g escape string h = escape h
string_if false false true list more unended unended_escape o o' e e' f test g escape string h = string h
string_if false false false list more unended unended_escape o o' e e' f test g escape string h = absurd (false≢true h)

escape_if : (plain : Bool) (unended : Bool) (o o' : Option (List ℕ)) (f : List ℕ → Option (List ℕ)) (test : List ℕ → Bool) → (is_some (o' >>= f) ≡ true → (unended || option_map_or test o false) ≡ true) → is_some (cond plain o' None >>= f) ≡ true → (cond plain unended false || option_map_or test (cond plain o None) false) ≡ true
escape_if true unended o o' f test string h = string h
escape_if false unended o o' f test string h = absurd (false≢true h)

mutual
  string_before : (f : List ℕ → Option (List ℕ)) (test : List ℕ → Bool) (list more : List ℕ) → ((rest : List ℕ) → is_some (f (rest ++ more)) ≡ true → test rest ≡ true) → is_some (after_string (list ++ more) >>= f) ≡ true → (is_open_string list || option_map_or test (after_string list) false) ≡ true
  string_before f test [] more g h = refl
  string_before f test (b ∷ list) more g h =
      string_if (eqb b 34) (eqb b 92) (leb 32 b) list more (is_open_string list) (is_open_escape list) (after_string list) (after_string (list ++ more)) (after_escape list) (after_escape (list ++ more)) f test g
      (escape_before f test list more g) (string_before f test list more g) h

  escape_before : (f : List ℕ → Option (List ℕ)) (test : List ℕ → Bool) (list more : List ℕ) → ((rest : List ℕ) → is_some (f (rest ++ more)) ≡ true → test rest ≡ true) → is_some (after_escape (list ++ more) >>= f) ≡ true → (is_open_escape list || option_map_or test (after_escape list) false) ≡ true
  escape_before f test [] more g h = refl
  escape_before f test (b ∷ list) more g h =
      escape_if (leb 32 b) (is_open_string list) (after_string list) (after_string (list ++ more)) f test (string_before f test list more g) h

some_bind : (o : Option (List ℕ)) → is_some (o >>= Some) ≡ is_some o
some_bind None = refl
some_bind (Some rest) = refl

map_or_some : (o : Option (List ℕ)) → option_map_or (λ (rest : List ℕ). true) o false ≡ is_some o
map_or_some None = refl
map_or_some (Some rest) = refl

colon_before : (list more : List ℕ) → is_some (stage 58 (list ++ more)) ≡ true → may_be_colon list ≡ true
unfolding stage may_pass
colon_before list more h =
    ap (λ x. list_all is_white list || x) (sym (map_or_some (stage 58 list)))
    ∙ stage_before 58 Some (λ rest. true) list more (λ rest any. refl) (some_bind (stage 58 (list ++ more)) ∙ h)

pub may_be_json_before : (list more : List ℕ) → is_json (list ++ more) ≡ true → may_be_json list ≡ true
unfolding is_json may_be_json stage may_pass
may_be_json_before list more =
    stage_before 123 (λ object. stage 34 object >>= λ string. after_string string >>= λ rest. stage 58 rest) may_be_object list more
    (λ object. stage_before 34 (λ string. after_string string >>= λ rest. stage 58 rest) may_be_name object more
    (λ string. string_before (λ rest. stage 58 rest) may_be_colon string more
    (λ rest. colon_before rest more)))

-- some continuation passes
Way : (List ℕ → Option (List ℕ)) → List ℕ → Type 0
Way f list = (more : List ℕ) × (is_some (f (list ++ more)) ≡ true)

byte_behind : (white : Bool) (byte b : ℕ) (list rest left : List ℕ) → white ≡ true → after_byte byte left ≡ Some rest → after_byte byte (cond white left (b ∷ list)) ≡ Some rest
byte_behind true byte b list rest left is h = h
byte_behind false byte b list rest left is h = absurd (false≢true is)

-- behind white space alone the byte ends the stage
white_byte : (byte : ℕ) (list rest : List ℕ) → is_white byte ≡ false → list_all is_white list ≡ true → stage byte (list ++ byte ∷ rest) ≡ Some rest
unfolding stage
white_byte byte [] rest other h =
    ap (λ t. after_byte byte (cond t (after_white rest) (byte ∷ rest))) other ∙ ap (λ t. cond t (Some rest) None) (eq-eqb byte byte refl)
white_byte byte (b ∷ list) rest other h =
    let parts = and_parts (is_white b) (list_all is_white list) h in
    byte_behind (is_white b) byte b (list ++ byte ∷ rest) rest (after_white (list ++ byte ∷ rest)) parts.0 (white_byte byte list rest other parts.1)

way_behind : (o : Option (List ℕ)) (P : List ℕ → Option (List ℕ)) (list : List ℕ) (f : List ℕ → Option (List ℕ)) (test : List ℕ → Bool) → P list ≡ o → ((more : List ℕ) → Longer (P list) more (P (list ++ more))) → ((rest : List ℕ) → test rest ≡ true → Way f rest) → option_map_or test o false ≡ true → Way (λ l. P l >>= f) list
unfolding Way Longer
way_behind None P list f test e longer g h = absurd (false≢true h)
way_behind (Some rest) P list f test e longer g h =
    let way = g rest h in (way.0, ap (λ o. is_some (o >>= f)) (longer way.0 rest e) ∙ way.1)

stage_continued : (byte : ℕ) (f : List ℕ → Option (List ℕ)) (test : List ℕ → Bool) (list : List ℕ) → is_white byte ≡ false → Way f [] → ((rest : List ℕ) → test rest ≡ true → Way f rest) → may_pass byte test list ≡ true → Way (λ l. stage byte l >>= f) list
unfolding Way may_pass stage
stage_continued byte f test list other empty g h =
    elim (or_cases _ _ h) [
      | inl white ↦ (byte ∷ empty.0, ap (λ o. is_some (o >>= f)) (white_byte byte list empty.0 other white) ∙ empty.1)
      | inr passed ↦ way_behind (stage byte list) (stage byte) list f test refl (after_white_byte-longer byte list) g passed
    ]

-- bytes that end the string
Ending : (List ℕ → Option (List ℕ)) → List ℕ → Type 0
Ending after list = (end : List ℕ) × ((more : List ℕ) → after (list ++ end ++ more) ≡ Some more)

end_string : (quote back plain unended unended_escape : Bool) (list : List ℕ) → (unended ≡ true → Ending after_string list) → (unended_escape ≡ true → Ending after_escape list) → cond quote false (cond back unended_escape (cond plain unended false)) ≡ true
    → (end : List ℕ) × ((more : List ℕ) → cond quote (Some (list ++ end ++ more)) (cond back (after_escape (list ++ end ++ more)) (cond plain (after_string (list ++ end ++ more)) None)) ≡ Some more)
unfolding Ending
end_string true back plain unended unended_escape list string escape h = absurd (false≢true h)
end_string false true plain unended unended_escape list string escape h = escape h
end_string false false true unended unended_escape list string escape h = string h
end_string false false false unended unended_escape list string escape h = absurd (false≢true h)

end_escape : (plain unended : Bool) (list : List ℕ) → (unended ≡ true → Ending after_string list) → cond plain unended false ≡ true → (end : List ℕ) × ((more : List ℕ) → cond plain (after_string (list ++ end ++ more)) None ≡ Some more)
unfolding Ending
end_escape true unended list string h = string h
end_escape false unended list string h = absurd (false≢true h)

mutual
  unfolding Ending

  string_ending : (list : List ℕ) → is_open_string list ≡ true → Ending after_string list
  string_ending [] h = (codes "\"", λ more. refl)
  string_ending (b ∷ list) h =
      end_string (eqb b 34) (eqb b 92) (leb 32 b) (is_open_string list) (is_open_escape list) list (string_ending list) (escape_ending list) h

  escape_ending : (list : List ℕ) → is_open_escape list ≡ true → Ending after_escape list
  escape_ending [] h = (codes "n\"", λ more. refl)
  escape_ending (b ∷ list) h = end_escape (leb 32 b) (is_open_string list) list (string_ending list) h

string_continued : (f : List ℕ → Option (List ℕ)) (test : List ℕ → Bool) (list : List ℕ) → Way f [] → ((rest : List ℕ) → test rest ≡ true → Way f rest) → (is_open_string list || option_map_or test (after_string list) false) ≡ true → Way (λ l. after_string l >>= f) list
unfolding Way Ending
string_continued f test list empty g h =
    elim (or_cases _ _ h) [
      | inl unended ↦
          let ending = string_ending list unended in
          (ending.0 ++ empty.0, ap (λ o. is_some (o >>= f)) (ap after_string (sym (append_assoc list ending.0 empty.0)) ∙ ending.1 empty.0) ∙ empty.1)
      | inr passed ↦ way_behind (after_string list) after_string list f test refl (after_string-longer list) g passed
    ]

colon_continued : (list : List ℕ) → may_be_colon list ≡ true → Way (stage 58) list
unfolding Way stage may_pass
colon_continued list h =
    let way = stage_continued 58 Some (λ rest. true) list refl ([], refl) (λ rest any. ([], refl)) (ap (λ x. list_all is_white list || x) (map_or_some (stage 58 list)) ∙ h) in
    (way.0, sym (some_bind (stage 58 (list ++ way.0))) ∙ way.1)

pub json_continued : (list : List ℕ) → may_be_json list ≡ true → (more : List ℕ) × (is_json (list ++ more) ≡ true)
unfolding Way stage is_json may_be_json may_pass
json_continued list =
    stage_continued 123 (λ object. stage 34 object >>= λ string. after_string string >>= λ rest. stage 58 rest) may_be_object list refl (codes "\"\":", refl)
    (λ object. stage_continued 34 (λ string. after_string string >>= λ rest. stage 58 rest) may_be_name object refl (codes "\":", refl)
    (λ string. string_continued (λ rest. stage 58 rest) may_be_colon string (codes ":", refl)
    (λ rest. colon_continued rest)))
