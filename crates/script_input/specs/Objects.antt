-- Objects: which keys they have, and what stands at a key.
use Rattle.std.specs.Prelude.{ℕ, Bool, true, ◌&&◌, List, [], ◌∷◌, bytes_eq, Option, Some, None, is_some, Ok, if◌then◌else◌, ⊤}
use Rattle.std.specs.List.{list_any}
use Rattle.serde_json.specs.Data.{Data, Members, no_members, member}
use Rattle.serde_json.specs.Find.{get, as_object}
use Rattle.script_input.specs.Checked.{Checked, ◌>>=◌, below, check, refuse, typed}
use Rattle.script_input.specs.Refusals.{wrong_shape}

-- a key is there
abbrev pub has : List ℕ → Data → Bool
has key d = is_some (get key d)

abbrev pub is_one_of : List (List ℕ) → List ℕ → Bool
is_one_of keys key = list_any (λ k. bytes_eq k key) keys

-- the members have no other keys than these
abbrev pub has_only : List (List ℕ) → Members → Bool
has_only keys no_members = true
has_only keys (member k d ms) = is_one_of keys k && has_only keys ms

-- the first of these keys that an object misses
abbrev pub first_missing : List (List ℕ) → Data → Option (List ℕ)
first_missing [] d = None
first_missing (k ∷ keys) d = if has k d then first_missing keys d else Some k

abbrev pub none_missing : Option (List ℕ) → Checked ⊤
none_missing None = Ok tt
none_missing (Some k) = below k (refuse wrong_shape)

-- an object that has each required key, else X2 at the first that it misses, and no other key than the known ones, else
-- X2 at the object
unfoldable pub object_at : List (List ℕ) → List (List ℕ) → Data → Checked ⊤
object_at required known d = do
  ms ← typed (as_object d)
  _ ← none_missing (first_missing required d)
  check (has_only known ms) wrong_shape tt

abbrev pub read_required : {A : Type 0} → (Data → Checked A) → Option Data → Checked A
read_required read None = refuse wrong_shape
read_required read (Some d) = read d

-- what stands at a key that has to be there
unfoldable pub required : {A : Type 0} → List ℕ → (Data → Checked A) → Data → Checked A
required key read d = below key (read_required read (get key d))

abbrev pub read_optional : {A : Type 0} → (Data → Checked A) → Option Data → Checked (Option A)
read_optional read None = Ok None
read_optional read (Some d) = read d >>= λ x. Ok (Some x)

-- what stands at a key that may be there
unfoldable pub optional : {A : Type 0} → List ℕ → (Data → Checked A) → Data → Checked (Option A)
optional key read d = below key (read_optional read (get key d))
