-- The service `store`: keys with values, at most 256, kept for each tuple origin by itself. Own format, after the local storage of the
-- HTML Standard.
use Rattle.std.specs.Prelude.{◌+◌, ◌==◌, ◌&&◌, ◌++◌, ◌∷◌, [], if◌then◌else◌, Bool, List, None, Option, Some, bytes_eq, codes, drop, false, filter_map, is_none, is_some, length, nat_eq, nat_le, nat_lt, not, ℕ}
use Rattle.std.specs.List.{after_first, before_first, list_all, list_any, starts_with}
use Rattle.std.specs.Option.{option_flatten, option_map_or, option_or}
use Rattle.history_entry.specs.declared.rule.Rule.TheVariants.{S2, S3, S4}
use Rattle.service_rule.specs.declared.service.ServiceAnswer.{ServiceAnswer}
use Rattle.service_rule.specs.declared.service.ServiceAnswer.TheVariants.{Said as Answered, Refused}
use Rattle.service_rule.specs.Services.{ServiceRule}
use Rattle.service_rule.specs.declared.limits.TheConstants.{MAX_STORE_KEY, MAX_STORE_KEYS}

-- a request: to get a key, to set it to a value, to remove it
pub data StoreRequest : Type 0 where
  GetKey : List ℕ → StoreRequest
  SetKey : List ℕ → List ℕ → StoreRequest
  RemoveKey : List ℕ → StoreRequest

-- 1 to 64 visible bytes
abbrev pub is_store_key : List ℕ → Bool
is_store_key text = nat_lt 0 (length text) && nat_le (length text) MAX_STORE_KEY && list_all (λ b. nat_le 33 b && nat_le b 126) text

-- a space
abbrev pub is_blank_byte : ℕ → Bool
is_blank_byte b = b == 32

-- a request with a key alone
abbrev pub keyed : (List ℕ → StoreRequest) → List ℕ → Option StoreRequest
keyed make key = if is_store_key key then Some (make key) else None

-- a key, a space and a value
abbrev pub read_set : List ℕ → Option StoreRequest
read_set text = if list_any is_blank_byte text && is_store_key (before_first is_blank_byte text)
    then Some (SetKey (before_first is_blank_byte text) (after_first is_blank_byte text)) else None

-- `get KEY`, `set KEY VALUE` or `remove KEY`
unfoldable pub store_request : List ℕ → Option StoreRequest
store_request text =
    if starts_with nat_eq text (codes "get ") then keyed GetKey (drop 4 text)
    else if starts_with nat_eq text (codes "set ") then read_set (drop 4 text)
    else if starts_with nat_eq text (codes "remove ") then keyed RemoveKey (drop 7 text)
    else None

-- what a request leaves under a key: a value, nothing, or what was there
abbrev pub leaves : List ℕ → StoreRequest → Option (Option (List ℕ))
leaves key (GetKey k) = None
leaves key (SetKey k value) = if bytes_eq k key then Some (Some value) else None
leaves key (RemoveKey k) = if bytes_eq k key then Some None else None

-- what the last set or remove of the key left
abbrev pub last_left : List ℕ → List StoreRequest → Option (Option (List ℕ))
last_left key [] = None
last_left key (e ∷ later) = option_or (last_left key later) (leaves key e)

-- the value of a key, if it is there
unfoldable pub value_of : List StoreRequest → List ℕ → Option (List ℕ)
value_of earlier key = option_flatten (last_left key earlier)

-- a set that no later set or remove of its key follows
abbrev pub is_last_set : StoreRequest → List StoreRequest → Bool
is_last_set (GetKey k) later = false
is_last_set (SetKey k value) later = is_none (last_left k later)
is_last_set (RemoveKey k) later = false

-- how many keys are there
unfoldable pub key_count : List StoreRequest → ℕ
key_count [] = 0
key_count (e ∷ later) = (if is_last_set e later then 1 else 0) + key_count later

-- the answer to a request after these earlier ones
unfoldable pub answer_request : List StoreRequest → StoreRequest → ServiceAnswer
answer_request earlier (GetKey key) = Answered (option_map_or (λ value. codes "some " ++ value) (value_of earlier key) (codes "none"))
answer_request earlier (SetKey key value) =
    if is_none (value_of earlier key) && nat_le MAX_STORE_KEYS (key_count earlier) then Refused S2 else Answered (codes "done")
answer_request earlier (RemoveKey key) = Answered (if is_some (value_of earlier key) then codes "done" else codes "none")

-- the answer to a text
abbrev pub answer_text : List StoreRequest → List ℕ → ServiceAnswer
answer_text earlier text = option_map_or (answer_request earlier) (store_request text) (Refused S4)

-- the rule of the program's services: `store` alone is there
unfoldable pub store_rule : ServiceRule
store_rule name earlier current request =
    if not (bytes_eq name (codes "store")) then Refused S3
    else answer_text (filter_map (λ asked. store_request asked.request) earlier) request
