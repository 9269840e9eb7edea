-- The shelves of the store: of each tuple origin the requests that it accepted, and the keys that these leave.
use Rattle.std.specs.BTreeMap.{BTreeMap, btree_map_len, get_by_text}
use Rattle.std.specs.Global.{Global}
use Rattle.std.specs.Option.{option_map, option_map_or}
use Rattle.std.specs.Prelude.{◌≡◌, [], List, bytes_eq, codes, String, find, if◌then◌else◌, string_bytes, ℕ}
use Rattle.page_origin.specs.Origins.{equal_tuples}
use Rattle.page_origin.specs.declared.origin.TupleOrigin.{TupleOrigin}
use Rattle.service_rule.specs.Store.{StoreRequest, key_count, value_of}
use Rattle.service_rule.specs.declared.service.Asked.{Asked}

-- an origin, with the requests that it was answered
pub record ShelfData : Type 0 where
  pub origin : TupleOrigin
  pub kept : List Asked

-- a map has exactly the keys and values that these requests leave
pub record Holds (keys : BTreeMap (String Global) (String Global)) (earlier : List StoreRequest) : Type 0 where
  pub values : (key : List ℕ) → option_map string_bytes (get_by_text keys key) ≡ value_of earlier key
  pub count : btree_map_len keys ≡ key_count earlier

-- what an origin was answered
abbrev pub kept_of : List ShelfData → TupleOrigin → List Asked
kept_of shelves tuple = option_map_or (λ shelf. shelf.kept) (find (λ shelf. equal_tuples tuple shelf.origin) shelves) []

-- what the services keep: `store` alone accepts requests
abbrev pub kept_by : List ShelfData → List ℕ → TupleOrigin → List Asked
kept_by shelves name tuple = if bytes_eq name (codes "store") then kept_of shelves tuple else []
