-- The script that bytes are, or its first refusal. Own format.
use Rattle.std.specs.Prelude.{ℕ, false, ◌==◌, List, [], ◌∷◌, length, codes, Option, Some, None, Result, Ok, Err, unwrap_or, if◌then◌else◌}
use Rattle.std.specs.Str.Lossy.{utf8_valid_len}
use Rattle.serde_json.specs.Data.{Data}
use Rattle.serde_json.specs.Read.{read}
use Rattle.public_suffix.specs.Reading.{reading}
use Rattle.public_suffix.specs.RegistrableDomain.{SuffixRule}
use Rattle.public_suffix.specs.declared.refusal.RulesRefusal.{RulesRefusal}
use Rattle.public_suffix.specs.declared.refusal.RulesRefusal.TheVariants.{BadRule, NoMemory}
use Rattle.page_origin.specs.declared.origin.TupleOrigin.{TupleOrigin}
use Rattle.history_entry.specs.declared.policy.Policy.TheVariants.{Two}
use Rattle.script_model.specs.ScriptData.{ScriptData}
use Rattle.script_input.specs.Checked.{Checked, ◌>>=◌, refuse}
use Rattle.script_input.specs.Refusals.{not_json, rule_refusal}
use Rattle.script_input.specs.Values.{bool_at, integer_within, text_within}
use Rattle.script_input.specs.Objects.{object_at, optional, required}
use Rattle.script_input.specs.Lists.{list_at}
use Rattle.script_input.specs.Urls.{tuple_at, web_at}
use Rattle.script_input.specs.Resources.{resources_in}

-- a text of suffix rules: at most 1,048,576 bytes
abbrev pub suffix_text_at : Data → Checked (List ℕ)
suffix_text_at = text_within 0 1048576

-- the text of suffix rules, empty where it is left out
unfoldable pub suffixes_in : Data → Checked (List ℕ)
suffixes_in d = optional (codes "suffixes") suffix_text_at d >>= λ text. Ok (unwrap_or text [])

-- the rules of a text, or X4 of its first bad line. The last row is there because the type has it: no text is read as want
-- of memory, which only a call answers
abbrev pub rules_of : Result (List SuffixRule) RulesRefusal → Checked (List SuffixRule)
rules_of (Ok rules) = Ok rules
rules_of (Err (BadRule line)) = Err (rule_refusal line)
rules_of (Err NoMemory) = Err (rule_refusal 0)

-- the suffix rules, none where they are left out
unfoldable pub rules_in : Data → Checked (List SuffixRule)
rules_in d = suffixes_in d >>= λ text. rules_of (reading text)

-- the soft limit, 64 where it is left out
unfoldable pub soft_limit_in : Data → Checked ℕ
soft_limit_in d = optional (codes "soft_limit") (integer_within 0 64) d >>= λ n. Ok (unwrap_or n 64)

-- at most 64 URLs of class Web
abbrev pub start_at : Data → Checked (List (List ℕ))
start_at = list_at (λ before. web_at) 64

-- at most 64 URLs of class Web, each standing for its tuple origin
abbrev pub isolated_at : Data → Checked (List TupleOrigin)
isolated_at = list_at (λ before. tuple_at) 64

-- the isolated origins, none where they are left out
unfoldable pub isolated_in : Data → Checked (List TupleOrigin)
isolated_in d = optional (codes "isolated_origins") isolated_at d >>= λ origins. Ok (unwrap_or origins [])

-- the keys of a script, in the order of the table
abbrev pub script_keys : List (List ℕ)
script_keys =
    codes "suffixes" ∷ codes "spare" ∷ codes "soft_limit" ∷ codes "start" ∷ codes "resources" ∷ codes "isolated_origins" ∷ []

-- the script that a JSON value is
unfoldable pub script_at : Data → Checked ScriptData
script_at d = do
  _ ← object_at (codes "start" ∷ []) script_keys d
  rules ← rules_in d
  spare ← optional (codes "spare") bool_at d
  soft_limit ← soft_limit_in d
  start ← required (codes "start") start_at d
  resources ← resources_in d
  isolated ← isolated_in d
  Ok (record {
    policy = Two;
    rules = record { suffixes = rules; isolated = isolated };
    spare = unwrap_or spare false;
    soft_limit = soft_limit;
    start = start;
    resources = resources;
  })

-- the JSON value of bytes, which are UTF-8
unfoldable pub json_of : List ℕ → Option Data
json_of bytes = if utf8_valid_len bytes == length bytes then read bytes else None

abbrev pub script_of_value : Option Data → Checked ScriptData
script_of_value None = refuse not_json
script_of_value (Some d) = script_at d

-- the script that bytes are
unfoldable pub script_of : List ℕ → Checked ScriptData
script_of bytes = script_of_value (json_of bytes)
