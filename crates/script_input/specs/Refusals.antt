-- Refusals of scripts: a code, where it stands, and a line. Own format.
use Rattle.std.specs.Prelude.{ℕ, ◌==◌, List, [], ◌∷◌, ◌++◌, codes, decimal, length, if◌then◌else◌}
use Rattle.script_input.specs.declared.refusal.Refusal.{Refusal}

-- X1: the bytes are not JSON
abbrev pub not_json : ℕ
not_json = 1

-- X2: a wrong shape, a missing or unknown key, or a wrong word
abbrev pub wrong_shape : ℕ
wrong_shape = 2

-- X3: a URL that its place doesn't take
abbrev pub wrong_url : ℕ
wrong_url = 3

-- X4: a bad suffix rule
abbrev pub bad_rule : ℕ
bad_rule = 4

-- X5: a bad name or value of a header
abbrev pub bad_header : ℕ
bad_header = 5

-- X6: a limit is passed
abbrev pub past_limit : ℕ
past_limit = 6

-- X7: two resources with one key
abbrev pub same_key : ℕ
same_key = 7

-- a refusal of the value itself
abbrev pub refusal : ℕ → Refusal
refusal code = record { code = code; path = []; line = 0 }

-- the refusal of the suffix rule on a line; it names no path
abbrev pub rule_refusal : ℕ → Refusal
rule_refusal line = record { code = bad_rule; path = []; line = line }

-- the same refusal, seen from one step further up: `/` and the step stand before its path
abbrev pub behind : List ℕ → Refusal → Refusal
behind step r = record { code = r.code; path = 47 ∷ step ++ r.path; line = r.line }

-- a path behind a space; nothing of an empty one
abbrev pub path_part : List ℕ → List ℕ
path_part path = if length path == 0 then [] else codes " " ++ path

-- the number of a line; nothing of 0, which stands for none
abbrev pub line_part : ℕ → List ℕ
line_part line = if line == 0 then [] else codes " line " ++ decimal line

-- how a refusal is spelled: `refused X2 /start/0`, `refused X4 line 3`, `refused X1`
unfoldable pub refusal_text : Refusal → List ℕ
refusal_text r = codes "refused X" ++ decimal r.code ++ path_part r.path ++ line_part r.line
