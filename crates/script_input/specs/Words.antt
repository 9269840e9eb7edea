-- Words. A wrong word is X2.
use Rattle.std.specs.Prelude.{ℕ, List, take, drop, bytes_eq, codes, Option, Some, None, option_map, Ok, if◌then◌else◌}
use Rattle.serde_json.specs.Data.{Data}
use Rattle.history_entry.specs.declared.body.Mode.{Mode}
use Rattle.history_entry.specs.declared.body.Mode.TheVariants.{Cors, NoCors}
use Rattle.script_model.specs.declared.action.FrameRef.{FrameRef}
use Rattle.script_model.specs.declared.action.FrameRef.TheVariants.{Child, Opener, Own, Parent, Top}
use Rattle.script_input.specs.Checked.{Checked, ◌>>=◌, refuse, typed}
use Rattle.script_input.specs.Refusals.{wrong_shape}
use Rattle.decimal_text.specs.Numbers.{decimal_number}
use Rattle.script_input.specs.Values.{string_at}

-- `cors` or `no-cors`
unfoldable pub mode_of : List ℕ → Checked Mode
mode_of word =
    if bytes_eq word (codes "cors") then Ok Cors
    else (if bytes_eq word (codes "no-cors") then Ok NoCors
    else refuse wrong_shape)

-- the mode of a request
abbrev pub mode_at : Data → Checked Mode
mode_at d = string_at d >>= mode_of

-- `child N`
unfoldable pub child_of : List ℕ → Option FrameRef
child_of word = if bytes_eq (take 6 word) (codes "child ") then option_map (λ n. Child n) (decimal_number (drop 6 word)) else None

-- `self`, `parent`, `top`, `opener` or `child N`
unfoldable pub frame_ref_of : List ℕ → Option FrameRef
frame_ref_of word =
    if bytes_eq word (codes "self") then Some Own
    else (if bytes_eq word (codes "parent") then Some Parent
    else (if bytes_eq word (codes "top") then Some Top
    else (if bytes_eq word (codes "opener") then Some Opener
    else child_of word)))

-- a frame as a document names it
unfoldable pub frame_ref_at : Data → Checked FrameRef
frame_ref_at d = string_at d >>= λ word. typed (frame_ref_of word)
