-- The texts of answers. Own format.
use Rattle.std.specs.Prelude.{List, codes, ℕ}

-- what stands for the want of memory, in every crate
abbrev pub no_memory_text : List ℕ
no_memory_text = codes "no memory"
