-- The prefixes by which servers keep a body from running as a script: those that Chromium's CORB explainer names.
-- A list has one only at its very front, behind no white space.
use Rattle.std.specs.Prelude.{ℕ, Bool, List, [], ◌∷◌, codes}
use Rattle.std.specs.List.{list_any}
use Rattle.corb_sniff.specs.Fronts.{begins}

-- the prefixes
abbrev pub script_prefixes : List (List ℕ)
script_prefixes = codes ")]}'" ∷ codes "{}&&" ∷ codes "for(;;);" ∷ []

-- the list begins with one of them
unfoldable pub has_prefix : List ℕ → Bool
has_prefix list = list_any (λ prefix. begins prefix list) script_prefixes
