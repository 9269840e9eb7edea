-- The values of a header, joined: "get" of a header list of the Fetch Standard, which joins the values of all headers of
-- one name. Where there is none, the text is empty.
use Rattle.std.specs.Prelude.{ℕ, List, [], ◌∷◌, ◌++◌, codes}

-- the values with a comma and a space between each two
abbrev pub joined_values : List (List ℕ) → List ℕ
joined_values [] = []
joined_values (v ∷ []) = v
joined_values (v ∷ w ∷ values) = v ++ codes ", " ++ joined_values (w ∷ values)
