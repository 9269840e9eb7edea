-- When a list of bytes is HTML: our own rule, after Chromium's CORB explainer. Behind white space and whole comments,
-- without regard to ASCII case, it begins with one of fourteen tags, whatever byte comes after that.
use Rattle.std.specs.Prelude.{ℕ, zero, suc, Bool, false, ◌||◌, Option, Some, None, List, [], ◌∷◌, length, map, drop, codes, if◌then◌else◌}
use Rattle.std.specs.Option.{option_map_or}
use Rattle.std.specs.List.{list_any}
use Rattle.std.specs.Char.{to_ascii_lowercase}
use Rattle.corb_sniff.specs.Fronts.{is_white, begins}

-- the tags, in lower case
abbrev pub tags : List (List ℕ)
tags =
    codes "<!doctype html" ∷ codes "<script" ∷ codes "<html" ∷ codes "<head" ∷ codes "<iframe" ∷ codes "<h1" ∷ codes "<div"
    ∷ codes "<font" ∷ codes "<table" ∷ codes "<a" ∷ codes "<style" ∷ codes "<title" ∷ codes "<b" ∷ codes "<p" ∷ []

-- the list begins with one of the tags
abbrev pub begins_with_tag : List ℕ → Bool
begins_with_tag list = list_any (λ tag. begins tag list) tags

-- what is left behind the first `-->`
abbrev pub after_comment_end : List ℕ → Option (List ℕ)
after_comment_end [] = None
after_comment_end (b ∷ list) = if begins (codes "-->") (b ∷ list) then Some (drop 2 list) else after_comment_end list

-- What is left behind one white byte or one whole comment. A comment is `<!--` and everything
-- to the end of the first `-->` that begins after those four bytes.
abbrev pub after_blank : List ℕ → Option (List ℕ)
after_blank [] = None
after_blank (b ∷ list) =
    if is_white b then Some list
    else (if begins (codes "<!--") (b ∷ list) then after_comment_end (drop 3 list) else None)

-- the test holds behind at most n white bytes and comments
unfoldable pub holds_within : (List ℕ → Bool) → ℕ → List ℕ → Bool
holds_within test zero list = test list
holds_within test (suc n) list = test list || option_map_or (holds_within test n) (after_blank list) false

-- the test holds behind white space and whole comments, of which a list has no more than bytes
unfoldable pub holds_behind_blanks : (List ℕ → Bool) → List ℕ → Bool
holds_behind_blanks test list = holds_within test (length list) list

-- a list in lower case is HTML
unfoldable pub is_lower_html : List ℕ → Bool
is_lower_html list = holds_behind_blanks begins_with_tag list

-- a list is HTML
unfoldable pub is_html : List ℕ → Bool
is_html list = is_lower_html (map to_ascii_lowercase list)
