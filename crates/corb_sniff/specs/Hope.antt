-- Whether a list of bytes meets a grammar or prefix, or still can by bytes that follow it: tests that compute.
-- That they say so exactly, of continuations of any length, is the law `may_be_found_is_exact`.
use Rattle.std.specs.Prelude.{ℕ, Bool, true, false, ◌||◌, ◌&&◌, ◌==◌, nat_le, List, [], ◌∷◌, is_some, is_none, map, drop, codes, if◌then◌else◌}
use Rattle.std.specs.Option.{option_map_or}
use Rattle.std.specs.List.{list_any, list_all}
use Rattle.std.specs.Char.{to_ascii_lowercase}
use Rattle.corb_sniff.specs.Fronts.{is_white, begins, agrees, after_white, after_byte}
use Rattle.corb_sniff.specs.HtmlGrammar.{tags, after_comment_end, holds_behind_blanks}
use Rattle.corb_sniff.specs.JsonGrammar.{after_string}
use Rattle.corb_sniff.specs.ScriptPrefixes.{script_prefixes}
use Rattle.corb_sniff.specs.Confirmation.{is_tested, all_sniffed}
use Rattle.corb_sniff.specs.declared.kind.SniffKind.{SniffKind}
use Rattle.corb_sniff.specs.declared.kind.Sniffed.{Sniffed}
use Rattle.corb_sniff.specs.declared.kind.Sniffed.TheVariants.{Html, Xml, Json, Prefix}

-- the list begins with a comment whose end has not come
abbrev pub has_open_comment : List ℕ → Bool
has_open_comment list = begins (codes "<!--") list && is_none (after_comment_end (drop 4 list))

-- the list begins with a tag, is a beginning of a tag or of `<!--`, or ends in its first comment
abbrev pub may_be_tag : List ℕ → Bool
may_be_tag list = list_any (λ tag. agrees tag list) tags || (begins list (codes "<!--") || has_open_comment list)

-- HTML, or a beginning of it
unfoldable pub may_be_html : List ℕ → Bool
may_be_html list = holds_behind_blanks may_be_tag (map to_ascii_lowercase list)

-- XML, or a beginning of it
unfoldable pub may_be_xml : List ℕ → Bool
may_be_xml list = agrees (codes "<?xml") (after_white list)

-- the bytes end within a string whose opening quote is gone
abbrev mutual
  pub is_open_string : List ℕ → Bool
  is_open_string [] = true
  is_open_string (b ∷ list) = if b == 34 then false else (if b == 92 then is_open_escape list else (if nat_le 32 b then is_open_string list else false))

  -- the same, behind a `\`
  pub is_open_escape : List ℕ → Bool
  is_open_escape [] = true
  is_open_escape (b ∷ list) = if nat_le 32 b then is_open_string list else false

-- behind the first name: nothing but white space, or a colon behind it
abbrev pub may_be_colon : List ℕ → Bool
may_be_colon rest = list_all is_white rest || is_some (after_byte 58 (after_white rest))

-- behind the quote that opens the first name
abbrev pub may_be_name : List ℕ → Bool
may_be_name string = is_open_string string || option_map_or may_be_colon (after_string string) false

-- behind the brace that opens the object
abbrev pub may_be_object : List ℕ → Bool
may_be_object object = list_all is_white object || option_map_or may_be_name (after_byte 34 (after_white object)) false

-- JSON, or a beginning of it
unfoldable pub may_be_json : List ℕ → Bool
may_be_json list = list_all is_white list || option_map_or may_be_object (after_byte 123 (after_white list)) false

-- a prefix in front, or a beginning of one
unfoldable pub may_have_prefix : List ℕ → Bool
may_have_prefix list = list_any (λ prefix. agrees prefix list) script_prefixes

-- the list meets it, or some continuation does
abbrev pub may_meet : Sniffed → List ℕ → Bool
may_meet Html list = may_be_html list
may_meet Xml list = may_be_xml list
may_meet Json list = may_be_json list
may_meet Prefix list = may_have_prefix list

-- the list meets what is tested for the kind, or some continuation does
unfoldable pub may_be_found : SniffKind → List ℕ → Bool
may_be_found kind list = list_any (λ sniffed. is_tested kind sniffed && may_meet sniffed list) all_sniffed
