-- The samples of the states that read the prefixes.
use Rattle.std.specs.Prelude.{ℕ, List, [], codes}
use Rattle.corb_sniff.specs.declared.prefix.PrefixState.{PrefixState}
use Rattle.corb_sniff.specs.declared.prefix.PrefixState.TheVariants.{Start, CloseParen, CloseBracket, CloseBrace, OpenBrace, EmptyBraces, Ampersand, LetterF, LetterO, For, ForParen, OneSemicolon, TwoSemicolons, EmptyLoop, Met, Missed}

-- bytes after which the state is this one
abbrev pub prefix_sample : PrefixState → List ℕ
prefix_sample Start = []
prefix_sample CloseParen = codes ")"
prefix_sample CloseBracket = codes ")]"
prefix_sample CloseBrace = codes ")]}"
prefix_sample OpenBrace = codes "{"
prefix_sample EmptyBraces = codes "{}"
prefix_sample Ampersand = codes "{}&"
prefix_sample LetterF = codes "f"
prefix_sample LetterO = codes "fo"
prefix_sample For = codes "for"
prefix_sample ForParen = codes "for("
prefix_sample OneSemicolon = codes "for(;"
prefix_sample TwoSemicolons = codes "for(;;"
prefix_sample EmptyLoop = codes "for(;;)"
prefix_sample Met = codes "{}&&"
prefix_sample Missed = codes "x"
