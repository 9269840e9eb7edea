-- Each state but `Missed` has something that could follow and meets the grammar.
use Rattle.std.proofs.Common.{◌≡◌, ℕ, List, [], codes, refl}
use Rattle.std.proofs.lemmas.Bool.{true≢false}
use Rattle.corb_sniff.specs.Continuations.{IsHopeless}
use Rattle.corb_sniff.specs.ScriptPrefixes.{has_prefix}
use Rattle.corb_sniff.specs.PrefixSamples.{prefix_sample}
use Rattle.corb_sniff.specs.declared.prefix.PrefixState.{PrefixState}
use Rattle.corb_sniff.specs.declared.prefix.PrefixState.TheVariants.{Start, CloseParen, CloseBracket, CloseBrace, OpenBrace, EmptyBraces, Ampersand, LetterF, LetterO, For, ForParen, OneSemicolon, TwoSemicolons, EmptyLoop, Met, Missed}

-- what could follow
prefix_way : PrefixState → List ℕ
prefix_way Start = codes "{}&&"
prefix_way CloseParen = codes "]}'"
prefix_way CloseBracket = codes "}'"
prefix_way CloseBrace = codes "'"
prefix_way OpenBrace = codes "}&&"
prefix_way EmptyBraces = codes "&&"
prefix_way Ampersand = codes "&"
prefix_way LetterF = codes "or(;;);"
prefix_way LetterO = codes "r(;;);"
prefix_way For = codes "(;;);"
prefix_way ForParen = codes ";;);"
prefix_way OneSemicolon = codes ";);"
prefix_way TwoSemicolons = codes ");"
prefix_way EmptyLoop = codes ";"
prefix_way Met = []
prefix_way Missed = []

pub prefix_hope : (state : PrefixState) → IsHopeless has_prefix (prefix_sample state) → state ≡ Missed
unfolding has_prefix prefix_way
prefix_hope Missed hopeless = refl
prefix_hope state hopeless = absurd (true≢false (hopeless (prefix_way state)))
