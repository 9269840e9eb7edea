-- The samples of the states that read HTML.
use Rattle.std.specs.Prelude.{ℕ, List, [], ◌++◌, take, codes}
use Rattle.corb_sniff.specs.declared.html.HtmlState.{HtmlState}
use Rattle.corb_sniff.specs.declared.html.HtmlState.TheVariants.{Blank, Open, Bang, BangDash, LetterH, LetterS, LetterT, Begun, Comment, Dash, Dashes, Met, Missed}
use Rattle.corb_sniff.specs.TagParts.{front_of, rest_of}

-- bytes after which the state is this one
abbrev pub html_sample : HtmlState → List ℕ
html_sample Blank = []
html_sample Open = codes "<"
html_sample Bang = codes "<!"
html_sample BangDash = codes "<!-"
html_sample LetterH = codes "<h"
html_sample LetterS = codes "<s"
html_sample LetterT = codes "<t"
html_sample (Begun begun) = front_of begun.tag ++ take begun.count (rest_of begun.tag)
html_sample Comment = codes "<!--"
html_sample Dash = codes "<!---"
html_sample Dashes = codes "<!----"
html_sample Met = codes "<a"
html_sample Missed = codes "x"
