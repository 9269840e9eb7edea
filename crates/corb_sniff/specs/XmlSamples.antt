-- The samples of the states that read XML.
use Rattle.std.specs.Prelude.{ℕ, List, [], codes}
use Rattle.corb_sniff.specs.declared.xml.XmlState.{XmlState}
use Rattle.corb_sniff.specs.declared.xml.XmlState.TheVariants.{White, Open, Question, LetterX, LetterM, Met, Missed}

-- bytes after which the state is this one
abbrev pub xml_sample : XmlState → List ℕ
xml_sample White = []
xml_sample Open = codes "<"
xml_sample Question = codes "<?"
xml_sample LetterX = codes "<?x"
xml_sample LetterM = codes "<?xm"
xml_sample Met = codes "<?xml"
xml_sample Missed = codes "x"
