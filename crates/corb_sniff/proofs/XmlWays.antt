-- Each state but `Missed` has something that could follow and meets the grammar.
use Rattle.std.proofs.Common.{◌≡◌, ℕ, List, [], codes, refl}
use Rattle.std.proofs.lemmas.Bool.{true≢false}
use Rattle.corb_sniff.specs.Continuations.{IsHopeless}
use Rattle.corb_sniff.specs.XmlGrammar.{is_xml}
use Rattle.corb_sniff.specs.XmlSamples.{xml_sample}
use Rattle.corb_sniff.specs.declared.xml.XmlState.{XmlState}
use Rattle.corb_sniff.specs.declared.xml.XmlState.TheVariants.{White, Open, Question, LetterX, LetterM, Met, Missed}

-- what could follow
xml_way : XmlState → List ℕ
xml_way White = codes "<?xml"
xml_way Open = codes "?xml"
xml_way Question = codes "xml"
xml_way LetterX = codes "ml"
xml_way LetterM = codes "l"
xml_way Met = []
xml_way Missed = []

pub xml_hope : (state : XmlState) → IsHopeless is_xml (xml_sample state) → state ≡ Missed
unfolding is_xml xml_way
xml_hope Missed hopeless = refl
xml_hope state hopeless = absurd (true≢false (hopeless (xml_way state)))
