-- What the states of a sniffer say, whatever it has read. Each state stands for a sample, a fixed short list that goes
-- on as all lists do after which the state is this one.
use Rattle.std.specs.Prelude.{◌≡◌, ◌≢◌, ℕ, ◌+◌, Bool, true, false, ◌&&◌, ◌⊎◌, Option, Some, None, List, ◌++◌, length, find}
use Rattle.corb_sniff.specs.Continuations.{AreAlike, IsHopeless}
use Rattle.corb_sniff.specs.HtmlSamples.{html_sample}
use Rattle.corb_sniff.specs.XmlSamples.{xml_sample}
use Rattle.corb_sniff.specs.JsonSamples.{json_sample}
use Rattle.corb_sniff.specs.PrefixSamples.{prefix_sample}
use Rattle.corb_sniff.specs.Confirmation.{is_tested, meets, all_sniffed}
use Rattle.corb_sniff.specs.declared.kind.Sniffed.{Sniffed}
use Rattle.corb_sniff.specs.declared.kind.Sniffed.TheVariants.{Html, Xml, Json, Prefix}
use Rattle.corb_sniff.specs.declared.kind.Answer.{Answer}
use Rattle.corb_sniff.specs.declared.kind.Answer.TheVariants.{More, Confirmed, Clear}
use Rattle.corb_sniff.specs.declared.sniffer.Sniffer.{Sniffer}

-- bytes after which the sniffer's state for it is this one
abbrev pub sample_of : Sniffer → Sniffed → List ℕ
sample_of s Html = html_sample s.html
sample_of s Xml = xml_sample s.xml
sample_of s Json = json_sample s.json
sample_of s Prefix = prefix_sample s.prefix

-- the old sniffer has read the bytes, and is the new one
pub record Reads (old : Sniffer) (bytes : List ℕ) (new : Sniffer) : Type 0 where
  pub kind : new.kind ≡ old.kind
  pub seen : new.seen ≡ old.seen + length bytes
  pub alike : (sniffed : Sniffed) → AreAlike (meets sniffed) (sample_of old sniffed ++ bytes) (sample_of new sniffed)

-- the kind is tested for it, and the state's sample meets it
abbrev pub is_met : Sniffer → Sniffed → Bool
is_met s sniffed = is_tested s.kind sniffed && meets sniffed (sample_of s sniffed)

-- if the kind is tested for it, nothing that could follow the state's sample meets it
pub record IsHopelessNow (s : Sniffer) (sniffed : Sniffed) : Type 0 where
  pub hopeless : is_tested s.kind sniffed ≡ true → IsHopeless (meets sniffed) (sample_of s sniffed)

-- the one that is met
abbrev pub met_now : Sniffer → Option Sniffed
met_now s = find (is_met s) all_sniffed

-- the answer by the states alone
abbrev pub AnswersNow : Sniffer → Bool → Answer → Type 0
AnswersNow s ended (Confirmed sniffed) = met_now s ≡ Some sniffed
AnswersNow s ended Clear = (met_now s ≡ None) × ((ended ≡ true) ⊎ ((s.seen ≡ 1024) ⊎ ((sniffed : Sniffed) → IsHopelessNow s sniffed)))
AnswersNow s ended More = (met_now s ≡ None) × (ended ≡ false) × (s.seen ≢ 1024) × (((sniffed : Sniffed) → IsHopelessNow s sniffed) → ⊥)
