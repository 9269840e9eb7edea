-- What a sniffer has read. Its three calls are stated over this word.
use Rattle.std.specs.Prelude.{◌≡◌, ℕ, List, length}
use Rattle.corb_sniff.specs.Continuations.{AreAlike}
use Rattle.corb_sniff.specs.Confirmation.{window, meets}
use Rattle.corb_sniff.specs.Reading.{sample_of}
use Rattle.corb_sniff.specs.declared.kind.SniffKind.{SniffKind}
use Rattle.corb_sniff.specs.declared.kind.Sniffed.{Sniffed}
use Rattle.corb_sniff.specs.declared.sniffer.Sniffer.{Sniffer}

-- The sniffer was made for the kind and has read the list: to each grammar the window is as good as
-- the sample of its state, whatever follows.
pub record HasRead (sniffer : Sniffer) (kind : SniffKind) (list : List ℕ) : Type 0 where
  pub kind_is : sniffer.kind ≡ kind
  pub seen : sniffer.seen ≡ length (window list)
  pub alike : (sniffed : Sniffed) → AreAlike (meets sniffed) (window list) (sample_of sniffer sniffed)
