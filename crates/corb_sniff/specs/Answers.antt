-- The answer on a body of which these bytes have come, as one whole list.
use Rattle.std.specs.Prelude.{ℕ, Bool, ◌||◌, Option, Some, None, List, length, nat_le, not, if◌then◌else◌}
use Rattle.corb_sniff.specs.Confirmation.{confirms}
use Rattle.corb_sniff.specs.Hope.{may_be_found}
use Rattle.corb_sniff.specs.declared.kind.SniffKind.{SniffKind}
use Rattle.corb_sniff.specs.declared.kind.Sniffed.{Sniffed}
use Rattle.corb_sniff.specs.declared.kind.Answer.{Answer}
use Rattle.corb_sniff.specs.declared.kind.Answer.TheVariants.{More, Confirmed, Clear}

-- nothing more can be found: the body has ended, its window is full, or no continuation, of any length,
-- meets what is tested for the kind
unfoldable pub is_settled : SniffKind → List ℕ → Bool → Bool
is_settled kind list ended = ended || nat_le 1024 (length list) || not (may_be_found kind list)

-- the answer, by what the window is found to be and whether the rest is settled
abbrev pub answer_by : Option Sniffed → Bool → Answer
answer_by (Some sniffed) settled = Confirmed sniffed
answer_by None settled = if settled then Clear else More

-- the answer on the bytes so far, and on whether the body has ended with them
abbrev pub answer_of : SniffKind → List ℕ → Bool → Answer
answer_of kind list ended = answer_by (confirms kind list) (is_settled kind list ended)
