use Rattle.corb_sniff.proofs.MayBeFound.{found_continued, found_in-hopeless}
use Rattle.corb_sniff.proofs.laws.may_be_found_is_exact.Goals as goal

pub returns-clause-some : goal.returns-clause-some
returns-clause-some c = found_continued

pub returns-clause-none : goal.returns-clause-none
returns-clause-none c = found_in-hopeless
