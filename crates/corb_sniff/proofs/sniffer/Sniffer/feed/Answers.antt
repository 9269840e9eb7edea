use Rattle.std.proofs.Common.{false, ◌++◌}
use Rattle.corb_sniff.proofs.ReadLemmas.{HasRead-reads, answer-read}
use Rattle.corb_sniff.proofs.sniffer.Sniffer.feed.Goals as goal

pub returns-clause-read : goal.returns-clause-read
returns-clause-read c = λ kind list read.
    HasRead-reads c.args.self.now c.read.new.self kind list c.args.piece.now c.min-taken.result read c.min-taken.ensures c.read.ensures

pub returns-clause-answer : goal.returns-clause-answer
returns-clause-answer c = λ kind list read.
    answer-read c.read.new.self kind (list ++ c.args.piece.now) false c.answer.result
    (returns-clause-read c kind list read) c.answer.ensures
