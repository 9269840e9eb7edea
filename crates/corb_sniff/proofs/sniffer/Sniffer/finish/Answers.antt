use Rattle.std.proofs.Common.{true}
use Rattle.corb_sniff.proofs.ReadLemmas.{answer-read}
use Rattle.corb_sniff.proofs.sniffer.Sniffer.finish.Goals as goal

pub returns-clause-answer : goal.returns-clause-answer
returns-clause-answer c = λ kind list read. answer-read c.args.self.now kind list true c.answer.result read c.answer.ensures
