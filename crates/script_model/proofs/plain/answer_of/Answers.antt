use Rattle.std.proofs.Common.{[]}
use Rattle.script_model.proofs.plain.answer_of.Goals as goal

pub returns-then-ended : goal.returns-then-ended
returns-then-ended c =
    rw c.if-ended.true (c.finish.ensures.answer c.args.kind c.args.bytes.now (c.feed-so_far.ensures.read c.args.kind [] c.new-sniffer.ensures))

pub returns-else-ended : goal.returns-else-ended
returns-else-ended c = rw c.if-ended.false (c.feed-so_far.ensures.answer c.args.kind [] c.new-sniffer.ensures)
