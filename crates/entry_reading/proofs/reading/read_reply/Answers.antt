use Rattle.entry_reading.proofs.Answered.{reply_answered, reply_read, reply_unread}
use Rattle.entry_reading.proofs.reading.read_reply.Goals as goal

pub returns-in-Ok-clause-read : goal.returns-in-Ok-clause-read
returns-in-Ok-clause-read c = reply_read c.args.text.now c.in-Ok.reply c.reply_is_kept.ensures c.in-Ok.ensures

pub returns-in-Ok-clause-back : goal.returns-in-Ok-clause-back
returns-in-Ok-clause-back c =
    reply_answered c.args.text.now c.in-Ok.reply (reply_read c.args.text.now c.in-Ok.reply c.reply_is_kept.ensures c.in-Ok.ensures)

pub returns-in-Err-BadLine-clause-bad : goal.returns-in-Err-BadLine-clause-bad
returns-in-Err-BadLine-clause-bad c = λ _. reply_unread c.args.text.now (rw c.in-Err-BadLine.field-0-is at c.in-Err-BadLine.ensures)

pub returns-in-Err-BadLine-clause-back : goal.returns-in-Err-BadLine-clause-back
returns-in-Err-BadLine-clause-back c = λ e is. absurd (reply_unread c.args.text.now (rw c.in-Err-BadLine.field-0-is at c.in-Err-BadLine.ensures) e is.0 is.1)
