use Rattle.entry_reading.proofs.Answered.{message_answered, message_read, message_unread}
use Rattle.entry_reading.proofs.reading.read_message.Goals as goal

pub returns-in-Ok-clause-read : goal.returns-in-Ok-clause-read
returns-in-Ok-clause-read c = message_read c.args.text.now c.in-Ok.message c.message_is_kept.ensures c.in-Ok.ensures

pub returns-in-Ok-clause-back : goal.returns-in-Ok-clause-back
returns-in-Ok-clause-back c =
    message_answered c.args.text.now c.in-Ok.message (message_read c.args.text.now c.in-Ok.message c.message_is_kept.ensures c.in-Ok.ensures)

pub returns-in-Err-BadLine-clause-bad : goal.returns-in-Err-BadLine-clause-bad
returns-in-Err-BadLine-clause-bad c = λ _. message_unread c.args.text.now (rw c.in-Err-BadLine.field-0-is at c.in-Err-BadLine.ensures)

pub returns-in-Err-BadLine-clause-back : goal.returns-in-Err-BadLine-clause-back
returns-in-Err-BadLine-clause-back c = λ e is. absurd (message_unread c.args.text.now (rw c.in-Err-BadLine.field-0-is at c.in-Err-BadLine.ensures) e is.0 is.1)
