use Rattle.std.proofs.Common.{ap, ◌∙◌, drop}
use Rattle.browser_io.proofs.Moves.{handed_over}
use Rattle.browser_io.proofs.cursor.Cursor.hand_over.Goals as goal

pub returns-clause-bytes : goal.returns-clause-bytes
returns-clause-bytes c =
    rw (← c.self.view_is) (handed_over c.self.inside.bytes.items c.split_at.result.1.now c.copy_front-count.new.buf c.self.inside.at c.copy_front-count.result
    (c.split_at.ensures.back ∙ ap (λ w. drop c.self.inside.at w) c.as_slice.ensures.value)
    c.copy_front-count.ensures.bytes)
