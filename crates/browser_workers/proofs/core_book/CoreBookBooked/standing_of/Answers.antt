use Rattle.std.proofs.Common.{sym, ◌∙◌}
use Rattle.browser_workers.proofs.Booking.{is_legal}
use Rattle.browser_workers.proofs.core_book.CoreBookBooked.standing_of.Goals as goal

pub standing_in-requires : goal.standing_in-requires
standing_in-requires g c =
    let book = c.args.self.now in
    is_legal g.V.Service.rule book.core.script book.script.now book.core.entries c.entries.result.now (book.core_is ∙ sym book.script_is)
    (sym (c.entries.ensures ∙ c.history.ensures.history)) c.history.ensures.legal
