use Rattle.std.proofs.Common.{◌≡◌, ◌+◌, ◌-◌, ◌^◌, ◌∙◌, List, ap, length, refl, sym}
use Rattle.history_entry.specs.declared.entry.Entry.{Entry}
use Rattle.history_entries.specs.Text.{lines_of}
use Rattle.history_text.specs.Texts.{line_number}
use Rattle.history_text.proofs.Lines.{entries_more, lines_more, shorter, text_read, text_stopped}
use Rattle.history_text.proofs.reading.read_lines.Goals as goal

pub loop-rest-init : goal.loop-rest-init
unfolding lines_of
loop-rest-init c = rw c.new-history.ensures (record { entries = tt; whole = refl })

pub loop-rest-smaller : goal.loop-rest-smaller
loop-rest-smaller c = shorter c.in-Ok.entry c.in-Ok.more.now c.loop-rest.rest.now c.in-Ok.ensures.found.1

pub loop-rest-preserved : goal.loop-rest-preserved
loop-rest-preserved c = rw c.in_ok-push-in-Ok.ensures.ok (record {
  entries = entries_more c.args.policy c.loop-rest.history c.in-Ok.entry c.loop-rest.invariant.entries c.in-Ok.ensures.found.0;
  whole = lines_more c.args.lines.now c.loop-rest.history c.in-Ok.entry c.loop-rest.rest.now c.in-Ok.more.now c.loop-rest.invariant.whole c.in-Ok.ensures.found.1;
})

pub returns-in-Err-BadLine-clause-bad : goal.returns-in-Err-BadLine-clause-bad
returns-in-Err-BadLine-clause-bad c = λ n is.
    let told : c.line_number-number.result ≡ n = cc in
    text_stopped c.args.policy c.loop-rest.history c.loop-rest.rest.now c.args.lines.now n c.loop-rest.invariant.entries c.loop-rest.invariant.whole (sym c.is_empty.ensures ∙ c.loop-rest-test.true) (c.next_line.ensures.bad (cc))
    (sym told ∙ c.line_number-number.ensures ∙ ap (λ (h : List Entry). line_number c.args.policy (length h)) c.entries.ensures)

pub returns-clause-read : goal.returns-clause-read
returns-clause-read c =
    text_read c.args.policy c.loop-rest.history c.loop-rest.rest.now c.args.lines.now c.loop-rest.invariant.entries c.loop-rest.invariant.whole (sym c.is_empty.ensures ∙ c.loop-rest-test.false)
