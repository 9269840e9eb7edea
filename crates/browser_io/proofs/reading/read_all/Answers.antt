use Rattle.std.proofs.Common.{arith, ◌+◌}
use Rattle.std.proofs.lemmas.List.{length-take}
use Rattle.browser_io.proofs.Moves.{takes_at_most, takes_exactly}
use Rattle.browser_io.proofs.reading.read_all.Goals as goal

pub returns-in-Ok-clause-taken : goal.returns-in-Ok-clause-taken
returns-in-Ok-clause-taken g c =
    takes_at_most _ _ _ c.reads.all.items c.read.new.buf c.in-Ok.count _ c.reads.invariant.taken c.in-Ok.ensures.bytes
    (omega (arith, c.in-Ok.ensures.bound, c.read.auto.buf, length-take (c.min-want.result + 1) c.reads.buf))

pub returns-in-Ok-clause-large : goal.returns-in-Ok-clause-large
returns-in-Ok-clause-large g c =
    λ _. takes_exactly _ _ _ c.reads.all.items c.read.new.buf c.in-Ok.count _ c.reads.invariant.taken c.in-Ok.ensures.bytes c.in-Ok.ensures.bound
    (omega (arith, c.in-Ok.ensures.bound, c.read.auto.buf, length-take (c.min-want.result + 1) c.reads.buf))

pub returns-in_err-extend_from_slice-in-Ok-2-clause-taken : goal.returns-in_err-extend_from_slice-in-Ok-2-clause-taken
returns-in_err-extend_from_slice-in-Ok-2-clause-taken g c =
    takes_at_most _ _ _ c.reads.all.items c.read.new.buf c.in-Ok-2.count _ c.reads.invariant.taken c.in-Ok-2.ensures.bytes
    (omega arith)

pub returns-in_err-extend_from_slice-in-Ok-2-clause-others : goal.returns-in_err-extend_from_slice-in-Ok-2-clause-others
returns-in_err-extend_from_slice-in-Ok-2-clause-others g c =
    λ _. takes_at_most _ _ _ c.reads.all.items c.read.new.buf c.in-Ok-2.count _ c.reads.invariant.taken c.in-Ok-2.ensures.bytes
    (omega arith)
