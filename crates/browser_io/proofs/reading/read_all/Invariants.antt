use Rattle.std.proofs.Common.{◌≡◌, ◌≤◌, ◌-◌, vec_len}
use Rattle.std.specs.Io.KnownBytes.{Consumes}
use Rattle.browser_io.specs.Moved.{KeepsTelling}
use Rattle.browser_io.proofs.reading.read_all.Given as goal

abbrev pub invariant-reads : goal.invariant-reads
invariant-reads g l = record {
  taken : Consumes (g.S.Source.left l.initial.source) (g.S.Source.left l.source) l.all.items;
  fits : vec_len l.all ≤ l.max;
  calm : g.S.Source.faults l.source ≡ g.S.Source.faults l.initial.source;
  telling : KeepsTelling (g.S.Source.left l.initial.source) (g.S.Source.left l.source);
}

abbrev pub decreases-reads : goal.decreases-reads
decreases-reads g l = l.max - vec_len l.all
