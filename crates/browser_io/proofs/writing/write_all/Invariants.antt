use Rattle.std.proofs.Common.{◌≡◌, ◌≤◌, ◌-◌, length, take}
use Rattle.std.specs.Io.KnownBytes.{Appends}
use Rattle.browser_io.specs.Moved.{KeepsTelling}
use Rattle.browser_io.proofs.writing.write_all.Given as goal

abbrev pub invariant-writes : goal.invariant-writes
invariant-writes g l = record {
  within : l.sent ≤ length l.bytes;
  gained : Appends (g.K.Sink.written l.initial.sink) (g.K.Sink.written l.sink) (take l.sent l.bytes);
  untouched : l.sent ≡ 0 → l.sink ≡ l.initial.sink;
  calm : g.K.Sink.faults l.sink ≡ g.K.Sink.faults l.initial.sink;
  telling : KeepsTelling (g.K.Sink.written l.initial.sink) (g.K.Sink.written l.sink);
}

abbrev pub decreases-writes : goal.decreases-writes
decreases-writes g l = length l.bytes - l.sent
