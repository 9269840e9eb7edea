use Rattle.std.proofs.Common.{◌≡◌, ◌≤◌, take}
use Rattle.process_standings.specs.Changing.{site_count}
use Rattle.process_standings.proofs.sites.site_count.Given as goal

abbrev pub invariant-loop-place : goal.invariant-loop-place
invariant-loop-place l = record {
  counted : l.count ≡ site_count (take l.place l.entries);
  few : l.count ≤ l.place;
}
