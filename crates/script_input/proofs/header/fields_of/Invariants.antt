use Rattle.std.proofs.Common.{◌≡◌, []}
use Rattle.http_header.specs.HeaderMap.{append_all}
use Rattle.script_input.proofs.header.fields_of.Given as goal

abbrev pub invariant-loop-name : goal.invariant-loop-name
invariant-loop-name l = l.fields ≡ append_all [] l.yielded
