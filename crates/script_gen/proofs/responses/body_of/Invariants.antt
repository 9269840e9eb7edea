use Rattle.std.proofs.Common.{◌≡◌, ◌++◌, ◌-◌, length, map}
use Rattle.std.specs.List.{range_with_len}
use Rattle.script_gen.specs.Generated.{body_front, letter}
use Rattle.script_gen.proofs.responses.body_of.Given as goal

abbrev pub invariant-loop-place : goal.invariant-loop-place
invariant-loop-place l = l.body.items ≡ body_front l.response ++ map letter (range_with_len (length (body_front l.response)) (l.place - length (body_front l.response)))
