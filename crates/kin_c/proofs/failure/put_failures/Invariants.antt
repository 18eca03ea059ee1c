use Rattle.std.proofs.Common.{◌≡◌, map, take, drop}
use Rattle.kin_fail.specs.Blocks.{failure_of}
use Rattle.kin_c.specs.Failures.{failure_numbers}
use Rattle.kin_c.proofs.failure.put_failures.Given as goal

-- those before the place are given, and from it on all is as before
abbrev pub invariant-loop-place : goal.invariant-loop-place
invariant-loop-place l = record {
  given : take l.place l.out ≡ map failure_numbers (map failure_of (take l.place l.list));
  rest : drop l.place l.out ≡ drop l.place l.initial.out;
}
