use Rattle.std.proofs.Common.{◌≡◌, ℕ, take}
use Rattle.std.specs.List.{All}
use Rattle.kin_motion.specs.Chains.{is_bare}
use Rattle.kin_motion.specs.Numbers.{is_in}
use Rattle.kin_cases.proofs.ask.Sight.has_the_bare.Given as goal

abbrev pub invariant-loop-p : goal.invariant-loop-p
invariant-loop-p g l = All (λ (i : ℕ). is_in i l.chain ≡ is_bare (g.O.Signs.scene l.self.signs.now) l.set i) (take l.p-index l.set)
