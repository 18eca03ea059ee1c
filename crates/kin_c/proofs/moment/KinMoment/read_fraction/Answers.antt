use Rattle.std.proofs.Common.{◌≡◌, arith, to_z, of_z, w64}
use Rattle.std.proofs.lemmas.Int.{to_z-of_z}
use Rattle.kin_c.proofs.moment.KinMoment.read_fraction.Goals as goal

pub returns-in-Ok-clause-names : goal.returns-in-Ok-clause-names
returns-in-Ok-clause-names c =
    let a : to_z w64 (of_z w64 c.args.self.a) ≡ c.args.self.a = grind (arith, to_z-of_z) in
    let b : to_z w64 (of_z w64 c.args.self.b) ≡ c.args.self.b = grind (arith, to_z-of_z) in
    let zero = c.requires.kind in
    let range = rw (a, b) at c.in-Ok.ensures.range in
    let value = rw (a, b) at c.in-Ok.ensures.value in
    record {
      range = record { kind = omega (arith, zero); after = c.requires.after; fraction = λ _. range; root = λ k. absurd (omega (arith, zero, k)) };
      instant = record { fraction = λ _. (c.in-Ok.ensures.canonical, value); lesser = λ k. absurd (omega (arith, zero, k)); greater = λ k. absurd (omega (arith, zero, k)) };
      phase = c.phase.ensures;
    }
