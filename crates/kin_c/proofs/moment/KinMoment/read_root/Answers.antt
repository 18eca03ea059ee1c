use Rattle.std.proofs.Common.{◌≡◌, arith, to_z, of_z, w64}
use Rattle.std.proofs.lemmas.Int.{to_z-of_z}
use Rattle.kin_c.proofs.moment.KinMoment.read_root.Goals as goal

pub returns-in-Ok-clause-names : goal.returns-in-Ok-clause-names
returns-in-Ok-clause-names c =
    let a : to_z w64 (of_z w64 c.args.self.a) ≡ c.args.self.a = grind (arith, to_z-of_z) in
    let b : to_z w64 (of_z w64 c.args.self.b) ≡ c.args.self.b = grind (arith, to_z-of_z) in
    let k : to_z w64 (of_z w64 c.args.self.c) ≡ c.args.self.c = grind (arith, to_z-of_z) in
    let low = c.requires.low in
    let range = rw (a, b, k) at c.in-Ok.ensures.range in
    let root = rw (a, b, k) at c.in-Ok.ensures.found.root in
    record {
      range = record { kind = c.requires.high; after = c.requires.after; fraction = λ e. absurd (omega (arith, low, e)); root = λ _. range };
      instant = record { fraction = λ e. absurd (omega (arith, low, e)); lesser = λ e. rw e at root; greater = λ e. rw e at root };
      phase = c.phase.ensures;
    }
