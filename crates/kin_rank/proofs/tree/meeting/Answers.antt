use Rattle.std.proofs.Common.{◌≡◌, ◌≢◌, refl, sym, ap, ◌∙◌, subst, arith, ◌/◌, ℕ, zero, suc, inl, inr}
use Rattle.std.proofs.lemmas.Bool.{cases_eq}
use Rattle.kin_rank.specs.Trees.{up, IsClimb}
use Rattle.kin_rank.proofs.tree.meeting.Goals as goal

one_up : (a b x y : ℕ) → IsClimb a b x y → x ≢ y → IsClimb a b (x / 2) (y / 2)
one_up a b x y c n = record {
  levels = suc c.levels;
  from_a = ap (λ (m : ℕ). m / 2) c.from_a;
  from_b = ap (λ (m : ℕ). m / 2) c.from_b;
  apart = λ k l e. elim (cases_eq k c.levels) [
    | inl s ↦ n (c.from_a ∙ subst (λ (m : ℕ). up m a ≡ up m b) s e ∙ sym c.from_b)
    | inr m ↦ c.apart k (omega (arith, l, m)) e
  ];
}

pub loop-left-init : goal.loop-left-init
loop-left-init c = record {
  climb = record { levels = zero; from_a = refl; from_b = refl; apart = λ k l e. absurd (omega (arith, l)) };
  below = omega arith;
  above = λ n. inl (refl, refl);
}

pub loop-left-preserved : goal.loop-left-preserved
loop-left-preserved c = record {
  climb = one_up c.args.a c.args.b c.loop-left.left c.loop-left.right c.loop-left.invariant.climb c.loop-left-test.true;
  below = let b = c.loop-left.invariant.below in omega arith;
  above = λ n. inr (let b = c.loop-left.invariant.below in omega arith);
}

pub returns-clause-meets : goal.returns-clause-meets
returns-clause-meets c = let i = c.loop-left.invariant.climb in subst (λ (m : ℕ). IsClimb c.args.a c.args.b c.loop-left.left m) (sym c.loop-left-test.false) i
