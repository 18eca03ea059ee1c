-- When a point that stays in its own set stays in a larger one.
use Rattle.std.proofs.Common.{◌⊎◌, inl, inr, ◌∙◌, arith, ◌<◌, List, ℕ}
use Rattle.kin_algebra.proofs.OrderedRings.{OrderedRing}
use Rattle.kin_motion.specs.Numbers.{IsIn}
use Rattle.kin_chain.proofs.Comparisons.{AtMost, Below, Level, not_both, level_most, level_turned}
use Rattle.kin_chain.proofs.Planes.{Places}
use Rattle.kin_chain.proofs.Geometry.{Direction, Steeper, up, straight, middle, coincide}
use Rattle.kin_chain.proofs.Stays.{Stays}

module _ {R : Type 0} (o : OrderedRing R) (ps : Places o) where
  -- p is of the set, stays in it, and no other is higher along d
  pub record Top (set : List ℕ) (d : Direction o) (p : ℕ) : Type 0 where
    pub inside : IsIn p set
    pub stays : Stays o ps set p
    pub high : (q : ℕ) → IsIn q set → AtMost o (up o ps d) q p

  -- nothing straight above p
  none_above : (set : List ℕ) (p : ℕ) (d : Direction o) → ((q : ℕ) → IsIn q set → AtMost o (up o ps d) q p) → (q : ℕ) → IsIn q set → Level o ps.x p q → Below o ps.y p q → ⊥
  none_above set p d high q i x y = not_both o (record { is = straight o ps d x ∙ y.is }) (high q i)

  -- p is highest of all, and every other that is as high is of its own set
  pub highest_stays : {own all : List ℕ} {p : ℕ} (d : Direction o) → Stays o ps own p → ((q : ℕ) → IsIn q all → AtMost o (up o ps d) q p) → ((q : ℕ) → IsIn q all → IsIn q own ⊎ Below o (up o ps d) q p) → Stays o ps all p
  highest_stays {own} {all} {p} d st high split = record {
    no_double = λ q i x y lt. st.no_double q (own_at q i (record { is = straight o ps d x ∙ y.is })) x y lt;
    no_above = none_above all p d high;
    no_segment = λ q r i j left right low.
        let m = middle o ps d left right low (high q i) (high r j) in
        st.no_segment q r (own_at q i (level_turned o m.0)) (own_at r j (level_turned o m.1)) left right low;
  }
    where
      own_at : (q : ℕ) → IsIn q all → Level o (up o ps d) p q → IsIn q own
      own_at q i level = at (split q i)
        where
          at : IsIn q own ⊎ Below o (up o ps d) q p → IsIn q own
          at (inl k) = k
          at (inr b) = absurd (not_both o b (level_most o level))

  -- p is highest of all along two directions, and every other that isn't of its own set has a greater number
  pub level_stays : {own all : List ℕ} {p : ℕ} {d e : Direction o} → Steeper o d e → Stays o ps own p → ((q : ℕ) → IsIn q all → AtMost o (up o ps d) q p) → ((q : ℕ) → IsIn q all → AtMost o (up o ps e) q p) → ((q : ℕ) → IsIn q all → IsIn q own ⊎ (p < q))
      → Stays o ps all p
  level_stays {own} {all} {p} {d} {e} steeper st first second split = record {
    no_double = λ q i x y lt. double q x y lt (split q i);
    no_above = none_above all p d first;
    no_segment = λ q r i j left right low.
        let m = middle o ps d left right low (first q i) (first r j) in
        let n = middle o ps e left right low (second q i) (second r j) in
        not_both o left (level_most o (level_turned o (coincide o ps steeper m.0 n.0).0));
  }
    where
      double : (q : ℕ) → Level o ps.x p q → Level o ps.y p q → q < p → IsIn q own ⊎ (p < q) → ⊥
      double q x y lt (inl k) = st.no_double q k x y lt
      double q x y lt (inr g) = omega (arith, lt, g)
