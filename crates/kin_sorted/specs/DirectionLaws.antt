-- The law of points along a direction.
use Rattle.std.specs.Prelude.{◌≡◌, ℕ, ◌≤◌, ◌^◌, ℤ, pos, [], unsigned_abs}
use Rattle.std.proofs.Common.{refl, arith}
use Rattle.std.proofs.lemmas.List.Elements.{All-head}
use Rattle.kin_motion.specs.declared.form.Form.TheVariants.{Line}
use Rattle.kin_motion.specs.Numbers.{IsIn}
use Rattle.kin_motion.proofs.OctantLaws.{before_turned}
use Rattle.kin_motion.proofs.OrderLaws.{before_through, not_before_itself}
use Rattle.kin_motion.proofs.RealLaws.{real_line_laws}
use Rattle.kin_motion.specs.Directions.{along}
use Rattle.kin_motion.specs.Rankings.{IsRanking}

same_right : (dx dy : ℤ) (i j k : ℕ) → Line dx dy (pos 0) i j ≡ Line dx dy (pos 0) i k → j ≡ k
same_right dx dy i j k e = cc

pub along_ranked : (slots : ℕ) (dx dy : ℤ) → slots ≤ 2 ^ 15 → unsigned_abs dx ≤ 16 → unsigned_abs dy ≤ 16 → IsRanking (along slots dx dy)
along_ranked slots dx dy few dx_small dy_small = record {
  strict = λ s real.
      let laws = real_line_laws s real in
      record {
        irreflexive = λ i a. not_before_itself s laws dx dy i;
        total = λ i j a b n. before_turned s laws dx dy i j n;
        transitive = λ i j k a b c. before_through s laws dx dy i j k;
        opposite = λ i j a b. laws.opposite dx dy i j;
      };
  left = λ i j. refl;
  right = λ i j k part form. same_right dx dy i j k form;
  askable = λ live i j a b. record {
    i_live = All-head (λ n. IsIn n live) i [] a;
    j_live = All-head (λ n. IsIn n live) j [] b;
    dx_small = dx_small;
    dy_small = dy_small;
    off_small = omega arith;
  };
  few_slots = few;
  few_parts = omega arith;
  within = λ i j. omega arith;
}
