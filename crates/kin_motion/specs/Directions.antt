-- Points in their order along a direction.
use Rattle.std.specs.Prelude.{ℕ, ℤ, pos, [], ◌∷◌}
use Rattle.kin_motion.specs.declared.form.Form.{Form}
use Rattle.kin_motion.specs.declared.form.Form.TheVariants.{Line, Turn, Slope, Dist}
use Rattle.kin_motion.specs.Orders.{leads}
use Rattle.kin_motion.specs.Ranks.{Ranks}

-- the left number of a form
abbrev pub left_number : Form → ℕ
left_number (Line dx dy off i j) = i
left_number (Turn i j k) = i
left_number (Slope i j k l) = i
left_number (Dist i j k l) = i

-- the item of a slot is the point of this number; all facts are in part 0
abbrev pub along : ℕ → ℤ → ℤ → Ranks
along slots dx dy = record {
  slots = slots;
  parts = 1;
  names = λ i. i ∷ [];
  part = λ i j. 0;
  form = λ i j. Line dx dy (pos 0) i j;
  left = λ part f. left_number f;
  leads = leads;
}
