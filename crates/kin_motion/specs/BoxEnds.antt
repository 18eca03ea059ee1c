-- The ends of boxes as ranked items.
use Rattle.std.specs.Prelude.{ℕ, ◌+◌, ◌*◌, ◌/◌, ℤ, [], ◌∷◌}
use Rattle.kin_motion.specs.BoxFacts.{kind, point, end_form, end_leads}
use Rattle.kin_motion.specs.Directions.{left_number}
use Rattle.kin_motion.specs.Ranks.{Ranks}

-- a low end lies at its point, and a high one `width` farther; along y this is the height of the boxes
abbrev pub ends : ℕ → ℤ → ℤ → ℤ → Ranks
ends count dx dy width = record {
  slots = 2 * count;
  parts = 4;
  names = λ i. point i ∷ [];
  part = λ i j. 2 * kind i + kind j;
  form = end_form dx dy width;
  left = λ part f. 2 * left_number f + part / 2;
  leads = end_leads;
}
