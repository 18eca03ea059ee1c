-- The buckets of facts.
use Rattle.std.specs.Prelude.{ℕ, ◌+◌, ◌^◌, ◌%◌, Bool, nat_eq, List, [], ◌∷◌}
use lib.Pointwise.{pointwise}
use Rattle.kin_motion.specs.declared.form.Form.{Form}
use Rattle.kin_motion.specs.declared.form.Form.TheVariants.{Line, Turn, Slope, Dist}

-- the first number that a form names, from 2 ^ 30 on for a turn and from 2 ^ 31 on for a slope, and 0 for a comparison of distances
abbrev pub bucket_number : Form → ℕ
bucket_number (Line dx dy off i j) = i
bucket_number (Turn i j k) = (i + 2 ^ 30) % 2 ^ 32
bucket_number (Slope i j k l) = (i + 2 ^ 31) % 2 ^ 32
bucket_number (Dist i j k l) = 0

-- structure, part and that number
abbrev pub bucket_of : ℕ → ℕ → Form → List ℕ
bucket_of structure part form = structure ∷ part ∷ bucket_number form ∷ []

abbrev pub is_bucket : List ℕ → List ℕ → Bool
is_bucket = pointwise nat_eq
