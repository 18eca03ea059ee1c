-- The pieces of the printed text.
use Rattle.std.specs.Prelude.{◌≡◌, ℕ, ℤ, Bool, true, false, ◌==◌, List, [], ◌∷◌, ◌++◌, codes, unsigned_abs, if◌then◌else◌}
use Rattle.std.specs.Fmt.{decimal, signed_decimal}
use Rattle.std.specs.List.{join_by}
use Rattle.kin_num.specs.declared.instant.Shape.{Shape}
use Rattle.kin_num.specs.declared.instant.Shape.TheVariants.{Ratio, Root}
use Rattle.kin_num.specs.declared.instant.Phase.{Phase}
use Rattle.kin_num.specs.declared.instant.Phase.TheVariants.{At, After}
use Rattle.kin_num.specs.declared.instant.Moment.{Moment}
use Rattle.kin_num.specs.Canonical.{IsCanonical}
use Rattle.kin_script.specs.declared.refusal.Refusal.{Refusal}
use Rattle.kin_script.specs.declared.refusal.Refusal.TheVariants.{NotKept, Taken, Absent, NoRoot, Past, Planned, NotWhole, OutOfBounds}

-- the name of a refusal
abbrev pub name_of : Refusal → List ℕ
name_of NotKept = codes "NotKept"
name_of Taken = codes "Taken"
name_of Absent = codes "Absent"
name_of NoRoot = codes "NoRoot"
name_of Past = codes "Past"
name_of Planned = codes "Planned"
name_of NotWhole = codes "NotWhole"
name_of OutOfBounds = codes "OutOfBounds"

-- a fraction, as 7/3, or as 5 for 5/1
abbrev pub ratio_text : ℤ → ℤ → List ℕ
ratio_text n d = if unsigned_abs d == 1 then signed_decimal n else signed_decimal n ++ codes "/" ++ signed_decimal d

-- the greater root, or the lesser one
abbrev pub side_text : Bool → List ℕ
side_text true = codes "hi"
side_text false = codes "lo"

-- a root of a quadratic, as r(1,0,-2,hi)
abbrev pub root_text : ℤ → ℤ → ℤ → Bool → List ℕ
root_text a b c upper = codes "r(" ++ signed_decimal a ++ codes "," ++ signed_decimal b ++ codes "," ++ signed_decimal c ++ codes "," ++ side_text upper ++ codes ")"

abbrev pub instant_text : Shape → List ℕ
instant_text (Ratio n d) = ratio_text n d
instant_text (Root a b c upper) = root_text a b c upper

abbrev pub phase_text : Phase → List ℕ
phase_text At = []
phase_text After = codes "+"

-- an instant, with a + for just after
abbrev pub moment_text : Moment → List ℕ
moment_text m = instant_text m.at ++ phase_text m.phase

-- canonical instants with the same printed text are the same
abbrev pub TextsTellInstants : Type 0
TextsTellInstants = (v w : Shape) → IsCanonical v → IsCanonical w → instant_text v ≡ instant_text w → v ≡ w

-- canonical moments with the same printed text are the same
abbrev pub TextsTellMoments : Type 0
TextsTellMoments = (m n : Moment) → IsCanonical m.at → IsCanonical n.at → moment_text m ≡ moment_text n → m ≡ n

-- numbers separated by one space, or the word none, as a line
abbrev pub list_line : List ℕ → List ℕ
list_line [] = codes "none\n"
list_line (x ∷ xs) = join_by decimal (codes " ") (x ∷ xs) ++ codes "\n"

-- a prefix of the text was appended to what was there
pub record PutsFront (before now text : List ℕ) : Type 0 where
  pub front : List ℕ
  pub rest : List ℕ
  pub cut : text ≡ front ++ rest
  pub put : now ≡ before ++ front
