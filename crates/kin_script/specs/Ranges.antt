-- The ranges of what a script holds.
use Rattle.std.specs.Prelude.{◌≡◌, ◌⊎◌, ℕ, ◌<◌, ◌≤◌, ◌^◌, ℤ, pos, ◌≤ℤ◌, unsigned_abs, Bool, true, IsTrue, All, AllPairs}
use Rattle.kin_num.specs.Quadratic.{Quadratic}
use Rattle.kin_num.specs.Instants.{line}
use Rattle.kin_motion.specs.Course.{IsSlow}
use Rattle.kin_motion.specs.Keeps.{may_keep}
use Rattle.kin_script.specs.declared.command.Command.{Command}
use Rattle.kin_script.specs.declared.command.Command.TheVariants.{Insert, Remove, Replace, Turn, Leg, AtRatio, AtRoot, Next}
use Rattle.kin_script.specs.declared.script.Script.{Script}
use Rattle.kin_script.specs.Changes.{IsSlowVelocity, IsChangeInRange}
use Rattle.kin_script.specs.Deeds.{Deed, changes, goes_to, goes_on, asks}
use Rattle.kin_script.specs.Questions.{IsKeepInRange, IsQuestionInRange}

-- the numbers of a fraction as a script writes it, in lowest terms or not
pub record IsRatioInRange (n d : ℤ) : Type 0 where
  pub n_low : pos 0 ≤ℤ n
  pub n_small : unsigned_abs n < 2 ^ 31
  pub d_low : pos 1 ≤ℤ d
  pub d_small : unsigned_abs d < 2 ^ 31

-- the quadratic of a root as a script writes it, with a common divisor or not
pub record IsRootInRange (a b c : ℤ) : Type 0 where
  pub a_small : unsigned_abs a ≤ 2 ^ 29
  pub a_not_zero : 0 < unsigned_abs a
  pub b_small : unsigned_abs b ≤ 2 ^ 31
  pub c_small : unsigned_abs c ≤ 2 ^ 29

-- the numbers of a command, where the points have numbers below 2^size
abbrev pub IsCommandInRange : ℕ → Command → Type 0
IsCommandInRange size (Insert number motion) = (number < 2 ^ size) × IsSlow motion
IsCommandInRange size (Remove number) = number < 2 ^ size
IsCommandInRange size (Replace number motion) = (number < 2 ^ size) × IsSlow motion
IsCommandInRange size (Turn number u v) = (number < 2 ^ size) × IsSlowVelocity u v
IsCommandInRange size (Leg number at u v) = (number < 2 ^ size) × (at < 2 ^ 31) × IsSlowVelocity u v
IsCommandInRange size (AtRatio n d) = IsRatioInRange n d
IsCommandInRange size (AtRoot a b c upper) = IsRootInRange a b c
IsCommandInRange size Next = Unit {0}
IsCommandInRange size question = IsQuestionInRange size question

-- the instant is asked for as a fraction, or as a root of a quadratic
abbrev pub IsAskedFor : Bool → Quadratic → Type 0
IsAskedFor upper p = ((n : ℤ) × (d : ℤ) × IsRatioInRange n d × (p ≡ line n d) × (upper ≡ true)) ⊎ IsRootInRange p.a p.b p.c

-- the numbers of what a command does; a question does nothing
abbrev pub IsDeedInRange : Deed → Type 0
IsDeedInRange (changes number change) = IsChangeInRange change
IsDeedInRange (goes_to upper p) = IsAskedFor upper p
IsDeedInRange goes_on = Unit {0}
IsDeedInRange (asks question) = Unit {0}

-- every number of the script is in its range
pub record IsWithin (s : Script) : Type 0 where
  pub size_low : 1 ≤ s.size
  pub size_high : s.size ≤ 12
  pub keepable : IsTrue (may_keep s.keeps)
  pub keeps : All IsKeepInRange s.keeps
  pub commands : All (λ l. IsCommandInRange s.size l.1) s.lines

-- and the line numbers rise: the first line with words is the size line, and a script has at most 2^20 lines
pub record IsInRange (s : Script) : Type 0 where
  pub within : IsWithin s
  pub low : All (λ l. 2 ≤ l.0) s.lines
  pub high : All (λ l. l.0 ≤ 2 ^ 20) s.lines
  pub rising : AllPairs (λ l k. l.0 < k.0) s.lines
