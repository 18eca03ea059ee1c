-- What is done anew where a point turns: the facts stay, and the failure moments of those that name it are made again.
use Rattle.std.specs.Prelude.{◌≡◌, ◌⊎◌, ℕ, ◌+◌, ◌-◌, ◌^◌, min, false, length, count_by, Contains, IsTrue, IsFalse, Bool}
use Rattle.kin_num.specs.declared.instant.Moment.{Moment}
use Rattle.kin_motion.specs.Forms.{names}
use Rattle.kin_motion.specs.Scene.{Scene}
use Rattle.kin_fail.specs.Failures.{IsFirstFailure}
use Rattle.kin_cert.specs.Facts.{LiveFact, Facts}

-- whether the live fact names the number
abbrev pub names_number : ℕ → LiveFact → Bool
names_number number l = names l.certificate.placed.fact.form number

-- the same fact, with its first failure as it is seen now
pub record IsRemade (scene : Moment → Scene) (now : Moment) (old new : LiveFact) : Type 0 where
  pub certificate : new.certificate ≡ old.certificate
  pub fails : IsFirstFailure scene now new.certificate.placed.fact new.fails
  pub waits_not : new.waits ≡ false

-- exactly the facts that name the number are made anew, as many failure moments were made, and all other facts are as they were
pub record HasRemade (number : ℕ) (scene : Moment → Scene) (now : Moment) (old new : Facts) : Type 0 where
  pub kept : (l : LiveFact) → Contains old.live l → IsFalse (names_number number l) → Contains new.live l
  pub remade : (l : LiveFact) → Contains old.live l → IsTrue (names_number number l) → (k : LiveFact) × Contains new.live k × IsRemade scene now l k
  pub only : (k : LiveFact) → Contains new.live k → (Contains old.live k × IsFalse (names_number number k)) ⊎ ((l : LiveFact) × Contains old.live l × IsTrue (names_number number l) × IsRemade scene now l k)
  pub count : length new.live ≡ length old.live
  pub made : new.made ≡ min (old.made + count_by (names_number number) old.live) (2 ^ 64 - 1)
