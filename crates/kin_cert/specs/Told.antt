-- What the table of live facts has of each structure, and what it takes over from one.
use Rattle.std.specs.Prelude.{◌≡◌, ◌≢◌, ℕ, false, List, [], map, Contains, ◌↔◌, ◌⊎◌}
use Rattle.std.specs.List.{All}
use Rattle.kin_num.specs.declared.instant.Moment.{Moment}
use Rattle.kin_motion.specs.declared.fact.Placed.{Placed}
use Rattle.kin_motion.specs.Deltas.{Change}
use Rattle.kin_motion.specs.Forms.{IsAskable}
use Rattle.kin_motion.specs.Kinetics.{AllHold, HasChanged}
use Rattle.kin_motion.specs.Live.{Certificate, owned_by}
use Rattle.kin_motion.specs.Scene.{Scene}
use Rattle.kin_motion.specs.Sets.{ListsExactly}
use Rattle.kin_cert.specs.Facts.{LiveFact, NoneAlike}
use Rattle.kin_fail.specs.Failures.{IsFirstFailure}

-- the certificates of the live facts
abbrev pub certificates_of : List LiveFact → List Certificate
certificates_of live = map (λ l. l.certificate) live

-- nothing dropped and nothing born
abbrev pub nothing : Change
nothing = record { dropped = []; born = [] }

-- the table has exactly these facts of the structure of this number
abbrev pub HasFactsOf : List LiveFact → ℕ → List Placed → Type 0
HasFactsOf live k facts = (p : Placed) → Contains facts p ↔ ((l : LiveFact) × Contains live l × (l.certificate ≡ owned_by k p))

-- the fact doesn't wait, and its failure moment is the first, seen from now
pub record IsTimed (scene : Moment → Scene) (now : Moment) (l : LiveFact) : Type 0 where
  pub waits_not : l.waits ≡ false
  pub fails : IsFirstFailure scene now l.certificate.placed.fact l.fails

-- the table has a structure's facts, and the change leads from them to facts that hold and may be asked for
pub record MayTell (k : ℕ) (change : Change) (s : Scene) (live : List LiveFact) : Type 0 where
  pub before : List Placed
  pub after : List Placed
  pub once : NoneAlike live
  pub tabled : HasFactsOf live k before
  pub changed : HasChanged before after nothing change
  pub hold : AllHold s after
  pub askable : All (λ p. IsAskable s.live p.fact.form) after

-- exactly these certificates are new, each once
abbrev pub AreNew : List LiveFact → List LiveFact → List Certificate → Type 0
AreNew old new born = ListsExactly born (λ c. Contains (certificates_of new) c × ¬ (Contains (certificates_of old) c))

-- the table has taken the change of one structure over, and has all others' facts as before
pub record IsTold (k : ℕ) (change : Change) (scene : Moment → Scene) (now : Moment) (old new : List LiveFact) : Type 0 where
  pub once : NoneAlike new
  pub facts : (before after : List Placed) → HasFactsOf old k before → HasChanged before after nothing change → HasFactsOf new k after
  pub others : (l : LiveFact) → l.certificate.structure ≢ k → Contains old l ↔ Contains new l
  pub own : (l : LiveFact) → Contains new l → l.certificate.structure ≡ k → Contains old l ⊎ IsTimed scene now l
  pub born : AreNew old new (map (owned_by k) change.born)
