-- A merge of two chains with what it was given.
use Rattle.std.specs.Prelude.{◌≡◌, ◌≢◌, ℕ, ◌<◌, List, [], length}
use Rattle.kin_motion.specs.Chains.{IsUpperChain}
use Rattle.kin_motion.specs.Scene.{Scene}
use Rattle.kin_overlay.specs.declared.half.Half.{Half}
use Rattle.kin_overlay.specs.declared.half.Half.TheVariants.{A, B}
use Rattle.kin_overlay.specs.declared.stage.Stage.TheVariants.{Rest, Broken}
use Rattle.kin_overlay.specs.Fingers.{AreLive, AreLess}
use Rattle.kin_overlay.specs.Overlays.{Merge, told_chain}

-- the list may be given as a chain of a merge
pub record IsTellable (s : Scene) (chain : List ℕ) : Type 0 where
  pub some : 0 < length chain
  pub live : AreLive s.live chain
  pub is_chain : IsUpperChain s chain chain

-- both may be given as the chains of a merge
pub record MayBeTold (s : Scene) (a b : List ℕ) : Type 0 where
  pub of_a : IsTellable s a
  pub of_b : IsTellable s b
  pub less : AreLess a b

-- the numbers of A are less than those of B, where the first list is of this half
abbrev pub AreApart : Half → List ℕ → List ℕ → Type 0
AreApart A own other = AreLess own other
AreApart B own other = AreLess other own

-- the given chain of the other half
abbrev pub other_chain : Half → Merge → List ℕ
other_chain A m = m.b
other_chain B m = m.a

-- a merge after edits of a half that lead to this chain
pub record IsToldOf (half : Half) (old : Merge) (chain : List ℕ) (new : Merge) : Type 0 where
  pub whole : new.stage ≢ Broken
  pub own : told_chain half new ≡ chain
  pub other : other_chain half new ≡ other_chain half old

-- a merge that was told these chains, with the numbers that were dropped
pub record IsTelling (a b gone : List ℕ) (m : Merge) : Type 0 where
  pub whole : m.stage ≢ Broken
  pub a_is : m.a ≡ a
  pub b_is : m.b ≡ b
  pub gone_is : m.gone ≡ gone

-- a merge at rest whose given chains are these
pub record IsRun (a b : List ℕ) (m : Merge) : Type 0 where
  pub rest : m.stage ≡ Rest
  pub a_is : m.a ≡ a
  pub b_is : m.b ≡ b
  pub none_gone : m.gone ≡ []
