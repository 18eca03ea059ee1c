-- What an overlay means to its callers.
use Rattle.std.specs.Prelude.{◌≡◌, ◌≢◌, ℕ, ◌+◌, ◌*◌, ◌<◌, ◌≤◌, Bool, false, ◌||◌, List, [], ◌∷◌, ◌++◌, length}
use Rattle.kin_motion.specs.declared.form.Form.{Form}
use Rattle.kin_motion.specs.declared.fact.Placed.{Placed}
use Rattle.kin_motion.specs.Chains.{IsUpperChain}
use Rattle.kin_motion.specs.Contents.{IsSettledMerge}
use Rattle.kin_motion.specs.Deltas.{Change}
use Rattle.kin_motion.specs.Edits.{Edit, all_edited, dropped_by, put_by, AreFitting}
use Rattle.kin_motion.specs.Forms.{names}
use Rattle.kin_motion.specs.Kinetics.{HasChanged}
use Rattle.kin_motion.specs.Scene.{Scene}
use Rattle.kin_overlay.specs.declared.half.Half.{Half}
use Rattle.kin_overlay.specs.declared.half.Half.TheVariants.{A, B}
use Rattle.kin_overlay.specs.declared.stage.Stage.{Stage}
use Rattle.kin_overlay.specs.declared.stage.Stage.TheVariants.{Rest, Told, Broken}
use Rattle.kin_overlay.specs.Diffs.{KeepOrder, ArePutApart}
use Rattle.kin_overlay.specs.Fingers.{AreLive}
use Rattle.kin_overlay.specs.Lists.{AreApart}

-- the part of its facts, both given chains, the live facts, the merged chain as it was settled last, the edits that led to it, unless they were swapped, the numbers that waiting edits drop, those that the waiting edits of each chain put and drop, and the stage
pub record Merge : Type 0 where
  pub part : ℕ
  pub a : List ℕ
  pub b : List ℕ
  pub facts : List Placed
  pub chain : List ℕ
  pub edits : List Edit
  pub gone : List ℕ
  pub put_a : List ℕ
  pub put_b : List ℕ
  pub drop_a : List ℕ
  pub drop_b : List ℕ
  pub stage : Stage

-- whether a form names one of the numbers
abbrev pub names_any : Form → List ℕ → Bool
names_any f [] = false
names_any f (i ∷ is) = names f i || names_any f is

-- whether the fact names a number that a waiting edit drops
abbrev pub names_gone : Merge → Placed → Bool
names_gone m p = names_any p.fact.form m.gone

-- the given chain of a half
abbrev pub told_chain : Half → Merge → List ℕ
told_chain A m = m.a
told_chain B m = m.b

-- after edits of a half are given
abbrev pub told : Half → List Edit → Merge → Merge
told A es m = record m { a = all_edited es m.a; gone = m.gone ++ dropped_by es m.a; put_a = m.put_a ++ put_by es; drop_a = m.drop_a ++ dropped_by es m.a; stage = Told }
told B es m = record m { b = all_edited es m.b; gone = m.gone ++ dropped_by es m.b; put_b = m.put_b ++ put_by es; drop_b = m.drop_b ++ dropped_by es m.b; stage = Told }

-- both given chains are upper chains of live points, and neither is empty
pub record IsReady (m : Merge) (s : Scene) : Type 0 where
  pub whole : m.stage ≢ Broken
  pub a_some : 0 < length m.a
  pub b_some : 0 < length m.b
  pub a_live : AreLive s.live m.a
  pub b_live : AreLive s.live m.b
  pub a_chain : IsUpperChain s m.a m.a
  pub b_chain : IsUpperChain s m.b m.b

-- the waiting edits of a chain put no number that they drop
pub record ArePutsApart (m : Merge) : Type 0 where
  pub a : AreApart m.put_a m.drop_a
  pub b : AreApart m.put_b m.drop_b

-- nothing was put or dropped since it was settled
pub record IsUnedited (m : Merge) : Type 0 where
  pub put_a : m.put_a ≡ []
  pub put_b : m.put_b ≡ []
  pub drop_a : m.drop_a ≡ []
  pub drop_b : m.drop_b ≡ []

-- no edit waits
abbrev pub IsAtRest : Merge → Type 0
IsAtRest m = m.stage ≡ Rest

-- the chain is the upper chain of both given chains together, and the facts are exactly those of their merge
abbrev pub IsSettled : Merge → Scene → Type 0
IsSettled m s = IsSettledMerge s m.a m.b m.chain m.part m.facts

-- both given chains are upper chains
abbrev pub AreChains : Merge → Scene → Type 0
AreChains m s = IsUpperChain s m.a m.a × IsUpperChain s m.b m.b

-- the given chains and the part are the same
pub record IsSameMerge (old new : Merge) : Type 0 where
  pub part : new.part ≡ old.part
  pub a : new.a ≡ old.a
  pub b : new.b ≡ old.b

-- a merge that is settled again: its chain and facts with what has changed of them, what is unchanged, and how many signs are asked
pub record IsRepaired (s : Scene) (old new : Merge) (before after : Change) (asked asked' : ℕ) : Type 0 where
  pub rest : IsAtRest new
  pub settled : IsSettled new s
  pub delta : HasChanged old.facts new.facts before after
  pub lead : all_edited new.edits old.chain ≡ new.chain
  pub fit : AreFitting new.edits old.chain
  pub apart : KeepOrder old.chain new.chain → ArePutApart new.edits old.chain
  pub same : IsSameMerge old new
  pub gone : new.gone ≡ []
  pub unedited : IsUnedited new
  -- at most five for each fact that is born and at most one for each that is dropped, where the waiting edits of a chain put no number that they drop
  pub tests : ArePutsApart old → asked' + (5 * length before.born + length before.dropped) ≤ asked + (5 * length after.born + length after.dropped)
