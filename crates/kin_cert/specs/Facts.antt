-- What a table means: the live facts, each with its owner and its failure moment.
use Rattle.std.specs.Prelude.{◌≡◌, ℕ, Bool, List, Option}
use Rattle.std.specs.List.{AllPairs}
use Rattle.kin_num.specs.declared.instant.Moment.{Moment}
use Rattle.kin_motion.specs.declared.form.Form.{Form}
use Rattle.kin_motion.specs.Live.{Certificate}

-- a live fact: whose it is, when it fails first, and whether it was given out and waits to be dropped
pub record LiveFact : Type 0 where
  pub certificate : Certificate
  pub fails : Option Moment
  pub waits : Bool

-- the live facts, and how many failure moments were made
pub record Facts : Type 0 where
  pub live : List LiveFact
  pub made : ℕ

-- the fact has this owner and this form
pub record IsAt (structure part : ℕ) (form : Form) (l : LiveFact) : Type 0 where
  pub structure_is : l.certificate.structure ≡ structure
  pub part_is : l.certificate.placed.part ≡ part
  pub form_is : l.certificate.placed.fact.form ≡ form

-- the two facts have one owner and one form
abbrev pub AreAlike : LiveFact → LiveFact → Type 0
AreAlike k l = IsAt l.certificate.structure l.certificate.placed.part l.certificate.placed.fact.form k

-- no owner has a form twice
abbrev pub NoneAlike : List LiveFact → Type 0
NoneAlike = AllPairs (λ k l. ¬ (AreAlike k l))
