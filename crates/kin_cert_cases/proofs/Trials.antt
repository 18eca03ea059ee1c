-- A small table whose facts are listed beside it.
use Rattle.std.proofs.Common.{◌≡◌, ℕ, List, [], ◌∷◌, ◌++◌, sym, ap, subst, ◌∙◌, inl, inr, arith}
use Rattle.std.specs.List.{Contains, All}
use Rattle.std.proofs.lemmas.List.Elements.{All-contains, Contains-push, Contains-append_left}
use Rattle.kin_algebra.proofs.Members.{contains_none, contains_cases}
use Rattle.kin_num.specs.declared.instant.Moment.{Moment}
use Rattle.kin_motion.specs.declared.fact.Placed.{Placed}
use Rattle.kin_motion.specs.Deltas.{Change}
use Rattle.kin_motion.specs.Live.{Certificate}
use Rattle.kin_motion.specs.Scene.{Scene}
use Rattle.kin_motion.proofs.SetLaws.{distinct_none}
use Rattle.kin_cert.specs.Facts.{LiveFact, Facts}
use Rattle.kin_cert.specs.Applied.{IsOf, MayApply, HasApplied}
use Rattle.kin_cert.specs.Remade.{HasRemade}
use Rattle.kin_cert_cases.specs.Listed.{AreListed}

-- the change that bears one fact alone
abbrev pub bearing : Placed → Change
bearing p = record { dropped = []; born = p ∷ [] }

only_one : (p q : Placed) → Contains (p ∷ []) q → p ≡ q
only_one p q there = elim (contains_cases p q [] there) [
  | inl e ↦ e
  | inr n ↦ absurd (contains_none q n)
]

pub may_bear : (live : List LiveFact) (p : Placed) (change : Change) → change ≡ bearing p → ((l : LiveFact) → Contains live l → ¬ (IsOf 0 p l)) → MayApply 0 change live
may_bear live p change is free = subst (λ (x : Change). MayApply 0 x live) (sym is) (record {
  dropped_live = λ i d lt. absurd (omega (arith, lt));
  dropped_once = distinct_none;
  born_free = λ l there (q, q_there, of). absurd (free l there (subst (λ (x : Placed). IsOf 0 x l) (sym (only_one p q q_there)) of));
  born_once = λ i j d lt within. absurd (omega (arith, lt, within));
})

pub still_listed : (old new : List LiveFact) (facts : List Placed) (p : Placed) (change : Change) (scene : Moment → Scene) (now : Moment) → change ≡ bearing p → AreListed old facts → HasApplied 0 change scene now old new → AreListed new (facts ++ p ∷ [])
still_listed old new facts p change scene now is listed did l there = elim (did.only l there) [
  | inl (was, kept) ↦ ((listed l was).0, Contains-append_left facts (p ∷ []) l.certificate.placed (listed l was).1)
  | inr (q, q_there, born) ↦
      let q_is : p ≡ q = only_one p q (subst (λ (x : Change). Contains x.born q) is q_there) in
      let placed_is : p ≡ l.certificate.placed = q_is ∙ sym (ap (λ (x : Certificate). x.placed) born.is) in
      (born.waits_not, subst (λ (x : Placed). Contains (facts ++ p ∷ []) x) placed_is (Contains-push facts p))
]

pub listed_anew : (number : ℕ) (scene : Moment → Scene) (now : Moment) (old new : Facts) (facts : List Placed) → AreListed old.live facts → HasRemade number scene now old new → AreListed new.live facts
listed_anew number scene now old new facts listed did l there = elim (did.only l there) [
  | inl (was, names_not) ↦ listed l was
  | inr (k, was, names, anew) ↦ (anew.waits_not, subst (λ (c : Certificate). Contains facts c.placed) (sym anew.certificate) (listed k was).1)
]

-- what holds of all that are listed holds of each live fact
pub listed_so : (P : Placed → Type 0) (live : List LiveFact) (facts seen : List Placed) → seen ≡ facts → AreListed live facts → All P seen → (l : LiveFact) → Contains live l → P l.certificate.placed
listed_so P live facts seen is listed all l there = All-contains P facts l.certificate.placed (subst (λ (ps : List Placed). All P ps) is all) (listed l there).1
