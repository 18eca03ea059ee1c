-- The first leg begins, and then all others of that moment.
use Rattle.std.specs.Prelude.{count_by, option_to_list, ◌*◌}
use Rattle.kin_world.proofs.Vocabulary.{◌≡◌, refl, sym, ap, ◌∙◌, subst, arith, ℕ, ◌+◌, List, [], ◌∷◌, ◌++◌, length, Option, Some, None, Contains, Leg, begins_at, Flight, HasCrossed, HasTakenUp, Planning, Stage}
use Rattle.kin_algebra.proofs.Members.{contains_tail}
use Rattle.kin_cert.specs.Cost.{TakesAtMost}
use Rattle.kin_cert.specs.Remade.{names_number}
use Rattle.kin_world.proofs.CrossingLaws.{begins_first}

same_rest : (k l : Leg) (ks ls : List Leg) → k ∷ ks ≡ l ∷ ls → ks ≡ ls
same_rest k l ks ls e = cc

pub same_first : (legs : List Leg) (k l : Leg) (ks ls : List Leg) → legs ≡ k ∷ ks → legs ≡ l ∷ ls → k ≡ l
same_first legs k l ks ls first also = heads k l ks ls (sym first ∙ also)
  where
    heads : (k l : Leg) (ks ls : List Leg) → k ∷ ks ≡ l ∷ ls → k ≡ l
    heads k l ks ls e = cc

pub no_legs : {legs : List Leg} (l : Leg) (ls : List Leg) → legs ≡ [] → legs ≡ l ∷ ls → ⊥
no_legs {legs} l ls none first = let clash : [] ≡ l ∷ ls = sym none ∙ first in cc

-- what is left where the first leg is taken away
pub first_taken : (old new : List Leg) (r : Option Leg) (l : Leg) (rest : List Leg) → old ≡ l ∷ rest → old ≡ option_to_list r ++ new → (r ≡ None → old ≡ []) → new ≡ rest
first_taken old new None l rest first taken none = let clash : [] ≡ l ∷ rest = sym (none refl) ∙ first in absurd cc
first_taken old new (Some k) l rest first taken none = same_rest k l new rest (sym taken ∙ first)

pub one_less : {old new rest : List Leg} (l : Leg) → old ≡ l ∷ rest → new ≡ rest → length old ≡ length new + 1
one_less {old} {new} {rest} l first left = let all = ap length first in let fewer = ap length left in omega (arith, all, fewer)

pub in_rest : {old new rest : List Leg} (l : Leg) → old ≡ l ∷ rest → new ≡ rest → (k : Leg) → Contains new k → Contains old k
in_rest {old} {new} {rest} l first left k there = subst (λ (ls : List Leg). Contains ls k) (sym first) (contains_tail l k rest (subst (λ (ls : List Leg). Contains ls k) left there))

-- it has begun
pub begun : {more : ℕ} {start now : Flight} → HasCrossed more start now → (l : Leg) (rest : List Leg) → now.plan.legs ≡ l ∷ rest → now.stage.moment ≡ begins_at l → {plan : Planning} → plan.size ≡ now.plan.size → plan.legs ≡ rest
    → {t : Stage} → HasTakenUp l.no l.m now.stage t → (steps : ℕ) → TakesAtMost (length now.stage.table.live) (λ r. count_by (names_number l.no) now.stage.table.live * (2 * r + 1)) now.steps steps
    → HasCrossed more start (record { stage = t; plan = plan; steps = steps })
begun {more} {start} {now} crossed l rest first begins {plan} size left {t} taken steps takes =
    let plan_is : record { size = now.plan.size; legs = rest } ≡ plan = λ i. record { size = sym size i; legs = sym left i } in
    subst (λ (p : Planning). HasCrossed more start (record { stage = t; plan = p; steps = steps })) plan_is
    (subst (λ (s : Stage). HasCrossed more start (record { stage = s; plan = record { size = now.plan.size; legs = rest }; steps = steps })) (sym taken.state)
    (begins_first crossed l rest first begins t.table (subst (HasTakenUp l.no l.m now.stage) taken.state taken) steps takes))
