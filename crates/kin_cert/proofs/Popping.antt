-- What a schedule has after its queue was asked for an entry at a moment.
use Rattle.std.proofs.Common.{◌≡◌, ◌≢◌, ◌⊎◌, inl, inr, ℕ, List, [], Option, Some, None, IsSome, refl, sym, ap, subst, ◌∙◌}
use Rattle.std.specs.Prelude.{IfSome, IfNone}
use Rattle.std.specs.FinMap.{get, remove, get-empty}
use Rattle.std.specs.Ordering.{nat_cmp}
use Rattle.std.proofs.lemmas.Option.{none-some}
use Rattle.kin_num.specs.declared.instant.Moment.{Moment}
use Rattle.kin_num.specs.Canonical.{IsCanonical}
use Rattle.kin_num.specs.Order.{IsEarlier}
use Rattle.kin_num.proofs.MomentOrder.{earlier_total}
use Rattle.kin_queue.specs.Agenda.{IsNext}
use Rattle.kin_cert.specs.Schedules.{with_each, AreBeside}
use Rattle.kin_cert.proofs.Schedules.{Moments, Has, has_each, only_mapped, unmapped_beside, unmapped_is}

-- what follows of an answer, or where there is none
pub of_some : {P Q R : ℕ → Type 0} (r : Option ℕ) → ((id : ℕ) → P id → Q id → R id) → IfSome r P → IfSome r Q → IfSome r R
of_some (Some id) f p q = f id p q
of_some None f p q = tt

pub of_none : {P Q : Type 0} (r : Option ℕ) → (P → Q) → IfNone r P → IfNone r Q
of_none (Some id) f p = tt
of_none None f p = f p

pub of_either : {P Q : ℕ → Type 0} {R S : Type 0} (r : Option ℕ) → ((id : ℕ) → P id → Q id → S) → (R → S) → IfSome r P → IfSome r Q → IfNone r R → S
of_either (Some id) f g p q n = f id p q
of_either None f g p q n = g n

module _ (m : Moments) (at : Moment) (ids : List ℕ) (h : AreBeside m ids) (next : Option (ℕ × Moment)) (least : IsNext m next) (now : Moment) where
  -- the next entry is there
  next_there : (id : ℕ) → next ≡ Some (id, now) → get m id ≡ Some now
  next_there id e = (let first : IsNext m (Some (id, now)) = subst (IsNext m) e least in first.there)

  pub popped_there : (id : ℕ) → next ≡ Some (id, now) → get (with_each m at ids) id ≡ Some now
  popped_there id e = (has_each m at ids h id now).1 (inr (next_there id e))

  some_there : (id : ℕ) → next ≡ Some (id, now) → IsSome (get m id)
  some_there id e = subst (λ (o : Option Moment). IsSome o) (sym (next_there id e)) refl

  pub popped_rest : (n : Moments) (id : ℕ) → next ≡ Some (id, now) → n ≡ remove m id → with_each n at ids ≡ remove (with_each m at ids) id
  popped_rest n id e f = ap (λ (x : Moments). with_each x at ids) f ∙ unmapped_is m at ids h id (some_there id e)

  pub still_beside : (n : Moments) (id : ℕ) → next ≡ Some (id, now) → n ≡ remove m id → AreBeside n ids
  still_beside n id e f = subst (λ (x : Moments). AreBeside x ids) (sym f) (unmapped_beside m at ids h id (some_there id e))

  -- no id has the moment, where the next entry hasn't, and no entry is earlier
  module _ (canonical : IsCanonical now.at) (other : (ids ≡ []) ⊎ (at ≢ now)) (first : (id : ℕ) (n : Moment) → Has (with_each m at ids) id n → ¬ (IsEarlier n now)) (not_next : (id : ℕ) → next ≢ Some (id, now)) where
    pub none_at : (id : ℕ) → ¬ (Has (with_each m at ids) id now)
    none_at id k = here next refl
      where
        mapped : Has m id now
        mapped = only_mapped m at ids h now other id k

        here : (o : Option (ℕ × Moment)) → next ≡ o → ⊥
        here None e =
            let empty : IsNext m None = subst (IsNext m) e least in
            none-some now (sym (ap (λ (x : Moments). get x id) empty ∙ get-empty nat_cmp id) ∙ mapped)
        here (Some entry) e =
            let front : IsNext m (Some entry) = subst (IsNext m) e least in
            elim (earlier_total entry.1 now (h.canonical entry.0 entry.1 front.there).form canonical.form) [
              | inl l ↦ first entry.0 entry.1 ((has_each m at ids h entry.0 entry.1).1 (inr front.there)) l
              | inr rest ↦ elim rest [
                | inl l ↦ front.least id now mapped l
                | inr s ↦ not_next entry.0 (e ∙ ap (λ (x : Moment). Some (entry.0, x)) s)
              ]
            ]
