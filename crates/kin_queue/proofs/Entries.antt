-- Look-ups in lists of entries.
use Rattle.std.proofs.Common.{◌≡◌, ◌≢◌, ℕ, zero, suc, ◌<◌, Bool, true, false, cond, List, [], ◌∷◌, length, Option, Some, None, refl, sym, ap, ap₂, subst, ◌∙◌, arith, get_or}
use Rattle.std.specs.Ordering.{nat_cmp, eq_by_cmp}
use Rattle.std.specs.FinMap.{find, nat_cmp-IsAntisymmetric}
use Rattle.std.specs.declared.cmp.Ordering.{Ordering}
use Rattle.std.specs.declared.cmp.Ordering.TheVariants.{Less, Equal, Greater}
use Rattle.std.specs.Ordering.{is_eq}
use Rattle.std.proofs.lemmas.Cmp.{nat_cmp_total}
use Rattle.std.specs.Cmp.{tied_itself}

abbrev pub same : ℕ → ℕ → Bool
same q k = eq_by_cmp nat_cmp q k

equal_of : (r : Ordering) → is_eq r ≡ true → r ≡ Equal
equal_of Less e = cc
equal_of Equal e = refl
equal_of Greater e = cc

pub same_is : (q k : ℕ) → same q k ≡ true → q ≡ k
same_is q k e = nat_cmp-IsAntisymmetric q k (equal_of (nat_cmp q k) e)

pub same_itself : (k : ℕ) → same k k ≡ true
same_itself k = ap is_eq (tied_itself nat_cmp_total k)

pub differ : (q k : ℕ) → q ≢ k → same q k ≡ false
differ q k n = elim (same q k) as (λ b. same q k ≡ b → b ≡ false) [ true ↦ λ e. absurd (n (same_is q k e)) | false ↦ λ e. refl ] refl

module _ {X : Type 0} where
  abbrev pub look_up : ℕ → List (ℕ × X) → Option X
  look_up = find nat_cmp

  not_none : (x : X) → Some x ≡ None → ⊥
  not_none x e = cc

  -- a key that is not found differs from the first
  pub first_differs : (k : ℕ) (e : ℕ × X) (es : List (ℕ × X)) → look_up k (e ∷ es) ≡ None → (k ≢ e.0) × (look_up k es ≡ None)
  first_differs k e es h =
      elim (same k e.0) as (λ b. same k e.0 ≡ b → cond b (Some e.1) (look_up k es) ≡ None → (k ≢ e.0) × (look_up k es ≡ None)) [
        | true ↦ λ t h. absurd (not_none e.1 h)
        | false ↦ λ t h. ((λ s. let both : true ≡ false = sym (subst (λ x. same k x ≡ true) s (same_itself k)) ∙ t in absurd (cc)), h)
      ] refl h

  -- where an entry that is found stands
  pub look_up-place : (es : List (ℕ × X)) (q : ℕ) (v : X) → look_up q es ≡ Some v → (i : ℕ) × (i < length es) × ((d : ℕ × X) → get_or es i d ≡ (q, v))
  look_up-place [] q v h = absurd (not_none v (sym h))
  look_up-place (e ∷ es) q v h =
      elim (same q e.0) as (λ c. same q e.0 ≡ c → cond c (Some e.1) (look_up q es) ≡ Some v → (i : ℕ) × (i < suc (length es)) × ((d : ℕ × X) → get_or (e ∷ es) i d ≡ (q, v))) [
        | true ↦ λ t h. (0, omega arith, λ d. let s = same_is q e.0 t in let w : e.1 ≡ v = cc in ap₂ (λ (x : ℕ) (y : X). (x, y)) (sym s) w)
        | false ↦ λ t h. let r = look_up-place es q v h in (suc r.0, omega (arith, r.1), r.2)
      ] refl h

  pub look_up-absent : (es : List (ℕ × X)) (q : ℕ) (d : ℕ × X) → ((i : ℕ) → i < length es → (get_or es i d).0 ≢ q) → look_up q es ≡ None
  look_up-absent [] q d h = refl
  look_up-absent (e ∷ es) q d h =
      ap (λ (c : Bool). cond c (Some e.1) (look_up q es)) (differ q e.0 (λ s. h 0 (omega arith) (sym s)))
      ∙ look_up-absent es q d (λ i lt. h (suc i) (omega (arith, lt)))

  pub look_up-missed : (es : List (ℕ × X)) (q : ℕ) → look_up q es ≡ None → (i : ℕ) (d : ℕ × X) → i < length es → (get_or es i d).0 ≢ q
  look_up-missed [] q h i d lt = absurd (omega (arith, lt))
  look_up-missed (e ∷ es) q h zero d lt = λ s. (first_differs q e es h).0 (sym s)
  look_up-missed (e ∷ es) q h (suc i) d lt = look_up-missed es q (first_differs q e es h).1 i d (omega (arith, lt))

  -- a place within has no need of a default
  pub defaults : (xs : List (ℕ × X)) (i : ℕ) (d e : ℕ × X) → i < length xs → get_or xs i d ≡ get_or xs i e
  defaults [] i d e lt = absurd (omega (arith, lt))
  defaults (x ∷ xs) zero d e lt = refl
  defaults (x ∷ xs) (suc i) d e lt = defaults xs i d e (omega (arith, lt))
