-- Two live numbers in order, and what is reported of them.
use Rattle.std.proofs.Common.{◌≡◌, ◌⊎◌, inl, inr, refl, sym, ap, ◌∙◌, subst, arith, List, [], ◌∷◌, ℕ, false, IsTrue, ℤ, pos}
use Rattle.std.specs.Prelude.{nat_eq, Contains}
use Rattle.std.proofs.lemmas.Bool.Decides.{nat_tests}
use Rattle.kin_algebra.proofs.Members.{contains_none, contains_cases}
use Rattle.kin_algebra.proofs.Tests.{or_exchanged}
use Rattle.kin_algebra.specs.declared.sign.Sign.{Sign}
use Rattle.kin_motion.specs.declared.form.Form.TheVariants.{Line}
use Rattle.kin_motion.specs.declared.fact.Placed.{Placed}
use Rattle.kin_motion.specs.Numbers.{Lists}
use Rattle.kin_motion.specs.Scene.{Scene}
use Rattle.kin_motion.specs.Orders.{leads, IsOrder}
use Rattle.kin_motion.specs.Deltas.{Change}
use Rattle.kin_motion.specs.Kinetics.{HasChanged}
use Rattle.kin_motion.proofs.ChangeLaws.{both_changed}
use Rattle.kin_rows.specs.declared.pair.Pair.{Pair}
use Rattle.kin_rows.specs.Pairs.{fact_of, pair_facts}

-- the list the other way round
pub swapped : (i j : ℕ) (set : List ℕ) → Lists (i ∷ j ∷ []) set → Lists (j ∷ i ∷ []) set
swapped i j set l = record {
  once = (grind (arith, nat_tests, l.once.0), (refl, tt));
  same = λ n. or_exchanged (nat_eq n j) (nat_eq n i) false ∙ l.same n;
}

-- two numbers of which the first is ahead
pub two_in_order : (s : Scene) (dx dy : ℤ) (i j : ℕ) → Lists (i ∷ j ∷ []) s.live → IsTrue (leads (s.sign (Line dx dy (pos 0) i j)) i j) → IsOrder s dx dy (i ∷ j ∷ [])
two_in_order s dx dy i j members ahead = record { all = members; chain = (ahead, tt) }

-- a sign that was asked for along a direction in other words
pub sign_through : (s : Scene) (dx dy x y : ℤ) (i j : ℕ) (t : Sign) → x ≡ dx → y ≡ dy → t ≡ s.sign (Line x y (pos 0) i j) → t ≡ s.sign (Line dx dy (pos 0) i j)
sign_through s dx dy x y i j t e f h = h ∙ (λ n. s.sign (Line (e n) (f n) (pos 0) i j))

-- a fact along x is none along y
apart : (k l : Pair) (p : Placed)
    → Contains (fact_of (pos 1) (pos 0) 0 k.by_x ∷ []) p ⊎ Contains (fact_of (pos 1) (pos 0) 0 l.by_x ∷ []) p
    → Contains (fact_of (pos 0) (pos 1) 1 k.by_y ∷ []) p ⊎ Contains (fact_of (pos 0) (pos 1) 1 l.by_y ∷ []) p → ⊥
apart k l p a b = let e = x_part a in let f = y_part b in let g : 0 ≡ 1 = sym e ∙ f in omega (arith, g)
  where
    only : (part : ℕ) (q : Placed) → q.part ≡ part → Contains (q ∷ []) p → p.part ≡ part
    only part q e h = at (contains_cases q p [] h)
      where
        at : (q ≡ p) ⊎ Contains [] p → p.part ≡ part
        at (inl f) = sym (ap (λ (x : Placed). x.part) f) ∙ e
        at (inr g) = absurd (contains_none p g)

    x_part : Contains (fact_of (pos 1) (pos 0) 0 k.by_x ∷ []) p ⊎ Contains (fact_of (pos 1) (pos 0) 0 l.by_x ∷ []) p → p.part ≡ 0
    x_part (inl h) = only 0 _ refl h
    x_part (inr h) = only 0 _ refl h

    y_part : Contains (fact_of (pos 0) (pos 1) 1 k.by_y ∷ []) p ⊎ Contains (fact_of (pos 0) (pos 1) 1 l.by_y ∷ []) p → p.part ≡ 1
    y_part (inl h) = only 1 _ refl h
    y_part (inr h) = only 1 _ refl h

-- the reports of both rows are the report of the pair
pub pair_changed : (k l : Pair) (a b p q : Placed) (c d e : Change) → a ≡ fact_of (pos 1) (pos 0) 0 k.by_x → b ≡ fact_of (pos 1) (pos 0) 0 l.by_x → p ≡ fact_of (pos 0) (pos 1) 1 k.by_y → q ≡ fact_of (pos 0) (pos 1) 1 l.by_y
    → HasChanged (a ∷ []) (b ∷ []) c d → HasChanged (p ∷ []) (q ∷ []) d e → HasChanged (pair_facts k) (pair_facts l) c e
pair_changed k l a b p q c d e f g h i x y =
    both_changed (fact_of (pos 1) (pos 0) 0 k.by_x ∷ []) (fact_of (pos 1) (pos 0) 0 l.by_x ∷ []) (fact_of (pos 0) (pos 1) 1 k.by_y ∷ []) (fact_of (pos 0) (pos 1) 1 l.by_y ∷ []) c d e (apart k l)
    (coerced (λ t. HasChanged (f t ∷ []) (g t ∷ []) c d) x) (coerced (λ t. HasChanged (h t ∷ []) (i t ∷ []) d e) y)
  where
    coerced : {A B : Type 0} → A ≡ B → A → B
    coerced {A} {B} e x = subst (λ (T : Type 0). T) e x
