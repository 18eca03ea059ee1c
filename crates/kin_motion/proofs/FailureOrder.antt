-- The computed failures are in the journal's order.
use Rattle.std.proofs.Common.{◌≡◌, ◌≢◌, ◌⊎◌, inl, inr, refl, sym, ap, ◌∙◌, arith, List, [], ◌∷◌, Bool, true, false, ℤ, map}
use Rattle.std.specs.Prelude.{Contains, int_lt, int_le, filter}
use Rattle.std.proofs.lemmas.Int.{ints}
use Rattle.kin_num.specs.declared.instant.Moment.{Moment}
use Rattle.kin_motion.specs.declared.form.Form.{Form}
use Rattle.kin_motion.specs.declared.form.Form.TheVariants.{Line, Turn, Slope, Dist}
use Rattle.kin_motion.specs.Numbers.{IsChain}
use Rattle.kin_motion.specs.Scene.{IsReal}
use Rattle.kin_motion.specs.Live.{Certificate, live_facts}
use Rattle.kin_motion.specs.Journal.{Setting, Failure, IsFailure, failures_at, seen_in, has_failed, is_less_rank, form_rank, rank_of, is_listed_before}
use Rattle.kin_motion.specs.Agreements.{FitsSize}
use Rattle.kin_motion.proofs.SetLaws.{distinct_filter, distinct_mapped}
use Rattle.kin_motion.proofs.JournalLaws.{by_first, by_rest}
use Rattle.kin_motion.proofs.LiveFactLaws.{live_facts_agree, failures_agree}
use Rattle.kin_motion.proofs.Sorting.{sorted-has, sorted-in_order}
use Rattle.kin_motion.proofs.LiveFactsHold.{live_fact_holds}

-- ---- ranks
-- the same numbers as far as both go
Agree : List ℤ → List ℤ → Type 0
Agree [] ys = Unit {0}
Agree (x ∷ xs) [] = Unit {0}
Agree (x ∷ xs) (y ∷ ys) = (x ≡ y) × Agree xs ys

at_most : (x y : ℤ) → int_lt y x ≡ false → (b : Bool) → int_le x y ≡ b → b ≡ true
at_most x y e true f = refl
at_most x y e false f = absurd (omega (arith, ints, e, f))

-- of two ranks that do not agree one is less
ranks_compared : (xs ys : List ℤ) → (is_less_rank xs ys ≡ true) ⊎ ((is_less_rank ys xs ≡ true) ⊎ Agree xs ys)
unfolding Agree
ranks_compared [] ys = inr (inr tt)
ranks_compared (x ∷ xs) [] = inr (inr tt)
ranks_compared (x ∷ xs) (y ∷ ys) = at (int_lt x y) refl (int_lt y x) refl (ranks_compared xs ys)
  where
    at : (a : Bool) → int_lt x y ≡ a → (b : Bool) → int_lt y x ≡ b → (is_less_rank xs ys ≡ true) ⊎ ((is_less_rank ys xs ≡ true) ⊎ Agree xs ys)
        → (is_less_rank (x ∷ xs) (y ∷ ys) ≡ true) ⊎ ((is_less_rank (y ∷ ys) (x ∷ xs) ≡ true) ⊎ Agree (x ∷ xs) (y ∷ ys))
    at true e b f rest = inl (by_first (int_lt x y) (int_le x y) (is_less_rank xs ys) e)
    at false e true f rest = inr (inl (by_first (int_lt y x) (int_le y x) (is_less_rank ys xs) f))
    at false e false f (inl less) = inl (by_rest (int_lt x y) (int_le x y) (is_less_rank xs ys) (at_most x y f _ refl) less)
    at false e false f (inr (inl more)) = inr (inl (by_rest (int_lt y x) (int_le y x) (is_less_rank ys xs) (at_most y x e _ refl) more))
    at false e false f (inr (inr same)) = inr (inr (omega (arith, ints, e, f), same))

-- the rank names the form
form_named : (f g : Form) → Agree (form_rank f) (form_rank g) → f ≡ g
unfolding Agree
form_named (Line dx dy off i j) (Line dx' dy' off' i' j') a = cc
form_named (Turn i j k) (Turn i' j' k') a = cc
form_named (Slope i j k l) (Slope i' j' k' l') a = cc
form_named (Dist i j k l) (Dist i' j' k' l') a = cc
form_named (Line dx dy off i j) (Turn i' j' k') a = absurd (omega (arith, ints, a.0))
form_named (Line dx dy off i j) (Slope i' j' k' l') a = absurd (omega (arith, ints, a.0))
form_named (Line dx dy off i j) (Dist i' j' k' l') a = absurd (omega (arith, ints, a.0))
form_named (Turn i j k) (Line dx dy off i' j') a = absurd (omega (arith, ints, a.0))
form_named (Turn i j k) (Slope i' j' k' l') a = absurd (omega (arith, ints, a.0))
form_named (Turn i j k) (Dist i' j' k' l') a = absurd (omega (arith, ints, a.0))
form_named (Slope i j k l) (Line dx dy off i' j') a = absurd (omega (arith, ints, a.0))
form_named (Slope i j k l) (Turn i' j' k') a = absurd (omega (arith, ints, a.0))
form_named (Slope i j k l) (Dist i' j' k' l') a = absurd (omega (arith, ints, a.0))
form_named (Dist i j k l) (Line dx dy off i' j') a = absurd (omega (arith, ints, a.0))
form_named (Dist i j k l) (Turn i' j' k') a = absurd (omega (arith, ints, a.0))
form_named (Dist i j k l) (Slope i' j' k' l') a = absurd (omega (arith, ints, a.0))

-- ---- failures
module _ (t : Setting) (now m : Moment) where
  -- two failures whose ranks agree are the same
  failure_named : (f g : Failure) → IsFailure t now m f → IsFailure t now m g → Agree (rank_of f) (rank_of g) → f ≡ g
  unfolding Agree
  failure_named f g v w a =
      let structure : f.was.structure ≡ g.was.structure = cc in
      let part : f.was.placed.part ≡ g.was.placed.part = cc in
      let form : f.was.placed.fact.form ≡ g.was.placed.fact.form = form_named _ _ a.1.1 in
      let sign : f.was.placed.fact.sign ≡ g.was.placed.fact.sign = sym (live_fact_holds _ _ _ _ v.live) ∙ ap (t.scene now).sign form ∙ live_fact_holds _ _ _ _ w.live in
      let now_sign : f.now ≡ g.now = v.sign ∙ ap (t.scene m).sign form ∙ sym w.sign in
      λ i. record { was = record { structure = structure i; placed = record { part = part i; fact = record { form = form i; sign = sign i } } }; now = now_sign i }

  listed_in_turn : (f g : Failure) → IsFailure t now m f → IsFailure t now m g → f ≢ g → is_listed_before f g ≡ false → is_listed_before g f ≡ true
  listed_in_turn f g v w n e = at (ranks_compared (rank_of f) (rank_of g))
    where
      at : (is_listed_before f g ≡ true) ⊎ ((is_listed_before g f ≡ true) ⊎ Agree (rank_of f) (rank_of g)) → is_listed_before g f ≡ true
      at (inl less) = absurd (let clash : false ≡ true = sym e ∙ less in cc)
      at (inr (inl more)) = more
      at (inr (inr same)) = absurd (n (failure_named f g v w same))

  pub failures_in_order : IsReal (t.scene now) → FitsSize t.size (t.scene now) → IsChain is_listed_before (failures_at t now m)
  failures_in_order real fits =
      sorted-in_order is_listed_before failing
      (distinct_filter has_failed seen (distinct_mapped (seen_in (t.scene m)) live (λ c d e. ap (λ (f : Failure). f.was) e) (live_facts_agree t.size t.keeps (t.scene now) real fits).once))
      (λ f g h k. listed_in_turn f g (is_failure f h) (is_failure g k))
    where
      live : List Certificate
      live = live_facts t.size t.keeps (t.scene now)

      seen : List Failure
      seen = map (seen_in (t.scene m)) live

      failing : List Failure
      failing = filter has_failed seen

      is_failure : (f : Failure) → Contains failing f → IsFailure t now m f
      is_failure f h = (failures_agree t now m real fits f).0 ((sorted-has is_listed_before failing f).1 h)
