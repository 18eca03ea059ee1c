-- Offers bring a candidate to the first of its octant.
use Rattle.std.proofs.Common.{◌≡◌, refl, sym, ap, ◌∙◌, subst, arith, List, [], ◌∷◌, ℕ, Bool, true, false, Some, None, Option, inl, inr, ◌⊎◌}
use Rattle.std.specs.Prelude.{Contains, cond}
use Rattle.std.proofs.lemmas.Option.{same_Some}
use Rattle.std.proofs.lemmas.Bool.{cases_Bool}
use Rattle.kin_algebra.proofs.Members.{contains_cases}
use Rattle.kin_motion.specs.Octants.{Octant, Reading}
use Rattle.kin_motion.specs.Records.{stands_before}
use Rattle.kin_motion.specs.Sets.{AreDistinct}
use Rattle.kin_wedge.specs.Rows.{row_of, stands_after, is_in_wedge, IsFirst, IsFirstAnswer}
use Rattle.kin_wedge.specs.Touched.{IsAwaited, IsRenewed}
use Rattle.kin_wedge.proofs.Places.{before_through_list}

none_in : {A : Type 0} {B : Type 0} (x : A) → Contains [] x → B
none_in x h = absurd (omega (arith, h.1))

module _ (rows : List (List ℕ)) (apart : (part : ℕ) → AreDistinct (row_of rows part)) where
  -- an order as it is read is transitive
  pub after_through : (r : Reading) (a b c : ℕ) → stands_after rows r a b ≡ true → stands_after rows r b c ≡ true → stands_after rows r a c ≡ true
  after_through r a b c = at r.from_end
    where
      at : (e : Bool) → cond e (stands_before (row_of rows r.part) b a) (stands_before (row_of rows r.part) a b) ≡ true → cond e (stands_before (row_of rows r.part) c b) (stands_before (row_of rows r.part) b c) ≡ true → cond e (stands_before (row_of rows r.part) c a) (stands_before (row_of rows r.part) a c) ≡ true
      at true h k = before_through_list (row_of rows r.part) (apart r.part) c b a k h
      at false h k = before_through_list (row_of rows r.part) (apart r.part) a b c h k

  module _ (o : Octant) (p : ℕ) (ranked : (a b : ℕ) → is_in_wedge rows o p a ≡ true → is_in_wedge rows o p b ≡ true → (a ≡ b) ⊎ ((stands_after rows o.third a b ≡ true) ⊎ (stands_after rows o.third b a ≡ true))) where
    first-exact : (new : Option ℕ) (offers : List (Option ℕ)) → IsFirstAnswer rows o p new → IsAwaited rows o p new offers
    first-exact None offers h = record {
      good = λ c q e. absurd cc;
      lost = λ c e. absurd cc;
      none = λ q e k. absurd (let f : true ≡ false = sym k ∙ h q in cc);
    }
    first-exact (Some d) offers h = record {
      good = λ c q e m k. let same = same_Some d c e in inl (subst (λ (x : ℕ). (q ≡ x) ⊎ (stands_after rows o.third x q ≡ true)) same (h.first q k));
      lost = λ c e m. absurd (let same = same_Some d c e in let f : true ≡ false = sym h.member ∙ ap (is_in_wedge rows o p) same ∙ m in cc);
      none = λ q e. absurd cc;
    }

    -- all offers are taken
    pub awaited_done : (now : Option ℕ) → IsAwaited rows o p now [] → IsFirstAnswer rows o p now
    awaited_done None a = λ q. at q (cases_Bool (is_in_wedge rows o p q))
      where
        at : (q : ℕ) → (is_in_wedge rows o p q ≡ true) ⊎ (is_in_wedge rows o p q ≡ false) → is_in_wedge rows o p q ≡ false
        at q (inl t) = absurd (over (a.none q refl t))
          where
            over : Contains {X = Option ℕ} [] (Some q) ⊎ Contains {X = Option ℕ} [] None → ⊥
            over (inl h) = none_in _ h
            over (inr h) = none_in _ h
        at q (inr f) = f
    awaited_done (Some c) a = at (cases_Bool (is_in_wedge rows o p c))
      where
        at : (is_in_wedge rows o p c ≡ true) ⊎ (is_in_wedge rows o p c ≡ false) → IsFirst rows o p c
        at (inl t) = record { member = t; first = λ q k. over q (a.good c q refl t k) }
          where
            over : (q : ℕ) → ((q ≡ c) ⊎ (stands_after rows o.third c q ≡ true)) ⊎ (Contains {X = Option ℕ} [] (Some q) ⊎ Contains {X = Option ℕ} [] None) → (q ≡ c) ⊎ (stands_after rows o.third c q ≡ true)
            over q (inl h) = h
            over q (inr (inl h)) = none_in _ h
            over q (inr (inr h)) = none_in _ h
        at (inr f) = none_in _ (a.lost c refl f)

    -- one offer is taken
    pub awaited_step : (old new x : Option ℕ) (offers : List (Option ℕ)) → IsAwaited rows o p old (x ∷ offers) → IsRenewed rows o p old x new → IsAwaited rows o p new offers
    awaited_step old new None offers a r = first-exact new offers (r.looked_up refl)
    awaited_step None new (Some n) offers a r = at (cases_Bool (is_in_wedge rows o p n))
      where
        rest : (q : ℕ) → is_in_wedge rows o p q ≡ true → (n ≡ q) ⊎ (Contains offers (Some q) ⊎ Contains offers None)
        rest q k = both (a.none q refl k)
          where
            both : Contains (Some n ∷ offers) (Some q) ⊎ Contains (Some n ∷ offers) None → (n ≡ q) ⊎ (Contains offers (Some q) ⊎ Contains offers None)
            both (inl h) = here (contains_cases _ _ _ h)
              where
                here : (Some n ≡ Some q) ⊎ Contains offers (Some q) → (n ≡ q) ⊎ (Contains offers (Some q) ⊎ Contains offers None)
                here (inl e) = inl (same_Some n q e)
                here (inr h) = inr (inl h)
            both (inr h) = there (contains_cases _ _ _ h)
              where
                there : (Some n ≡ None) ⊎ Contains offers None → (n ≡ q) ⊎ (Contains offers (Some q) ⊎ Contains offers None)
                there (inl e) = absurd cc
                there (inr h) = inr (inr h)

        at : (is_in_wedge rows o p n ≡ true) ⊎ (is_in_wedge rows o p n ≡ false) → IsAwaited rows o p new offers
        at (inl t) = subst (λ (v : Option ℕ). IsAwaited rows o p v offers) (sym (r.taken n refl refl t)) record {
          good = λ c q e m k. good c q (same_Some n c e) (rest q k);
          lost = λ c e m. absurd (let f : true ≡ false = sym t ∙ ap (is_in_wedge rows o p) (same_Some n c e) ∙ m in cc);
          none = λ q e. absurd cc;
        }
          where
            good : (c q : ℕ) → n ≡ c → (n ≡ q) ⊎ (Contains offers (Some q) ⊎ Contains offers None) → ((q ≡ c) ⊎ (stands_after rows o.third c q ≡ true)) ⊎ (Contains offers (Some q) ⊎ Contains offers None)
            good c q e (inl s) = inl (inl (sym s ∙ e))
            good c q e (inr h) = inr h
        at (inr f) = subst (λ (v : Option ℕ). IsAwaited rows o p v offers) (sym (r.still_none n refl refl f)) record {
          good = λ c q e. absurd cc;
          lost = λ c e. absurd cc;
          none = λ q e k. other q k (rest q k);
        }
          where
            other : (q : ℕ) → is_in_wedge rows o p q ≡ true → (n ≡ q) ⊎ (Contains offers (Some q) ⊎ Contains offers None) → Contains offers (Some q) ⊎ Contains offers None
            other q k (inl s) = absurd (let g : true ≡ false = sym k ∙ ap (is_in_wedge rows o p) (sym s) ∙ f in cc)
            other q k (inr h) = h
    awaited_step (Some c) new (Some n) offers a r = by (cases_Bool (is_in_wedge rows o p n)) (cases_Bool (stands_after rows o.third n c))
      where
        -- a look-up that was asked for is still to come
        there : Contains (Some n ∷ offers) None → Contains offers None
        there h = at (contains_cases _ _ _ h)
          where
            at : (Some n ≡ None) ⊎ Contains offers None → Contains offers None
            at (inl e) = absurd cc
            at (inr h) = h

        rest : is_in_wedge rows o p c ≡ true → (q : ℕ) → is_in_wedge rows o p q ≡ true → ((q ≡ c) ⊎ (stands_after rows o.third c q ≡ true)) ⊎ ((n ≡ q) ⊎ (Contains offers (Some q) ⊎ Contains offers None))
        rest m q k = both (a.good c q refl m k)
          where
            here : (Some n ≡ Some q) ⊎ Contains offers (Some q) → (n ≡ q) ⊎ (Contains offers (Some q) ⊎ Contains offers None)
            here (inl e) = inl (same_Some n q e)
            here (inr h) = inr (inl h)

            both : ((q ≡ c) ⊎ (stands_after rows o.third c q ≡ true)) ⊎ (Contains (Some n ∷ offers) (Some q) ⊎ Contains (Some n ∷ offers) None) → ((q ≡ c) ⊎ (stands_after rows o.third c q ≡ true)) ⊎ ((n ≡ q) ⊎ (Contains offers (Some q) ⊎ Contains offers None))
            both (inl h) = inl h
            both (inr (inl h)) = inr (here (contains_cases _ _ _ h))
            both (inr (inr h)) = inr (inr (inr (there h)))

        -- the candidate stays
        stays : new ≡ Some c → ((q : ℕ) → is_in_wedge rows o p c ≡ true → is_in_wedge rows o p q ≡ true → n ≡ q → (q ≡ c) ⊎ (stands_after rows o.third c q ≡ true)) → IsAwaited rows o p new offers
        stays e later = subst (λ (v : Option ℕ). IsAwaited rows o p v offers) (sym e) record {
          good = λ d q f m k.
              let t = ap (is_in_wedge rows o p) (same_Some c d f) ∙ m in
              subst (λ (x : ℕ). ((q ≡ x) ⊎ (stands_after rows o.third x q ≡ true)) ⊎ (Contains offers (Some q) ⊎ Contains offers None)) (same_Some c d f) (good t q k (rest t q k));
          lost = λ d f m. there (a.lost c refl (ap (is_in_wedge rows o p) (same_Some c d f) ∙ m));
          none = λ q f. absurd cc;
        }
          where
            good : is_in_wedge rows o p c ≡ true → (q : ℕ) → is_in_wedge rows o p q ≡ true → ((q ≡ c) ⊎ (stands_after rows o.third c q ≡ true)) ⊎ ((n ≡ q) ⊎ (Contains offers (Some q) ⊎ Contains offers None)) → ((q ≡ c) ⊎ (stands_after rows o.third c q ≡ true)) ⊎ (Contains offers (Some q) ⊎ Contains offers None)
            good t q k (inl h) = inl h
            good t q k (inr (inl s)) = inl (later q t k s)
            good t q k (inr (inr h)) = inr h

        -- the offered number is better
        gives_way : is_in_wedge rows o p n ≡ true → stands_after rows o.third n c ≡ true → new ≡ Some n → IsAwaited rows o p new offers
        gives_way i b e = subst (λ (v : Option ℕ). IsAwaited rows o p v offers) (sym e) record {
          good = λ d q f m k. subst (λ (x : ℕ). ((q ≡ x) ⊎ (stands_after rows o.third x q ≡ true)) ⊎ (Contains offers (Some q) ⊎ Contains offers None)) (same_Some n d f) (was q k (cases_Bool (is_in_wedge rows o p c)));
          lost = λ d f m. absurd (let g : true ≡ false = sym i ∙ ap (is_in_wedge rows o p) (same_Some n d f) ∙ m in cc);
          none = λ q f. absurd cc;
        }
          where
            good : (q : ℕ) → ((q ≡ c) ⊎ (stands_after rows o.third c q ≡ true)) ⊎ ((n ≡ q) ⊎ (Contains offers (Some q) ⊎ Contains offers None)) → ((q ≡ n) ⊎ (stands_after rows o.third n q ≡ true)) ⊎ (Contains offers (Some q) ⊎ Contains offers None)
            good q (inl (inl s)) = inl (inr (ap (stands_after rows o.third n) s ∙ b))
            good q (inl (inr s)) = inl (inr (after_through o.third n c q b s))
            good q (inr (inl s)) = inl (inl (sym s))
            good q (inr (inr h)) = inr h

            was : (q : ℕ) → is_in_wedge rows o p q ≡ true → (is_in_wedge rows o p c ≡ true) ⊎ (is_in_wedge rows o p c ≡ false) → ((q ≡ n) ⊎ (stands_after rows o.third n q ≡ true)) ⊎ (Contains offers (Some q) ⊎ Contains offers None)
            was q k (inl t) = good q (rest t q k)
            was q k (inr f) = inr (inr (there (a.lost c refl f)))

        by : (is_in_wedge rows o p n ≡ true) ⊎ (is_in_wedge rows o p n ≡ false) → (stands_after rows o.third n c ≡ true) ⊎ (stands_after rows o.third n c ≡ false) → IsAwaited rows o p new offers
        by (inr f) w = stays (r.kept c n refl refl (inl f)) (λ q t k s. absurd (let g : true ≡ false = sym k ∙ ap (is_in_wedge rows o p) (sym s) ∙ f in cc))
        by (inl i) (inl b) = gives_way i b (r.better c n refl refl i b)
        by (inl i) (inr w) = stays (r.kept c n refl refl (inr w)) (λ q t k s. subst (λ (x : ℕ). (x ≡ c) ⊎ (stands_after rows o.third c x ≡ true)) s (behind (ranked n c i t)))
          where
            behind : (n ≡ c) ⊎ ((stands_after rows o.third n c ≡ true) ⊎ (stands_after rows o.third c n ≡ true)) → (n ≡ c) ⊎ (stands_after rows o.third c n ≡ true)
            behind (inl s) = inl s
            behind (inr (inl b)) = absurd (let g : true ≡ false = sym b ∙ w in cc)
            behind (inr (inr h)) = inr h
