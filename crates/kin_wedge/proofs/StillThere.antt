-- What the exchanges, the number that enters and the one that leaves can have changed is offered.
use Rattle.std.proofs.Common.{◌≡◌, refl, sym, ap, ap₂, ◌∙◌, subst, List, ℕ, true, false, ◌&&◌, Some, None, Option, inl, inr, ◌⊎◌}
use Rattle.std.specs.Prelude.{Contains}
use Rattle.std.proofs.lemmas.Option.{same_Some}
use Rattle.std.proofs.lemmas.Bool.{cases_Bool, and_parts, both_ways}
use Rattle.kin_motion.specs.Octants.{Octant, Reading}
use Rattle.kin_wedge.specs.Rows.{stands_after, is_in_wedge, IsFirstAnswer}
use Rattle.kin_wedge.specs.Touched.{IsAwaited, IsBoundedAs, HasPassedBy}

-- in the course of a settle a number stays, enters or leaves; an order of two that stay is kept, or they were exchanged in it
pub record HasPassed (old new : List (List ℕ)) : Type 1 where
  pub Stays : ℕ → Type 0
  pub Enters : ℕ → Type 0
  pub Leaves : ℕ → Type 0
  pub Exchanged : ℕ → ℕ → ℕ → Type 0
  pub kind : (a : ℕ) → Stays a ⊎ (Enters a ⊎ Leaves a)
  pub kept : (r : Reading) (a b : ℕ) → Stays a → Stays b → (stands_after new r a b ≡ stands_after old r a b) ⊎ Exchanged r.part a b
  pub new_first : (r : Reading) (a b : ℕ) → Enters a → stands_after old r a b ≡ true → ⊥
  pub new_second : (r : Reading) (a b : ℕ) → Enters b → stands_after old r a b ≡ true → ⊥
  pub gone_first : (r : Reading) (a b : ℕ) → Leaves a → stands_after new r a b ≡ true → ⊥
  pub gone_second : (r : Reading) (a b : ℕ) → Leaves b → stands_after new r a b ≡ true → ⊥

-- what is offered to the slot of p that had this candidate
pub record AreOffered (old new : List (List ℕ)) (passed : HasPassed old new) (o : Octant) (p : ℕ) (now : Option ℕ) (offers : List (Option ℕ)) : Type 0 where
  pub comes : (q : ℕ) → passed.Exchanged o.first.part p q ⊎ passed.Exchanged o.second.part p q → is_in_wedge new o p q ≡ true → ((c : ℕ) → now ≡ Some c → stands_after new o.third c q ≡ false) → Contains offers (Some q) ⊎ Contains offers None
  pub goes : (q : ℕ) (r : Reading) → IsBoundedAs o r → passed.Exchanged r.part p q → stands_after new r p q ≡ false → now ≡ Some q → Contains offers None
  pub ranked : (c q : ℕ) → now ≡ Some c → passed.Exchanged o.third.part c q → HasPassedBy new o p c q → Contains offers (Some q) ⊎ Contains offers None
  pub entered : (q : ℕ) → passed.Enters q → is_in_wedge new o p q ≡ true → ((c : ℕ) → now ≡ Some c → stands_after new o.third c q ≡ false) → Contains offers (Some q)
  pub apex : passed.Enters p ⊎ passed.Leaves p → Contains offers None
  pub left : (c : ℕ) → now ≡ Some c → passed.Leaves c → Contains offers None

module _ (old new : List (List ℕ)) (passed : HasPassed old new) (o : Octant) (p : ℕ) where
  -- an octant keeps a number, or one of its bounds has exchanged it with the apex
  kept_within : (q : ℕ) → passed.Stays p → passed.Stays q → (is_in_wedge new o p q ≡ is_in_wedge old o p q) ⊎ (passed.Exchanged o.first.part p q ⊎ passed.Exchanged o.second.part p q)
  kept_within q a b = at (passed.kept o.first p q a b) (passed.kept o.second p q a b)
    where
      at : (stands_after new o.first p q ≡ stands_after old o.first p q) ⊎ passed.Exchanged o.first.part p q → (stands_after new o.second p q ≡ stands_after old o.second p q) ⊎ passed.Exchanged o.second.part p q → (is_in_wedge new o p q ≡ is_in_wedge old o p q) ⊎ (passed.Exchanged o.first.part p q ⊎ passed.Exchanged o.second.part p q)
      at (inl e) (inl f) = inl (ap₂ (λ s t. s && t) e f)
      at (inl e) (inr x) = inr (inr x)
      at (inr x) k = inr (inl x)

  -- a bound of the octant that q has left, with the apex exchanged in it
  record IsLeftBy (q : ℕ) : Type 0 where
    pub reading : Reading
    pub bound : IsBoundedAs o reading
    pub exchanged : passed.Exchanged reading.part p q
    pub out : stands_after new reading p q ≡ false

  left_by : (q : ℕ) → passed.Stays p → passed.Stays q → is_in_wedge old o p q ≡ true → is_in_wedge new o p q ≡ false → IsLeftBy q
  left_by q a b was gone = at (cases_Bool (stands_after new o.first p q))
    where
      turned : (r : Reading) → IsBoundedAs o r → stands_after old r p q ≡ true → stands_after new r p q ≡ false → IsLeftBy q
      turned r bound t f = by (passed.kept r p q a b)
        where
          by : (stands_after new r p q ≡ stands_after old r p q) ⊎ passed.Exchanged r.part p q → IsLeftBy q
          by (inl e) = absurd (both_ways (stands_after new r p q) f (e ∙ t))
          by (inr x) = record { reading = r; bound = bound; exchanged = x; out = f }

      at : (stands_after new o.first p q ≡ true) ⊎ (stands_after new o.first p q ≡ false) → IsLeftBy q
      at (inr f) = turned o.first (inl refl) (and_parts _ _ was).0 f
      at (inl t) = turned o.second (inr refl) (and_parts _ _ was).1 (ap (λ s. s && stands_after new o.second p q) (sym t) ∙ gone)

  pub awaited_first : (now : Option ℕ) (offers : List (Option ℕ)) → IsFirstAnswer old o p now → AreOffered old new passed o p now offers → IsAwaited new o p now offers
  awaited_first None offers first given = record {
    good = λ c q e. absurd cc;
    lost = λ c e. absurd cc;
    none = λ q e k. of_apex q k (passed.kind p);
  }
    where
      of_number : (q : ℕ) → is_in_wedge new o p q ≡ true → passed.Stays p → passed.Stays q ⊎ (passed.Enters q ⊎ passed.Leaves q) → Contains offers (Some q) ⊎ Contains offers None
      of_number q k a (inl b) = within (kept_within q a b)
        where
          within : (is_in_wedge new o p q ≡ is_in_wedge old o p q) ⊎ (passed.Exchanged o.first.part p q ⊎ passed.Exchanged o.second.part p q) → Contains offers (Some q) ⊎ Contains offers None
          within (inl e) = absurd (both_ways (is_in_wedge old o p q) (first q) (sym e ∙ k))
          within (inr x) = given.comes q x k (λ c e. absurd cc)
      of_number q k a (inr (inl b)) = inl (given.entered q b k (λ c e. absurd cc))
      of_number q k a (inr (inr b)) = absurd (passed.gone_second o.first p q b (and_parts _ _ k).0)

      of_apex : (q : ℕ) → is_in_wedge new o p q ≡ true → passed.Stays p ⊎ (passed.Enters p ⊎ passed.Leaves p) → Contains offers (Some q) ⊎ Contains offers None
      of_apex q k (inl a) = of_number q k a (passed.kind q)
      of_apex q k (inr a) = inr (given.apex a)
  awaited_first (Some d) offers first given = record {
    good = λ c q e m k. subst (λ (x : ℕ). ((q ≡ x) ⊎ (stands_after new o.third x q ≡ true)) ⊎ (Contains offers (Some q) ⊎ Contains offers None)) (same_Some d c e) (of_apex q k (passed.kind p));
    lost = λ c e m. lost_apex (ap (is_in_wedge new o p) (same_Some d c e) ∙ m) (passed.kind p);
    none = λ q e. absurd cc;
  }
    where
      of_both : (q : ℕ) → is_in_wedge new o p q ≡ true → passed.Stays p → passed.Stays q → passed.Stays d → ((q ≡ d) ⊎ (stands_after new o.third d q ≡ true)) ⊎ (Contains offers (Some q) ⊎ Contains offers None)
      of_both q k a b s = within (kept_within q a b)
        where
          order : (q ≡ d) ⊎ (stands_after old o.third d q ≡ true) → (stands_after new o.third d q ≡ stands_after old o.third d q) ⊎ passed.Exchanged o.third.part d q → ((q ≡ d) ⊎ (stands_after new o.third d q ≡ true)) ⊎ (Contains offers (Some q) ⊎ Contains offers None)
          order (inl e) x = inl (inl e)
          order (inr t) (inl e) = inl (inr (e ∙ t))
          order (inr t) (inr x) = turned (cases_Bool (stands_after new o.third d q))
            where
              turned : (stands_after new o.third d q ≡ true) ⊎ (stands_after new o.third d q ≡ false) → ((q ≡ d) ⊎ (stands_after new o.third d q ≡ true)) ⊎ (Contains offers (Some q) ⊎ Contains offers None)
              turned (inl e) = inl (inr e)
              turned (inr e) = inr (given.ranked d q refl x (k, e))

          within : (is_in_wedge new o p q ≡ is_in_wedge old o p q) ⊎ (passed.Exchanged o.first.part p q ⊎ passed.Exchanged o.second.part p q) → ((q ≡ d) ⊎ (stands_after new o.third d q ≡ true)) ⊎ (Contains offers (Some q) ⊎ Contains offers None)
          within (inl e) = order (first.first q (sym e ∙ k)) (passed.kept o.third d q s b)
          within (inr x) = leads (cases_Bool (stands_after new o.third d q))
            where
              leads : (stands_after new o.third d q ≡ true) ⊎ (stands_after new o.third d q ≡ false) → ((q ≡ d) ⊎ (stands_after new o.third d q ≡ true)) ⊎ (Contains offers (Some q) ⊎ Contains offers None)
              leads (inl e) = inl (inr e)
              leads (inr e) = inr (given.comes q x k (λ c f. subst (λ (y : ℕ). stands_after new o.third y q ≡ false) (same_Some d c f) e))

      of_candidate : (q : ℕ) → is_in_wedge new o p q ≡ true → passed.Stays p → passed.Stays q → passed.Stays d ⊎ (passed.Enters d ⊎ passed.Leaves d) → ((q ≡ d) ⊎ (stands_after new o.third d q ≡ true)) ⊎ (Contains offers (Some q) ⊎ Contains offers None)
      of_candidate q k a b (inl s) = of_both q k a b s
      of_candidate q k a b (inr (inl s)) = absurd (passed.new_second o.first p d s (and_parts _ _ first.member).0)
      of_candidate q k a b (inr (inr s)) = inr (inr (given.left d refl s))

      of_number : (q : ℕ) → is_in_wedge new o p q ≡ true → passed.Stays p → passed.Stays q ⊎ (passed.Enters q ⊎ passed.Leaves q) → ((q ≡ d) ⊎ (stands_after new o.third d q ≡ true)) ⊎ (Contains offers (Some q) ⊎ Contains offers None)
      of_number q k a (inl b) = of_candidate q k a b (passed.kind d)
      of_number q k a (inr (inl b)) = leads (cases_Bool (stands_after new o.third d q))
        where
          leads : (stands_after new o.third d q ≡ true) ⊎ (stands_after new o.third d q ≡ false) → ((q ≡ d) ⊎ (stands_after new o.third d q ≡ true)) ⊎ (Contains offers (Some q) ⊎ Contains offers None)
          leads (inl e) = inl (inr e)
          leads (inr e) = inr (inl (given.entered q b k (λ c f. subst (λ (x : ℕ). stands_after new o.third x q ≡ false) (same_Some d c f) e)))
      of_number q k a (inr (inr b)) = absurd (passed.gone_second o.first p q b (and_parts _ _ k).0)

      of_apex : (q : ℕ) → is_in_wedge new o p q ≡ true → passed.Stays p ⊎ (passed.Enters p ⊎ passed.Leaves p) → ((q ≡ d) ⊎ (stands_after new o.third d q ≡ true)) ⊎ (Contains offers (Some q) ⊎ Contains offers None)
      of_apex q k (inl a) = of_number q k a (passed.kind q)
      of_apex q k (inr a) = inr (inr (given.apex a))

      lost_candidate : is_in_wedge new o p d ≡ false → passed.Stays p → passed.Stays d ⊎ (passed.Enters d ⊎ passed.Leaves d) → Contains offers None
      lost_candidate m a (inl s) = out_of (left_by d a s first.member m)
        where
          out_of : IsLeftBy d → Contains offers None
          out_of l = given.goes d l.reading l.bound l.exchanged l.out refl
      lost_candidate m a (inr (inl s)) = absurd (passed.new_second o.first p d s (and_parts _ _ first.member).0)
      lost_candidate m a (inr (inr s)) = given.left d refl s

      lost_apex : is_in_wedge new o p d ≡ false → passed.Stays p ⊎ (passed.Enters p ⊎ passed.Leaves p) → Contains offers None
      lost_apex m (inl a) = lost_candidate m a (passed.kind d)
      lost_apex m (inr a) = given.apex a
