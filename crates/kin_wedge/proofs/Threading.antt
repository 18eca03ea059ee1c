-- Slots stay threaded, where one of them ends to point at a slot or begins to.
use Rattle.std.proofs.Common.{◌≡◌, ◌≢◌, ◌⊎◌, inl, inr, refl, sym, ap, ◌∙◌, subst, arith, ℕ, suc, ◌<◌, Bool, true, false, cond, nat_eq, set, length, Some, None, Option}
use Rattle.std.specs.Prelude.{slice_get}
use Rattle.std.proofs.lemmas.Bool.{cases_eq, eq-eqb, eqb-true}
use Rattle.std.proofs.lemmas.List.{length-set}
use Rattle.std.proofs.lemmas.Option.{slice_get_within, same_Some}
use Rattle.kin_algebra.proofs.Places.{get-set_same, get-set_other}
use Rattle.kin_wedge.specs.Threads.{Web, PointsAt, IsThreaded, changed, led_from, unlinked, linked}

-- a function that has another value at one number
module _ {A : Type 0} (f : ℕ → A) (v : A) (x : ℕ) where
  pub changed_there : (o : Option ℕ) → o ≡ Some x → changed f o v x ≡ v
  changed_there None e = absurd cc
  changed_there (Some y) e = ap (λ (b : Bool). cond b v (f x)) (eq-eqb x y (sym (same_Some y x e)))

  pub changed_elsewhere : (o : Option ℕ) → o ≢ Some x → changed f o v x ≡ f x
  changed_elsewhere None n = refl
  changed_elsewhere (Some y) n = at (nat_eq x y) refl
    where
      at : (b : Bool) → nat_eq x y ≡ b → cond b v (f x) ≡ f x
      at true e = absurd (n (ap (λ (z : ℕ). Some z) (sym (eqb-true x y e))))
      at false e = refl

cases_at : (o : Option ℕ) (x : ℕ) → (o ≡ Some x) ⊎ (o ≢ Some x)
cases_at None x = inr (λ e. cc)
cases_at (Some y) x = at (cases_eq y x)
  where
    at : (y ≡ x) ⊎ (y ≢ x) → (Some y ≡ Some x) ⊎ (Some y ≢ Some x)
    at (inl e) = inl (ap (λ (z : ℕ). Some z) e)
    at (inr n) = inr (λ e. n (same_Some y x e))

led : (o : Option ℕ) (q r : ℕ) → led_from o q ≡ Some r → (o ≡ None) × (q ≡ r)
led None q r e = (refl, same_Some q r e)
led (Some p) q r e = absurd cc

-- a slot points at one slot
one_target : (w : Web) (x q r : ℕ) → PointsAt w x q → PointsAt w x r → q ≡ r
one_target w x q r a b = same_Some q r (same_Some (Some q) (Some r) (sym a ∙ b))

module _ (w : Web) (t : IsThreaded w) where
  -- no slot is the next one of itself
  apart : (x y q : ℕ) → PointsAt w x q → w.next x ≡ Some y → y ≢ x
  apart x y q p e same = let l = subst (λ (z : ℕ). t.began z < t.began x) same (t.next x y q p e).2 in omega (arith, l)

module _ (w : Web) (t : IsThreaded w) (s q : ℕ) (here : PointsAt w s q) where
  moved : (x r : ℕ) → PointsAt (unlinked w s q) x r → (x ≢ s) × PointsAt w x r
  moved x r e = at (cases_eq x s)
    where
      at : (x ≡ s) ⊎ (x ≢ s) → (x ≢ s) × PointsAt w x r
      at (inl k) = absurd (let c : None ≡ Some r = same_Some _ _ (sym (get-set_same w.targets s None (slice_get_within w.targets s _ here)) ∙ ap (slice_get (set w.targets s None)) (sym k) ∙ e) in cc)
      at (inr n) = (n, sym (get-set_other w.targets s x None n) ∙ e)

  stays : (x r : ℕ) → x ≢ s → PointsAt w x r → PointsAt (unlinked w s q) x r
  stays x r n e = get-set_other w.targets s x None n ∙ e

  next_after : (x m r : ℕ) → PointsAt (unlinked w s q) x r → (unlinked w s q).next x ≡ Some m → PointsAt (unlinked w s q) m r × ((unlinked w s q).previous m ≡ Some x) × (t.began m < t.began x)
  next_after x m r p e = at (moved x r p) (cases_at (w.previous s) x)
    where
      at : (x ≢ s) × PointsAt w x r → (w.previous s ≡ Some x) ⊎ (w.previous s ≢ Some x) → PointsAt (unlinked w s q) m r × ((unlinked w s q).previous m ≡ Some x) × (t.began m < t.began x)
      at k (inl b) =
          let after : w.next s ≡ Some m = sym (changed_there w.next (w.next s) x (w.previous s) b) ∙ e in
          let f = t.next s m q here after in
          let g = t.previous s x q here b in
          let l = f.2 in
          let h = (t.next x s q g.0 g.1).2 in (
            stays m r (apart w t s m q here after) (subst (PointsAt w m) (one_target w x q r g.0 k.1) f.0),
            changed_there w.previous (w.previous s) m (w.next s) after ∙ b,
            omega (arith, l, h),
          )
      at k (inr n) =
          let f = t.next x m r k.1 (sym (changed_elsewhere w.next (w.next s) x (w.previous s) n) ∙ e) in (
            stays m r (λ z. n (ap w.previous (sym z) ∙ f.1)) f.0,
            changed_elsewhere w.previous (w.previous s) m (w.next s) (λ z. k.0 (same_Some x s (sym f.1 ∙ (t.next s m q here z).1))) ∙ f.1,
            f.2,
          )

  previous_after : (x m r : ℕ) → PointsAt (unlinked w s q) x r → (unlinked w s q).previous x ≡ Some m → PointsAt (unlinked w s q) m r × ((unlinked w s q).next m ≡ Some x)
  previous_after x m r p e = at (moved x r p) (cases_at (w.next s) x)
    where
      at : (x ≢ s) × PointsAt w x r → (w.next s ≡ Some x) ⊎ (w.next s ≢ Some x) → PointsAt (unlinked w s q) m r × ((unlinked w s q).next m ≡ Some x)
      at k (inl b) =
          let before : w.previous s ≡ Some m = sym (changed_there w.previous (w.previous s) x (w.next s) b) ∙ e in
          let f = t.next s x q here b in
          let g = t.previous s m q here before in (
            stays m r (λ z. apart w t m s q g.0 g.1 (sym z)) (subst (PointsAt w m) (one_target w x q r f.0 k.1) g.0),
            changed_there w.next (w.next s) m (w.previous s) before ∙ b,
          )
      at k (inr n) =
          let f = t.previous x m r k.1 (sym (changed_elsewhere w.previous (w.previous s) x (w.next s) n) ∙ e) in (
            stays m r (λ z. n (ap w.next (sym z) ∙ f.1)) f.0,
            changed_elsewhere w.next (w.next s) m (w.previous s) (λ z. k.0 (same_Some x s (sym f.1 ∙ (t.previous s m q here z).1))) ∙ f.1,
          )

  front_after : (x r : ℕ) → PointsAt (unlinked w s q) x r → (unlinked w s q).previous x ≡ None → (unlinked w s q).first r ≡ Some x
  front_after x r p e = at (moved x r p) (cases_at (w.next s) x)
    where
      at : (x ≢ s) × PointsAt w x r → (w.next s ≡ Some x) ⊎ (w.next s ≢ Some x) → (unlinked w s q).first r ≡ Some x
      at k (inl b) =
          let before : w.previous s ≡ None = sym (changed_there w.previous (w.previous s) x (w.next s) b) ∙ e in
          let same = one_target w x q r (t.next s x q here b).0 k.1 in
          changed_there w.first (w.next s) r (led_from (w.previous s) q) (ap (λ (o : Option ℕ). led_from o q) before ∙ ap (λ (z : ℕ). Some z) same) ∙ b
      at k (inr n) =
          let f = t.front x r k.1 (sym (changed_elsewhere w.previous (w.previous s) x (w.next s) n) ∙ e) in
          changed_elsewhere w.first (w.next s) r (led_from (w.previous s) q)
          (λ z. let l = led (w.previous s) q r z in k.0 (same_Some x s (sym f ∙ ap w.first (sym l.1) ∙ t.front s q here l.0))) ∙ f

  first_after : (x r : ℕ) → (unlinked w s q).first r ≡ Some x → PointsAt (unlinked w s q) x r × ((unlinked w s q).previous x ≡ None)
  first_after x r e = at (cases_at (led_from (w.previous s) q) r)
    where
      at : (led_from (w.previous s) q ≡ Some r) ⊎ (led_from (w.previous s) q ≢ Some r) → PointsAt (unlinked w s q) x r × ((unlinked w s q).previous x ≡ None)
      at (inl b) =
          let l = led (w.previous s) q r b in
          let after : w.next s ≡ Some x = sym (changed_there w.first (w.next s) r (led_from (w.previous s) q) b) ∙ e in (
            stays x r (apart w t s x q here after) (subst (PointsAt w x) l.1 (t.next s x q here after).0),
            changed_there w.previous (w.previous s) x (w.next s) after ∙ l.0,
          )
      at (inr n) =
          let f = t.first x r (sym (changed_elsewhere w.first (w.next s) r (led_from (w.previous s) q) n) ∙ e) in (
            stays x r (λ z. n (ap (λ (o : Option ℕ). led_from o q) (ap w.previous (sym z) ∙ f.1) ∙ ap (λ (y : ℕ). Some y) (one_target w s q r here (subst (λ (y : ℕ). PointsAt w y r) z f.0)))) f.0,
            changed_elsewhere w.previous (w.previous s) x (w.next s) (λ z. let c : None ≡ Some s = sym f.1 ∙ (t.next s x q here z).1 in cc) ∙ f.1,
          )

  pub unlinked_threaded : IsThreaded (unlinked w s q)
  unlinked_threaded = record {
    began = t.began;
    now = t.now;
    past = t.past;
    within = λ x r p. subst (λ (n : ℕ). r < n) (sym (length-set w.targets s None)) (t.within x r (moved x r p).1);
    first = first_after;
    next = next_after;
    previous = previous_after;
    front = front_after;
  }

module _ (w : Web) (t : IsThreaded w) (s q : ℕ) (vacant : slice_get w.targets s ≡ Some None) (high : q < length w.targets) where
  abbrev begins : ℕ → ℕ
  begins = changed t.began (Some s) t.now

  elsewhere : (x r : ℕ) → PointsAt w x r → Some s ≢ Some x
  elsewhere x r p e = let c : None ≡ Some r = same_Some _ _ (sym vacant ∙ ap (slice_get w.targets) (same_Some s x e) ∙ p) in cc

  there : PointsAt (linked w s q) s q
  there = get-set_same w.targets s (Some q) (slice_get_within w.targets s None vacant)

  old_or_new : (x r : ℕ) → PointsAt (linked w s q) x r → ((Some s ≡ Some x) × (q ≡ r)) ⊎ ((Some s ≢ Some x) × PointsAt w x r)
  old_or_new x r e = at (cases_eq x s)
    where
      at : (x ≡ s) ⊎ (x ≢ s) → ((Some s ≡ Some x) × (q ≡ r)) ⊎ ((Some s ≢ Some x) × PointsAt w x r)
      at (inl k) = inl (ap (λ (z : ℕ). Some z) (sym k), one_target (linked w s q) s q r there (subst (λ (z : ℕ). PointsAt (linked w s q) z r) k e))
      at (inr n) = inr (λ z. n (sym (same_Some s x z)), sym (get-set_other w.targets s x (Some q) n) ∙ e)

  keeps : (x r : ℕ) → PointsAt w x r → PointsAt (linked w s q) x r
  keeps x r p = get-set_other w.targets s x (Some q) (λ z. elsewhere x r p (ap (λ (y : ℕ). Some y) (sym z))) ∙ p

  -- the previous one of the slot that was the first, of the new one, and of all others
  before_first : (x : ℕ) → w.first q ≡ Some x → (linked w s q).previous x ≡ Some s
  before_first x e = changed_there (changed w.previous (Some s) None) (Some s) x (w.first q) e

  before_new : (x : ℕ) → Some s ≡ Some x → (linked w s q).previous x ≡ None
  before_new x e = changed_elsewhere (changed w.previous (Some s) None) (Some s) x (w.first q) (λ z. elsewhere x q (t.first x q z).0 e) ∙ changed_there w.previous None x (Some s) e

  before_other : (x : ℕ) → w.first q ≢ Some x → Some s ≢ Some x → (linked w s q).previous x ≡ w.previous x
  before_other x n m = changed_elsewhere (changed w.previous (Some s) None) (Some s) x (w.first q) n ∙ changed_elsewhere w.previous None x (Some s) m

  earlier : (x : ℕ) → Some s ≢ Some x → begins x ≡ t.began x
  earlier x n = changed_elsewhere t.began t.now x (Some s) n

  next_then : (x m r : ℕ) → PointsAt (linked w s q) x r → (linked w s q).next x ≡ Some m → PointsAt (linked w s q) m r × ((linked w s q).previous m ≡ Some x) × (begins m < begins x)
  next_then x m r p e = at (old_or_new x r p)
    where
      at : ((Some s ≡ Some x) × (q ≡ r)) ⊎ ((Some s ≢ Some x) × PointsAt w x r) → PointsAt (linked w s q) m r × ((linked w s q).previous m ≡ Some x) × (begins m < begins x)
      at (inl k) =
          let after : w.first q ≡ Some m = sym (changed_there w.next (w.first q) x (Some s) k.0) ∙ e in
          let f = (t.first m q after).0 in
          let a = earlier m (elsewhere m q f) in
          let b : begins x ≡ t.now = changed_there t.began t.now x (Some s) k.0 in
          let l = t.past m in (subst (PointsAt (linked w s q) m) k.1 (keeps m q f), before_first m after ∙ k.0, omega (arith, a, b, l))
      at (inr k) =
          let f = t.next x m r k.1 (sym (changed_elsewhere w.next (w.first q) x (Some s) k.0) ∙ e) in
          let a = earlier m (elsewhere m r f.0) in
          let b = earlier x k.0 in
          let l = f.2 in (
            keeps m r f.0,
            before_other m (λ z. let c : None ≡ Some x = sym (t.first m q z).1 ∙ f.1 in cc) (elsewhere m r f.0) ∙ f.1,
            omega (arith, a, b, l),
          )

  previous_then : (x m r : ℕ) → PointsAt (linked w s q) x r → (linked w s q).previous x ≡ Some m → PointsAt (linked w s q) m r × ((linked w s q).next m ≡ Some x)
  previous_then x m r p e = at (cases_at (w.first q) x)
    where
      other : w.first q ≢ Some x → ((Some s ≡ Some x) × (q ≡ r)) ⊎ ((Some s ≢ Some x) × PointsAt w x r) → PointsAt (linked w s q) m r × ((linked w s q).next m ≡ Some x)
      other n (inl k) = absurd (let c : None ≡ Some m = sym (before_new x k.0) ∙ e in cc)
      other n (inr k) =
          let f = t.previous x m r k.1 (sym (before_other x n k.0) ∙ e) in
          (keeps m r f.0, changed_elsewhere w.next (w.first q) m (Some s) (elsewhere m r f.0) ∙ f.1)

      at : (w.first q ≡ Some x) ⊎ (w.first q ≢ Some x) → PointsAt (linked w s q) m r × ((linked w s q).next m ≡ Some x)
      at (inl b) =
          let same : Some s ≡ Some m = sym (before_first x b) ∙ e in
          let to = one_target (linked w s q) x q r (keeps x q (t.first x q b).0) p in (
            subst (PointsAt (linked w s q) m) to (subst (λ (z : ℕ). PointsAt (linked w s q) z q) (same_Some s m same) there),
            changed_there w.next (w.first q) m (Some s) same ∙ b,
          )
      at (inr n) = other n (old_or_new x r p)

  front_then : (x r : ℕ) → PointsAt (linked w s q) x r → (linked w s q).previous x ≡ None → (linked w s q).first r ≡ Some x
  front_then x r p e = at (cases_at (w.first q) x)
    where
      other : w.first q ≢ Some x → ((Some s ≡ Some x) × (q ≡ r)) ⊎ ((Some s ≢ Some x) × PointsAt w x r) → (linked w s q).first r ≡ Some x
      other n (inl k) = changed_there w.first (Some s) r (Some q) (ap (λ (z : ℕ). Some z) k.1) ∙ k.0
      other n (inr k) =
          let f = t.front x r k.1 (sym (before_other x n k.0) ∙ e) in
          changed_elsewhere w.first (Some s) r (Some q) (λ z. n (ap w.first (same_Some q r z) ∙ f)) ∙ f

      at : (w.first q ≡ Some x) ⊎ (w.first q ≢ Some x) → (linked w s q).first r ≡ Some x
      at (inl b) = absurd (let c : Some s ≡ None = sym (before_first x b) ∙ e in cc)
      at (inr n) = other n (old_or_new x r p)

  first_then : (x r : ℕ) → (linked w s q).first r ≡ Some x → PointsAt (linked w s q) x r × ((linked w s q).previous x ≡ None)
  first_then x r e = at (cases_at (Some q) r)
    where
      at : (Some q ≡ Some r) ⊎ (Some q ≢ Some r) → PointsAt (linked w s q) x r × ((linked w s q).previous x ≡ None)
      at (inl b) =
          let new : Some s ≡ Some x = sym (changed_there w.first (Some s) r (Some q) b) ∙ e in
          (subst (PointsAt (linked w s q) x) (same_Some q r b) (subst (λ (z : ℕ). PointsAt (linked w s q) z q) (same_Some s x new) there), before_new x new)
      at (inr n) =
          let f = t.first x r (sym (changed_elsewhere w.first (Some s) r (Some q) n) ∙ e) in
          (keeps x r f.0, before_other x (λ z. n (ap (λ (y : ℕ). Some y) (one_target w x q r (t.first x q z).0 f.0))) (elsewhere x r f.0) ∙ f.1)

  began_before : (x : ℕ) → begins x < suc t.now
  began_before x = at (cases_at (Some s) x)
    where
      at : (Some s ≡ Some x) ⊎ (Some s ≢ Some x) → begins x < suc t.now
      at (inl e) = let b : begins x ≡ t.now = changed_there t.began t.now x (Some s) e in omega (arith, b)
      at (inr n) = let a = earlier x n in let l = t.past x in omega (arith, a, l)

  within_then : (x r : ℕ) → PointsAt (linked w s q) x r → r < length (set w.targets s (Some q))
  within_then x r p = subst (λ (n : ℕ). r < n) (sym (length-set w.targets s (Some q))) (at (old_or_new x r p))
    where
      at : ((Some s ≡ Some x) × (q ≡ r)) ⊎ ((Some s ≢ Some x) × PointsAt w x r) → r < length w.targets
      at (inl k) = subst (λ (z : ℕ). z < length w.targets) k.1 high
      at (inr k) = t.within x r k.1

  pub linked_threaded : IsThreaded (linked w s q)
  linked_threaded = record {
    began = begins;
    now = suc t.now;
    past = began_before;
    within = within_then;
    first = first_then;
    next = next_then;
    previous = previous_then;
    front = front_then;
  }
