-- What is left of a chain while it is drawn, beside what is left of the chain that it came of.
use Rattle.std.proofs.Common.{◌≡◌, ◌⊎◌, inl, inr, refl, sym, ap, ◌∙◌, subst, arith, List, [], ◌∷◌, ◌++◌, ℕ, ◌+◌, ◌<◌, ◌≤◌, Bool, true, false, not, ◌||◌, cond, nat_eq, length, get_or, drop, append_assoc, Contains}
use Rattle.std.proofs.lemmas.Bool.{both_ways, false_from_ne_true}
use Rattle.std.proofs.lemmas.Bool.Decides.{nat_tests}
use Rattle.kin_algebra.proofs.Members.{contains_none, contains_cases}
use Rattle.kin_motion.specs.Numbers.{is_in, IsIn, IsOnce}
use Rattle.kin_motion.specs.Merges.{Half, Breakpoint, breakpoints_of}
use Rattle.kin_motion.proofs.Members.{in_front, in_head, in_tail, in_cases, in_right}
use Rattle.kin_overlay.specs.declared.draft.Draft.{Draft}
use Rattle.kin_overlay.specs.declared.record.Record.{Record}
use Rattle.kin_overlay.specs.declared.standing.Standing.{Standing}
use Rattle.kin_overlay.specs.Repairing.{without, times, IsEdited, AreApart}
use Rattle.kin_overlay.specs.Sketching.{after_put, IsStep}
use Rattle.kin_overlay.proofs.SketchLaws.{two_first}

-- ---- how often a number is there
times-some : (x : ℕ) (xs : List ℕ) → IsIn x xs → 1 ≤ times x xs
times-some x [] h = absurd cc
times-some x (y ∷ ys) h = at (nat_eq x y) h (times-some x ys)
  where
    at : (b : Bool) → b || is_in x ys ≡ true → (IsIn x ys → 1 ≤ times x ys) → 1 ≤ cond b 1 0 + times x ys
    at true k rest = omega arith
    at false k rest = let r = rest k in omega (arith, r)

times-none : (x : ℕ) (xs : List ℕ) → is_in x xs ≡ false → times x xs ≡ 0
times-none x [] h = refl
times-none x (y ∷ ys) h = at (nat_eq x y) h (times-none x ys)
  where
    at : (b : Bool) → b || is_in x ys ≡ false → (is_in x ys ≡ false → times x ys ≡ 0) → cond b 1 0 + times x ys ≡ 0
    at true k rest = absurd cc
    at false k rest = let r = rest k in omega (arith, r)

times-once : (x : ℕ) (xs : List ℕ) → IsOnce xs → times x xs ≤ 1
times-once x [] o = omega arith
times-once x (y ∷ ys) o = at (nat_eq x y) refl (times-once x ys o.1)
  where
    at : (b : Bool) → nat_eq x y ≡ b → times x ys ≤ 1 → cond b 1 0 + times x ys ≤ 1
    at true e rest = let is : x ≡ y = grind (arith, nat_tests) in let z = times-none x ys (ap (λ (n : ℕ). is_in n ys) is ∙ o.0) in omega (arith, z)
    at false e rest = omega (arith, rest)

-- ---- lists without some numbers
without-all : (gone xs : List ℕ) → ((x : ℕ) → IsIn x xs → is_in x gone ≡ false) → without gone xs ≡ xs
without-all gone [] k = refl
without-all gone (x ∷ xs) k =
    ap (λ (b : Bool). cond (not b) (x ∷ without gone xs) (without gone xs)) (k x (in_head x xs)) ∙ ap (λ (l : List ℕ). x ∷ l) (without-all gone xs (λ y h. k y (in_tail y x xs h)))

without-is : (gone xs : List ℕ) (x : ℕ) → IsIn x (without gone xs) → IsIn x xs × (is_in x gone ≡ false)
without-is gone [] x h = absurd cc
without-is gone (y ∷ ys) x h = at (is_in y gone) refl h (without-is gone ys x)
  where
    at : (b : Bool) → is_in y gone ≡ b → is_in x (cond (not b) (y ∷ without gone ys) (without gone ys)) ≡ true → (IsIn x (without gone ys) → IsIn x ys × (is_in x gone ≡ false)) → IsIn x (y ∷ ys) × (is_in x gone ≡ false)
    at true e k rest = let r = rest k in (in_tail x y ys r.0, r.1)
    at false e k rest = here (in_cases x y (without gone ys) k)
      where
        here : (x ≡ y) ⊎ IsIn x (without gone ys) → IsIn x (y ∷ ys) × (is_in x gone ≡ false)
        here (inl q) = (in_front x y ys (sym q), ap (λ (n : ℕ). is_in n gone) q ∙ e)
        here (inr h) = let r = rest h in (in_tail x y ys r.0, r.1)

without-kept : (gone : List ℕ) (x : ℕ) (xs : List ℕ) → is_in x gone ≡ false → without gone (x ∷ xs) ≡ x ∷ without gone xs
without-kept gone x xs e = ap (λ (b : Bool). cond (not b) (x ∷ without gone xs) (without gone xs)) e

without-gone : (gone : List ℕ) (x : ℕ) (xs : List ℕ) → is_in x gone ≡ true → without gone (x ∷ xs) ≡ without gone xs
without-gone gone x xs e = ap (λ (b : Bool). cond (not b) (x ∷ without gone xs) (without gone xs)) e

-- ---- what is left after those that were put
abbrev pub Stops : List ℕ → List ℕ → Type 0
Stops put xs = (length xs ≤ 1) ⊎ (is_in (get_or xs 0 0) put ≡ false)

pub after-some : (put xs : List ℕ) → 0 < length xs → 0 < length (after_put put xs)
after-some put [] l = l
after-some put (x ∷ []) l = l
after-some put (x ∷ y ∷ ys) l = at (is_in x put) (after-some put (y ∷ ys) (omega arith))
  where
    at : (b : Bool) → 0 < length (after_put put (y ∷ ys)) → 0 < length (cond b (after_put put (y ∷ ys)) (x ∷ y ∷ ys))
    at true r = r
    at false r = omega arith

after-stops : (put xs : List ℕ) → Stops put (after_put put xs)
after-stops put [] = inl (omega arith)
after-stops put (x ∷ []) = inl (omega arith)
after-stops put (x ∷ y ∷ ys) = at (is_in x put) refl (after-stops put (y ∷ ys))
  where
    at : (b : Bool) → is_in x put ≡ b → Stops put (after_put put (y ∷ ys)) → Stops put (cond b (after_put put (y ∷ ys)) (x ∷ y ∷ ys))
    at true e r = r
    at false e r = inr e

after-same : (put xs : List ℕ) → without put (after_put put xs) ≡ without put xs
after-same put [] = refl
after-same put (x ∷ []) = refl
after-same put (x ∷ y ∷ ys) = at (is_in x put) refl (after-same put (y ∷ ys))
  where
    at : (b : Bool) → is_in x put ≡ b → without put (after_put put (y ∷ ys)) ≡ without put (y ∷ ys) → without put (cond b (after_put put (y ∷ ys)) (x ∷ y ∷ ys)) ≡ without put (x ∷ y ∷ ys)
    at true e r = r ∙ sym (without-gone put x (y ∷ ys) e)
    at false e r = refl

after-split : (put xs : List ℕ) → (front : List ℕ) × (xs ≡ front ++ after_put put xs)
after-split put [] = ([], refl)
after-split put (x ∷ []) = ([], refl)
after-split put (x ∷ y ∷ ys) = at (is_in x put) (after-split put (y ∷ ys))
  where
    at : (b : Bool) → (front : List ℕ) × (y ∷ ys ≡ front ++ after_put put (y ∷ ys)) → (front : List ℕ) × (x ∷ y ∷ ys ≡ front ++ cond b (after_put put (y ∷ ys)) (x ∷ y ∷ ys))
    at true r = (x ∷ r.0, ap (λ (l : List ℕ). x ∷ l) r.1)
    at false r = ([], refl)

-- ---- the breakpoints of a chain
abbrev pub pair : Half → ℕ → ℕ → Breakpoint
pair h x y = record { half = h; left = x; right = y }

first-or-later : (h : Half) (p : ℕ) (xs : List ℕ) (e : Breakpoint) → Contains (breakpoints_of h (p ∷ xs)) e → (e.left ≡ p) ⊎ Contains (breakpoints_of h xs) e
first-or-later h p [] e c = absurd (contains_none e c)
first-or-later h p (x ∷ xs) e c = at (contains_cases (pair h p x) e (breakpoints_of h (x ∷ xs)) c)
  where
    at : (pair h p x ≡ e) ⊎ Contains (breakpoints_of h (x ∷ xs)) e → (e.left ≡ p) ⊎ Contains (breakpoints_of h (x ∷ xs)) e
    at (inl q) = inl (sym (ap (λ (b : Breakpoint). b.left) q))
    at (inr d) = inr d

pub left-in : (h : Half) (xs : List ℕ) (e : Breakpoint) → Contains (breakpoints_of h xs) e → IsIn e.left xs
left-in h [] e c = absurd (contains_none e c)
left-in h (x ∷ xs) e c = at (first-or-later h x xs e c) (left-in h xs e)
  where
    at : (e.left ≡ x) ⊎ Contains (breakpoints_of h xs) e → (Contains (breakpoints_of h xs) e → IsIn e.left xs) → IsIn e.left (x ∷ xs)
    at (inl q) rest = in_front e.left x xs (sym q)
    at (inr d) rest = in_tail e.left x xs (rest d)

-- the number after a left point is the right one
after-left : (h : Half) (front : List ℕ) (x y : ℕ) (t : List ℕ) → IsOnce (front ++ x ∷ t) → Contains (breakpoints_of h (front ++ x ∷ t)) (pair h x y) → (u : List ℕ) × (t ≡ y ∷ u)
after-left h [] x y [] once c = absurd (contains_none (pair h x y) c)
after-left h [] x y (z ∷ zs) once c = at (contains_cases (pair h x z) (pair h x y) (breakpoints_of h (z ∷ zs)) c)
  where
    at : (pair h x z ≡ pair h x y) ⊎ Contains (breakpoints_of h (z ∷ zs)) (pair h x y) → (u : List ℕ) × (z ∷ zs ≡ y ∷ u)
    at (inl q) = (zs, ap (λ (e : Breakpoint). e.right ∷ zs) q)
    at (inr d) = absurd (both_ways (is_in x (z ∷ zs)) once.0 (left-in h (z ∷ zs) (pair h x y) d))
after-left h (p ∷ ps) x y t once c = at (first-or-later h p (ps ++ x ∷ t) (pair h x y) c) (after-left h ps x y t once.1)
  where
    at : (x ≡ p) ⊎ Contains (breakpoints_of h (ps ++ x ∷ t)) (pair h x y) → (Contains (breakpoints_of h (ps ++ x ∷ t)) (pair h x y) → (u : List ℕ) × (t ≡ y ∷ u)) → (u : List ℕ) × (t ≡ y ∷ u)
    at (inl q) rest = absurd (both_ways (is_in p (ps ++ x ∷ t)) once.0 (ap (λ (n : ℕ). is_in n (ps ++ x ∷ t)) (sym q) ∙ in_right x ps (x ∷ t) (in_head x t)))
    at (inr d) rest = rest d

-- ---- what is left of both
-- the same numbers are left but for those that were put and dropped, or only the last number of the new chain is left, and none of the old one
abbrev pub Same : List ℕ → List ℕ → List ℕ → List ℕ → Type 0
Same put dropped xs ys = (without put ys ≡ without dropped xs) ⊎ ((length ys ≡ 1) × (without dropped xs ≡ []))

-- xs is left of the old chain and ys of the new one
pub record Follows (put dropped old new xs ys : List ℕ) : Type 0 where
  pub passed : List ℕ
  pub split : new ≡ passed ++ ys
  pub old_passed : List ℕ
  pub old_split : old ≡ old_passed ++ xs
  pub some : 0 < length ys
  pub same : Same put dropped xs ys
  pub stops : Stops put ys

-- the first number that wasn't dropped is the first one left
first-is : (put ys : List ℕ) (x : ℕ) (w : List ℕ) → Stops put ys → without put ys ≡ x ∷ w → (t : List ℕ) × (ys ≡ x ∷ t) × (without put t ≡ w)
first-is put [] x w s q = absurd cc
first-is put (z ∷ []) x w s q = at (is_in z put) q
  where
    at : (b : Bool) → cond (not b) (z ∷ []) [] ≡ x ∷ w → (t : List ℕ) × (z ∷ [] ≡ x ∷ t) × (without put t ≡ w)
    at true q = absurd cc
    at false q = let head : z ≡ x = cc in let tail : [] ≡ w = cc in ([], ap (λ (n : ℕ). n ∷ []) head, tail)
first-is put (z ∷ y ∷ zs) x w (inl l) q = absurd (omega arith)
first-is put (z ∷ y ∷ zs) x w (inr n) q =
    let is : z ∷ without put (y ∷ zs) ≡ x ∷ w = sym (without-kept put z (y ∷ zs) n) ∙ q in
    let head : z ≡ x = cc in
    let tail : without put (y ∷ zs) ≡ w = cc in
    (y ∷ zs, ap (λ (n : ℕ). n ∷ y ∷ zs) head, tail)

pub follows-first : (put dropped old new : List ℕ) (x : ℕ) (xs ys : List ℕ) → Follows put dropped old new (x ∷ xs) ys → is_in x dropped ≡ false → (t : List ℕ) × (ys ≡ x ∷ t) × (without put t ≡ without dropped xs)
follows-first put dropped old new x xs ys f kept = at f.same
  where
    at : Same put dropped (x ∷ xs) ys → (t : List ℕ) × (ys ≡ x ∷ t) × (without put t ≡ without dropped xs)
    at (inl q) = first-is put ys x (without dropped xs) f.stops (q ∙ without-kept dropped x xs kept)
    at (inr q) = absurd (let none : x ∷ without dropped xs ≡ [] = sym (without-kept dropped x xs kept) ∙ q.1 in cc)

module _ (put dropped old new : List ℕ) (e : IsEdited put dropped old new) (apart : AreApart put dropped) (old_once : IsOnce old) (new_once : IsOnce new) where
  not-put : (x : ℕ) → IsIn x dropped → is_in x put ≡ false
  not-put x d = false_from_ne_true (is_in x put) (λ p. both_ways (is_in x dropped) (apart x p) d)

  -- a number that is there wasn't dropped
  pub not-dropped : (x : ℕ) → IsIn x new → is_in x dropped ≡ false
  not-dropped x h = false_from_ne_true (is_in x dropped)
      (λ d.
      let a = times-some x new h in
      let b = times-some x dropped d in
      let c = times-once x old old_once in
      let z = times-none x put (not-put x d) in
      let sum = e.balanced x in
      omega (arith, a, b, c, z, sum))

  -- an old number that wasn't dropped wasn't put
  kept-old : (x : ℕ) → IsIn x old → is_in x dropped ≡ false → is_in x put ≡ false
  kept-old x h k = false_from_ne_true (is_in x put)
      (λ p.
      let a = times-some x old h in
      let b = times-some x put p in
      let c = times-once x new new_once in
      let z = times-none x dropped k in
      let sum = e.balanced x in
      omega (arith, a, b, c, z, sum))

  both-same : without put new ≡ without dropped old
  both-same = ap (without put) (sym (without-all dropped new not-dropped)) ∙ e.keeps ∙ without-all put (without dropped old) (λ x h. let w = without-is dropped old x h in kept-old x w.0 w.1)

  pub follows-start : 0 < length new → Follows put dropped old new old (after_put put new)
  follows-start some =
      let s = after-split put new in
      record { passed = s.0; split = s.1; old_passed = []; old_split = refl; some = after-some put new some; same = inl (after-same put new ∙ both-same); stops = after-stops put new }

  -- a breakpoint that is still there is the first one left
  pub follows-still : (h : Half) (x y : ℕ) (xs ys : List ℕ) → Follows put dropped old new (x ∷ y ∷ xs) ys → Contains (breakpoints_of h new) (pair h x y) → (t : List ℕ) × (ys ≡ x ∷ y ∷ t)
  follows-still h x y xs ys f c =
      let first = follows-first put dropped old new x (y ∷ xs) ys f (not-dropped x (left-in h new (pair h x y) c)) in
      let split : new ≡ f.passed ++ x ∷ first.0 = f.split ∙ ap (λ (l : List ℕ). f.passed ++ l) first.1 in
      let next = after-left h f.passed x y first.0 (subst IsOnce split new_once) (subst (λ (l : List ℕ). Contains (breakpoints_of h l) (pair h x y)) split c) in
      (next.0, first.1 ∙ ap (λ (l : List ℕ). x ∷ l) next.1)

  old-behind : (x : ℕ) (xs ys : List ℕ) → Follows put dropped old new (x ∷ xs) ys → (front : List ℕ) × (old ≡ front ++ xs)
  old-behind x xs ys f = (f.old_passed ++ x ∷ [], f.old_split ∙ sym (append_assoc f.old_passed (x ∷ []) xs))

  -- one breakpoint of the old chain further
  pub follows-step : (w : Standing) (r : Record) (k y : ℕ) (xs ys left : List ℕ) (part : List Draft) → Follows put dropped old new (r.at.left ∷ y ∷ xs) ys → IsStep w r put ys k left part → Follows put dropped old new (y ∷ xs) left
  follows-step w r k y xs ys left part f (inl m) = subst (λ (l : List ℕ). Follows put dropped old new (y ∷ xs) l) (sym m.left_is) (at (is_in r.at.left dropped) refl)
    where
      behind : (front : List ℕ) × (old ≡ front ++ y ∷ xs)
      behind = old-behind r.at.left (y ∷ xs) ys f

      with-same : Same put dropped (y ∷ xs) ys → Follows put dropped old new (y ∷ xs) ys
      with-same s = record { passed = f.passed; split = f.split; old_passed = behind.0; old_split = behind.1; some = f.some; same = s; stops = f.stops }

      dropped-first : is_in r.at.left dropped ≡ true → Same put dropped (r.at.left ∷ y ∷ xs) ys → Same put dropped (y ∷ xs) ys
      dropped-first e (inl q) = inl (q ∙ without-gone dropped r.at.left (y ∷ xs) e)
      dropped-first e (inr q) = inr (q.0, sym (without-gone dropped r.at.left (y ∷ xs) e) ∙ q.1)

      passed-last : (t : List ℕ) → ys ≡ r.at.left ∷ t → without put t ≡ without dropped (y ∷ xs) → Same put dropped (y ∷ xs) ys
      passed-last [] is q = inr (ap (λ (l : List ℕ). length l) is, sym q)
      passed-last (z ∷ zs) is q = absurd (m.begins (let l = ap (λ (l : List ℕ). length l) is in omega (arith, l)) (ap (λ (l : List ℕ). get_or l 0 0) is))

      at : (b : Bool) → is_in r.at.left dropped ≡ b → Follows put dropped old new (y ∷ xs) ys
      at true e = with-same (dropped-first e f.same)
      at false e = let first = follows-first put dropped old new r.at.left (y ∷ xs) ys f e in with-same (passed-last first.0 first.1 first.2)
  follows-step w r k y xs ys left part f (inr m) =
      let x = r.at.left in
      let begins : ys ≡ x ∷ get_or ys 1 0 ∷ drop 2 ys = two_first ys m.two ∙ ap (λ (n : ℕ). n ∷ get_or ys 1 0 ∷ drop 2 ys) m.begins in
      let there : IsIn x ys = subst (λ (l : List ℕ). IsIn x l) (sym begins) (in_head x (get_or ys 1 0 ∷ drop 2 ys)) in
      let within : IsIn x new = subst (λ (l : List ℕ). IsIn x l) (sym f.split) (in_right x f.passed ys there) in
      let first = follows-first put dropped old new x (y ∷ xs) ys f (not-dropped x within) in
      let t = first.0 in
      let left_is : left ≡ after_put put t = m.left_is ∙ ap (λ (l : List ℕ). after_put put (drop 1 l)) first.1 in
      let s = after-split put t in
      let behind = old-behind x (y ∷ xs) ys f in
      let long = ap (λ (l : List ℕ). length l) first.1 in
      let two = m.two in
      subst (λ (l : List ℕ). Follows put dropped old new (y ∷ xs) l) (sym left_is)
      (record {
        passed = f.passed ++ x ∷ s.0;
        split = f.split ∙ ap (λ (l : List ℕ). f.passed ++ l) (first.1 ∙ ap (λ (l : List ℕ). x ∷ l) s.1) ∙ sym (append_assoc f.passed (x ∷ s.0) (after_put put t));
        old_passed = behind.0;
        old_split = behind.1;
        some = after-some put t (omega (arith, long, two));
        same = inl (after-same put t ∙ first.2);
        stops = after-stops put t;
      })
