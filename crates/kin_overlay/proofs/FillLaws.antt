-- How a sketch in order is filled in.
use Rattle.std.proofs.Common.{◌≡◌, ◌⊎◌, inl, inr, refl, sym, ap, ap₂, ◌∙◌, subst, arith, List, [], ◌∷◌, ◌++◌, ℕ, ◌+◌, Bool, true, false, ◌||◌, cond, nat_eq, Option}
use Rattle.std.proofs.lemmas.Bool.Decides.{nat_tests}
use Rattle.std.proofs.lemmas.List.{append-nil, append_assoc, map-append}
use Rattle.kin_motion.specs.Numbers.{is_in, IsIn, IsOnce}
use Rattle.kin_motion.specs.Scene.{Scene}
use Rattle.kin_motion.specs.Merges.{Half.{A, B}, Half, Breakpoint, is_of, own_of, breakpoints_of, other_current, current_after}
use Rattle.kin_motion.proofs.Members.{in_head, in_tail}
use Rattle.kin_overlay.specs.declared.draft.Draft.{Draft}
use Rattle.kin_overlay.specs.declared.record.Record.{Record}
use Rattle.kin_overlay.specs.Fingers.{IsNoted, AreNoted, AreLess}
use Rattle.kin_overlay.specs.Lists.{first_of}
use Rattle.kin_overlay.specs.Seen.{seen}
use Rattle.kin_overlay.specs.Remembered.{place_of, breakpoints, left_points}
use Rattle.kin_overlay.specs.Sketches.{half_at, spots, is_told, gaps, missing_turns, AreFit}
use Rattle.kin_overlay.specs.Filling.{gap_to, lefts, IsFilled}

pub gaps-cons : (d : Draft) (es : List Draft) → gaps (d ∷ es) ≡ gap_to d es + gaps es
gaps-cons d [] = omega arith
gaps-cons d (e ∷ es) = refl

pub lefts-are : (rs : List Record) → left_points rs ≡ lefts (breakpoints rs)
lefts-are [] = refl
lefts-are (r ∷ rs) = ap (λ (l : List ℕ). r.at.left ∷ l) (lefts-are rs)

-- what stands once isn't in front
pub once-front : (xs : List ℕ) (y : ℕ) (ys : List ℕ) → IsOnce (xs ++ y ∷ ys) → is_in y xs ≡ false
once-front [] y ys p = refl
once-front (x ∷ xs) y ys p = at (nat_eq y x) refl (once-front xs y ys p.1)
  where
    behind : (l : List ℕ) → is_in y (l ++ y ∷ ys) ≡ true
    behind [] = in_head y ys
    behind (z ∷ l) = in_tail y z (l ++ y ∷ ys) (behind l)

    at : (b : Bool) → nat_eq y x ≡ b → is_in y xs ≡ false → nat_eq y x || is_in y xs ≡ false
    at true e rest = absurd (let is : y ≡ x = grind (arith, nat_tests) in let clash : true ≡ false = sym (behind xs) ∙ ap (λ (n : ℕ). is_in n (xs ++ y ∷ ys)) is ∙ p.0 in cc)
    at false e rest = ap (λ (b : Bool). b || is_in y xs) e ∙ rest

-- ---- the left points of both chains differ
pub split-own : (h : Half) (xs : List ℕ) (e : Breakpoint) (es : List Breakpoint) → e ∷ es ≡ breakpoints_of h xs → (t : List ℕ) × (xs ≡ e.left ∷ e.right ∷ t) × (es ≡ breakpoints_of h (e.right ∷ t))
split-own h [] e es q = absurd cc
split-own h (x ∷ []) e es q = absurd cc
split-own h (x ∷ y ∷ t) e es q =
    let same : e ≡ record { half = h; left = x; right = y } = cc in
    let tail : es ≡ breakpoints_of h (y ∷ t) = cc in
    let l : e.left ≡ x = ap (λ (f : Breakpoint). f.left) same in
    let r : e.right ≡ y = ap (λ (f : Breakpoint). f.right) same in
    (t, ap₂ (λ (n m : ℕ). n ∷ m ∷ t) (sym l) (sym r), tail ∙ ap (λ (m : ℕ). breakpoints_of h (m ∷ t)) (sym r))

-- a left point is a point of one of the chains
lefts-within : (es : List Breakpoint) (a b : List ℕ) (x : ℕ) → own_of A es ≡ breakpoints_of A a → own_of B es ≡ breakpoints_of B b → is_in x (lefts es) ≡ true → (is_in x a ≡ true) ⊎ (is_in x b ≡ true)
lefts-within [] a b x p q h = absurd cc
lefts-within (e ∷ es) a b x p q h = at e.half refl (λ a' b' p' q' h'. lefts-within es a' b' x p' q' h')
  where
    at : (g : Half) → e.half ≡ g → ((a' b' : List ℕ) → own_of A es ≡ breakpoints_of A a' → own_of B es ≡ breakpoints_of B b' → is_in x (lefts es) ≡ true → (is_in x a' ≡ true) ⊎ (is_in x b' ≡ true)) → (is_in x a ≡ true) ⊎ (is_in x b ≡ true)
    at A is within =
        let own : e ∷ own_of A es ≡ breakpoints_of A a = sym (ap (λ (g : Half). cond (is_of A g) (e ∷ own_of A es) (own_of A es)) is) ∙ p in
        let rest : own_of B es ≡ breakpoints_of B b = sym (ap (λ (g : Half). cond (is_of B g) (e ∷ own_of B es) (own_of B es)) is) ∙ q in
        let s = split-own A a e (own_of A es) own in
        here (nat_eq x e.left) refl s (within (e.right ∷ s.0) b s.2 rest)
      where
        here : (c : Bool) → nat_eq x e.left ≡ c → (s : (t : List ℕ) × (a ≡ e.left ∷ e.right ∷ t) × (own_of A es ≡ breakpoints_of A (e.right ∷ t))) → (is_in x (lefts es) ≡ true → (is_in x (e.right ∷ s.0) ≡ true) ⊎ (is_in x b ≡ true)) → (is_in x a ≡ true) ⊎ (is_in x b ≡ true)
        here true c s rest = inl (ap (is_in x) s.1 ∙ ap (λ (b : Bool). b || is_in x (e.right ∷ s.0)) c)
        here false c s rest = more (rest (sym (ap (λ (b : Bool). b || is_in x (lefts es)) c) ∙ h))
          where
            more : (is_in x (e.right ∷ s.0) ≡ true) ⊎ (is_in x b ≡ true) → (is_in x a ≡ true) ⊎ (is_in x b ≡ true)
            more (inl k) = inl (ap (is_in x) s.1 ∙ in_tail x e.left (e.right ∷ s.0) k)
            more (inr k) = inr k
    at B is within =
        let own : e ∷ own_of B es ≡ breakpoints_of B b = sym (ap (λ (g : Half). cond (is_of B g) (e ∷ own_of B es) (own_of B es)) is) ∙ q in
        let rest : own_of A es ≡ breakpoints_of A a = sym (ap (λ (g : Half). cond (is_of A g) (e ∷ own_of A es) (own_of A es)) is) ∙ p in
        let s = split-own B b e (own_of B es) own in
        here (nat_eq x e.left) refl s (within a (e.right ∷ s.0) rest s.2)
      where
        here : (c : Bool) → nat_eq x e.left ≡ c → (s : (t : List ℕ) × (b ≡ e.left ∷ e.right ∷ t) × (own_of B es ≡ breakpoints_of B (e.right ∷ t))) → (is_in x (lefts es) ≡ true → (is_in x a ≡ true) ⊎ (is_in x (e.right ∷ s.0) ≡ true)) → (is_in x a ≡ true) ⊎ (is_in x b ≡ true)
        here true c s rest = inr (ap (is_in x) s.1 ∙ ap (λ (b : Bool). b || is_in x (e.right ∷ s.0)) c)
        here false c s rest = more (rest (sym (ap (λ (b : Bool). b || is_in x (lefts es)) c) ∙ h))
          where
            more : (is_in x a ≡ true) ⊎ (is_in x (e.right ∷ s.0) ≡ true) → (is_in x a ≡ true) ⊎ (is_in x b ≡ true)
            more (inl k) = inl k
            more (inr k) = inr (ap (is_in x) s.1 ∙ in_tail x e.left (e.right ∷ s.0) k)

not-true : (b : Bool) → (b ≡ true → ⊥) → b ≡ false
not-true true n = absurd (n refl)
not-true false n = refl

clash : {X : Type 0} (b : Bool) → b ≡ true → b ≡ false → X
clash true p q = absurd cc
clash false p q = absurd cc

pub lefts-once : (es : List Breakpoint) (a b : List ℕ) → own_of A es ≡ breakpoints_of A a → own_of B es ≡ breakpoints_of B b → IsOnce a → IsOnce b → AreLess a b → IsOnce (lefts es)
lefts-once [] a b p q oa ob less = tt
lefts-once (e ∷ es) a b p q oa ob less = at e.half refl (λ a' b' p' q' oa' ob' less'. lefts-once es a' b' p' q' oa' ob' less')
  where
    at : (g : Half) → e.half ≡ g → ((a' b' : List ℕ) → own_of A es ≡ breakpoints_of A a' → own_of B es ≡ breakpoints_of B b' → IsOnce a' → IsOnce b' → AreLess a' b' → IsOnce (lefts es)) → IsOnce (lefts (e ∷ es))
    at A is once_behind =
        let own : e ∷ own_of A es ≡ breakpoints_of A a = sym (ap (λ (g : Half). cond (is_of A g) (e ∷ own_of A es) (own_of A es)) is) ∙ p in
        let rest : own_of B es ≡ breakpoints_of B b = sym (ap (λ (g : Half). cond (is_of B g) (e ∷ own_of B es) (own_of B es)) is) ∙ q in
        let s = split-own A a e (own_of A es) own in
        let once = subst IsOnce s.1 oa in
        let in_a : is_in e.left a ≡ true = ap (is_in e.left) s.1 ∙ in_head e.left (e.right ∷ s.0) in
        let tail : (i : ℕ) → IsIn i (e.right ∷ s.0) → IsIn i a = λ i h. subst (λ (l : List ℕ). is_in i l ≡ true) (sym s.1) (in_tail i e.left (e.right ∷ s.0) h) in
        (not-true (is_in e.left (lefts es)) (λ h. no (e.right ∷ s.0) (lefts-within es (e.right ∷ s.0) b e.left s.2 rest h) once.0 in_a), once_behind (e.right ∷ s.0) b s.2 rest once.1 ob (λ i j h k. less i j (tail i h) k))
      where
        no : (t : List ℕ) → (is_in e.left t ≡ true) ⊎ (is_in e.left b ≡ true) → is_in e.left t ≡ false → is_in e.left a ≡ true → ⊥
        no t (inl h) n m = clash (is_in e.left t) h n
        no t (inr h) n m = let l = less e.left e.left m h in omega arith
    at B is once_behind =
        let own : e ∷ own_of B es ≡ breakpoints_of B b = sym (ap (λ (g : Half). cond (is_of B g) (e ∷ own_of B es) (own_of B es)) is) ∙ q in
        let rest : own_of A es ≡ breakpoints_of A a = sym (ap (λ (g : Half). cond (is_of A g) (e ∷ own_of A es) (own_of A es)) is) ∙ p in
        let s = split-own B b e (own_of B es) own in
        let once = subst IsOnce s.1 ob in
        let in_b : is_in e.left b ≡ true = ap (is_in e.left) s.1 ∙ in_head e.left (e.right ∷ s.0) in
        let tail : (i : ℕ) → IsIn i (e.right ∷ s.0) → IsIn i b = λ i h. subst (λ (l : List ℕ). is_in i l ≡ true) (sym s.1) (in_tail i e.left (e.right ∷ s.0) h) in
        (not-true (is_in e.left (lefts es)) (λ h. no (e.right ∷ s.0) (lefts-within es a (e.right ∷ s.0) e.left rest s.2 h) once.0 in_b), once_behind a (e.right ∷ s.0) rest s.2 oa once.1 (λ i j h k. less i j h (tail j k)))
      where
        no : (t : List ℕ) → (is_in e.left a ≡ true) ⊎ (is_in e.left t ≡ true) → is_in e.left t ≡ false → is_in e.left b ≡ true → ⊥
        no t (inl h) n m = let l = less e.left e.left h m in omega arith
        no t (inr h) n m = clash (is_in e.left t) h n

-- ---- filled in
pub filled-none : (s : Scene) (a b : ℕ) (all : List Draft) (rs : List Record) (steps : ℕ) → rs ≡ [] → AreFit s all → IsIn a s.live → IsIn b s.live → IsFilled s a b all a b all rs steps steps
filled-none s a b all rs steps none fit la lb = record {
  whole = λ qs p n. subst (λ (l : List Record). AreNoted s a b (l ++ qs)) (sym none) n;
  places = ap (λ (l : List Record). breakpoints l ++ spots all) none;
  fit = fit;
  a_live = la;
  b_live = lb;
  cost = refl;
}

pub filled-new : (s : Scene) (a0 b0 : ℕ) (all : List Draft) (a b : ℕ) (d : Draft) (rest : List Draft) (rs : List Record) (before steps : ℕ) → IsOnce (lefts (spots all)) → IsFilled s a0 b0 all a b (d ∷ rest) rs before steps → is_in d.at.left (left_points rs) ≡ false
filled-new s a0 b0 all a b d rest rs before steps once f =
    let e : lefts (spots all) ≡ left_points rs ++ d.at.left ∷ lefts (spots rest) =
    ap lefts (sym f.places) ∙ map-append (λ (e : Breakpoint). e.left) (breakpoints rs) (spots (d ∷ rest)) ∙ ap (λ (l : List ℕ). l ++ d.at.left ∷ lefts (spots rest)) (sym (lefts-are rs)) in
    once-front (left_points rs) d.at.left (lefts (spots rest)) (subst IsOnce e once)

pub filled-more : (s : Scene) (a0 b0 : ℕ) (all : List Draft) (a b : ℕ) (d : Draft) (rest : List Draft) (rs : List Record) (before steps steps' : ℕ) (r : Record) (a' b' : ℕ)
    → r.at ≡ d.at → IsNoted s a b r (first_of (spots rest)) → steps' ≡ steps + cond (is_told d (other_current (half_at d) a b)) 0 1 + gap_to d rest → a' ≡ current_after A (seen d.at) a → b' ≡ current_after B (seen d.at) b
    → IsFilled s a0 b0 all a b (d ∷ rest) rs before steps → IsFilled s a0 b0 all a' b' rest (rs ++ r ∷ []) before steps'
filled-more s a0 b0 all a b d rest rs before steps steps' r a' b' at noted count ea eb f = record {
  whole = λ qs p n. subst (λ (l : List Record). AreNoted s a0 b0 l) (sym (append_assoc rs (r ∷ []) qs))
      (f.whole (r ∷ qs) (ap₂ (λ (x : Breakpoint) (l : List Breakpoint). x ∷ l) (ap seen at) p) (subst (λ (o : Option Breakpoint). IsNoted s a b r o) (ap first_of (sym p)) noted, after qs n));
  places = ap (λ (l : List Breakpoint). l ++ spots rest) (map-append place_of rs (r ∷ [])) ∙ append_assoc (breakpoints rs) (place_of r ∷ []) (spots rest) ∙ ap (λ (x : Breakpoint). breakpoints rs ++ x ∷ spots rest) (ap seen at) ∙ f.places;
  fit = f.fit.1;
  a_live = subst (λ (n : ℕ). IsIn n s.live) (sym ea) (live-after (is_of A (half_at d)) a f.a_live);
  b_live = subst (λ (n : ℕ). IsIn n s.live) (sym eb) (live-after (is_of B (half_at d)) b f.b_live);
  cost =
      let c = f.cost in
      let g = gaps-cons d rest in
      let m = ap₂ (λ (x y : ℕ). missing_turns x y rest) ea eb in
      omega (arith, c, g, m, count);
}
  where
    live-after : (b : Bool) (p : ℕ) → IsIn p s.live → IsIn (cond b d.at.right p) s.live
    live-after true p l = f.fit.0.right
    live-after false p l = l

    after : (qs : List Record) → AreNoted s a' b' qs → AreNoted s (current_after A (place_of r) a) (current_after B (place_of r) b) qs
    after qs n = subst (λ (x : ℕ). AreNoted s x (current_after B (place_of r) b) qs) (ea ∙ ap (λ (e : Breakpoint). current_after A e a) (ap seen (sym at)))
        (subst (λ (x : ℕ). AreNoted s a' x qs) (eb ∙ ap (λ (e : Breakpoint). current_after B e b) (ap seen (sym at))) n)

pub filled-end : (s : Scene) (a0 b0 : ℕ) (all : List Draft) (a b : ℕ) (rest : List Draft) (rs : List Record) (before steps : ℕ) → rest ≡ [] → IsFilled s a0 b0 all a b rest rs before steps
    → AreNoted s a0 b0 rs × (breakpoints rs ≡ spots all) × (steps ≡ before + (missing_turns a0 b0 all + gaps all))
filled-end s a0 b0 all a b rest rs before steps none f = (
  subst (λ (l : List Record). AreNoted s a0 b0 l) (append-nil rs) (f.whole [] (sym (ap spots none)) tt),
  sym (append-nil (breakpoints rs)) ∙ ap (λ (l : List Breakpoint). breakpoints rs ++ l) (sym (ap spots none)) ∙ f.places,
  (let c = f.cost in let m = ap (λ (l : List Draft). missing_turns a b l + gaps l) none in omega (arith, c, m)),
)
