-- Of which half each number of a merge's fact is.
use Rattle.std.proofs.Common.{◌≡◌, ◌⊎◌, inl, inr, refl, sym, ap, ◌∙◌, subst, arith, List, [], ◌∷◌, ◌++◌, ℕ, ◌<◌, Bool, true, false, cond, length, pos, ℤ, Option, Some, None, option_map, Contains}
use Rattle.std.proofs.lemmas.Option.{same_Some}
use Rattle.kin_algebra.specs.declared.sign.Sign.{Sign}
use Rattle.kin_algebra.proofs.Members.{contains_none, contains_head, contains_tail, contains_cases}
use Rattle.kin_motion.specs.declared.form.Form.{Form}
use Rattle.kin_motion.specs.declared.form.Form.TheVariants.{Line, Turn, Slope, Dist}
use Rattle.kin_motion.specs.declared.fact.Fact.{Fact}
use Rattle.kin_motion.specs.Forms.{numbers_of, names}
use Rattle.kin_motion.specs.Merges.{Half.{A, B}, Half, Breakpoint, is_of, other, point_of, own_of, breakpoints_of, slope_form, last_of, current_after, IsInterleaving}
use Rattle.kin_motion.specs.Numbers.{is_in, IsIn}
use Rattle.kin_motion.specs.Scene.{Scene}
use Rattle.kin_motion.proofs.Members.{in_head, in_cases, in_either}
use Rattle.kin_motion.proofs.SetLaws.{contains_map, contains_mapped, filter-complete}
use Rattle.kin_chain.specs.Supports.{list_of}
use Rattle.kin_chain.proofs.MergedChain.{ends_in}
use Rattle.kin_overlay.specs.declared.record.Record.{Record}
use Rattle.kin_overlay.specs.declared.record.Next.{Next}
use Rattle.kin_overlay.specs.declared.end.End.{End}
use Rattle.kin_overlay.specs.Fingers.{AreLess, seen_next, next_for, AreNoted, IsMerged, end_at, right_end}
use Rattle.kin_overlay.specs.Lists.{first_of, front, behind}
use Rattle.kin_overlay.specs.Remembered.{Remembered, place_of, breakpoints, turn_fact, slope_facts_of, slope_facts, y_facts, end_facts, facts_of}
use Rattle.kin_overlay.specs.Repairing.{IsStill}
use Rattle.kin_overlay.specs.Seen.{seen}
use Rattle.kin_overlay.proofs.HalfLaws.{itself, other_half}
use Rattle.kin_overlay.proofs.HasLaws.{Kinds, kinds, of-record}
use Rattle.kin_overlay.proofs.MergedLaws.{last_is, last_live}

-- ---- the numbers of a form
-- those of the one half, and those of the other
abbrev pub firsts : Form → List ℕ
firsts (Line dx dy off i j) = i ∷ []
firsts (Turn i j k) = i ∷ j ∷ []
firsts (Slope i j k l) = i ∷ j ∷ []
firsts (Dist i j k l) = i ∷ j ∷ []

abbrev pub seconds : Form → List ℕ
seconds (Line dx dy off i j) = j ∷ []
seconds (Turn i j k) = k ∷ []
seconds (Slope i j k l) = k ∷ l ∷ []
seconds (Dist i j k l) = k ∷ l ∷ []

-- all are in the list
abbrev pub AreIn : List ℕ → List ℕ → Type 0
AreIn xs [] = Unit {0}
AreIn xs (i ∷ is) = IsIn i xs × AreIn xs is

-- the first numbers are of the half, and the others of the other one
abbrev pub IsBetween : List ℕ → List ℕ → Half → Form → Type 0
IsBetween a b h f = AreIn (list_of h a b) (firsts f) × AreIn (list_of (other h) a b) (seconds f)

all-in : (xs is : List ℕ) (x : ℕ) → AreIn xs is → IsIn x is → IsIn x xs
all-in xs [] x p h = absurd cc
all-in xs (i ∷ is) x p h = at (in_cases x i is h) (all-in xs is x p.1)
  where
    at : (x ≡ i) ⊎ IsIn x is → (IsIn x is → IsIn x xs) → IsIn x xs
    at (inl e) rest = subst (λ (n : ℕ). IsIn n xs) (sym e) p.0
    at (inr k) rest = rest k

split-numbers : (f : Form) → numbers_of f ≡ firsts f ++ seconds f
split-numbers (Line dx dy off i j) = refl
split-numbers (Turn i j k) = refl
split-numbers (Slope i j k l) = refl
split-numbers (Dist i j k l) = refl

-- a number of each half
some-of : (xs ys : List ℕ) (f : Form) → AreIn xs (firsts f) → AreIn ys (seconds f) → (i j : ℕ) × IsIn i (firsts f) × IsIn j (seconds f)
some-of xs ys (Line dx dy off i j) p q = (i, j, in_head i [], in_head j [])
some-of xs ys (Turn i j k) p q = (i, k, in_head i (j ∷ []), in_head k [])
some-of xs ys (Slope i j k l) p q = (i, k, in_head i (j ∷ []), in_head k (l ∷ []))
some-of xs ys (Dist i j k l) p q = (i, k, in_head i (j ∷ []), in_head k (l ∷ []))

-- ---- the same form in two merges
module _ (a b a' b' : List ℕ) (less : AreLess a b) (less' : AreLess a' b') (f : Form) where
  pub same-half : (h g : Half) → IsBetween a b h f → IsBetween a' b' g f → h ≡ g
  same-half A A p q = refl
  same-half B B p q = refl
  same-half A B p q =
      let w = some-of a b f p.0 p.1 in
      let l = less w.0 w.1 (all-in a (firsts f) w.0 p.0 w.2) (all-in b (seconds f) w.1 p.1 w.3) in
      let m = less' w.1 w.0 (all-in a' (seconds f) w.1 q.1 w.3) (all-in b' (firsts f) w.0 q.0 w.2) in
      absurd (omega (arith, l, m))
  same-half B A p q =
      let w = some-of b a f p.0 p.1 in
      let l = less w.1 w.0 (all-in a (seconds f) w.1 p.1 w.3) (all-in b (firsts f) w.0 p.0 w.2) in
      let m = less' w.0 w.1 (all-in a' (firsts f) w.0 q.0 w.2) (all-in b' (seconds f) w.1 q.1 w.3) in
      absurd (omega (arith, l, m))

  -- each of its numbers is of the same half in both
  pub each-number : (h g : Half) → IsBetween a b h f → IsBetween a' b' g f → (x : ℕ) → names f x ≡ true → (IsIn x a × IsIn x a') ⊎ (IsIn x b × IsIn x b')
  each-number h g p q x named = here h p (subst (λ (k : Half). IsBetween a' b' k f) (sym (same-half h g p q)) q) (in_either x (firsts f) (seconds f) (ap (λ (l : List ℕ). is_in x l) (sym (split-numbers f)) ∙ named))
    where
      here : (k : Half) → IsBetween a b k f → IsBetween a' b' k f → IsIn x (firsts f) ⊎ IsIn x (seconds f) → (IsIn x a × IsIn x a') ⊎ (IsIn x b × IsIn x b')
      here A p q (inl i) = inl (all-in a (firsts f) x p.0 i, all-in a' (firsts f) x q.0 i)
      here A p q (inr i) = inr (all-in b (seconds f) x p.1 i, all-in b' (seconds f) x q.1 i)
      here B p q (inl i) = inr (all-in b (firsts f) x p.0 i, all-in b' (firsts f) x q.0 i)
      here B p q (inr i) = inl (all-in a (seconds f) x p.1 i, all-in a' (seconds f) x q.1 i)

-- ---- the breakpoints of a merge
own-has : (h : Half) (es : List Breakpoint) (e : Breakpoint) → Contains es e → e.half ≡ h → Contains (own_of h es) e
own-has h es e c q = filter-complete (λ (f : Breakpoint). is_of h f.half) es e c (ap (is_of h) q ∙ itself h)

first-in : (es : List Breakpoint) (e : Breakpoint) → first_of es ≡ Some e → Contains es e
first-in [] e q = absurd cc
first-in (f ∷ es) e q = subst (λ (g : Breakpoint). Contains (f ∷ es) g) (same_Some f e q) (contains_head f es)

module _ (a b : List ℕ) where
  -- each breakpoint of the list is one of its chain
  pub still : (es : List Breakpoint) → IsInterleaving a b es → (e : Breakpoint) → Contains es e → IsStill a b e
  still es i e c = at e.half refl
    where
      at : (h : Half) → e.half ≡ h → IsStill a b e
      at A q = subst (λ (h : Half). Contains (breakpoints_of h (list_of h a b)) e) (sym q) (subst (λ (l : List Breakpoint). Contains l e) i.of_a (own-has A es e c q))
      at B q = subst (λ (h : Half). Contains (breakpoints_of h (list_of h a b)) e) (sym q) (subst (λ (l : List Breakpoint). Contains l e) i.of_b (own-has B es e c q))

  point-in : (h : Half) (x y : ℕ) → IsIn x a → IsIn y b → IsIn (point_of h x y) (list_of h a b)
  point-in A x y p q = p
  point-in B x y p q = q

  -- what is current after a breakpoint
  after-in : (e : Breakpoint) (x y : ℕ) → IsStill a b e → IsIn x a → IsIn y b → IsIn (current_after A e x) a × IsIn (current_after B e y) b
  after-in e x y s p q = at e.half refl (ends_in e.half (list_of e.half a b) e s).1
    where
      at : (h : Half) → e.half ≡ h → IsIn e.right (list_of e.half a b) → IsIn (current_after A e x) a × IsIn (current_after B e y) b
      at A is r = (
        subst (λ (n : ℕ). IsIn n a) (sym (ap (λ (h : Half). cond (is_of A h) e.right x) is)) (subst (λ (h : Half). IsIn e.right (list_of h a b)) is r),
        subst (λ (n : ℕ). IsIn n b) (sym (ap (λ (h : Half). cond (is_of B h) e.right y) is)) q,
      )
      at B is r = (
        subst (λ (n : ℕ). IsIn n a) (sym (ap (λ (h : Half). cond (is_of A h) e.right x) is)) p,
        subst (λ (n : ℕ). IsIn n b) (sym (ap (λ (h : Half). cond (is_of B h) e.right y) is)) (subst (λ (h : Half). IsIn e.right (list_of h a b)) is r),
      )

-- ---- the next breakpoint of a record
-- it is the one that comes next, and of the other half
pub next-is : (s : Scene) (e : Breakpoint) (o : Option Breakpoint) (n : Next) → Some (seen_next n) ≡ next_for s e o → (f : Breakpoint) × (o ≡ Some f) × (is_of e.half f.half ≡ false) × (seen n.at ≡ f)
next-is s e None n q = absurd cc
next-is s e (Some f) n q = at (is_of e.half f.half) refl
  where
    at : (b : Bool) → is_of e.half f.half ≡ b → (g : Breakpoint) × (Some f ≡ Some g) × (is_of e.half g.half ≡ false) × (seen n.at ≡ g)
    at true h = absurd (let clash : Some (seen_next n) ≡ None = q ∙ ap (λ (b : Bool). cond b None (Some (f, s.sign (slope_form e f)))) h in cc)
    at false h =
        let same = same_Some (seen_next n) (f, s.sign (slope_form e f)) (q ∙ ap (λ (b : Bool). cond b None (Some (f, s.sign (slope_form e f)))) h) in
        (f, refl, h, ap (λ (p : Breakpoint × Sign). p.0) same)

-- a slope fact is that of the record with its next breakpoint
pub slope-of : (e : Breakpoint) (o : Option Next) (f : Fact) → Contains (slope_facts_of e o) f → (n : Next) × (o ≡ Some n) × (record { form = slope_form e (seen n.at); sign = n.slope } ≡ f)
slope-of e None f c = absurd (contains_none f c)
slope-of e (Some n) f c = at (contains_cases (record { form = slope_form e (seen n.at); sign = n.slope }) f [] c)
  where
    at : (record { form = slope_form e (seen n.at); sign = n.slope } ≡ f) ⊎ Contains [] f → (m : Next) × (Some n ≡ Some m) × (record { form = slope_form e (seen m.at); sign = m.slope } ≡ f)
    at (inl q) = (n, refl, q)
    at (inr d) = absurd (contains_none f d)

-- a fact of an end names its points
end-names : (e : End) (f : Fact) → Contains (end_facts (Some e)) f → (dx dy : ℤ) × (Line dx dy (pos 0) e.a e.b ≡ f.form)
end-names e f c = at (contains_cases x_fact f (y_facts e.a e.b e.y) c)
  where
    x_fact : Fact
    x_fact = record { form = Line (pos 1) (pos 0) (pos 0) e.a e.b; sign = e.x }

    by-y : (y : Option Sign) → Contains (y_facts e.a e.b y) f → (dx dy : ℤ) × (Line dx dy (pos 0) e.a e.b ≡ f.form)
    by-y None d = absurd (contains_none f d)
    by-y (Some t) d = only (contains_cases (record { form = Line (pos 0) (pos 1) (pos 0) e.a e.b; sign = t }) f [] d)
      where
        only : (record { form = Line (pos 0) (pos 1) (pos 0) e.a e.b; sign = t } ≡ f) ⊎ Contains [] f → (dx dy : ℤ) × (Line dx dy (pos 0) e.a e.b ≡ f.form)
        only (inl q) = (pos 0, pos 1, ap (λ (g : Fact). g.form) q)
        only (inr k) = absurd (contains_none f k)

    at : (x_fact ≡ f) ⊎ Contains (y_facts e.a e.b e.y) f → (dx dy : ℤ) × (Line dx dy (pos 0) e.a e.b ≡ f.form)
    at (inl q) = (pos 1, pos 0, ap (λ (g : Fact). g.form) q)
    at (inr d) = by-y e.y d

-- ---- what is noted of a record
module _ (s : Scene) (a b : List ℕ) where
  -- its current point is of the other half, and its next breakpoint, too
  record IsKnown (es : List Breakpoint) (r : Record) : Type 0 where
    across : IsIn r.across (list_of (other (place_of r).half) a b)
    next : (n : Next) → r.next ≡ Some n → (is_of (place_of r).half (seen n.at).half ≡ false) × Contains es (seen n.at)

  known : (x y : ℕ) (rs : List Record) → AreNoted s x y rs → IsIn x a → IsIn y b → ((e : Breakpoint) → Contains (breakpoints rs) e → IsStill a b e) → (r : Record) → Contains rs r → IsKnown (breakpoints rs) r
  known x y [] n p q k r c = absurd (contains_none r c)
  known x y (t ∷ rs) n p q k r c =
      let both = after-in a b (place_of t) x y (k (place_of t) (contains_head (place_of t) (breakpoints rs))) p q in
      at (contains_cases t r rs c) (known (current_after A (place_of t) x) (current_after B (place_of t) y) rs n.1 both.0 both.1 (λ e d. k e (contains_tail (place_of t) e (breakpoints rs) d)) r)
    where
      here : IsKnown (breakpoints (t ∷ rs)) t
      here = record {
        across = subst (λ (i : ℕ). IsIn i (list_of (other (place_of t).half) a b)) (sym n.0.across) (point-in a b (other (place_of t).half) x y p q);
        next = λ m e.
            let w = next-is s (place_of t) (first_of (breakpoints rs)) m (ap (option_map seen_next) (sym e) ∙ n.0.next) in (
              ap (λ (f : Breakpoint). is_of (place_of t).half f.half) w.3 ∙ w.2,
              contains_tail (place_of t) (seen m.at) (breakpoints rs) (first-in (breakpoints rs) (seen m.at) (w.1 ∙ ap (λ (f : Breakpoint). Some f) (sym w.3))),
            );
      }

      at : (t ≡ r) ⊎ Contains rs r → (Contains rs r → IsKnown (breakpoints rs) r) → IsKnown (breakpoints (t ∷ rs)) r
      at (inl e) rest = subst (λ (z : Record). IsKnown (breakpoints (t ∷ rs)) z) e here
      at (inr d) rest =
          let w = rest d in
          record { across = w.across; next = λ m e. let v = w.next m e in (v.0, contains_tail (place_of t) (seen m.at) (breakpoints rs) v.1) }

-- ---- ends
front-in : (xs : List ℕ) → 0 < length xs → IsIn (front xs) xs
front-in [] l = absurd (omega arith)
front-in (x ∷ xs) l = in_head x xs

last-in : (xs : List ℕ) → 0 < length xs → IsIn (last_of (front xs) (behind xs)) xs
last-in xs l = subst (λ (n : ℕ). IsIn n xs) (last_is xs l) (last_live xs xs l (λ i h. h))

-- an end has a point of each half
end-between : (a b : List ℕ) (e : End) → IsIn e.a a → IsIn e.b b → (f : Fact) → Contains (end_facts (Some e)) f → IsBetween a b A f.form
end-between a b e p q f c = let w = end-names e f c in subst (IsBetween a b A) w.2 ((p, tt), (q, tt))

-- the right end is that of the last points, where it is another than the left one
right-ends : (s : Scene) (a b : List ℕ) (f : Fact) → 0 < length a → 0 < length b → Contains (end_facts (right_end s (front a) (behind a) (front b) (behind b))) f
    → Contains (end_facts (Some (end_at s (last_of (front a) (behind a)) (last_of (front b) (behind b))))) f
right-ends s [] b f l m c = absurd (omega arith)
right-ends s (x ∷ xs) [] f l m c = absurd (omega arith)
right-ends s (x ∷ []) (y ∷ []) f l m c = absurd (contains_none f c)
right-ends s (x ∷ []) (y ∷ z ∷ zs) f l m c = c
right-ends s (x ∷ w ∷ ws) (y ∷ ys) f l m c = c

-- ---- each fact is between the halves
module _ (s : Scene) (a b : List ℕ) (m : Remembered) (w : IsMerged s a b m) (a_some : 0 < length a) (b_some : 0 < length b) where
  pub record-still : (r : Record) → Contains m.records r → IsStill a b (place_of r)
  record-still r c = still a b (breakpoints m.records) w.interleaved (place_of r) (contains_map place_of m.records r c)

  known-at : (r : Record) → Contains m.records r → IsKnown s a b (breakpoints m.records) r
  known-at = known s a b (front a) (front b) m.records w.noted (front-in a a_some) (front-in b b_some) (still a b (breakpoints m.records) w.interleaved)

  pub turn-between : (r : Record) → Contains m.records r → IsBetween a b (place_of r).half (turn_fact r).form
  turn-between r c =
      let h = (place_of r).half in
      let both = ends_in h (list_of h a b) (place_of r) (record-still r c) in
      ((both.0, (both.1, tt)), ((known-at r c).across, tt))

  pub slope-between : (r : Record) (f : Fact) → Contains m.records r → Contains (slope_facts r) f → IsBetween a b (place_of r).half f.form
  slope-between r f c d =
      let v = slope-of (place_of r) r.next f d in
      let h = (place_of r).half in
      let n = (known-at r c).next v.0 v.1 in
      let g = (seen v.0.at).half in
      let both = ends_in h (list_of h a b) (place_of r) (record-still r c) in
      let others = ends_in g (list_of g a b) (seen v.0.at) (still a b (breakpoints m.records) w.interleaved (seen v.0.at) n.1) in
      let is : g ≡ other h = other_half h g n.0 in
      let to : (i : ℕ) → IsIn i (list_of g a b) → IsIn i (list_of (other h) a b) = λ i k. subst (λ (o : Half). IsIn i (list_of o a b)) is k in
      subst (λ (q : Fact). IsBetween a b h q.form) v.2 ((both.0, (both.1, tt)), (to v.0.at.left others.0, (to v.0.at.right others.1, tt)))

  -- each fact names numbers of both halves
  pub fact-between : (f : Fact) → Contains (facts_of m) f → (h : Half) × IsBetween a b h f.form
  fact-between f c = at (kinds m f c)
    where
      at : Kinds m f → (h : Half) × IsBetween a b h f.form
      at (inl (inl d)) =
          let v = contains_mapped turn_fact m.records f d in
          ((place_of v.0).half, subst (λ (q : Fact). IsBetween a b (place_of v.0).half q.form) (sym v.2) (turn-between v.0 v.1))
      at (inl (inr d)) = let v = of-record m.records f d in ((place_of v.0).half, slope-between v.0 f v.1 v.2)
      at (inr (inl d)) = (A, end-between a b (end_at s (front a) (front b)) (front-in a a_some) (front-in b b_some) f (subst (λ (o : Option End). Contains (end_facts o) f) w.left d))
      at (inr (inr d)) = (
        A,
        end-between a b (end_at s (last_of (front a) (behind a)) (last_of (front b) (behind b))) (last-in a a_some) (last-in b b_some) f
            (right-ends s a b f a_some b_some (subst (λ (o : Option End). Contains (end_facts o) f) w.right d)),
      )
