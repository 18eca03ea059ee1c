-- No form of a merge stands twice, and the computed forms are those of the merge.
use Rattle.std.proofs.Common.{◌≡◌, ◌⊎◌, inl, inr, sym, ap, ◌∙◌, subst, List, [], ◌∷◌, ◌++◌, ℕ, Bool, true, false, cond, map, ℤ, pos}
use Rattle.std.specs.Prelude.{Contains}
use Rattle.std.proofs.lemmas.List.Elements.{Contains-append_cases}
use Rattle.kin_algebra.proofs.Members.{contains_none, contains_head, contains_tail, contains_cases}
use Rattle.kin_motion.specs.declared.form.Form.{Form}
use Rattle.kin_motion.specs.declared.form.Form.TheVariants.{Line, Turn, Slope, Dist}
use Rattle.kin_motion.specs.Numbers.{is_in, IsIn, IsOnce}
use Rattle.kin_motion.specs.Sets.{AreDistinct}
use Rattle.kin_motion.specs.Scene.{Scene, x_sign}
use Rattle.kin_motion.specs.Chains.{is_zero}
use Rattle.kin_motion.specs.Merges.{Half.{A, B}, Breakpoint, is_of, slope_form, current_after, other_current, turns_from, slope_between, slopes_from, end_forms, last_of, forms_of_ends}
use Rattle.kin_motion.proofs.SetLaws.{distinct_none, distinct_cons, distinct_head, distinct_tail, distinct_append}
use Rattle.kin_motion.proofs.Members.{in_head, in_tail}

-- ---- the left points of a list of breakpoints
unfoldable pub lefts : List Breakpoint → List ℕ
lefts es = map (λ (e : Breakpoint). e.left) es

-- the number that a turn or a slope names first
pub first_number : Form → ℕ
first_number (Line dx dy off i j) = 0
first_number (Turn i j k) = i
first_number (Slope i j k l) = i
first_number (Dist i j k l) = 0

pub kind : Form → ℕ
kind (Line dx dy off i j) = 0
kind (Turn i j k) = 1
kind (Slope i j k l) = 2
kind (Dist i j k l) = 3

pub turn_first : (a b : ℕ) (es : List Breakpoint) (f : Form) → Contains (turns_from a b es) f → Contains (lefts es) (first_number f) × (kind f ≡ 1)
unfolding lefts first_number kind
turn_first a b [] f c = absurd (contains_none f c)
turn_first a b (e ∷ es) f c = at (contains_cases (Turn e.left e.right (other_current e.half a b)) f (turns_from (current_after A e a) (current_after B e b) es) c) (turn_first (current_after A e a) (current_after B e b) es f)
  where
    at : (Turn e.left e.right (other_current e.half a b) ≡ f) ⊎ Contains (turns_from (current_after A e a) (current_after B e b) es) f
        → (Contains (turns_from (current_after A e a) (current_after B e b) es) f → Contains (lefts es) (first_number f) × (kind f ≡ 1)) → Contains (lefts (e ∷ es)) (first_number f) × (kind f ≡ 1)
    at (inl q) rest = (subst (λ n. Contains (lefts (e ∷ es)) n) (ap first_number q) (contains_head e.left (lefts es)), sym (ap kind q))
    at (inr k) rest = let r = rest k in (contains_tail e.left (first_number f) (lefts es) r.0, r.1)

pub turns_distinct : (a b : ℕ) (es : List Breakpoint) → AreDistinct (lefts es) → AreDistinct (turns_from a b es)
unfolding lefts first_number
turns_distinct a b [] d = distinct_none
turns_distinct a b (e ∷ es) d =
    distinct_cons (Turn e.left e.right (other_current e.half a b)) (turns_from (current_after A e a) (current_after B e b) es)
    (λ c. distinct_head e.left (lefts es) d (turn_first (current_after A e a) (current_after B e b) es (Turn e.left e.right (other_current e.half a b)) c).0)
    (turns_distinct (current_after A e a) (current_after B e b) es (distinct_tail e.left (lefts es) d))

between_first : (e f : Breakpoint) (g : Form) → Contains (slope_between e f) g → (first_number g ≡ e.left) × (kind g ≡ 2)
unfolding first_number kind
between_first e f g c = at (is_of e.half f.half) c
  where
    at : (b : Bool) → Contains (cond b [] (slope_form e f ∷ [])) g → (first_number g ≡ e.left) × (kind g ≡ 2)
    at true c = absurd (contains_none g c)
    at false c = only (contains_cases (slope_form e f) g [] c)
      where
        only : (slope_form e f ≡ g) ⊎ Contains [] g → (first_number g ≡ e.left) × (kind g ≡ 2)
        only (inl q) = (sym (ap first_number q), sym (ap kind q))
        only (inr k) = absurd (contains_none g k)

between_distinct : (e f : Breakpoint) → AreDistinct (slope_between e f)
between_distinct e f = at (is_of e.half f.half)
  where
    at : (b : Bool) → AreDistinct (cond b [] (slope_form e f ∷ []))
    at true = distinct_none
    at false = distinct_cons (slope_form e f) [] (contains_none (slope_form e f)) distinct_none

pub slope_first : (es : List Breakpoint) (g : Form) → Contains (slopes_from es) g → Contains (lefts es) (first_number g) × (kind g ≡ 2)
unfolding lefts
slope_first [] g c = absurd (contains_none g c)
slope_first (e ∷ []) g c = absurd (contains_none g c)
slope_first (e ∷ f ∷ es) g c = at (Contains-append_cases (slope_between e f) (slopes_from (f ∷ es)) g c) (slope_first (f ∷ es) g)
  where
    at : Contains (slope_between e f) g ⊎ Contains (slopes_from (f ∷ es)) g → (Contains (slopes_from (f ∷ es)) g → Contains (lefts (f ∷ es)) (first_number g) × (kind g ≡ 2)) → Contains (lefts (e ∷ f ∷ es)) (first_number g) × (kind g ≡ 2)
    at (inl k) rest = let r = between_first e f g k in (subst (λ n. Contains (lefts (e ∷ f ∷ es)) n) (sym r.0) (contains_head e.left (lefts (f ∷ es))), r.1)
    at (inr k) rest = let r = rest k in (contains_tail e.left (first_number g) (lefts (f ∷ es)) r.0, r.1)

pub slopes_distinct : (es : List Breakpoint) → AreDistinct (lefts es) → AreDistinct (slopes_from es)
unfolding lefts
slopes_distinct [] d = distinct_none
slopes_distinct (e ∷ []) d = distinct_none
slopes_distinct (e ∷ f ∷ es) d =
    distinct_append (slope_between e f) (slopes_from (f ∷ es)) (between_distinct e f) (slopes_distinct (f ∷ es) (distinct_tail e.left (lefts (f ∷ es)) d))
    (λ g c k. distinct_head e.left (lefts (f ∷ es)) d (subst (λ n. Contains (lefts (f ∷ es)) n) (between_first e f g c).0 (slope_first (f ∷ es) g k).0))

-- ---- the outer ends
pub last_in : (p : ℕ) (ps : List ℕ) → IsIn (last_of p ps) (p ∷ ps)
last_in p [] = in_head p []
last_in p (q ∷ ps) = in_tail (last_of q ps) p (q ∷ ps) (last_in q ps)

module _ (s : Scene) where
  abbrev by_x : ℕ → ℕ → Form
  by_x a b = Line (pos 1) (pos 0) (pos 0) a b

  abbrev by_y : ℕ → ℕ → Form
  by_y a b = Line (pos 0) (pos 1) (pos 0) a b

  end_cases : (a b : ℕ) (f : Form) → Contains (end_forms s a b) f → (by_x a b ≡ f) ⊎ (by_y a b ≡ f)
  end_cases a b f c = at (contains_cases (by_x a b) f (cond (is_zero (x_sign s a b)) (by_y a b ∷ []) []) c)
    where
      other : (t : Bool) → Contains (cond t (by_y a b ∷ []) []) f → by_y a b ≡ f
      other false k = absurd (contains_none f k)
      other true k = only (contains_cases (by_y a b) f [] k)
        where
          only : (by_y a b ≡ f) ⊎ Contains [] f → by_y a b ≡ f
          only (inl q) = q
          only (inr l) = absurd (contains_none f l)

      at : (by_x a b ≡ f) ⊎ Contains (cond (is_zero (x_sign s a b)) (by_y a b ∷ []) []) f → (by_x a b ≡ f) ⊎ (by_y a b ≡ f)
      at (inl q) = inl q
      at (inr k) = inr (other (is_zero (x_sign s a b)) k)

  -- the numbers that a line names
  line_i : Form → ℕ
  line_i (Line dx dy off i j) = i
  line_i (Turn i j k) = 0
  line_i (Slope i j k l) = 0
  line_i (Dist i j k l) = 0

  line_j : Form → ℕ
  line_j (Line dx dy off i j) = j
  line_j (Turn i j k) = 0
  line_j (Slope i j k l) = 0
  line_j (Dist i j k l) = 0

  line_dx : Form → ℤ
  line_dx (Line dx dy off i j) = dx
  line_dx (Turn i j k) = pos 0
  line_dx (Slope i j k l) = pos 0
  line_dx (Dist i j k l) = pos 0

  end_names : (a b : ℕ) (f : Form) → Contains (end_forms s a b) f → (line_i f ≡ a) × (line_j f ≡ b) × (kind f ≡ 0)
  unfolding line_i line_j kind
  end_names a b f c = at (end_cases a b f c)
    where
      at : (by_x a b ≡ f) ⊎ (by_y a b ≡ f) → (line_i f ≡ a) × (line_j f ≡ b) × (kind f ≡ 0)
      at (inl q) = (sym (ap line_i q), sym (ap line_j q), sym (ap kind q))
      at (inr q) = (sym (ap line_i q), sym (ap line_j q), sym (ap kind q))

  end_distinct : (a b : ℕ) → AreDistinct (end_forms s a b)
  unfolding line_dx
  end_distinct a b = distinct_cons (by_x a b) (cond (is_zero (x_sign s a b)) (by_y a b ∷ []) []) (λ c. no (is_zero (x_sign s a b)) c) (rest (is_zero (x_sign s a b)))
    where
      no : (t : Bool) → Contains (cond t (by_y a b ∷ []) []) (by_x a b) → ⊥
      no false c = contains_none (by_x a b) c
      no true c = only (contains_cases (by_y a b) (by_x a b) [] c)
        where
          only : (by_y a b ≡ by_x a b) ⊎ Contains [] (by_x a b) → ⊥
          only (inl q) = let e : pos 0 ≡ pos 1 = ap line_dx q in absurd cc
          only (inr k) = contains_none (by_x a b) k

      rest : (t : Bool) → AreDistinct (cond t (by_y a b ∷ []) [])
      rest false = distinct_none
      rest true = distinct_cons (by_y a b) [] (contains_none (by_y a b)) distinct_none

  two_ends : (a b c e : ℕ) → (a ≡ c → b ≡ e → ⊥) → AreDistinct (end_forms s a b ++ end_forms s c e)
  two_ends a b c e n =
      distinct_append (end_forms s a b) (end_forms s c e) (end_distinct a b) (end_distinct c e)
      (λ f h k. let p = end_names a b f h in let q = end_names c e f k in n (sym p.0 ∙ q.0) (sym p.1 ∙ q.1))

  -- the last of two or more is another than the first
  last_other : (p q : ℕ) (ps : List ℕ) → IsOnce (p ∷ q ∷ ps) → p ≡ last_of q ps → ⊥
  last_other p q ps o e = let f : is_in p (q ∷ ps) ≡ true = ap (λ n. is_in n (q ∷ ps)) e ∙ last_in q ps in let g : true ≡ false = sym f ∙ o.0 in absurd cc

  pub ends_distinct : (a : ℕ) (as' : List ℕ) (b : ℕ) (bs : List ℕ) → IsOnce (a ∷ as') → IsOnce (b ∷ bs) → AreDistinct (forms_of_ends s a as' b bs)
  ends_distinct a [] b [] oa ob = end_distinct a b
  ends_distinct a [] b (q ∷ bs) oa ob = two_ends a b a (last_of q bs) (λ e f. last_other b q bs ob f)
  ends_distinct a (p ∷ as') b [] oa ob = two_ends a b (last_of p as') b (λ e f. last_other a p as' oa e)
  ends_distinct a (p ∷ as') b (q ∷ bs) oa ob = two_ends a b (last_of p as') (last_of q bs) (λ e f. last_other a p as' oa e)

  pub ends_kind : (a : ℕ) (as' : List ℕ) (b : ℕ) (bs : List ℕ) (f : Form) → Contains (forms_of_ends s a as' b bs) f → kind f ≡ 0
  ends_kind a [] b [] f c = (end_names a b f c).2
  ends_kind a [] b (q ∷ bs) f c = two (Contains-append_cases (end_forms s a b) (end_forms s a (last_of q bs)) f c)
    where
      two : Contains (end_forms s a b) f ⊎ Contains (end_forms s a (last_of q bs)) f → kind f ≡ 0
      two (inl k) = (end_names a b f k).2
      two (inr k) = (end_names a (last_of q bs) f k).2
  ends_kind a (p ∷ as') b [] f c = two (Contains-append_cases (end_forms s a b) (end_forms s (last_of p as') b) f c)
    where
      two : Contains (end_forms s a b) f ⊎ Contains (end_forms s (last_of p as') b) f → kind f ≡ 0
      two (inl k) = (end_names a b f k).2
      two (inr k) = (end_names (last_of p as') b f k).2
  ends_kind a (p ∷ as') b (q ∷ bs) f c = two (Contains-append_cases (end_forms s a b) (end_forms s (last_of p as') (last_of q bs)) f c)
    where
      two : Contains (end_forms s a b) f ⊎ Contains (end_forms s (last_of p as') (last_of q bs)) f → kind f ≡ 0
      two (inl k) = (end_names a b f k).2
      two (inr k) = (end_names (last_of p as') (last_of q bs) f k).2
