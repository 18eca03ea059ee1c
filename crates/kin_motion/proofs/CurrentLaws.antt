-- The computed turns and forms of a merge are those of its definition.
use Rattle.std.proofs.Common.{◌≡◌, ◌⊎◌, inl, inr, refl, sym, ap, ◌∙◌, subst, List, [], ◌∷◌, ◌++◌, ℕ, Bool, true, false, cond}
use Rattle.std.specs.Prelude.{Contains, ◌↔◌}
use Rattle.std.proofs.lemmas.List.Elements.{Contains-append_left, Contains-append_right, Contains-append_cases}
use Rattle.kin_algebra.proofs.Members.{contains_none, contains_head, contains_tail, contains_cases}
use Rattle.kin_motion.specs.declared.form.Form.{Form}
use Rattle.kin_motion.specs.declared.form.Form.TheVariants.{Turn}
use Rattle.kin_motion.specs.Scene.{Scene}
use Rattle.kin_motion.specs.Merges.{Half, Half.{A, B}, Breakpoint, is_of, own_of, IsCurrent, other, point_of, current_after, other_current, IsTurnForm, turns_from, slopes_from, forms_of_ends, IsListedForm, forms_of_merge}

-- ---- the current point behind one more breakpoint
current_behind : (h : Half) (e : Breakpoint) (first : ℕ) (es : List Breakpoint) (p : ℕ) → IsCurrent h (current_after h e first) es p → IsCurrent h first (e ∷ es) p
current_behind h e first es p c = at (is_of h e.half) c
  where
    at : (b : Bool) → ((own_of h es ≡ []) × (p ≡ cond b e.right first)) ⊎ ((ds : List Breakpoint) × (d : Breakpoint) × (own_of h es ≡ ds ++ d ∷ []) × (p ≡ d.right))
        → ((cond b (e ∷ own_of h es) (own_of h es) ≡ []) × (p ≡ first)) ⊎ ((ds : List Breakpoint) × (d : Breakpoint) × (cond b (e ∷ own_of h es) (own_of h es) ≡ ds ++ d ∷ []) × (p ≡ d.right))
    at true (inl c) = inr ([], e, ap (λ (fs : List Breakpoint). e ∷ fs) c.0, c.1)
    at true (inr (ds, d, q, r)) = inr (e ∷ ds, d, ap (λ (fs : List Breakpoint). e ∷ fs) q, r)
    at false c = c

pub current_before : (h : Half) (e : Breakpoint) (first : ℕ) (es : List Breakpoint) (p : ℕ) → IsCurrent h first (e ∷ es) p → IsCurrent h (current_after h e first) es p
current_before h e first es p c = at (is_of h e.half) c
  where
    at : (b : Bool) → ((cond b (e ∷ own_of h es) (own_of h es) ≡ []) × (p ≡ first)) ⊎ ((ds : List Breakpoint) × (d : Breakpoint) × (cond b (e ∷ own_of h es) (own_of h es) ≡ ds ++ d ∷ []) × (p ≡ d.right))
        → ((own_of h es ≡ []) × (p ≡ cond b e.right first)) ⊎ ((ds : List Breakpoint) × (d : Breakpoint) × (own_of h es ≡ ds ++ d ∷ []) × (p ≡ d.right))
    at true (inl c) = absurd (let q : e ∷ own_of h es ≡ [] = c.0 in cc)
    at true (inr ([], d, q, r)) = let same : e ≡ d = cc in let none : own_of h es ≡ [] = cc in inl (none, r ∙ ap (λ (x : Breakpoint). x.right) (sym same))
    at true (inr (y ∷ ys, d, q, r)) = inr (ys, d, cc, r)
    at false c = c

pub first_behind : (h : Half) (e : Breakpoint) (a b : ℕ) → point_of h (current_after A e a) (current_after B e b) ≡ current_after h e (point_of h a b)
first_behind A e a b = refl
first_behind B e a b = refl

-- ---- turns
turn_behind : (a b : ℕ) (e : Breakpoint) (es : List Breakpoint) (f : Form) → IsTurnForm (current_after A e a) (current_after B e b) es f → IsTurnForm a b (e ∷ es) f
turn_behind a b e es f t = record {
  before = e ∷ t.before;
  place = t.place;
  behind = t.behind;
  point = t.point;
  split = ap (λ (fs : List Breakpoint). e ∷ fs) t.split;
  current = current_behind (other t.place.half) e (point_of (other t.place.half) a b) t.before t.point (subst (λ n. IsCurrent (other t.place.half) n t.before t.point) (first_behind (other t.place.half) e a b) t.current);
  form = t.form;
}

turn_listed : (a b : ℕ) (es : List Breakpoint) (f : Form) → Contains (turns_from a b es) f → IsTurnForm a b es f
turn_listed a b [] f c = absurd (contains_none f c)
turn_listed a b (e ∷ es) f c = at (contains_cases (Turn e.left e.right (other_current e.half a b)) f (turns_from (current_after A e a) (current_after B e b) es) c) (turn_listed (current_after A e a) (current_after B e b) es f)
  where
    at : (Turn e.left e.right (other_current e.half a b) ≡ f) ⊎ Contains (turns_from (current_after A e a) (current_after B e b) es) f
        → (Contains (turns_from (current_after A e a) (current_after B e b) es) f → IsTurnForm (current_after A e a) (current_after B e b) es f) → IsTurnForm a b (e ∷ es) f
    at (inl q) rest = record { before = []; place = e; behind = es; point = other_current e.half a b; split = refl; current = inl (refl, refl); form = sym q }
    at (inr k) rest = turn_behind a b e es f (rest k)

turn_at : (a b : ℕ) (before : List Breakpoint) (e : Breakpoint) (es : List Breakpoint) (p : ℕ) → IsCurrent (other e.half) (point_of (other e.half) a b) before p → Contains (turns_from a b (before ++ e ∷ es)) (Turn e.left e.right p)
turn_at a b [] e es p (inl c) = subst (λ n. Contains (turns_from a b (e ∷ es)) (Turn e.left e.right n)) (sym c.1) (contains_head (Turn e.left e.right (other_current e.half a b)) (turns_from (current_after A e a) (current_after B e b) es))
turn_at a b [] e es p (inr ([], d, q, r)) = absurd cc
turn_at a b [] e es p (inr (y ∷ ys, d, q, r)) = absurd cc
turn_at a b (d ∷ ds) e es p c =
    contains_tail (Turn d.left d.right (other_current d.half a b)) (Turn e.left e.right p) (turns_from (current_after A d a) (current_after B d b) (ds ++ e ∷ es))
    (turn_at (current_after A d a) (current_after B d b) ds e es p
    (subst (λ n. IsCurrent (other e.half) n ds p) (sym (first_behind (other e.half) d a b)) (current_before (other e.half) d (point_of (other e.half) a b) ds p c)))

pub turns_agree : (a b : ℕ) (es : List Breakpoint) (f : Form) → Contains (turns_from a b es) f ↔ IsTurnForm a b es f
turns_agree a b es f = (
  turn_listed a b es f,
  λ t. subst (λ (fs : List Breakpoint). Contains (turns_from a b fs) f) (sym t.split) (subst (λ (g : Form). Contains (turns_from a b (t.before ++ t.place ∷ t.behind)) g) (sym t.form) (turn_at a b t.before t.place t.behind t.point t.current)),
)

-- ---- all forms
pub forms_agree : (s : Scene) (a b : List ℕ) (es : List Breakpoint) (f : Form) → Contains (forms_of_merge s a b es) f ↔ IsListedForm s a b es f
forms_agree s [] b es f = (λ c. contains_none f c, λ n. absurd n)
forms_agree s (a ∷ as') [] es f = (λ c. contains_none f c, λ n. absurd n)
forms_agree s (a ∷ as') (b ∷ bs) es f = (λ c. to (Contains-append_cases (turns_from a b es ++ slopes_from es) (forms_of_ends s a as' b bs) f c), from)
  where
    inner : Contains (turns_from a b es) f ⊎ Contains (slopes_from es) f → IsListedForm s (a ∷ as') (b ∷ bs) es f
    inner (inl c) = inl ((turns_agree a b es f).0 c)
    inner (inr c) = inr (inl c)

    to : Contains (turns_from a b es ++ slopes_from es) f ⊎ Contains (forms_of_ends s a as' b bs) f → IsListedForm s (a ∷ as') (b ∷ bs) es f
    to (inl c) = inner (Contains-append_cases (turns_from a b es) (slopes_from es) f c)
    to (inr c) = inr (inr c)

    from : IsListedForm s (a ∷ as') (b ∷ bs) es f → Contains (forms_of_merge s (a ∷ as') (b ∷ bs) es) f
    from (inl t) = Contains-append_left (turns_from a b es ++ slopes_from es) (forms_of_ends s a as' b bs) f (Contains-append_left (turns_from a b es) (slopes_from es) f ((turns_agree a b es f).1 t))
    from (inr (inl c)) = Contains-append_left (turns_from a b es ++ slopes_from es) (forms_of_ends s a as' b bs) f (Contains-append_right (turns_from a b es) (slopes_from es) f c)
    from (inr (inr c)) = Contains-append_right (turns_from a b es ++ slopes_from es) (forms_of_ends s a as' b bs) f c
