-- The forms of a merge, one after another.
use Rattle.std.proofs.Common.{◌≡◌, ◌<◌, ◌≤◌, refl, sym, ap, ◌∙◌, subst, arith, add-one, List, [], ◌∷◌, ◌++◌, ℕ, suc, ◌+◌, ◌-◌, ◌*◌, Bool, true, false, cond, map, length, drop, get_or, append_assoc}
use Rattle.std.specs.List.{All}
use Rattle.std.proofs.lemmas.List.{append-nil, length-drop, map-append}
use Rattle.std.proofs.lemmas.List.Elements.{All-nil, All-cons, All-head, All-tail}
use Rattle.std.proofs.Math.Seq.{drop-cons}
use Rattle.kin_motion.specs.declared.fact.Placed.{Placed}
use Rattle.kin_motion.specs.declared.form.Form.{Form}
use Rattle.kin_motion.specs.declared.form.Form.TheVariants.{Turn}
use Rattle.kin_motion.specs.Chains.{upper_chain_of}
use Rattle.kin_motion.specs.Merges.{Half, Half.{A, B}, Breakpoint, is_of, breakpoints_of, breakpoint_list, current_after, end_forms, forms_of_ends, forms_of_merge, hull_facts_of_node, last_of, other_current, points_under, slope_between, slopes_from, turns_from}
use Rattle.kin_motion.specs.Numbers.{IsIn}
use Rattle.kin_motion.specs.Scene.{Scene, placed_at, reflected}
use Rattle.kin_plain.specs.Halves.{AreEndsLive, ends_of, forms_between, forms_seen}

drop_here : (xs : List Breakpoint) (k : ℕ) (x : Breakpoint) → k < length xs → x ≡ get_or xs k x → drop k xs ≡ x ∷ drop (k + 1) xs
drop_here xs k x low is = let here : drop k xs ≡ get_or xs k x ∷ drop (k + 1) xs = rw (add-one, drop-cons xs k x) in here ∙ ap (λ (y : Breakpoint). y ∷ drop (k + 1) xs) (sym is)

alone : (es : List Breakpoint) → length es ≤ 1 → slopes_from es ≡ []
alone [] le = refl
alone (e ∷ []) le = refl
alone (e ∷ f ∷ es) le = absurd (omega (arith, le))

-- ---- turns and slopes
module _ (placed : Form → Placed) where
  -- one more turn is put
  pub turns_more : (a b : ℕ) (list : List Breakpoint) (i : ℕ) (e : Breakpoint) (form : Form) (next_a next_b : ℕ) (xs ys all : List Placed) → i < length list → e ≡ get_or list i e
      → form ≡ Turn e.left e.right (other_current e.half a b) → next_a ≡ current_after A e a → next_b ≡ current_after B e b → ys ≡ xs ++ placed form ∷ []
      → xs ++ map placed (turns_from a b (drop i list)) ≡ all → ys ++ map placed (turns_from next_a next_b (drop (i + 1) list)) ≡ all
  turns_more a b list i e form next_a next_b xs ys all low is form_is a_is b_is put whole =
      let on = drop (i + 1) list in
      let rest = turns_from (current_after A e a) (current_after B e b) on in
      ap (λ (n : ℕ). ys ++ map placed (turns_from n next_b on)) a_is ∙ ap (λ (n : ℕ). ys ++ map placed (turns_from (current_after A e a) n on)) b_is
      ∙ ap (λ (l : List Placed). l ++ map placed rest) (put ∙ ap (λ (f : Form). xs ++ placed f ∷ []) form_is)
      ∙ append_assoc xs (placed (Turn e.left e.right (other_current e.half a b)) ∷ []) (map placed rest)
      ∙ ap (λ (l : List Breakpoint). xs ++ map placed (turns_from a b l)) (sym (drop_here list i e low is)) ∙ whole

  -- the slope of two more neighbours is put
  pub slopes_more : (list : List Breakpoint) (i : ℕ) (e f : Breakpoint) (xs ys all : List Placed) → 1 ≤ i → i < length list → e ≡ get_or list (i - 1) e → f ≡ get_or list i f
      → ys ≡ xs ++ map placed (slope_between e f) → xs ++ map placed (slopes_from (drop (i - 1) list)) ≡ all → ys ++ map placed (slopes_from (drop (i + 1 - 1) list)) ≡ all
  slopes_more list i e f xs ys all some low e_is f_is put whole =
      let tail = f ∷ drop (i + 1) list in
      let back : i + 1 - 1 ≡ i = omega arith in
      let here : i - 1 + 1 ≡ i = omega (arith, some) in
      let next : drop i list ≡ tail = drop_here list i f low f_is in
      let two : drop (i - 1) list ≡ e ∷ tail = drop_here list (i - 1) e (omega (arith, some, low)) e_is ∙ ap (λ (n : ℕ). e ∷ drop n list) here ∙ ap (λ (l : List Breakpoint). e ∷ l) next in
      ap (λ (n : ℕ). ys ++ map placed (slopes_from (drop n list))) back ∙ ap (λ (l : List Breakpoint). ys ++ map placed (slopes_from l)) next
      ∙ ap (λ (l : List Placed). l ++ map placed (slopes_from tail)) put
      ∙ append_assoc xs (map placed (slope_between e f)) (map placed (slopes_from tail)) ∙ ap (λ (l : List Placed). xs ++ l) (sym (map-append placed (slope_between e f) (slopes_from tail)))
      ∙ ap (λ (l : List Breakpoint). xs ++ map placed (slopes_from l)) (sym two) ∙ whole

  -- the last one has no next one
  pub slopes_all : (list : List Breakpoint) (i : ℕ) (xs all : List Placed) → length list ≤ i → 1 ≤ i → xs ++ map placed (slopes_from (drop (i - 1) list)) ≡ all → xs ≡ all
  slopes_all list i xs all high some whole =
      sym (append-nil xs) ∙ ap (λ (l : List Form). xs ++ map placed l) (sym (alone (drop (i - 1) list) (let n = length-drop (i - 1) list in omega (arith, n, high, some)))) ∙ whole

  -- turns, slopes and ends are put
  pub merge_put : (s : Scene) (a b : List ℕ) (es : List Breakpoint) (xs ys zs all : List Placed) → 0 < length a → 0 < length b → ys ≡ xs ++ map placed (turns_from (get_or a 0 0) (get_or b 0 0) es)
      → zs ≡ ys ++ map placed (slopes_from es) → all ≡ zs ++ map placed (ends_of s a b) → all ≡ xs ++ map placed (forms_of_merge s a b es)
  merge_put s [] b es xs ys zs all some_a some_b turns slopes ends = absurd (omega (arith, some_a))
  merge_put s (a ∷ as') [] es xs ys zs all some_a some_b turns slopes ends = absurd (omega (arith, some_b))
  merge_put s (a ∷ as') (b ∷ bs) es xs ys zs all some_a some_b turns slopes ends =
      let t = turns_from a b es in
      let l = slopes_from es in
      let e = forms_of_ends s a as' b bs in
      ends ∙ ap (λ (k : List Placed). k ++ map placed e) (slopes ∙ ap (λ (k : List Placed). k ++ map placed l) turns ∙ append_assoc xs (map placed t) (map placed l)
      ∙ ap (λ (k : List Placed). xs ++ k) (sym (map-append placed t l)))
      ∙ append_assoc xs (map placed (t ++ l)) (map placed e) ∙ ap (λ (k : List Placed). xs ++ k) (sym (map-append placed (t ++ l) e))

-- ---- ends
pub ends_one : (s : Scene) (a b : List ℕ) → length a ≡ 1 → length b ≡ 1 → ends_of s a b ≡ end_forms s (get_or a 0 0) (get_or b 0 0)
ends_one s [] b e f = absurd (omega (arith, e))
ends_one s (x ∷ as') [] e f = absurd (omega (arith, f))
ends_one s (x ∷ []) (y ∷ []) e f = refl
ends_one s (x ∷ []) (y ∷ z ∷ bs) e f = absurd (omega (arith, f))
ends_one s (x ∷ z ∷ as') (y ∷ bs) e f = absurd (omega (arith, e))

last_is : (p : ℕ) (ps : List ℕ) → last_of p ps ≡ get_or (p ∷ ps) (length (p ∷ ps) - 1) 0
last_is p [] = refl
last_is p (q ∷ qs) = let e : length (p ∷ q ∷ qs) - 1 ≡ suc (length (q ∷ qs) - 1) = omega arith in last_is q qs ∙ ap (λ (n : ℕ). get_or (p ∷ q ∷ qs) n 0) (sym e)

pub ends_two : (s : Scene) (a b : List ℕ) → 0 < length a → 0 < length b → (length a ≡ 1 → length b ≡ 1 → ⊥)
    → ends_of s a b ≡ end_forms s (get_or a 0 0) (get_or b 0 0) ++ end_forms s (get_or a (length a - 1) 0) (get_or b (length b - 1) 0)
ends_two s [] b some_a some_b two = absurd (omega (arith, some_a))
ends_two s (x ∷ as') [] some_a some_b two = absurd (omega (arith, some_b))
ends_two s (x ∷ []) (y ∷ []) some_a some_b two = absurd (two refl refl)
ends_two s (x ∷ []) (y ∷ z ∷ bs) some_a some_b two = ap (λ (n : ℕ). end_forms s x y ++ end_forms s x n) (last_is y (z ∷ bs))
ends_two s (x ∷ z ∷ as') (y ∷ bs) some_a some_b two =
    ap (λ (n : ℕ). end_forms s x y ++ end_forms s n (last_of y bs)) (last_is x (z ∷ as'))
    ∙ ap (λ (n : ℕ). end_forms s x y ++ end_forms s (get_or (x ∷ z ∷ as') (length (x ∷ z ∷ as') - 1) 0) n) (last_is y bs)

-- both ends are put
pub ends_put : (placed : Form → Placed) (s : Scene) (a b : List ℕ) (xs ys zs : List Placed) (m n : ℕ) → 0 < length a → 0 < length b → (length a ≡ 1 → length b ≡ 1 → ⊥)
    → ys ≡ xs ++ map placed (end_forms s (get_or a 0 0) (get_or b 0 0))
    → zs ≡ ys ++ map placed (end_forms s (get_or a m 0) (get_or b n 0)) → m ≡ length a - 1 → n ≡ length b - 1 → zs ≡ xs ++ map placed (ends_of s a b)
ends_put placed s a b xs ys zs m n some_a some_b two first second m_is n_is =
    let f = end_forms s (get_or a 0 0) (get_or b 0 0) in
    let l = end_forms s (get_or a m 0) (get_or b n 0) in
    second ∙ ap (λ (k : List Placed). k ++ map placed l) first ∙ append_assoc xs (map placed f) (map placed l) ∙ ap (λ (k : List Placed). xs ++ k) (sym (map-append placed f l))
    ∙ ap (λ (i : ℕ). xs ++ map placed (f ++ end_forms s (get_or a i 0) (get_or b n 0))) m_is ∙ ap (λ (i : ℕ). xs ++ map placed (f ++ end_forms s (get_or a (length a - 1) 0) (get_or b i 0))) n_is
    ∙ ap (λ (k : List Form). xs ++ map placed k) (sym (ends_two s a b some_a some_b two))

-- ---- where a chain is empty
pub none_of_a : (s : Scene) (a b : List ℕ) (es : List Breakpoint) → length a ≡ 0 → forms_of_merge s a b es ≡ []
none_of_a s [] b es e = refl
none_of_a s (x ∷ as') b es e = absurd (omega (arith, e))

pub none_of_b : (s : Scene) (a b : List ℕ) (es : List Breakpoint) → length b ≡ 0 → forms_of_merge s a b es ≡ []
none_of_b s [] b es e = refl
none_of_b s (x ∷ as') [] es e = refl
none_of_b s (x ∷ as') (y ∷ bs) es e = absurd (omega (arith, e))

-- ---- live points
module _ (live : List ℕ) where
  pub other_live : (h : Half) (a b : ℕ) → IsIn a live → IsIn b live → IsIn (other_current h a b) live
  other_live A a b a_live b_live = b_live
  other_live B a b a_live b_live = a_live

  pub current_live : (h : Half) (e : Breakpoint) (p : ℕ) → IsIn p live → AreEndsLive live e → IsIn (current_after h e p) live
  current_live h e p here ends = at (is_of h e.half)
    where
      at : (b : Bool) → IsIn (cond b e.right p) live
      at true = ends.right_live
      at false = here

  pub ends_live : (h : Half) (xs : List ℕ) → All (λ (i : ℕ). IsIn i live) xs → All (AreEndsLive live) (breakpoints_of h xs)
  ends_live h [] all = All-nil (AreEndsLive live)
  ends_live h (x ∷ []) all = All-nil (AreEndsLive live)
  ends_live h (x ∷ y ∷ xs) all =
      let rest = All-tail (λ (i : ℕ). IsIn i live) x (y ∷ xs) all in
      All-cons (AreEndsLive live) (record { half = h; left = x; right = y }) (breakpoints_of h (y ∷ xs))
      (record { left_live = All-head (λ (i : ℕ). IsIn i live) x (y ∷ xs) all; right_live = All-head (λ (i : ℕ). IsIn i live) y xs rest }) (ends_live h (y ∷ xs) rest)

-- those of a new list
pub new_ends_live : (live : List ℕ) (h : Half) (xs : List ℕ) (old new lent : List Breakpoint) → All (λ (i : ℕ). IsIn i live) xs → old ≡ [] → new ≡ old ++ breakpoints_of h xs → lent ≡ new
    → All (AreEndsLive live) lent
new_ends_live live h xs old new lent all none put same = subst (All (AreEndsLive live)) (sym (same ∙ put ∙ ap (λ (l : List Breakpoint). l ++ breakpoints_of h xs) none)) (ends_live live h xs all)

-- ---- after y is turned round the forms of a merge stay
module _ (s : Scene) where
  ends_stay : (a : ℕ) (as' : List ℕ) (b : ℕ) (bs : List ℕ) → forms_of_ends (reflected s) a as' b bs ≡ forms_of_ends s a as' b bs
  ends_stay a [] b [] = refl
  ends_stay a [] b (y ∷ bs) = refl
  ends_stay a (x ∷ as') b bs = refl

  forms_stay : (a b : List ℕ) (es : List Breakpoint) → forms_of_merge (reflected s) a b es ≡ forms_of_merge s a b es
  forms_stay [] b es = refl
  forms_stay (a ∷ as') [] es = refl
  forms_stay (a ∷ as') (b ∷ bs) es = ap (λ (l : List Form). turns_from a b es ++ slopes_from es ++ l) (ends_stay a as' b bs)

  -- the facts of both trees at a node are put
  pub node_put : (size v : ℕ) (xs ys zs : List Placed) → ys ≡ xs ++ map (placed_at s (2 * v)) (forms_seen s s size v) → zs ≡ ys ++ map (placed_at s (2 * v + 1)) (forms_seen (reflected s) s size v)
      → zs ≡ xs ++ hull_facts_of_node size s v
  node_put size v xs ys zs upper lower =
      let view = reflected s in
      let a = upper_chain_of view (points_under size view (2 * v)) in
      let b = upper_chain_of view (points_under size view (2 * v + 1)) in
      let above = map (placed_at s (2 * v)) (forms_seen s s size v) in
      let below = map (placed_at s (2 * v + 1)) (forms_seen view s size v) in
      lower ∙ ap (λ (l : List Placed). l ++ below) upper ∙ append_assoc xs above below
      ∙ ap (λ (l : List Form). xs ++ (above ++ map (placed_at s (2 * v + 1)) l)) (sym (forms_stay a b (breakpoint_list view a b)))

-- the chains of a node are merged
pub node_made : (placed : Form → Placed) (view s : Scene) (size v : ℕ) (a b : List ℕ) (old new : List Placed) → a ≡ upper_chain_of view (points_under size view (2 * v))
    → b ≡ upper_chain_of view (points_under size view (2 * v + 1))
    → new ≡ old ++ map placed (forms_between view s a b) → new ≡ old ++ map placed (forms_seen view s size v)
node_made placed view s size v a b old new a_is b_is put =
    put ∙ ap (λ (l : List ℕ). old ++ map placed (forms_between view s l b)) a_is ∙ ap (λ (l : List ℕ). old ++ map placed
    (forms_between view s (upper_chain_of view (points_under size view (2 * v))) l)) b_is
