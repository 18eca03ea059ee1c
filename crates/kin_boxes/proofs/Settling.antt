-- Both lists have settled.
use Rattle.std.proofs.Common.{◌≡◌, ◌⊎◌, inl, inr, refl, sym, ap, ap₂, ◌∙◌, subst, arith, List, [], ◌∷◌, ◌++◌, ℕ, ◌+◌, ◌*◌, ◌/◌, ◌<◌, ◌≤◌, ℤ, pos, Bool, true, false, not, ◌||◌, ◌&&◌, length, map, filter}
use Rattle.std.specs.Prelude.{Contains, flat_map}
use Rattle.std.proofs.lemmas.List.{length-append}
use Rattle.std.proofs.lemmas.List.Sums.{sum_by-append}
use Rattle.std.proofs.lemmas.List.Elements.{Contains-append_cases, filter_agree}
use Rattle.kin_motion.specs.declared.fact.Placed.{Placed}
use Rattle.kin_motion.specs.Deltas.{Change}
use Rattle.kin_motion.specs.Kinetics.{ListsFailing, HasChanged}
use Rattle.kin_motion.specs.Numbers.{is_in, Lists}
use Rattle.kin_motion.specs.Parts.{moved_by}
use Rattle.kin_motion.specs.Scene.{Scene}
use Rattle.kin_motion.specs.Sets.{ListsExactly}
use Rattle.kin_motion.proofs.ChangeLaws.{both_changed}
use Rattle.kin_motion.proofs.Members.{is_in-append, in_head, in_tail, in_front, in_cases}
use Rattle.kin_motion.proofs.SetLaws.{contains_map, exactly_both}
use Rattle.kin_sorted.specs.declared.ends.Ends.{Ends}
use Rattle.kin_sorted.specs.Marks.{Marks, marked, without_all, numbers_of, names_gone, names_one}
use Rattle.kin_motion.specs.Ranks.{neighbour_facts}
use Rattle.kin_sorted.specs.Sorting as list
use Rattle.kin_sorted.specs.Sorting.{Sorting, IsAtRest, IsReady, IsSettled, unmarked}
use Rattle.kin_sorted.proofs.ListLaws.{is_in-without_all}
use Rattle.kin_motion.specs.BoxFacts.{point, IsEndOrder, IsEndFact}
use Rattle.kin_boxes.specs.Boxing.{boxing_of, facts_of, ranks_of, is_spared, is_along_x, is_along_y, moved_back, IsReadyBoxing, IsSettledBoxing, AreJoined, AreFewTests}
use Rattle.kin_motion.proofs.EndOrders.{same_facts, to_order, to_facts, ends_live, end_part}
use Rattle.kin_boxes.proofs.Marking.{none_marked}
use Rattle.kin_boxes.proofs.Parting.{InParts, along_x, along_y, x_failing, y_failing}

-- a list that has settled
pub record IsResettled (s : Scene) (k k' : Sorting Ends) : Type 0 where
  pub rest : IsAtRest k'
  pub members : Lists k'.items (marked k.marks k.items)
  pub settled : IsSettled (ranks_of k'.rank) k' s
  pub same : k'.rank ≡ k.rank

-- ---- the parts of facts
-- the facts of a list that has settled are in its four parts
in_parts : (s : Scene) (k : Sorting Ends) → IsSettled (ranks_of k.rank) k s → InParts k.facts
in_parts s k settled p c =
    let f = (settled.exact.each p).0 c in
    let l = (end_part s k.rank.dx k.rank.dy k.rank.width 0 f.order (moved_by 0 p)
    (subst (λ fs. Contains fs (moved_by 0 p)) (same_facts s k.rank.count k.rank.dx k.rank.dy k.rank.width 0 f.order)
    (contains_map (moved_by 0) (neighbour_facts s (ranks_of k.rank) f.order) p f.listed))).1 in
    omega (arith, l)

-- ---- which facts are spared
pub named : (xs : List ℕ) (n : ℕ) → is_in n (flat_map (λ e. point e ∷ []) xs) ≡ true → (e : ℕ) × (is_in e xs ≡ true) × (n ≡ point e)
named [] n h = absurd cc
named (x ∷ xs) n h = at (in_cases n (point x) (flat_map (λ e. point e ∷ []) xs) h) (named xs n)
  where
    at : (n ≡ point x) ⊎ (is_in n (flat_map (λ e. point e ∷ []) xs) ≡ true) → (is_in n (flat_map (λ e. point e ∷ []) xs) ≡ true → (e : ℕ) × (is_in e xs ≡ true) × (n ≡ point e))
        → (e : ℕ) × (is_in e (x ∷ xs) ≡ true) × (n ≡ point e)
    at (inl e) rest = (x, in_head x xs, e)
    at (inr c) rest = let r = rest c in (r.0, in_tail r.0 x xs r.1, r.2)

names : (xs : List ℕ) (e : ℕ) → is_in e xs ≡ true → is_in (point e) (flat_map (λ f. point f ∷ []) xs) ≡ true
names [] e h = absurd cc
names (x ∷ xs) e h = at (in_cases e x xs h) (names xs e)
  where
    at : (e ≡ x) ⊎ (is_in e xs ≡ true) → (is_in e xs ≡ true → is_in (point e) (flat_map (λ f. point f ∷ []) xs) ≡ true) → is_in (point e) (point x ∷ flat_map (λ f. point f ∷ []) xs) ≡ true
    at (inl f) rest = in_front (point e) (point x) (flat_map (λ f. point f ∷ []) xs) (ap (λ n. n / 2) (sym f))
    at (inr c) rest = in_tail (point e) (point x) (flat_map (λ f. point f ∷ []) xs) (rest c)

named_alike : (xs ys : List ℕ) → ((e : ℕ) → is_in e xs ≡ is_in e ys) → (n : ℕ) → is_in n (flat_map (λ e. point e ∷ []) xs) ≡ is_in n (flat_map (λ e. point e ∷ []) ys)
named_alike xs ys same n = at (is_in n (flat_map (λ e. point e ∷ []) xs)) (is_in n (flat_map (λ e. point e ∷ []) ys)) refl refl
  where
    over : (us vs : List ℕ) → ((e : ℕ) → is_in e us ≡ is_in e vs) → is_in n (flat_map (λ e. point e ∷ []) us) ≡ true → is_in n (flat_map (λ e. point e ∷ []) vs) ≡ true
    over us vs alike h = let w = named us n h in ap (λ m. is_in m (flat_map (λ e. point e ∷ []) vs)) w.2 ∙ names vs w.0 (sym (alike w.0) ∙ w.1)

    at : (a b : Bool) → is_in n (flat_map (λ e. point e ∷ []) xs) ≡ a → is_in n (flat_map (λ e. point e ∷ []) ys) ≡ b → a ≡ b
    at true true f g = refl
    at false false f g = refl
    at true false f g = sym (over xs ys same f) ∙ g
    at false true f g = sym f ∙ over ys xs (λ e. sym (same e)) g

-- the same members stay and enter
marked_alike : (m : Marks) (xs ys : List ℕ) → ((e : ℕ) → is_in e ys ≡ is_in e xs) → (e : ℕ) → is_in e (marked m ys) ≡ is_in e (marked m xs)
marked_alike m xs ys same e =
    is_in-append e m.entering (without_all m.leaving ys)
    ∙ ap (λ b. is_in e m.entering || b) (is_in-without_all e m.leaving ys ∙ ap (λ b. b && not (is_in e m.leaving)) (same e) ∙ sym (is_in-without_all e m.leaving xs))
    ∙ sym (is_in-append e m.entering (without_all m.leaving xs))

module _ (x y : Sorting Ends) (known : AreJoined x y) where
  y_marked : (e : ℕ) → is_in e (marked y.marks y.items) ≡ is_in e (marked x.marks x.items)
  y_marked e = ap (λ (m : Marks). is_in e (marked m y.items)) known.marks ∙ marked_alike x.marks x.items y.items known.same e

  -- both lists spare the same facts
  spared_alike : (p : Placed) → names_gone (ranks_of x.rank) x.marks x.items p ≡ names_gone (ranks_of y.rank) y.marks y.items p
  spared_alike p =
      ap (λ ns. names_one ns p.fact.form)
      (filter_agree _ _ (λ n. ap not (named_alike (marked x.marks x.items) (marked x.marks y.items) (λ e. sym (marked_alike x.marks x.items y.items known.same e)) n))
      (numbers_of (ranks_of x.rank) x.marks.leaving))
      ∙ ap (λ (m : Marks). names_gone (ranks_of y.rank) m y.items p) (sym known.marks)

  module _ (s : Scene) (ready : IsReadyBoxing (boxing_of x y) s) where
    pub x_ready : IsReady (ranks_of x.rank) x s
    x_ready = record { whole = known.x_whole; live = ends_live s x.rank.count x.rank.dx x.rank.dy x.rank.width (marked x.marks x.items) ready.members }

    pub y_ready : IsReady (ranks_of y.rank) y s
    y_ready = record { whole = known.y_whole; live = ends_live s y.rank.count y.rank.dx y.rank.dy y.rank.width (marked y.marks y.items) (λ e. y_marked e ∙ ready.members e) }

  module _ (s : Scene) (failed : List Placed) (failing : ListsFailing (facts_of (boxing_of x y)) (is_spared (boxing_of x y)) s failed) where
    pub x_told : (told : List Placed) → told ≡ filter is_along_x failed → ListsFailing x.facts (list.is_spared (ranks_of x.rank) x) s told
    x_told told e = subst (ListsFailing x.facts (list.is_spared (ranks_of x.rank) x) s) (sym e) (x_failing x.facts y.facts known.x_parts (is_spared (boxing_of x y)) s failed failing)

    pub y_told : (told : List Placed) → told ≡ map moved_back (filter is_along_y failed) → ListsFailing y.facts (list.is_spared (ranks_of y.rank) y) s told
    y_told told e =
        subst (ListsFailing y.facts (list.is_spared (ranks_of y.rank) y) s) (sym e)
        (subst (λ (sp : Placed → Bool). ListsFailing y.facts sp s (map moved_back (filter is_along_y failed))) (λ t. λ p. spared_alike p t)
        (y_failing x.facts y.facts known.x_parts (is_spared (boxing_of x y)) s failed failing (λ p. refl)))

  module _ (x' y' : Sorting Ends) (s : Scene) (ready : IsReadyBoxing (boxing_of x y) s) (first : IsResettled s x x') (second : IsResettled s y y') where
    x_ends : (e : ℕ) → is_in e x'.items ≡ is_in (point e) s.live
    x_ends e = first.members.same e ∙ ready.members e

    y_ends : (e : ℕ) → is_in e y'.items ≡ is_in (point e) s.live
    y_ends e = second.members.same e ∙ y_marked e ∙ ready.members e

    x_dx : x'.rank.dx ≡ pos 1
    x_dx = ap (λ (r : Ends). r.dx) first.same ∙ known.x_way.0

    x_dy : x'.rank.dy ≡ pos 0
    x_dy = ap (λ (r : Ends). r.dy) first.same ∙ known.x_way.1

    y_dx : y'.rank.dx ≡ pos 0
    y_dx = ap (λ (r : Ends). r.dx) second.same ∙ known.y_way.0

    y_dy : y'.rank.dy ≡ pos 1
    y_dy = ap (λ (r : Ends). r.dy) second.same ∙ known.y_way.1

    pub joined_now : AreJoined x' y'
    joined_now = record {
      x_way = (x_dx, x_dy);
      y_way = (y_dx, y_dy);
      width = (known.width.0, ap (λ (r : Ends). r.width) first.same ∙ known.width.1);
      height = (known.height.0, ap (λ (r : Ends). r.width) second.same ∙ known.height.1);
      count = ap (λ (r : Ends). r.count) second.same ∙ known.count ∙ sym (ap (λ (r : Ends). r.count) first.same);
      x_whole = first.rest.whole;
      y_whole = second.rest.whole;
      marks = second.rest.marks ∙ sym first.rest.marks;
      same = λ e. y_ends e ∙ sym (x_ends e);
      boxes = λ e f h. x_ends e ∙ ap (λ n. is_in n s.live) h ∙ sym (x_ends f);
      within = λ e h. subst (λ (n : ℕ). e < 2 * n) (sym (ap (λ (r : Ends). r.count) first.same)) (known.within e (sym (first.members.same e) ∙ sym (none_marked x'.marks x'.items e first.rest.marks)
          ∙ h));
      x_once = first.members.once;
      y_once = second.members.once;
      x_parts = in_parts s x' first.settled;
      y_parts = in_parts s y' second.settled;
    }

    -- an order with its facts, along the axis that it is known to be along
    order_along : (k : Sorting Ends) (dx dy : ℤ) (from : ℕ) → k.rank.dx ≡ dx → k.rank.dy ≡ dy → IsSettled (ranks_of k.rank) k s → ((e : ℕ) → is_in e k.items ≡ is_in (point e) s.live)
        → IsEndOrder s dx dy k.rank.width k.items × ListsExactly (map (moved_by from) k.facts) (IsEndFact s dx dy k.rank.width from)
    order_along k dx dy from e f settled all =
        subst (λ d. IsEndOrder s d dy k.rank.width k.items × ListsExactly (map (moved_by from) k.facts) (IsEndFact s d dy k.rank.width from)) e
        (subst (λ d. IsEndOrder s k.rank.dx d k.rank.width k.items × ListsExactly (map (moved_by from) k.facts) (IsEndFact s k.rank.dx d k.rank.width from)) f
        (to_order s k.rank.count k.rank.dx k.rank.dy k.rank.width k.items k.items all settled.order, to_facts s k.rank.count k.rank.dx k.rank.dy k.rank.width from k.items k.facts all settled.exact))

    pub settled_now : IsSettledBoxing (boxing_of x' y') s
    settled_now =
        let a = order_along x' (pos 1) (pos 0) 0 x_dx x_dy first.settled x_ends in
        let b = order_along y' (pos 0) (pos 1) 4 y_dx y_dy second.settled y_ends in
        record {
          x_order = a.0;
          y_order = b.0;
          exact = exactly_both (map (moved_by 0) x'.facts) (map (moved_by 4) y'.facts) (IsEndFact s (pos 1) (pos 0) x'.rank.width 0) (IsEndFact s (pos 0) (pos 1) y'.rank.width 4) a.1 b.1 (λ p f g.
              let l = (end_part s (pos 1) (pos 0) x'.rank.width 0 f.order p f.listed).1 in
              let m = (end_part s (pos 0) (pos 1) y'.rank.width 4 g.order p g.listed).0 in
              omega (arith, l, m));
        }

    -- the reports of both lists are that of the boxes
    module _ (out mid out' : Change) (x_changed : HasChanged (map (moved_by 0) x.facts) (map (moved_by 0) x'.facts) out mid)
        (y_changed : HasChanged (map (moved_by 4) y.facts) (map (moved_by 4) y'.facts) mid out') where
      low_parts : (p : Placed) → Contains (map (moved_by 0) x.facts) p ⊎ Contains (map (moved_by 0) x'.facts) p → p.part < 4
      low_parts p (inl c) = along_x x.facts p known.x_parts c
      low_parts p (inr c) = along_x x'.facts p (in_parts s x' first.settled) c

      high_parts : (p : Placed) → Contains (map (moved_by 4) y.facts) p ⊎ Contains (map (moved_by 4) y'.facts) p → 4 ≤ p.part
      high_parts p (inl c) = along_y y.facts p c
      high_parts p (inr c) = along_y y'.facts p c

      pub boxes_changed : HasChanged (facts_of (boxing_of x y)) (facts_of (boxing_of x' y')) out out'
      boxes_changed = both_changed (map (moved_by 0) x.facts) (map (moved_by 0) x'.facts) (map (moved_by 4) y.facts) (map (moved_by 4) y'.facts) out mid out'
          (λ p f g. let a = low_parts p f in let b = high_parts p g in omega (arith, a, b)) x_changed y_changed

-- the tests of both lists are those of the boxes
pub few_tests : (x y x' y' : Sorting Ends) (out mid out' : Change) (before between after : ℕ) → list.AreFewTests (length x.marks.entering) x.items x'.items out mid before between
    → list.AreFewTests (length y.marks.entering) y.items y'.items mid out' between after → AreFewTests (boxing_of x y) (boxing_of x' y') out out' before after
few_tests x y x' y' out mid out' before between after t u =
    let b = t.bound in
    let c = u.bound in
    let e = sum_by-append (λ (n : ℕ). n) t.halvings u.halvings in
    record {
      halvings = t.halvings ++ u.halvings;
      each = length-append t.halvings u.halvings ∙ ap₂ (λ m n. m + n) t.each u.each;
      allowed = λ h k. elim (Contains-append_cases t.halvings u.halvings h k) [
        | inl l ↦ inl (t.allowed h l)
        | inr l ↦ inr (u.allowed h l)
      ];
      bound = omega (arith, b, c, e);
    }
