-- A failure of an order: two neighbours, and the moment at which they fail, which is told by their key.
use Rattle.std.proofs.Common.{◌≡◌, ◌≢◌, ◌⊎◌, inl, inr, refl, ap, ap₂, sym, ◌∙◌, subst, List, [], ◌∷◌, ℕ, ℤ, true, pos, Option}
use Rattle.std.specs.Prelude.{Contains}
use Rattle.kin_algebra.specs.declared.sign.Sign.TheVariants.{Zero}
use Rattle.kin_algebra.specs.Signs.{opposite_of}
use Rattle.kin_num.specs.declared.instant.Shape.{Shape}
use Rattle.kin_num.specs.declared.instant.Phase.{Phase}
use Rattle.kin_num.specs.declared.instant.Phase.TheVariants.{At}
use Rattle.kin_num.specs.declared.instant.Moment.{Moment}
use Rattle.kin_num.specs.Quadratic.{Quadratic}
use Rattle.kin_num.specs.Canonical.{IsCanonical}
use Rattle.kin_num.specs.Instants.{sign_at_instant}
use Rattle.kin_instant.proofs.SignTable.{at_at}
use Rattle.kin_motion.specs.declared.form.Form.{Form}
use Rattle.kin_motion.specs.declared.form.Form.TheVariants.{Line}
use Rattle.kin_motion.specs.declared.fact.Placed.{Placed}
use Rattle.kin_motion.specs.Numbers.{IsIn, IsChain}
use Rattle.kin_motion.specs.Course.{Course, AreSlow, live_of}
use Rattle.kin_motion.specs.Forms.{IsAskable, polynomial_of, sign_of_form}
use Rattle.kin_motion.specs.Scene.{Scene, scene_at, placed_at}
use Rattle.kin_motion.specs.Orders.{leads, is_before, neighbour_forms, IsOrderFact}
use Rattle.kin_motion.specs.Live.{IsSmallDirection}
use Rattle.kin_motion.specs.Moments.{FailsFirst}
use Rattle.kin_motion.specs.Laws.{HasLineLaws}
use Rattle.kin_motion.proofs.SetLaws.{contains_none, contains_mapped, contains_cases}
use Rattle.kin_motion.proofs.AskableLaws.{order_fact_askable}
use Rattle.kin_motion.proofs.LineLaws.{sign_of_form-turned_line}
use Rattle.kin_motion.proofs.MotionScenes.{real_at}
use Rattle.kin_motion.proofs.OrderLaws.{never_before_itself, before_through}
use Rattle.kin_motion.proofs.PolynomialSizes.{polynomials_are_small}
use Rattle.kin_motion.proofs.RealLaws.{real_line_laws}
use Rattle.kin_fail.proofs.FailureRoots.{IsFailureMoment, failure_moments}
use Rattle.kin_fail.proofs.OneRoot.{lines_have_one_root}
use Rattle.kin_fail.proofs.PairKeys.{key, key_of, key_of_form, phase_of_key, phase_told, same_ends}

-- ---- neighbours
record AreNeighbours (s : Scene) (dx dy : ℤ) (f : Form) : Type 0 where
  first : ℕ
  second : ℕ
  form : f ≡ Line dx dy (pos 0) first second
  before : is_before s dx dy first second ≡ true

neighbours : (s : Scene) (dx dy : ℤ) (xs : List ℕ) → IsChain (is_before s dx dy) xs → (f : Form)
    → Contains (neighbour_forms dx dy xs) f → AreNeighbours s dx dy f
neighbours s dx dy [] chain f h = absurd (contains_none f h)
neighbours s dx dy (i ∷ []) chain f h = absurd (contains_none f h)
neighbours s dx dy (i ∷ j ∷ xs) chain f h = at (contains_cases (Line dx dy (pos 0) i j) f (neighbour_forms dx dy (j ∷ xs)) h) (neighbours s dx dy (j ∷ xs) chain.1 f)
  where
    at : (Line dx dy (pos 0) i j ≡ f) ⊎ Contains (neighbour_forms dx dy (j ∷ xs)) f
        → (Contains (neighbour_forms dx dy (j ∷ xs)) f → AreNeighbours s dx dy f) → AreNeighbours s dx dy f
    at (inl e) rest = record { first = i; second = j; form = sym e; before = chain.0 }
    at (inr l) rest = rest l

module _ (ms : List (Option Course)) (slow : AreSlow ms) (dx dy : ℤ) (small : IsSmallDirection dx dy) where
  abbrev line : ℕ → ℕ → Quadratic
  line i j = polynomial_of ms (Line dx dy (pos 0) i j)

  -- two neighbours of the order at `now`, which fail first at m
  pub record IsPairFailure (now m : Moment) (p : Placed) : Type 0 where
    pub first : ℕ
    pub second : ℕ
    pub first_live : IsIn first (live_of ms)
    pub second_live : IsIn second (live_of ms)
    pub placed : p ≡ placed_at (scene_at ms now) 0 (Line dx dy (pos 0) first second)
    pub before : is_before (scene_at ms now) dx dy first second ≡ true
    pub apart : first ≢ second
    pub askable : IsAskable (live_of ms) (Line dx dy (pos 0) first second)
    pub canonical : IsCanonical m.at
    pub moment : IsFailureMoment (line first second) p.fact m

  module _ (now : Moment) (here : IsCanonical now.at) where
    laws : HasLineLaws (scene_at ms now)
    laws = real_line_laws (scene_at ms now) (real_at ms now here)

    pub pair_failure : (m : Moment) (p : Placed) → IsOrderFact (scene_at ms now) dx dy 0 p → FailsFirst (scene_at ms) now m p.fact → IsPairFailure now m p
    pair_failure m p fact fails =
        let from = contains_mapped (placed_at (scene_at ms now) 0) (neighbour_forms dx dy fact.order) p fact.listed in
        let n = neighbours (scene_at ms now) dx dy fact.order fact.ordered.chain from.0 from.1 in
        let placed : p ≡ placed_at (scene_at ms now) 0 (Line dx dy (pos 0) n.first n.second) = from.2 ∙ ap (placed_at (scene_at ms now) 0) n.form in
        let form : p.fact.form ≡ Line dx dy (pos 0) n.first n.second = ap (λ (q : Placed). q.fact.form) placed in
        let may_ask = order_fact_askable (scene_at ms now) dx dy 0 small.0 small.1 p fact in
        let askable : IsAskable (live_of ms) (Line dx dy (pos 0) n.first n.second) = subst (IsAskable (live_of ms)) form may_ask in
        record {
          first = n.first;
          second = n.second;
          first_live = askable.i_live;
          second_live = askable.j_live;
          placed = placed;
          before = n.before;
          apart = λ e. never_before_itself (scene_at ms now) laws dx dy n.first (subst (λ j. is_before (scene_at ms now) dx dy n.first j ≡ true) (sym e) n.before);
          askable = askable;
          canonical = fails.canonical;
          moment = subst (λ (f : Form). IsFailureMoment (polynomial_of ms f) p.fact m) form (failure_moments ms now m p.fact slow may_ask here fails);
        }

    -- at one moment an order has one fact of a pair
    pub same_pair : (m n : Moment) (p q : Placed) (v : IsPairFailure now m p) (w : IsPairFailure now n q)
        → ((v.first ≡ w.first) × (v.second ≡ w.second)) ⊎ ((v.first ≡ w.second) × (v.second ≡ w.first)) → p ≡ q
    same_pair m n p q v w (inl e) = v.placed ∙ ap₂ (λ (i j : ℕ). placed_at (scene_at ms now) 0 (Line dx dy (pos 0) i j)) e.0 e.1 ∙ sym w.placed
    same_pair m n p q v w (inr e) =
        let back : is_before (scene_at ms now) dx dy v.second v.first ≡ true = ap₂ (λ (i j : ℕ). is_before (scene_at ms now) dx dy i j) e.1 e.0 ∙ w.before in
        absurd (never_before_itself (scene_at ms now) laws dx dy v.first (before_through (scene_at ms now) laws dx dy v.first v.second v.first v.before back))

  -- ---- the key
  module _ (now m : Moment) (p : Placed) (v : IsPairFailure now m p) where
    pub key_is : key_of p ≡ key p.fact.sign v.first v.second
    key_is = ap (λ (q : Placed). key_of_form q.fact.form p.fact.sign) v.placed

    pub phase_is : m.phase ≡ phase_of_key (key_of p)
    phase_is =
        v.moment.phase
        ∙ sym (phase_told p.fact.sign v.first v.second v.apart (ap (λ (q : Placed). leads q.fact.sign v.first v.second) v.placed ∙ v.before))
        ∙ sym (ap phase_of_key key_is)

  flat : (i j : ℕ) → (line i j).a ≡ pos 0
  unfolding polynomial_of
  flat i j = refl

  -- the line from j to i has the roots of that from i to j
  root_turned : (i j : ℕ) (w : Shape) → sign_at_instant (line i j) w ≡ Zero → sign_at_instant (line j i) w ≡ Zero
  unfolding sign_of_form
  root_turned i j w z = sym (at_at (line j i) w) ∙ sign_of_form-turned_line ms dx dy i j (record { at = w; phase = At }) ∙ ap opposite_of (at_at (line i j) w ∙ z)

  -- two failures with one key have one moment
  pub same_moment : (now then m n : Moment) (p q : Placed) → IsPairFailure now m p → IsPairFailure then n q → key_of p ≡ key_of q → m ≡ n
  same_moment now then m n p q v w e =
      ap₂ (λ (x : Shape) (f : Phase). record { at = x; phase = f }) (same_root root_of_both) (phase_is now m p v ∙ ap phase_of_key e ∙ sym (phase_is then n q w))
    where
      turned_or_not : ((v.first ≡ w.first) × (v.second ≡ w.second)) ⊎ ((v.first ≡ w.second) × (v.second ≡ w.first))
          → sign_at_instant (line v.first v.second) n.at ≡ Zero
      turned_or_not (inl h) = ap₂ (λ (i j : ℕ). sign_at_instant (line i j) n.at) h.0 h.1 ∙ w.moment.root.root
      turned_or_not (inr h) = ap₂ (λ (i j : ℕ). sign_at_instant (line i j) n.at) h.0 h.1 ∙ root_turned w.first w.second n.at w.moment.root.root

      root_of_both : sign_at_instant (line v.first v.second) n.at ≡ Zero
      root_of_both = turned_or_not (same_ends p.fact.sign q.fact.sign v.first v.second w.first w.second (sym (key_is now m p v) ∙ e ∙ key_is then n q w))

      same_root : sign_at_instant (line v.first v.second) n.at ≡ Zero → m.at ≡ n.at
      same_root z =
          lines_have_one_root (line v.first v.second) (polynomials_are_small ms (Line dx dy (pos 0) v.first v.second) slow v.askable)
          (flat v.first v.second) v.moment.root.some m.at n.at v.canonical.form w.canonical.form v.moment.root.root z
