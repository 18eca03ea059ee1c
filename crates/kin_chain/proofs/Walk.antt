-- The walk along the cells: every number of either chain that stays in both sets is given by a cell.
use Rattle.std.proofs.Common.{◌≡◌, ◌⊎◌, inl, inr, refl, sym, ◌∙◌, subst, List, [], ◌∷◌, ℕ, Bool, false}
use Rattle.std.specs.Prelude.{Option, Some, None, flat_map}
use Rattle.kin_algebra.specs.declared.sign.Sign.{Sign}
use Rattle.kin_algebra.proofs.OrderedRings.{OrderedRing}
use Rattle.kin_motion.specs.Scene.{Scene}
use Rattle.kin_motion.specs.Merges.{Half, Half.{A, B}, Breakpoint, other, point_of, current_after}
use Rattle.kin_motion.specs.Cells.{above_at, above_left, above_right, is_narrow, given_by, cells_from, cells_of}
use Rattle.kin_motion.specs.Numbers.{IsIn}
use Rattle.kin_motion.proofs.Members.{in_right}
use Rattle.kin_chain.specs.Supports.{list_of}
use Rattle.kin_chain.proofs.Comparisons.{AtMost}
use Rattle.kin_chain.proofs.Planes.{Places}
use Rattle.kin_chain.proofs.Geometry.{Direction, up}
use Rattle.kin_chain.proofs.Stays.{Stays}
use Rattle.kin_chain.proofs.Sides.{own_in_chain}
use Rattle.kin_chain.proofs.Ground.{Merging, both, At, goes_right}
use Rattle.kin_chain.proofs.Steps.{at_start, higher, above_left_is, above_right_is}
use Rattle.kin_chain.proofs.Nexts.{Current, point, rest, IsOwnStep, IsOtherStep, Next, ahead, next}
use Rattle.kin_chain.proofs.Meets.{Enters, Leaves, Together, Pair, enters_step, leaves_step, passes, meets}
use Rattle.kin_chain.proofs.Found.{Spared, give, is_wide, leaves_outer, enters_outer, inside_a, inside_b, is_current, none_comes}

module _ {R : Type 0} (o : OrderedRing R) (ps : Places o) (s : Scene) (m : Merging o ps s) where
  module _ {l : Direction o} {before : Option Breakpoint} {a : ℕ} {as' : List ℕ} {b : ℕ} {bs : List ℕ} {es : List Breakpoint} (at : At o ps s m l before a as' b bs es) where
    inside_of : (h : Half) → IsIn (point_of h a b) (both o ps s m)
    inside_of A = inside_a o ps s m at
    inside_of B = inside_b o ps s m at

    -- a point of B that stays isn't at the place of one of A
    apart_from : Stays o ps (both o ps s m) b → Together o ps b a → ⊥
    apart_from stays k = stays.no_double a (inside_a o ps s m at) k.0 k.1 (m.less a b (m.a_known.inside a (own_in_chain o ps m.a_known at.a_side)) (m.b_known.inside b (own_in_chain o ps m.b_known at.b_side)))

    spared : (h : Half) (n : Bool) → Stays o ps (both o ps s m) (point_of h a b) → (Stays o ps (both o ps s m) a → Together o ps a b → n ≡ false) → Together o ps (point_of h a b) (point_of (other h) a b) → Spared h n
    spared A n stays wide k = wide stays k
    spared B n stays wide k = apart_from stays k

    -- the current point of a half that stays, with that of the other half
    pair_of : (h : Half) → Stays o ps (both o ps s m) (point_of h a b) → Pair o ps (both o ps s m) (point_of h a b) (point_of (other h) a b)
    pair_of h stays = record { stays = stays; other = inside_of (other h) }

  none_left : {l : Direction o} {before : Option Breakpoint} {a : ℕ} {as' : List ℕ} {b : ℕ} {bs : List ℕ} → At o ps s m l before a as' b bs [] → (h : Half) (p : ℕ) → IsIn p (list_of h as' bs) → ⊥
  none_left {l} {before} {a} {as'} {b} {bs} at A p i = none_comes A p a as' at.a_side.own i
  none_left {l} {before} {a} {as'} {b} {bs} at B p i = none_comes B p b bs at.b_side.own i

  -- a number of the half that stays is given, now or later, where it enters once it is current
  abbrev Walk : Half → List Breakpoint → Type 0
  Walk h es = (l : Direction o) (before : Option Breakpoint) (a : ℕ) (as' : List ℕ) (b : ℕ) (bs : List ℕ) (t : Sign) → At o ps s m l before a as' b bs es → t ≡ higher o ps s m (up o ps l) a b
      → (p : ℕ) → Stays o ps (both o ps s m) p → IsIn p (point_of h a b ∷ list_of h as' bs) → (p ≡ point_of h a b → Enters o ps l (point_of h a b) (point_of (other h) a b)) → IsIn p (flat_map given_by (cells_from s before t a b es))

  walk_last : (h : Half) → Walk h []
  walk_last h l before a as' b bs t at e p stays i enters = by_place (is_current p (point_of h a b) (list_of h as' bs) i)
    where
      given : Stays o ps (both o ps s m) (point_of h a b) → Enters o ps l (point_of h a b) (point_of (other h) a b) → IsIn (point_of h a b) (flat_map given_by (cells_from s before t a b []))
      given own entered =
          give o ps s m h l m.outer.right t (above_right s a b) false a b [] e (above_right_is o ps s m a b (inside_of at A) (inside_of at B)) (spared at h false own (λ st k. refl))
          (meets o ps (pair_of at h own) l m.outer.right entered (leaves_outer o ps s m (point_of h a b) (point_of (other h) a b) (inside_of at h) (inside_of at (other h))))

      by_place : (p ≡ point_of h a b) ⊎ ((p ≡ point_of h a b → ⊥) × IsIn p (list_of h as' bs)) → IsIn p (flat_map given_by (cells_from s before t a b []))
      by_place (inl q) = subst (λ n. IsIn n (flat_map given_by (cells_from s before t a b []))) (sym q) (given (subst (Stays o ps (both o ps s m)) q stays) (enters q))
      by_place (inr k) = absurd (none_left at h p k.1)

  -- ---- one breakpoint
  module _ (h : Half) {l : Direction o} {before : Option Breakpoint} {a : ℕ} {as' : List ℕ} {b : ℕ} {bs : List ℕ} (d : Breakpoint) {es : List Breakpoint} (t : Sign) (at : At o ps s m l before a as' b bs (d ∷ es)) (e : t ≡ higher o ps s m (up o ps l) a b) (then : Walk h es) where
    abbrev here : Current
    here = record { a = a; as' = as'; b = b; bs = bs }

    abbrev own : ℕ
    own = point_of h a b

    abbrev others : ℕ
    others = point_of (other h) a b

    abbrev r : Direction o
    r = ahead o ps s m d at

    n : Next o ps s m d (record { a = a; as' = as'; b = b; bs = bs }) es (ahead o ps s m d at)
    n = next o ps s m d at

    abbrev all : List ℕ
    all = flat_map given_by (cells_from s before t a b (d ∷ es))

    abbrev later_cells : List ℕ
    later_cells = flat_map given_by (cells_from s (Some d) (above_at s a b d) (current_after A d a) (current_after B d b) es)

    of_b : d.half ≡ B → (d.left ≡ b) × IsIn d.right (both o ps s m)
    of_b q = at_b ((n).step A)
      where
        at_b : IsOwnStep A d (record { a = a; as' = as'; b = b; bs = bs }) (n).now ⊎ IsOtherStep A d (record { a = a; as' = as'; b = b; bs = bs }) (n).now → (d.left ≡ b) × IsIn d.right (both o ps s m)
        at_b (inl k) = absurd (let f : A ≡ B = sym k.half ∙ q in cc)
        at_b (inr k) = (k.from, (n).inside)

    given_now : Stays o ps (both o ps s m) own → Enters o ps l own others → Leaves o ps r own others → IsIn own all
    given_now stays entered leaves =
        give o ps s m h l r t (above_at s a b d) (is_narrow s before d) a b later_cells e (n).above (spared at h (is_narrow s before d) stays (λ st k. is_wide o ps s m d at st k of_b))
        (meets o ps (pair_of at h stays) l r entered leaves)

    given_later : (p : ℕ) → Stays o ps (both o ps s m) p → IsIn p (point h (n).now ∷ rest h (n).now) → (p ≡ point h (n).now → Enters o ps r (point h (n).now) (point (other h) (n).now)) → IsIn p all
    given_later p stays i enters =
        in_right p (given_by (record { a = a; b = b; left = t; right = above_at s a b d; narrow = is_narrow s before d })) later_cells
        (subst (λ x. IsIn p (flat_map given_by (cells_from s (Some d) (above_at s a b d) x (current_after B d b) es))) (n).a_is
        (subst (λ y. IsIn p (flat_map given_by (cells_from s (Some d) (above_at s a b d) (n).now.a y es))) (n).b_is
        (then r (Some d) (n).now.a (n).now.as' (n).now.b (n).now.bs (above_at s a b d) (n).at (n).above_now p stays i enters)))

    module _ (p : ℕ) (stays : Stays o ps (both o ps s m) p) where
      -- the breakpoint is of the half: p is left for the next point, or comes later
      own_step : IsOwnStep h d here (n).now → (p ≡ own) ⊎ ((p ≡ own → ⊥) × IsIn p (list_of h as' bs)) → (p ≡ own → Enters o ps l own others) → IsIn p all
      own_step k (inl q) enters =
          let st : Stays o ps (both o ps s m) own = subst (Stays o ps (both o ps s m)) q stays in
          subst (λ i. IsIn i all) (sym q)
          (given_now st (enters q)
          (subst (λ i. Leaves o ps r i others) k.from (leaves_step o ps (record { stays = subst (Stays o ps (both o ps s m)) (sym k.from) st; other = inside_of at (other h) }) d.right (n).inside (goes_right o ps s m d at))))
      own_step k (inr (f, i)) enters =
          given_later p stays (subst (λ x. IsIn p (x ∷ rest h (n).now)) (sym k.to) (subst (λ xs. IsIn p xs) k.own_rest i))
          (λ q. subst (λ x. Enters o ps r (point h (n).now) x) (sym k.other_same)
          (subst (λ x. Enters o ps r x others) (sym k.to)
          (enters_step o ps (record { stays = subst (Stays o ps (both o ps s m)) (q ∙ k.to) stays; other = inside_of at (other h) }) d.left (subst (λ x. IsIn x (both o ps s m)) (sym k.from) (inside_of at h)) (goes_right o ps s m d at))))

      -- it is of the other half: p is passed here, or stays current
      other_step : IsOtherStep h d here (n).now → (p ≡ own) ⊎ ((p ≡ own → ⊥) × IsIn p (list_of h as' bs)) → IsIn p (own ∷ list_of h as' bs) → (p ≡ own → Enters o ps l own others) → IsIn p all
      other_step k place i enters = by_place place
        where
          still : IsIn p (point h (n).now ∷ rest h (n).now)
          still = subst (λ x. IsIn p (x ∷ rest h (n).now)) (sym k.own_same) (subst (λ xs. IsIn p (own ∷ xs)) (sym k.rest_same) i)

          by_pass : (q : p ≡ own) → Stays o ps (both o ps s m) own → Leaves o ps r own d.left ⊎ AtMost o ps.x d.right own → IsIn p all
          by_pass q st (inl f) = subst (λ x. IsIn x all) (sym q) (given_now st (enters q) (subst (λ x. Leaves o ps r own x) k.from f))
          by_pass q st (inr f) = given_later p stays still (λ g. inl (subst (λ x. AtMost o ps.x x (point h (n).now)) (sym k.to) (subst (λ x. AtMost o ps.x d.right x) (sym k.own_same) f)))

          by_place : (p ≡ own) ⊎ ((p ≡ own → ⊥) × IsIn p (list_of h as' bs)) → IsIn p all
          by_place (inl q) =
              let st : Stays o ps (both o ps s m) own = subst (Stays o ps (both o ps s m)) q stays in
              by_pass q st (passes o ps (record { stays = st; other = subst (λ x. IsIn x (both o ps s m)) (sym k.from) (inside_of at (other h)) }) d.right (n).inside (goes_right o ps s m d at))
          by_place (inr f) = given_later p stays still (λ g. absurd (f.0 (g ∙ k.own_same)))

      walk_step : IsIn p (own ∷ list_of h as' bs) → (p ≡ own → Enters o ps l own others) → IsIn p all
      walk_step i enters = by_step ((n).step h)
        where
          by_step : IsOwnStep h d here (n).now ⊎ IsOtherStep h d here (n).now → IsIn p all
          by_step (inl k) = own_step k (is_current p own (list_of h as' bs) i) enters
          by_step (inr k) = other_step k (is_current p own (list_of h as' bs) i) i enters

  walk : (h : Half) (es : List Breakpoint) → Walk h es
  walk h [] l before a as' b bs t at e p stays i enters = walk_last h l before a as' b bs t at e p stays i enters
  walk h (d ∷ es) l before a as' b bs t at e p stays i enters = walk_step h d t at e (walk h es) p stays i enters

  -- stays, then kept
  pub all_found : (h : Half) (p : ℕ) → Stays o ps (both o ps s m) p → IsIn p (point_of h m.a m.b ∷ list_of h m.as' m.bs) → IsIn p (flat_map given_by (cells_of s m.a m.b m.breakpoints))
  all_found h p stays i =
      walk h m.breakpoints m.outer.left None m.a m.as' m.b m.bs (above_left s m.a m.b) (at_start o ps s m)
      (above_left_is o ps s m m.a m.b (inside_of (at_start o ps s m) A) (inside_of (at_start o ps s m) B)) p stays i
      (λ q. enters_outer o ps s m (point_of h m.a m.b) (point_of (other h) m.a m.b) (inside_of (at_start o ps s m) h) (inside_of (at_start o ps s m) (other h)))
