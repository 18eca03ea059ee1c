-- The chain that is read off the cells of a merge is the upper chain of both sets.
use Rattle.std.proofs.Common.{◌≡◌, ◌⊎◌, inl, inr, sym, ◌∙◌, subst, List, [], ◌∷◌, ◌++◌, ℕ, true, false, ◌&&◌}
use Rattle.std.specs.Prelude.{Contains, None, flat_map}
use Rattle.std.proofs.lemmas.Bool.{and_from, and_parts}
use Rattle.kin_algebra.proofs.Tests.{same_test}
use Rattle.kin_algebra.proofs.Members.{contains_none, contains_cases}
use Rattle.kin_algebra.proofs.OrderedRings.{one}
use Rattle.kin_motion.specs.Numbers.{is_in, IsIn}
use Rattle.kin_motion.specs.Scene.{Scene, IsReal}
use Rattle.kin_motion.specs.Chains.{is_left, is_bare, IsUpperChain}
use Rattle.kin_motion.specs.Merges.{Half, Half.{A, B}, Breakpoint, breakpoints_of, IsBreakpointList}
use Rattle.kin_motion.specs.Cells.{given_by, cells_of, above_left, changes_of, merged_chain}
use Rattle.kin_motion.proofs.SlopeLaws.{real_slope_laws}
use Rattle.kin_motion.proofs.BreakpointLaws.{members_of, chain_of_list, all_right}
use Rattle.kin_motion.proofs.Members.{in_head, in_tail, in_left, in_right, in_either}
use Rattle.kin_chain.specs.Merging.{AreTold, MergeGivesChain}
use Rattle.kin_chain.proofs.Geometry.{Direction}
use Rattle.kin_chain.proofs.Stays.{Stays, stays_in_part, bare_stays, stays_bare, left_is}
use Rattle.kin_chain.proofs.Best.{best_point}
use Rattle.kin_chain.proofs.Outer.{outer}
use Rattle.kin_chain.proofs.Sides.{ChainOf}
use Rattle.kin_chain.proofs.Ground.{Merging}
use Rattle.kin_chain.proofs.CellLaws.{cells_linked}
use Rattle.kin_chain.proofs.Repeats.{changes_chain, changes_to, changes_from}
use Rattle.kin_chain.proofs.Rising.{given_rises, given_stays}
use Rattle.kin_chain.proofs.Walk.{all_found}
use Rattle.kin_chain.proofs.RealPlanes.{here, places, shown}

-- both points of a breakpoint are of the chain
pub ends_in : (h : Half) (xs : List ℕ) (f : Breakpoint) → Contains (breakpoints_of h xs) f → IsIn f.left xs × IsIn f.right xs
ends_in h [] f k = absurd (contains_none f k)
ends_in h (i ∷ []) f k = absurd (contains_none f k)
ends_in h (i ∷ j ∷ xs) f k = at (contains_cases (record { half = h; left = i; right = j }) f (breakpoints_of h (j ∷ xs)) k) (ends_in h (j ∷ xs) f)
  where
    at : (record { half = h; left = i; right = j } ≡ f) ⊎ Contains (breakpoints_of h (j ∷ xs)) f → (Contains (breakpoints_of h (j ∷ xs)) f → IsIn f.left (j ∷ xs) × IsIn f.right (j ∷ xs)) → IsIn f.left (i ∷ j ∷ xs) × IsIn f.right (i ∷ j ∷ xs)
    at (inl e) rest = (
      subst (λ (g : Breakpoint). IsIn g.left (i ∷ j ∷ xs)) e (in_head i (j ∷ xs)),
      subst (λ (g : Breakpoint). IsIn g.right (i ∷ j ∷ xs)) e (in_tail j i (j ∷ xs) (in_head j xs)),
    )
    at (inr l) rest = let r = rest l in (in_tail f.left i (j ∷ xs) r.0, in_tail f.right i (j ∷ xs) r.1)

module _ (s : Scene) (real : IsReal s) where
  abbrev pub Bare : List ℕ → ℕ → Type 0
  Bare set p = Stays (here s real) (places s real) set p

  pub chain_of : {set xs : List ℕ} → IsUpperChain s set xs → ChainOf (here s real) (places s real) set xs
  chain_of {set} {xs} u = record {
    inside = λ c i. (parts c i).0;
    stays = λ c i. bare_stays (here s real) (places s real) s (shown s real) set c (parts c i).1;
    all = all;
    best = λ d q i. let b = best_point (here s real) (places s real) d set q i in (b.0, all b.0 b.1 b.2, b.3 q i);
  }
    where
      parts : (c : ℕ) → IsIn c xs → IsIn c set × (is_bare s set c ≡ true)
      parts c i = and_parts (is_in c set) (is_bare s set c) (sym (u.members c) ∙ i)

      all : (c : ℕ) → IsIn c set → Bare set c → IsIn c xs
      all c i st = u.members c ∙ and_from (is_in c set) (is_bare s set c) i (stays_bare (here s real) (places s real) s (shown s real) set c st)

  -- an upper chain is that of each set with the same members
  pub same_set : {set other xs : List ℕ} → ((i : ℕ) → IsIn i set → IsIn i other) → ((i : ℕ) → IsIn i other → IsIn i set) → IsUpperChain s set xs → IsUpperChain s other xs
  same_set {set} {other} {xs} f g u = record {
    members = λ p. u.members p ∙ same_test (is_in p set && is_bare s set p) (is_in p other && is_bare s other p) (moved p set other f g) (moved p other set g f);
    rising = u.rising;
  }
    where
      moved : (p : ℕ) (v w : List ℕ) → ((i : ℕ) → IsIn i v → IsIn i w) → ((i : ℕ) → IsIn i w → IsIn i v) → is_in p v && is_bare s v p ≡ true → is_in p w && is_bare s w p ≡ true
      moved p v w f g e =
          let k = and_parts (is_in p v) (is_bare s v p) e in
          and_from (is_in p w) (is_bare s w p) (f p k.0)
          (stays_bare (here s real) (places s real) s (shown s real) w p (stays_in_part (here s real) (places s real) g (bare_stays (here s real) (places s real) s (shown s real) v p k.1)))

  any_direction : Direction (here s real)
  any_direction = record { vector = record { x = one (here s real); y = one (here s real) }; right = (here s real).sign_one }

  -- a set with an empty chain is empty
  none_in_set : {set : List ℕ} → IsUpperChain s set [] → (q : ℕ) → IsIn q set → ⊥
  none_in_set {set} u q i = let b = (chain_of u).best any_direction q i in absurd (let e : false ≡ true = b.1 in cc)

  module _ {left right : List ℕ} {a b : ℕ} {as' bs : List ℕ} {es : List Breakpoint} (told : AreTold s left right (a ∷ as') (b ∷ bs)) (list : IsBreakpointList s (a ∷ as') (b ∷ bs) es) where
    pub rights : (f : Breakpoint) → Contains es f → is_left s f.left f.right ≡ true
    rights f k = at (members_of s (real_slope_laws s real) (a ∷ as') (b ∷ bs) es list f k)
      where
        at : Contains (breakpoints_of A (a ∷ as')) f ⊎ Contains (breakpoints_of B (b ∷ bs)) f → is_left s f.left f.right ≡ true
        at (inl h) = all_right s (real_slope_laws s real) A (a ∷ as') told.a_chain.rising f h
        at (inr h) = all_right s (real_slope_laws s real) B (b ∷ bs) told.b_chain.rising f h

    pub ends : (f : Breakpoint) → Contains es f → IsIn f.left (left ++ right) × IsIn f.right (left ++ right)
    ends f k = at (members_of s (real_slope_laws s real) (a ∷ as') (b ∷ bs) es list f k)
      where
        at : Contains (breakpoints_of A (a ∷ as')) f ⊎ Contains (breakpoints_of B (b ∷ bs)) f → IsIn f.left (left ++ right) × IsIn f.right (left ++ right)
        at (inl h) = let i = ends_in A (a ∷ as') f h in (in_left f.left left right ((chain_of told.a_chain).inside f.left i.0), in_left f.right left right ((chain_of told.a_chain).inside f.right i.1))
        at (inr h) = let i = ends_in B (b ∷ bs) f h in (in_right f.left left right ((chain_of told.b_chain).inside f.left i.0), in_right f.right left right ((chain_of told.b_chain).inside f.right i.1))

    unfoldable pub merging : Merging (here s real) (places s real) s
    merging = record {
      shows = shown s real;
      slopes = real_slope_laws s real;
      left = left;
      right = right;
      a = a;
      as' = as';
      b = b;
      bs = bs;
      a_known = chain_of told.a_chain;
      b_known = chain_of told.b_chain;
      less = told.less;
      breakpoints = es;
      list = list;
      rights = λ f k. left_is (here s real) (places s real) s (shown s real) (rights f k);
      ends = ends;
      sorted = chain_of_list s (real_slope_laws s real) (a ∷ as') (b ∷ bs) es told.a_chain.rising told.b_chain.rising list;
      outer = outer (here s real) (places s real) (left ++ right);
    }

    -- what the cells give
    abbrev given : List ℕ
    given = flat_map given_by (cells_of s a b es)

    -- theorem of the merge, where neither chain is empty
    merged_some : IsUpperChain s (left ++ right) (merged_chain s (a ∷ as') (b ∷ bs) es)
    unfolding merging
    merged_some = record {
      members = λ p. same_test (is_in p (changes_of None given)) (is_in p (left ++ right) && is_bare s (left ++ right) p) (to p) (from p);
      rising = changes_chain (is_left s) given (given_rises (here s real) (places s real) s merging (cells_of s a b es) merging.outer.left (above_left s a b) a b (cells_linked (here s real) (places s real) s merging));
    }
      where
        to : (p : ℕ) → IsIn p (changes_of None given) → is_in p (left ++ right) && is_bare s (left ++ right) p ≡ true
        to p i =
            let k = given_stays (here s real) (places s real) s merging (cells_of s a b es) merging.outer.left (above_left s a b) a b (cells_linked (here s real) (places s real) s merging) p (changes_to given p i) in
            and_from (is_in p (left ++ right)) (is_bare s (left ++ right) p) k.0 (stays_bare (here s real) (places s real) s (shown s real) (left ++ right) p k.1)

        found : (p : ℕ) → Bare (left ++ right) p → IsIn p left ⊎ IsIn p right → IsIn p given
        found p st (inl i) = all_found (here s real) (places s real) s merging A p st ((chain_of told.a_chain).all p i (stays_in_part (here s real) (places s real) (λ q j. in_left q left right j) st))
        found p st (inr i) = all_found (here s real) (places s real) s merging B p st ((chain_of told.b_chain).all p i (stays_in_part (here s real) (places s real) (λ q j. in_right q left right j) st))

        from : (p : ℕ) → is_in p (left ++ right) && is_bare s (left ++ right) p ≡ true → IsIn p (changes_of None given)
        from p e =
            let k = and_parts (is_in p (left ++ right)) (is_bare s (left ++ right) p) e in
            changes_from given p (found p (bare_stays (here s real) (places s real) s (shown s real) (left ++ right) p k.1) (in_either p left right k.0))

  -- theorem of the merge: what is read off the cells is the upper chain of both sets
  pub merged_is_chain : {left right a b : List ℕ} {es : List Breakpoint} → AreTold s left right a b → IsBreakpointList s a b es → IsUpperChain s (left ++ right) (merged_chain s a b es)
  merged_is_chain {left} {right} {a} {b} {es} told list = at a b told list
    where
      none_left : (c : List ℕ) → AreTold s left right [] c → (i : ℕ) → IsIn i left ⊎ IsIn i right → IsIn i right
      none_left c t i (inl k) = absurd (none_in_set t.a_chain i k)
      none_left c t i (inr k) = k

      none_right : (c : List ℕ) → AreTold s left right c [] → (i : ℕ) → IsIn i left ⊎ IsIn i right → IsIn i left
      none_right c t i (inl k) = k
      none_right c t i (inr k) = absurd (none_in_set t.b_chain i k)

      at : (a b : List ℕ) → AreTold s left right a b → IsBreakpointList s a b es → IsUpperChain s (left ++ right) (merged_chain s a b es)
      at [] b t l = same_set (λ i k. in_right i left right k) (λ i k. none_left b t i (in_either i left right k)) t.b_chain
      at (x ∷ xs) [] t l = same_set (λ i k. in_left i left right k) (λ i k. none_right (x ∷ xs) t i (in_either i left right k)) t.a_chain
      at (x ∷ xs) (y ∷ ys) t l = merged_some t l

pub merge_gives_chain : MergeGivesChain
merge_gives_chain s left right a b es real told list = merged_is_chain s real told list
