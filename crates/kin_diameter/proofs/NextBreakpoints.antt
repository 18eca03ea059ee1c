-- Which breakpoint of two chains comes next.
use Rattle.std.proofs.Common.{◌≡◌, inl, inr, refl, sym, ap, ap₂, ◌∙◌, subst, List, [], ◌∷◌, ℕ, Some, true}
use Rattle.std.specs.Prelude.{reverse, Contains}
use Rattle.std.proofs.lemmas.Option.{same_Some}
use Rattle.kin_algebra.specs.declared.sign.Sign.{Sign}
use Rattle.kin_algebra.specs.declared.sign.Sign.TheVariants.{Minus, Zero, Plus}
use Rattle.kin_algebra.specs.Signs.{opposite_of}
use Rattle.kin_algebra.proofs.Members.{contains_head}
use Rattle.kin_motion.specs.declared.form.Form.{Form}
use Rattle.kin_motion.specs.Forms.{IsAskable}
use Rattle.kin_motion.specs.Laws.{HasSlopeLaws}
use Rattle.kin_motion.specs.Merges.{Half.{A, B}, Breakpoint, breakpoints_of, slope_form, goes_first}
use Rattle.kin_motion.specs.Scene.{Scene}
use Rattle.kin_motion.specs.Sweeps.{breakpoints_back}
use Rattle.kin_motion.proofs.Members.{in_reverse}
use Rattle.kin_diameter.specs.declared.breakpoint.Breakpoint.{Breakpoint as Pair}
use Rattle.kin_diameter.specs.declared.breakpoint.Chain.TheVariants.{Upper, Lower}
use Rattle.kin_diameter.specs.declared.merge.Placing.{Placing}
use Rattle.kin_diameter.specs.Merging.{AreAmong, first_of, IsAhead, IsNext, first_placed}
use Rattle.kin_diameter.specs.Seen.{half_of, seen}
use Rattle.kin_diameter.proofs.SweptPoints.{upper_points, lower_points}

-- ---- the points of the next breakpoint
first_there : (es : List Breakpoint) (e : Breakpoint) → Some e ≡ first_of es → Contains es e
first_there [] e q = absurd cc
first_there (f ∷ fs) e q = subst (Contains (f ∷ fs)) (sym (same_Some e f q)) (contains_head f fs)

-- their slope may be asked
pub heads_askable : (live upper lower : List ℕ) (e f : Breakpoint) (form : Form) → form ≡ slope_form e f → AreAmong upper live → AreAmong lower live
    → Some e ≡ first_of (breakpoints_of A upper) → Some f ≡ first_of (breakpoints_back (reverse lower)) → IsAskable live form
heads_askable live upper lower e f form is u l p q =
    let a = upper_points A upper e (first_there (breakpoints_of A upper) e p) in
    let b = lower_points (reverse lower) f (first_there (breakpoints_back (reverse lower)) f q) in
    subst (IsAskable live) (sym is) (u e.left a.left, u e.right a.right, l f.left (in_reverse f.left lower b.left), l f.right (in_reverse f.right lower b.right))

-- ---- the one that comes first
module _ (s : Scene) (slopes : HasSlopeLaws s) where
  -- the upper one goes first where its slope isn't less
  upper_first : (u l : Pair) (t : Sign) (us ls : List Breakpoint) → u.chain ≡ Upper → l.chain ≡ Lower → Some (seen u) ≡ first_of us → Some (seen l) ≡ first_of ls
      → t ≡ s.sign (slope_form (seen u) (seen l)) → goes_first t A B ≡ true → IsNext s us ls (seen u) t
  upper_first u l t us ls of_u of_l first_u first_l own goes = inl (record {
    half = ap half_of of_u;
    first = sym first_u;
    ahead = subst (IsAhead s (seen u) t) first_l (own, ap₂ (λ x y. goes_first t (half_of x) (half_of y)) of_u of_l ∙ goes);
  })

  earlier_next : (u l : Pair) (t : Sign) (us ls : List Breakpoint) → u.chain ≡ Upper → l.chain ≡ Lower → Some (seen u) ≡ first_of us → Some (seen l) ≡ first_of ls
      → t ≡ s.sign (slope_form (seen u) (seen l)) → IsNext s us ls (seen (first_placed u l t).at) (first_placed u l t).ahead
  earlier_next u l Plus us ls of_u of_l first_u first_l own = upper_first u l Plus us ls of_u of_l first_u first_l own refl
  earlier_next u l Zero us ls of_u of_l first_u first_l own = upper_first u l Zero us ls of_u of_l first_u first_l own refl
  earlier_next u l Minus us ls of_u of_l first_u first_l own = inr (record {
    half = ap half_of of_l;
    first = sym first_l;
    ahead = subst (IsAhead s (seen l) Plus) first_u (ap opposite_of own ∙ sym (slopes.opposite u.left u.right l.left l.right), ap₂ (λ x y. goes_first Plus (half_of x) (half_of y)) of_l of_u);
  })

  -- the same of what is placed first
  pub placed_next : (u l : Pair) (t : Sign) (p : Placing) (us ls : List Breakpoint) → p ≡ first_placed u l t → u.chain ≡ Upper → l.chain ≡ Lower → Some (seen u) ≡ first_of us → Some (seen l) ≡ first_of ls
      → t ≡ s.sign (slope_form (seen u) (seen l)) → IsNext s us ls (seen p.at) p.ahead
  placed_next u l t p us ls is of_u of_l first_u first_l own = subst (λ (r : Placing). IsNext s us ls (seen r.at) r.ahead) (sym is) (earlier_next u l t us ls of_u of_l first_u first_l own)
