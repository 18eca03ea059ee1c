-- A list without members is settled where no number is live.
use Rattle.std.proofs.Common.{◌≡◌, refl, sym, ap, ap₂, ◌∙◌, subst, List, [], ◌∷◌, ℕ, ◌^◌, true, false, ℤ}
use Rattle.std.specs.Prelude.{Contains}
use Rattle.kin_algebra.proofs.Members.{contains_none}
use Rattle.kin_motion.specs.declared.fact.Placed.{Placed}
use Rattle.kin_motion.specs.declared.keep.Keep.{Keep}
use Rattle.kin_motion.specs.declared.keep.Keep.TheVariants as keep
use Rattle.kin_motion.specs.Contents.{IsSettledList}
use Rattle.kin_motion.specs.Numbers.{is_in, Lists}
use Rattle.kin_motion.specs.Orders.{neighbour_facts}
use Rattle.kin_motion.specs.Scene.{Scene}
use Rattle.kin_motion.proofs.SetLaws.{exactly_none}
use Rattle.kin_motion.proofs.Members.{in_head}
use Rattle.kin_list.specs.declared.mark.Mark.TheVariants.{Rest}
use Rattle.kin_list.specs.Keeping.{IsListFor}
use Rattle.kin_list.specs.Listing.{Listing}

-- no number has no neighbours
no_neighbours : (s : Scene) (dx dy : ℤ) (xs : List ℕ) (p : Placed) → Lists xs [] → ¬ (Contains (neighbour_facts s dx dy 0 xs) p)
no_neighbours s dx dy [] p none h = contains_none p h
no_neighbours s dx dy (x ∷ xs) p none h = let clash : true ≡ false = sym (in_head x xs) ∙ none.same x in cc

pub empty_settled : (s : Scene) (dx dy : ℤ) → s.live ≡ [] → IsSettledList s dx dy [] []
empty_settled s dx dy none = record {
  order = record { all = record { once = tt; same = λ i. sym (ap (is_in i) none) }; chain = tt };
  exact = exactly_none _ (λ p f. no_neighbours s dx dy f.order p (subst (Lists f.order) none f.ordered.all) f.listed);
}

-- a new list is that of the keep whose direction it was given
pub made_for : (dx dy x y : ℤ) (size : ℕ) (kept : Keep) (k : Listing) → kept ≡ keep.Order dx dy → x ≡ dx → y ≡ dy → k ≡ record { dx = x; dy = y; room = 2 ^ size; items = []; facts = []; swaps = []; mark = Rest } → IsListFor k size kept
made_for dx dy x y size kept k is same same' made = subst (λ (l : Listing). IsListFor l size kept) (sym made) (is ∙ ap₂ (λ (a b : ℤ). keep.Order a b) (sym same) (sym same'), refl)
