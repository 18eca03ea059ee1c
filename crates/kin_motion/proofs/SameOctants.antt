-- Where the live numbers have the same eight orders in two scenes, they have the same candidates.
use Rattle.std.proofs.Common.{◌≡◌, ◌≢◌, ◌⊎◌, inl, inr, refl, sym, ap, ap₂, ◌∙◌, subst, arith, List, [], ◌∷◌, ℕ, zero, suc, Bool, true, false, cond, not, ◌&&◌, ◌<◌, Some, None, Option, ℤ}
use Rattle.std.specs.Prelude.{slice_get, Contains}
use Rattle.std.proofs.lemmas.Bool.{cases_eq, and_parts, and_from}
use Rattle.std.proofs.lemmas.Option.{same_Some, slice_get_within}
use Rattle.kin_algebra.proofs.Members.{contains_none, contains_cases}
use Rattle.kin_motion.specs.Laws.{HasLineLaws}
use Rattle.kin_motion.specs.Numbers.{is_in, IsIn, IsChain}
use Rattle.kin_motion.specs.Octants.{Octant, Reading, Direction, octants, eight_directions, direction_of, is_before_in, comes_after, is_in_octant, octant_members, IsCandidate, IsCandidateAnswer}
use Rattle.kin_motion.specs.Orders.{is_before}
use Rattle.kin_motion.specs.Scene.{Scene}
use Rattle.kin_motion.proofs.AgreementLaws.{kept-members}
use Rattle.kin_motion.proofs.CandidateLaws.{never_after_itself}
use Rattle.kin_motion.proofs.ListChains.{chain_tail, chain_first}
use Rattle.kin_motion.proofs.OctantLaws.{before_turned}
use Rattle.kin_motion.proofs.OrderLaws.{before_through}

-- ---- the eight orders
-- the direction of a part is at its place
pub way_known : (part : ℕ) → part < 8 → slice_get eight_directions part ≡ Some (direction_of part)
way_known zero h = refl
way_known (suc zero) h = refl
way_known (suc (suc zero)) h = refl
way_known (suc (suc (suc zero))) h = refl
way_known (suc (suc (suc (suc zero)))) h = refl
way_known (suc (suc (suc (suc (suc zero))))) h = refl
way_known (suc (suc (suc (suc (suc (suc zero)))))) h = refl
way_known (suc (suc (suc (suc (suc (suc (suc zero))))))) h = refl
way_known (suc (suc (suc (suc (suc (suc (suc (suc part)))))))) h = absurd (omega (arith, h))

pub way_of : (part : ℕ) (way : Direction) → slice_get eight_directions part ≡ Some way → (part < 8) × (way ≡ direction_of part)
way_of part way e = let l = slice_get_within eight_directions part way e in (l, same_Some way (direction_of part) (sym e ∙ way_known part l))

-- the orders of an octant are of the parts 0 to 7
abbrev AreOfEight : Octant → Type 0
AreOfEight o = (o.first.part < 8) × (o.second.part < 8) × (o.third.part < 8)

of_octant : (a o : Octant) → AreOfEight a → Some a ≡ Some o → AreOfEight o
of_octant a o h e = let same : a ≡ o = cc in subst AreOfEight same h

pub three_of_eight : (w : ℕ) (o : Octant) → slice_get octants w ≡ Some o → AreOfEight o
three_of_eight zero o e = of_octant _ o (omega arith, omega arith, omega arith) e
three_of_eight (suc zero) o e = of_octant _ o (omega arith, omega arith, omega arith) e
three_of_eight (suc (suc zero)) o e = of_octant _ o (omega arith, omega arith, omega arith) e
three_of_eight (suc (suc (suc zero))) o e = of_octant _ o (omega arith, omega arith, omega arith) e
three_of_eight (suc (suc (suc (suc zero)))) o e = of_octant _ o (omega arith, omega arith, omega arith) e
three_of_eight (suc (suc (suc (suc (suc zero))))) o e = of_octant _ o (omega arith, omega arith, omega arith) e
three_of_eight (suc (suc (suc (suc (suc (suc zero)))))) o e = of_octant _ o (omega arith, omega arith, omega arith) e
three_of_eight (suc (suc (suc (suc (suc (suc (suc zero))))))) o e = of_octant _ o (omega arith, omega arith, omega arith) e
three_of_eight (suc (suc (suc (suc (suc (suc (suc (suc w)))))))) o e = absurd cc

-- ---- an order
module _ (s : Scene) (laws : HasLineLaws s) (dx dy : ℤ) (x : ℕ) (xs : List ℕ) (chain : IsChain (is_before s dx dy) (x ∷ xs)) where
  first_before : (p q : ℕ) → x ≡ p → Contains xs q → is_before s dx dy p q ≡ true
  first_before p q e h = ap (λ i. is_before s dx dy i q) (sym e) ∙ chain_first (is_before s dx dy) (before_through s laws dx dy) x xs chain q h

  not_before_first : (p q : ℕ) → x ≡ q → Contains xs p → p ≢ q → is_before s dx dy p q ≡ false
  not_before_first p q e h n = before_turned s laws dx dy q p (λ f. n (sym f)) ∙ ap not (first_before q p e h)

-- in an order that two scenes have in common one number is before another in both or in neither
pub in_common : (v w : Scene) → HasLineLaws v → HasLineLaws w → (dx dy : ℤ) (xs : List ℕ) → IsChain (is_before v dx dy) xs → IsChain (is_before w dx dy) xs
    → (p q : ℕ) → p ≢ q → Contains xs p → Contains xs q → is_before v dx dy p q ≡ is_before w dx dy p q
in_common v w v_laws w_laws dx dy [] c d p q n a b = absurd (contains_none p a)
in_common v w v_laws w_laws dx dy (x ∷ xs) c d p q n a b =
    at (contains_cases x p xs a) (contains_cases x q xs b) (in_common v w v_laws w_laws dx dy xs (chain_tail (is_before v dx dy) x xs c) (chain_tail (is_before w dx dy) x xs d) p q n)
  where
    at : (x ≡ p) ⊎ Contains xs p → (x ≡ q) ⊎ Contains xs q → (Contains xs p → Contains xs q → is_before v dx dy p q ≡ is_before w dx dy p q) → is_before v dx dy p q ≡ is_before w dx dy p q
    at (inl e) (inl f) rest = absurd (n (sym e ∙ f))
    at (inl e) (inr h) rest = first_before v v_laws dx dy x xs c p q e h ∙ sym (first_before w w_laws dx dy x xs d p q e h)
    at (inr h) (inl e) rest = not_before_first v v_laws dx dy x xs c p q e h n ∙ sym (not_before_first w w_laws dx dy x xs d p q e h n)
    at (inr g) (inr h) rest = rest g h

-- two live numbers are in the same order in both scenes, in each of the eight orders
abbrev pub HaveSameOrders : Scene → Scene → Type 0
HaveSameOrders v w = (part p q : ℕ) → part < 8 → p ≢ q → IsIn p v.live → IsIn q v.live → is_before_in v part p q ≡ is_before_in w part p q

-- ---- candidates
module _ (v w : Scene) (v_laws : HasLineLaws v) (w_laws : HasLineLaws w) (same : v.live ≡ w.live) (same_before : HaveSameOrders v w) where
  same_after : (r : Reading) (p q : ℕ) → r.part < 8 → p ≢ q → is_in p v.live ≡ true → is_in q v.live ≡ true → comes_after v r p q ≡ comes_after w r p q
  same_after r p q h n a b = at r.from_end
    where
      at : (e : Bool) → cond e (is_before_in v r.part q p) (is_before_in v r.part p q) ≡ cond e (is_before_in w r.part q p) (is_before_in w r.part p q)
      at true = same_before r.part q p h (λ e. n (sym e)) b a
      at false = same_before r.part p q h n a b

  module _ (o : Octant) (place : ℕ) (known : slice_get octants place ≡ Some o) where
    -- the octant of a live number has the same members
    same_octant : (p q : ℕ) → is_in p v.live ≡ true → is_in q v.live ≡ true → is_in_octant v o p q ≡ is_in_octant w o p q
    same_octant p q a b = at (cases_eq p q)
      where
        never : (s : Scene) → HasLineLaws s → p ≡ q → is_in_octant s o p q ≡ false
        never s laws e = no_longer (comes_after s o.first p q) (λ t. never_after_itself s laws o.first p (ap (comes_after s o.first p) e ∙ t))
          where
            no_longer : (t : Bool) → (t ≡ true → ⊥) → t && comes_after s o.second p q ≡ false
            no_longer true h = absurd (h refl)
            no_longer false h = refl

        at : (p ≡ q) ⊎ (p ≢ q) → is_in_octant v o p q ≡ is_in_octant w o p q
        at (inl e) = never v v_laws e ∙ sym (never w w_laws e)
        at (inr n) = ap₂ (λ (s t : Bool). s && t) (same_after o.first p q (three_of_eight place o known).0 n a b) (same_after o.second p q (three_of_eight place o known).1 n a b)

    member_there : (p q : ℕ) → is_in p v.live ≡ true → IsIn q (octant_members v o p) → IsIn q (octant_members w o p)
    member_there p q a h =
        let b = and_parts _ _ (sym (kept-members (is_in_octant v o p) v.live q) ∙ h) in
        kept-members (is_in_octant w o p) w.live q ∙ and_from _ _ (ap (is_in q) (sym same) ∙ b.0) (sym (same_octant p q a b.0) ∙ b.1)

    member_here : (p q : ℕ) → is_in p v.live ≡ true → IsIn q (octant_members w o p) → (is_in q v.live ≡ true) × IsIn q (octant_members v o p)
    member_here p q a h =
        let b = and_parts _ _ (sym (kept-members (is_in_octant w o p) w.live q) ∙ h) in
        let l = ap (is_in q) same ∙ b.0 in
        (l, kept-members (is_in_octant v o p) v.live q ∙ and_from _ _ l (same_octant p q a l ∙ b.1))

    candidate_there : (p c : ℕ) → is_in p v.live ≡ true → is_in c v.live ≡ true → IsCandidate v o p c → IsCandidate w o p c
    candidate_there p c a l k = record {
      member = member_there p c a k.member;
      first = λ q h. let m = member_here p q a h in at q m.0 (k.first q m.1) (cases_eq c q);
    }
      where
        at : (q : ℕ) → is_in q v.live ≡ true → (q ≡ c) ⊎ (comes_after v o.third c q ≡ true) → (c ≡ q) ⊎ (c ≢ q) → (q ≡ c) ⊎ (comes_after w o.third c q ≡ true)
        at q b (inl e) d = inl e
        at q b (inr t) (inl e) = inl (sym e)
        at q b (inr t) (inr n) = inr (sym (same_after o.third c q (three_of_eight place o known).2 n l b) ∙ t)

-- the candidates of the one scene are those of the other
module _ (v w : Scene) (v_laws : HasLineLaws v) (w_laws : HasLineLaws w) (same : v.live ≡ w.live) (alike : HaveSameOrders v w) (o : Octant) (place : ℕ) (known : slice_get octants place ≡ Some o) where
  alike_back : HaveSameOrders w v
  alike_back part p q h n a b = sym (alike part p q h n (ap (is_in p) same ∙ a) (ap (is_in q) same ∙ b))

  pub candidate_goes : (p c : ℕ) → IsIn p v.live → IsCandidate v o p c → IsCandidate w o p c
  candidate_goes p c a h = candidate_there v w v_laws w_laws same alike o place known p c a (and_parts _ _ (sym (kept-members (is_in_octant v o p) v.live c) ∙ h.member)).0 h

  pub candidate_comes : (p c : ℕ) → IsIn p v.live → IsCandidate w o p c → IsCandidate v o p c
  candidate_comes p c a h =
      candidate_there w v w_laws v_laws (sym same) alike_back o place known p c (ap (is_in p) (sym same) ∙ a) (and_parts _ _ (sym (kept-members (is_in_octant w o p) w.live c) ∙ h.member)).0 h

  pub answer_goes : (p : ℕ) (answer : Option ℕ) → IsIn p v.live → IsCandidateAnswer v o p answer → IsCandidateAnswer w o p answer
  answer_goes p None a h = λ c k. h c (candidate_comes p c a k)
  answer_goes p (Some c) a h = candidate_goes p c a h
