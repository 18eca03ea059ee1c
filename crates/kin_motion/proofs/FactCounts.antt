-- How many facts a structure has, and all kept structures together.
use Rattle.std.proofs.Common.{◌≡◌, refl, ap, arith, List, [], ◌∷◌, ℕ, zero, suc, ◌+◌, ◌*◌, ◌≤◌, length, map}
use Rattle.std.proofs.lemmas.List.{length-append, length-map}
use Rattle.std.proofs.lemmas.List.Sums.{sum_by-cons}
use Rattle.kin_motion.specs.declared.keep.Keep.{Keep}
use Rattle.kin_motion.specs.declared.keep.Keep.TheVariants.{Order, Extreme, Hull, Closest, Range, Nearest, Diameter, Boxes}
use Rattle.kin_motion.specs.Sets.{ListsExactly}
use Rattle.kin_motion.specs.DiameterFacts.{diameter_facts}
use Rattle.kin_motion.specs.Scene.{Scene, IsReal}
use Rattle.kin_motion.specs.Agreements.{FitsSize}
use Rattle.kin_motion.specs.Live.{IsLiveFact, keep_facts, owned_by, live_facts_from, live_facts}
use Rattle.kin_motion.specs.FactCounts.{most_facts, most_live, FewFacts, FewLiveFacts}
use Rattle.kin_motion.proofs.SetSizes.{no_longer}
use Rattle.kin_motion.proofs.LiveFactLaws.{keep_exact, live_facts_agree}
use Rattle.kin_motion.proofs.OrderCounts.{order_count, range_count}
use Rattle.kin_motion.proofs.ExtremeCounts.{extreme_count}
use Rattle.kin_motion.proofs.ClosestCounts.{closest_count, wedge_count}
use Rattle.kin_motion.proofs.HullCounts.{hull_count}
use Rattle.kin_motion.proofs.BoxFactLaws.{boxes_count}
use Rattle.kin_motion.proofs.DiameterCounts.{few_diameter_facts}
use Rattle.kin_motion.proofs.DiameterFactLaws.{diameter_facts_agree}

-- of lists that have exactly the same, neither is longer
not_longer : {A : Type 0} (which : A → Type 0) (xs ys : List A) → ListsExactly xs which → ListsExactly ys which → length xs ≤ length ys
not_longer which xs ys l m = no_longer xs ys l.once (λ z c. (m.each z).1 ((l.each z).0 c))

module _ (size : ℕ) (s : Scene) (real : IsReal s) (fits : FitsSize size s) where
  keep_count : (keep : Keep) (n : ℕ) → length s.live ≡ n → length (keep_facts size s keep) ≤ most_facts size keep n
  keep_count (Order dx dy) zero e = let few = order_count s dx dy 0 in omega (arith, few, e)
  keep_count (Order dx dy) (suc n) e = let few = order_count s dx dy 0 in omega (arith, few, e)
  keep_count (Extreme dx dy) zero e = let few = extreme_count size s dx dy in omega (arith, few, e)
  keep_count (Extreme dx dy) (suc n) e = let few = extreme_count size s dx dy in omega (arith, few, e)
  keep_count Hull zero e = let few = hull_count size s fits in let none = ap (λ m. 4 * m * size) e in omega (arith, few, none)
  keep_count Hull (suc n) e = let few = hull_count size s fits in let same = ap (λ m. 4 * m * size) e in omega (arith, few, same)
  keep_count Closest zero e = let few = closest_count size s real in omega (arith, few, e)
  keep_count Closest (suc n) e = let few = closest_count size s real in omega (arith, few, e)
  keep_count Range zero e = let few = range_count size s in omega (arith, few, e)
  keep_count Range (suc n) e = let few = range_count size s in omega (arith, few, e)
  keep_count Nearest zero e = let few = wedge_count s in omega (arith, few, e)
  keep_count Nearest (suc n) e = let few = wedge_count s in omega (arith, few, e)
  keep_count Diameter zero e = let few = few_diameter_facts size s (diameter_facts size s) real (diameter_facts_agree size s real) in omega (arith, few, e)
  keep_count Diameter (suc n) e = let few = few_diameter_facts size s (diameter_facts size s) real (diameter_facts_agree size s real) in omega (arith, few, e)
  keep_count (Boxes width height) zero e = let few = boxes_count s width height real in omega (arith, few, e)
  keep_count (Boxes width height) (suc n) e = let few = boxes_count s width height real in omega (arith, few, e)

  live_count : (first : ℕ) (keeps : List Keep) → length (live_facts_from first size keeps s) ≤ most_live size keeps (length s.live)
  live_count first [] = omega arith
  live_count first (keep ∷ keeps) =
      let both = length-append (map (owned_by first) (keep_facts size s keep)) (live_facts_from (first + 1) size keeps s) in
      let owned = length-map (keep_facts size s keep) (owned_by first) in
      let own = keep_count keep (length s.live) refl in
      let rest = live_count (first + 1) keeps in
      let sum = sum_by-cons (λ k. most_facts size k (length s.live)) keep keeps in
      omega (arith, both, owned, own, rest, sum)

pub few_facts : FewFacts
few_facts size s keep facts real fits exact =
    let same = not_longer _ facts (keep_facts size s keep) exact (keep_exact size s real fits keep) in
    let few = keep_count size s real fits keep (length s.live) refl in
    omega (arith, same, few)

pub few_live_facts : FewLiveFacts
few_live_facts size keeps s count real fits (cs, exact, e) =
    let same = not_longer (IsLiveFact size keeps s) cs (live_facts size keeps s) exact (live_facts_agree size keeps s real fits) in
    let few = live_count size s real fits 0 keeps in
    omega (arith, same, few, e)
