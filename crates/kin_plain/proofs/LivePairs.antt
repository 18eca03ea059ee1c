-- Pairs of live numbers may be compared.
use Rattle.std.proofs.Common.{◌≡◌, sym, subst, List, [], ◌∷◌, ℕ, Bool}
use Rattle.std.specs.Prelude.{filter}
use Rattle.std.specs.List.{All}
use Rattle.std.proofs.lemmas.List.Elements.{All-nil, All-cons, All-head, All-tail, All-append, All-filter, All-weaker}
use Rattle.kin_motion.specs.ClosestPairs.{Near, pairs_with, pairs_of}
use Rattle.kin_motion.specs.Numbers.{IsIn}
use Rattle.kin_motion.specs.Scene.{Scene}
use Rattle.kin_plain.specs.Comparing.{AreBothLive, MayBeNear}
use Rattle.kin_plain.proofs.LiveLists.{all_live}

-- other points, near a live one
pub others_may : (s : Scene) (i : ℕ) (test : ℕ → Bool) (live others : List ℕ) → IsIn i s.live → live ≡ s.live → others ≡ filter test live → All (MayBeNear i s.live) others
others_may s i test live others here same e =
    subst (λ (l : List ℕ). All (MayBeNear i s.live) l) (sym e)
    (All-weaker (λ (j : ℕ). IsIn j s.live) (MayBeNear i s.live) (λ j h. record { i_live = here; j_live = h }) (filter test live)
    (All-filter test (λ (j : ℕ). IsIn j s.live) live (all_live s live same)))

module _ (live : List ℕ) where
  with_may : (i : ℕ) (js : List ℕ) → IsIn i live → All (λ (j : ℕ). IsIn j live) js → All (AreBothLive live) (pairs_with i js)
  with_may i [] here all = All-nil (AreBothLive live)
  with_may i (j ∷ js) here all =
      All-cons (AreBothLive live) (record { i = i; j = j; slot = 0 }) (pairs_with i js) (record { i_live = here; j_live = All-head (λ (j : ℕ). IsIn j live) j js all })
      (with_may i js here (All-tail (λ (j : ℕ). IsIn j live) j js all))

  both_live : (is : List ℕ) → All (λ (j : ℕ). IsIn j live) is → All (AreBothLive live) (pairs_of is)
  both_live [] all = All-nil (AreBothLive live)
  both_live (i ∷ is) all =
      let rest = All-tail (λ (j : ℕ). IsIn j live) i is all in
      All-append (AreBothLive live) (pairs_with i is) (pairs_of is) (with_may i is (All-head (λ (j : ℕ). IsIn j live) i is all) rest) (both_live is rest)

-- all pairs of live numbers
pub pairs_may : (s : Scene) (live : List ℕ) (pairs : List Near) → live ≡ s.live → pairs ≡ pairs_of live → All (AreBothLive s.live) pairs
pairs_may s live pairs same e = subst (All (AreBothLive s.live)) (sym e) (both_live s.live live (all_live s live same))

-- and a part of them
pub part_may : {A : Type 0} (P : A → Type 0) (test : A → Bool) (xs ys : List A) → All P xs → ys ≡ filter test xs → All P ys
part_may P test xs ys all e = subst (All P) (sym e) (All-filter test P xs all)
