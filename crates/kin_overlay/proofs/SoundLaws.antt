-- What is true of an overlay, from call to call.
use Rattle.std.proofs.Common.{◌≡◌, ◌≢◌, inl, inr, refl, ap, ◌∙◌, subst, arith, List, [], ◌∷◌, ℕ, ◌+◌, ◌≤◌, length, None}
use Rattle.std.proofs.lemmas.List.{length-append}
use Rattle.kin_algebra.proofs.Members.{contains_none}
use Rattle.kin_motion.specs.declared.fact.Fact.{Fact}
use Rattle.kin_motion.specs.declared.fact.Placed.{Placed}
use Rattle.kin_motion.specs.Kinetics.{HasChanged}
use Rattle.kin_motion.specs.Sets.{AreDistinct}
use Rattle.kin_overlay.specs.declared.stage.Stage.{Stage}
use Rattle.kin_overlay.specs.declared.stage.Stage.TheVariants.{Rest, Told, Broken}
use Rattle.kin_overlay.specs.Remembered.{Remembered, facts_of, placed, all_placed}
use Rattle.kin_overlay.specs.Reports.{IsToldOne, IsTold}
use Rattle.kin_overlay.specs.Repairing.{AreNew}
use Rattle.kin_overlay.specs.Sound.{UnlessBroken}
use Rattle.kin_overlay.proofs.FactLaws.{changed}
use Rattle.kin_motion.proofs.SetLaws.{distinct_none}

-- one that isn't broken
pub sound : (t : Stage) (P : Type 0) → t ≢ Broken → UnlessBroken t P → P
sound Rest P n s = s
sound Told P n s = s
sound Broken P n s = absurd (n refl)

pub sound-at-rest : (t : Stage) (P : Type 0) → t ≡ Rest → UnlessBroken t P → P
sound-at-rest t P q s = subst (λ (u : Stage). UnlessBroken u P) q s

-- all facts are dropped
pub retired : (part : ℕ) (old none : Remembered) (dropped dropped' born : List Placed) → none ≡ record { records = []; left = None; right = None } → AreDistinct (all_placed part (facts_of old))
    → IsTold part (facts_of none) (facts_of old) dropped dropped' → HasChanged (all_placed part (facts_of old)) [] (record { dropped = dropped; born = born }) (record { dropped = dropped'; born = born })
retired part old none dropped dropped' born is distinct told =
    changed part old (record { records = []; left = None; right = None }) (record { dropped = dropped; born = born }) (record { dropped = dropped'; born = born }) distinct distinct_none
    (subst (λ (m : Remembered). IsTold part (facts_of m) (facts_of old) dropped dropped') is told) refl

-- all facts are born
pub all-born : (part : ℕ) (new none : Remembered) (dropped born born' : List Placed) → none ≡ record { records = []; left = None; right = None } → AreDistinct (all_placed part (facts_of new))
    → IsTold part (facts_of none) (facts_of new) born born' → HasChanged [] (all_placed part (facts_of new)) (record { dropped = dropped; born = born }) (record { dropped = dropped; born = born' })
all-born part new none dropped born born' is distinct told =
    changed part (record { records = []; left = None; right = None }) new (record { dropped = dropped; born = born }) (record { dropped = dropped; born = born' }) distinct_none distinct refl
    (subst (λ (m : Remembered). IsTold part (facts_of m) (facts_of new) born born') is told)

-- where nothing is known, each fact is told
pub told-all : (part : ℕ) (fs : List Fact) (before after : List Placed) → IsTold part [] fs before after → length after ≡ length before + length fs
told-all part [] before after e = let k = ap length e in omega arith
told-all part (f ∷ fs) before after (middle, one, rest) = at one (told-all part fs middle after rest)
  where
    at : IsToldOne part [] f before middle → length after ≡ length middle + length fs → length after ≡ length before + length (f ∷ fs)
    at (inl w) k = absurd (contains_none f w.0)
    at (inr w) k = let l = ap length w.1 ∙ length-append before (placed part f ∷ []) in omega (arith, k, l)

-- each fact that isn't known is told
pub told-new : (part : ℕ) (known fs : List Fact) (n : ℕ) (before after : List Placed) → IsTold part known fs before after → AreNew known fs n → length before + n ≤ length after
told-new part known [] n before after e new = let k = ap length e in omega (arith, k, new)
told-new part known (f ∷ fs) n before after (middle, one, rest) new = at one new (λ m h. told-new part known fs m middle after rest h)
  where
    at : IsToldOne part known f before middle → AreNew known (f ∷ fs) n → ((m : ℕ) → AreNew known fs m → length middle + m ≤ length after) → length before + n ≤ length after
    at (inl w) (inl h) more = let k = more n h in let l = ap length w.1 in omega (arith, k, l)
    at (inr w) (inl h) more =
        let k = more n h in
        let l = ap length w.1 ∙ length-append before (placed part f ∷ []) in
        omega (arith, k, l)
    at (inl w) (inr (m, is, unknown, h)) more = absurd (unknown w.0)
    at (inr w) (inr (m, is, unknown, h)) more =
        let k = more m h in
        let l = ap length w.1 ∙ length-append before (placed part f ∷ []) in
        omega (arith, k, l, is)
