-- Lists that have kept their members and their facts.
use Rattle.std.proofs.Common.{◌≡◌, refl, ap, ap₂, arith, List, [], ◌∷◌, ◌++◌, ℕ, suc, ◌+◌, map, length, Some}
use Rattle.std.specs.Prelude.{slice_get}
use Rattle.kin_motion.specs.declared.fact.Placed.{Placed}
use Rattle.kin_motion.specs.Parts.{moved_by}
use Rattle.kin_list.specs.Listing.{Listing}
use Rattle.kin_wedge.specs.Parts.{facts_from}
use Rattle.kin_wedge.specs.Seen.{rows_of}

pub rows_kept : (old new : List Listing) → length new ≡ length old → ((part : ℕ) (l m : Listing) → slice_get old part ≡ Some l → slice_get new part ≡ Some m → m.items ≡ l.items) → rows_of new ≡ rows_of old
rows_kept [] [] c e = refl
rows_kept [] (m ∷ ms) c e = absurd (omega (arith, c))
rows_kept (l ∷ ls) [] c e = absurd (omega (arith, c))
rows_kept (l ∷ ls) (m ∷ ms) c e = ap₂ (λ (r : List ℕ) (rs : List (List ℕ)). r ∷ rs) (e 0 l m refl refl) (rows_kept ls ms (omega (arith, c)) (λ part k n f g. e (suc part) k n f g))

pub facts_kept : (n : ℕ) (old new : List Listing) → length new ≡ length old → ((part : ℕ) (l m : Listing) → slice_get old part ≡ Some l → slice_get new part ≡ Some m → m.facts ≡ l.facts) → facts_from n new ≡ facts_from n old
facts_kept n [] [] c e = refl
facts_kept n [] (m ∷ ms) c e = absurd (omega (arith, c))
facts_kept n (l ∷ ls) [] c e = absurd (omega (arith, c))
facts_kept n (l ∷ ls) (m ∷ ms) c e = ap₂ (λ (a b : List Placed). a ++ b) (ap (map (moved_by n)) (e 0 l m refl refl)) (facts_kept (n + 1) ls ms (omega (arith, c)) (λ part k o f g. e (suc part) k o f g))
