-- Sums over legs, and counts of certificates.
use Rattle.std.proofs.lemmas.List.Sums.{length-filter, sum_by-cons}
use Rattle.std.specs.Prelude.{◌*◌, Bool, count_by, filter, sum_by}
use Rattle.kin_world.proofs.Vocabulary.{◌≡◌, ◌↔◌, refl, sym, ◌∙◌, arith, ℕ, ◌+◌, List, [], ◌∷◌, length, Contains}
use Rattle.kin_world.proofs.Vocabulary.{Certificate, AreDistinct}
use Rattle.kin_world.proofs.Vocabulary.{distinct_filter, filter-complete, filter-sound}
use Rattle.kin_world.proofs.Vocabulary.{Leg}
use Rattle.kin_motion.proofs.SetSizes.{no_longer}
use Rattle.std.proofs.Common.{ap₂}
use Rattle.kin_algebra.proofs.Members.{contains_head, contains_tail}

pub more_a_leg : (f : Leg → ℕ) (k : ℕ) (ls : List Leg) → sum_by (λ l. f l + k) ls ≡ sum_by f ls + k * length ls
more_a_leg f k [] = omega arith
more_a_leg f k (l ∷ ls) =
    let rest = more_a_leg f k ls in
    let one = sum_by-cons (λ (j : Leg). f j + k) l ls in
    let own = sum_by-cons f l ls in
    grind (arith, rest, one, own)

pub same_sum : (f g : Leg → ℕ) (ls : List Leg) → ((l : Leg) → Contains ls l → f l ≡ g l) → sum_by f ls ≡ sum_by g ls
same_sum f g [] same = refl
same_sum f g (l ∷ ls) same =
    sum_by-cons f l ls ∙ ap₂ (λ a b. a + b) (same l (contains_head l ls)) (same_sum f g ls (λ k there. same k (contains_tail l k ls there))) ∙ sym (sum_by-cons g l ls)

-- two lists with the same members, none twice, have as many of each kind
pub same_count : (p : Certificate → Bool) (xs ys : List Certificate) → AreDistinct xs → AreDistinct ys → ((c : Certificate) → Contains xs c ↔ Contains ys c) → count_by p xs ≡ count_by p ys
same_count p xs ys once once' same =
    let one = no_longer (filter p xs) (filter p ys) (distinct_filter p xs once) (λ c h. let k = filter-sound p xs c h in filter-complete p ys c ((same c).0 k.0) k.1) in
    let two = no_longer (filter p ys) (filter p xs) (distinct_filter p ys once') (λ c h. let k = filter-sound p ys c h in filter-complete p xs c ((same c).1 k.0) k.1) in
    omega (arith, one, two, length-filter p xs, length-filter p ys)
