-- How passed blocks are counted.
use Rattle.std.proofs.Common.{ap₂, zero-add, ◌≡◌, ℕ, ◌+◌, ◌-◌, ◌^◌, List, [], ◌∷◌, ◌++◌, length, Option, Some, None, is_some, false, refl, sym, ap, ◌∙◌, arith, min}
use Rattle.std.proofs.lemmas.List.Sums.{fold-append, sum_by-cons}
use Rattle.kin_status.proofs.Vocabulary.{Block, failures_in, HasTallied, counted_on, tallied_on, Tally}

-- no block changes nothing
pub none_tallied : (IsPassed : List Block → Type 0) (t : Option Tally) → IsPassed [] → HasTallied IsPassed t t
none_tallied IsPassed t is = record { blocks = []; passed = is; counted = refl }

-- where nobody asks for the counts there are none
pub untallied : (IsPassed : List Block → Type 0) (t : Option Tally) (bs : List Block) → is_some t ≡ false → IsPassed bs → HasTallied IsPassed t t
untallied IsPassed None bs none is = record { blocks = bs; passed = is; counted = same bs }
  where
    same : (bs : List Block) → None ≡ tallied_on None bs
    same [] = refl
    same (b ∷ bs) = same bs
untallied IsPassed (Some t) bs none is = absurd cc

-- one block is counted once
pub one_tallied : (IsPassed : List Block → Type 0) (b : Block) (failures : ℕ) (old new : Option Tally) → failures ≡ length b.failures → IsPassed (b ∷ []) → new ≡ counted_on failures old → HasTallied IsPassed old new
one_tallied IsPassed b failures old new same is e = record { blocks = b ∷ []; passed = is; counted = e ∙ ap (λ n. counted_on n old) same }

-- blocks, and then more of them
pub tallied_then : {Is IsMore IsBoth : List Block → Type 0} {old middle new : Option Tally} → HasTallied Is old middle → HasTallied IsMore middle new
    → ((bs cs : List Block) → Is bs → IsMore cs → IsBoth (bs ++ cs)) → HasTallied IsBoth old new
tallied_then {Is} {IsMore} {IsBoth} {old} {middle} {new} x y both = record {
  blocks = x.blocks ++ y.blocks;
  passed = both x.blocks y.blocks x.passed y.passed;
  counted = y.counted ∙ ap (λ (t : Option Tally). tallied_on t y.blocks) x.counted ∙ sym (fold-append (λ u b. counted_on (length b.failures) u) old x.blocks y.blocks);
}

-- what it means is changed
pub tallied_is : {Is IsOther : List Block → Type 0} {old new : Option Tally} → HasTallied Is old new → ((bs : List Block) → Is bs → IsOther bs) → HasTallied IsOther old new
tallied_is x f = record { blocks = x.blocks; passed = f x.blocks x.passed; counted = x.counted }

-- a count that stops at the most, more often than once, stops there once
stops : (most m n : ℕ) → min (min m most + n) most ≡ min (m + n) most
stops most m n = grind arith

-- all counts together
abbrev counts : ℕ → ℕ → Tally
counts m n = record { moments = min m (2 ^ 64 - 1); failures = min n (2 ^ 64 - 1) }

tallied_are : (m n : ℕ) (bs : List Block) → tallied_on (Some (counts m n)) bs ≡ Some (counts (m + length bs) (n + failures_in bs))
tallied_are m n [] = ap₂ (λ p q. Some (counts p q)) (omega arith) (omega arith)
tallied_are m n (b ∷ bs) =
    ap₂ (λ p q. tallied_on (Some (record { moments = p; failures = q })) bs) (stops (2 ^ 64 - 1) m 1) (stops (2 ^ 64 - 1) n (length b.failures))
    ∙ tallied_are (m + 1) (n + length b.failures) bs
    ∙ ap₂ (λ p q. Some (counts p q)) (omega arith) (let more = sum_by-cons (λ c. length c.failures) b bs in omega (arith, more))

pub tallied_from_nothing : (bs : List Block) → tallied_on (Some (record { moments = 0; failures = 0 })) bs ≡ Some (counts (length bs) (failures_in bs))
tallied_from_nothing bs = tallied_are 0 0 bs ∙ ap₂ (λ p q. Some (counts p q)) (zero-add (length bs)) (zero-add (failures_in bs))
