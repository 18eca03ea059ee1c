-- Two points in the slots of their numbers.
use Rattle.std.proofs.Common.{◌≡◌, sym, ap, ◌∙◌, subst, refl, arith, ℕ, ◌^◌, zero, suc, List, length, set, replicate}
use Rattle.std.specs.Prelude.{Option, Some, None, is_some}
use Rattle.std.proofs.lemmas.List.{length-set, get_or-set_same, get_or-set_other}
use Rattle.std.proofs.lemmas.Option.{same_Some}
use Rattle.kin_motion.specs.Course.{Course, live_of}
use Rattle.kin_motion.specs.Numbers.{IsIn}
use Rattle.kin_motion.specs.Tournaments.{item_in}
use Rattle.kin_motion.proofs.LiveLaws.{live-members}

-- two points in two slots are live
pub both_live : (ms : List (Option Course)) (first second : Course) → length ms ≡ 2 ^ 1 → (i a : ℕ) → item_in (set (set (replicate (2 ^ 1) None) 0 (Some 0)) 1 (Some 1)) i ≡ Some a
    → IsIn a (live_of (set (set ms 0 (Some first)) 1 (Some second)))
both_live ms first second room zero a e = subst (λ k. IsIn k (live_of both)) (same_Some _ _ e) (live-members both 0 ∙ ap is_some (get_or-set_other (set ms 0 (Some first)) 1 0 (Some second) None (omega arith) ∙ get_or-set_same ms 0 (Some first) None (let q : 2 ^ 1 ≡ 2 = refl in omega arith)))
  where
    both : List (Option Course)
    both = set (set ms 0 (Some first)) 1 (Some second)
both_live ms first second room (suc zero) a e = subst (λ k. IsIn k (live_of both)) (same_Some _ _ e) (live-members both 1 ∙ ap is_some (get_or-set_same (set ms 0 (Some first)) 1 (Some second) None (let k = length-set ms 0 (Some first) in let q : 2 ^ 1 ≡ 2 = refl in omega arith)))
  where
    both : List (Option Course)
    both = set (set ms 0 (Some first)) 1 (Some second)
both_live ms first second room (suc (suc i)) a e = absurd cc

-- two slots that were set and cleared hold nothing
none_held : (i a : ℕ) → item_in (set (set (set (set (replicate (2 ^ 1) None) 0 (Some 0)) 1 (Some 1)) 0 None) 1 None) i ≡ Some a → ⊥
none_held zero a e = absurd cc
none_held (suc zero) a e = absurd cc
none_held (suc (suc i)) a e = absurd cc

pub none_left : (l m n o p : List (Option ℕ)) → l ≡ replicate (2 ^ 1) None → m ≡ set l 0 (Some 0) → n ≡ set m 1 (Some 1) → o ≡ set n 0 None → p ≡ set o 1 None → (i a : ℕ) → item_in p i ≡ Some a → ⊥
none_left l m n o p none first second third last i a e =
    none_held i a (sym (ap (λ (k : List (Option ℕ)). item_in k i) slots) ∙ e)
  where
    slots : p ≡ set (set (set (set (replicate (2 ^ 1) None) 0 (Some 0)) 1 (Some 1)) 0 None) 1 None
    slots = last ∙ ap (λ k. set k 1 None) (third ∙ ap (λ k. set k 0 None) (second ∙ ap (λ k. set k 1 (Some 1)) (first ∙ ap (λ k. set k 0 (Some 0)) none)))
