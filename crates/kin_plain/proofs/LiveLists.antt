-- Lists of live numbers: a part, and what is sorted.
use Rattle.std.proofs.Common.{◌≡◌, ◌<◌, ◌≤◌, ◌^◌, arith, refl, sym, subst, ap, List, ℕ, Bool, false, not, ◌&&◌, get_or, drop}
use Rattle.std.specs.Prelude.{Contains, filter}
use Rattle.std.specs.List.{All, list_any}
use Rattle.std.proofs.lemmas.List.Folds.{list_any_none}
use Rattle.std.proofs.lemmas.List.Elements.{All-contains, All-contains_itself, All-weaker, All-drop, All-filter}
use Rattle.std.proofs.Math.Pow.{pow_mono}
use Rattle.kin_motion.specs.declared.form.Form.TheVariants.{Turn}
use Rattle.kin_motion.specs.Agreements.{FitsSize}
use Rattle.kin_motion.specs.Chains.{is_bare, is_left, is_plus, is_under_segment, upper_chain_of}
use Rattle.kin_motion.specs.Numbers.{IsIn, sorted_by}
use Rattle.kin_motion.specs.Scene.{Scene}
use Rattle.kin_motion.proofs.Members.{in_from_contains}
use Rattle.kin_motion.proofs.Sorting.{sorted-has}
use Rattle.kin_plain.specs.Live.{AreLive}

-- the live numbers themselves
pub all_live : (s : Scene) (xs : List ℕ) → xs ≡ s.live → AreLive s xs
all_live s xs e = subst (AreLive s) (sym e) (All-weaker (λ (i : ℕ). Contains s.live i) (λ (i : ℕ). IsIn i s.live) (in_from_contains s.live) s.live (All-contains_itself s.live))

-- what is true of all items is true of those of a list that has no others
pub all_of_part : {A : Type 0} (P : A → Type 0) (xs ys : List A) → ((z : A) → Contains ys z → Contains xs z) → All P xs → All P ys
all_of_part P xs ys part all = All-weaker (Contains ys) P (λ z h. All-contains P xs z all (part z h)) ys (All-contains_itself ys)

-- what is true of all items is true of them once sorted
pub all_sorted : {A : Type 0} (P : A → Type 0) (lt : A → A → Bool) (xs : List A) → All P xs → All P (sorted_by lt xs)
all_sorted P lt xs all = all_of_part P xs (sorted_by lt xs) (λ z. (sorted-has lt xs z).0) all

-- a list that is sorted from the last live numbers
pub sorted_live : (s : Scene) (lt : ℕ → ℕ → Bool) (live : List ℕ) (i : ℕ) (order : List ℕ) → live ≡ s.live → order ≡ sorted_by lt (drop i live) → AreLive s order
sorted_live s lt live i order e q = subst (AreLive s) (sym q) (all_sorted (λ (n : ℕ). IsIn n s.live) lt (drop i live) (All-drop (λ (n : ℕ). IsIn n s.live) i live (all_live s live e)))

-- the whole order
pub order_live : (s : Scene) (lt : ℕ → ℕ → Bool) (order : List ℕ) → order ≡ sorted_by lt s.live → AreLive s order
order_live s lt order q = subst (AreLive s) (sym q) (all_sorted (λ (n : ℕ). IsIn n s.live) lt s.live (all_live s s.live refl))

-- a part of a set
pub part_live : (s : Scene) (test : ℕ → Bool) (set bare : List ℕ) → AreLive s set → bare ≡ filter test set → AreLive s bare
part_live s test set bare live e = subst (AreLive s) (sym e) (All-filter test (λ (n : ℕ). IsIn n s.live) set live)

-- a part of a set, sorted from the last on
pub sorted_part : (s : Scene) (lt : ℕ → ℕ → Bool) (test : ℕ → Bool) (set bare : List ℕ) (i : ℕ) (order : List ℕ) → AreLive s set → bare ≡ filter test set → order ≡ sorted_by lt (drop i bare)
    → AreLive s order
sorted_part s lt test set bare i order live e q =
    subst (AreLive s) (sym q) (all_sorted (λ (n : ℕ). IsIn n s.live) lt (drop i bare) (All-drop (λ (n : ℕ). IsIn n s.live) i bare (part_live s test set bare live e)))

-- a segment that begins to the right of a point isn't above it
pub none_under : (s : Scene) (p q : ℕ) (set : List ℕ) → is_left s q p ≡ false → list_any (is_under_segment s p q) set ≡ false
none_under s p q set e = list_any_none (is_under_segment s p q) set (λ k d l. ap (λ b. b && is_left s p (get_or set k d) && not (is_plus (s.sign (Turn q (get_or set k d) p)))) e)

-- a chain of live numbers
pub chain_live : (s : Scene) (set chain : List ℕ) → AreLive s set → chain ≡ upper_chain_of s set → AreLive s chain
chain_live s set chain live e = sorted_part s (is_left s) (is_bare s set) set (filter (is_bare s set) set) 0 chain live refl e

-- where live numbers have slots, they are small
pub number_small : (s : Scene) (size : ℕ) → FitsSize size s → size ≤ 12 → (i : ℕ) → IsIn i s.live → i < 2 ^ 12
number_small s size fits le i here =
    let low = fits i here in
    let most : 2 ^ size ≤ 2 ^ 12 = pow_mono le in
    omega (arith, low, most)

pub numbers_fit : (s : Scene) (size : ℕ) (live : List ℕ) → FitsSize size s → live ≡ s.live → All (λ (i : ℕ). i < 2 ^ size) live
numbers_fit s size live fits same = All-weaker (λ (i : ℕ). IsIn i s.live) (λ (i : ℕ). i < 2 ^ size) fits live (all_live s live same)
