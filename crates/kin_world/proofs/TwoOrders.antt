-- Lists of numbers, each rising in an order of its own: when the numbers that both have stand in the same order in both.
use Rattle.std.proofs.Common.{◌≡◌, ◌⊎◌, inl, inr, refl, sym, ◌∙◌, subst, List, [], ◌∷◌, ℕ, Bool, true, false, cond, ◌&&◌}
use Rattle.std.specs.Prelude.{Contains, filter}
use Rattle.kin_algebra.proofs.Members.{contains_none, contains_head, contains_tail, contains_cases}
use Rattle.kin_motion.specs.Numbers.{is_in, IsOnce, IsChain}
use Rattle.kin_motion.proofs.AgreementLaws.{kept-members}
use Rattle.kin_motion.proofs.ListChains.{chain_tail, chain_first, same_chain}
use Rattle.kin_motion.proofs.Members.{contains_from_in}
use Rattle.kin_motion.proofs.SetLaws.{filter-sound}
use Rattle.kin_overlay.specs.Diffs.{KeepOrder}

-- a strict order
pub record IsStrict (lt : ℕ → ℕ → Bool) : Type 0 where
  pub never : (i : ℕ) → lt i i ≡ true → ⊥
  pub through : (i j k : ℕ) → lt i j ≡ true → lt j k ≡ true → lt i k ≡ true

module _ (lt : ℕ → ℕ → Bool) (strict : IsStrict lt) where
  -- what is before all of a chain may stand before it
  chain_cons : (x : ℕ) (xs : List ℕ) → ((y : ℕ) → Contains xs y → lt x y ≡ true) → IsChain lt xs → IsChain lt (x ∷ xs)
  chain_cons x [] before c = tt
  chain_cons x (y ∷ ys) before c = (before y (contains_head y ys), c)

  -- a part of a chain is a chain
  part_of_chain : (test : ℕ → Bool) (xs : List ℕ) → IsChain lt xs → IsChain lt (filter test xs)
  part_of_chain test [] c = tt
  part_of_chain test (x ∷ xs) c = at (test x) (part_of_chain test xs (chain_tail lt x xs c))
    where
      at : (b : Bool) → IsChain lt (filter test xs) → IsChain lt (cond b (x ∷ filter test xs) (filter test xs))
      at true rest = chain_cons x (filter test xs) (λ y h. chain_first lt strict.through x xs c y (filter-sound test xs y h).0) rest
      at false rest = rest

  -- one of two numbers is before the other, or they are one
  abbrev OneIsBefore : ℕ → ℕ → Type 0
  OneIsBefore i j = (i ≡ j) ⊎ ((lt i j ≡ true) ⊎ (lt j i ≡ true))

  -- so it is of two numbers of a chain
  one_before : (xs : List ℕ) (i j : ℕ) → IsChain lt xs → Contains xs i → Contains xs j → OneIsBefore i j
  one_before [] i j c h k = absurd (contains_none i h)
  one_before (x ∷ xs) i j c h k = at (contains_cases x i xs h) (contains_cases x j xs k) (one_before xs i j (chain_tail lt x xs c))
    where
      first : (y : ℕ) → Contains xs y → lt x y ≡ true
      first = chain_first lt strict.through x xs c

      at : (x ≡ i) ⊎ Contains xs i → (x ≡ j) ⊎ Contains xs j → (Contains xs i → Contains xs j → OneIsBefore i j) → OneIsBefore i j
      at (inl e) (inl f) rest = inl (sym e ∙ f)
      at (inl e) (inr b) rest = inr (inl (subst (λ y. lt y j ≡ true) e (first j b)))
      at (inr a) (inl f) rest = inr (inr (subst (λ y. lt y i ≡ true) f (first i a)))
      at (inr a) (inr b) rest = rest a b

-- two numbers that both lists have, of which the first is before the second in the first order, and behind it in the other
pub record AreExchanged (lt lu : ℕ → ℕ → Bool) (old new : List ℕ) (i j : ℕ) : Type 0 where
  pub i_old : Contains old i
  pub j_old : Contains old j
  pub i_new : Contains new i
  pub j_new : Contains new j
  pub before : lt i j ≡ true
  pub behind : lu j i ≡ true

module _ (lt lu : ℕ → ℕ → Bool) (lt_strict : IsStrict lt) (lu_strict : IsStrict lu) where
  -- in one list that is a chain in both orders, what is before in one is before in the other
  pub before_in_both : (xs : List ℕ) (i j : ℕ) → IsChain lt xs → IsChain lu xs → Contains xs i → Contains xs j → lt i j ≡ true → lu i j ≡ true
  before_in_both [] i j c d h k less = absurd (contains_none i h)
  before_in_both (x ∷ xs) i j c d h k less =
      at (contains_cases x i xs h) (contains_cases x j xs k) (λ a b. before_in_both xs i j (chain_tail lt x xs c) (chain_tail lu x xs d) a b less)
    where
      first : (y : ℕ) → Contains xs y → lt x y ≡ true
      first = chain_first lt lt_strict.through x xs c

      at : (x ≡ i) ⊎ Contains xs i → (x ≡ j) ⊎ Contains xs j → (Contains xs i → Contains xs j → lu i j ≡ true) → lu i j ≡ true
      at (inl e) (inl f) rest = absurd (lt_strict.never j (subst (λ y. lt y j ≡ true) (sym e ∙ f) less))
      at (inl e) (inr b) rest = subst (λ y. lu y j ≡ true) e (chain_first lu lu_strict.through x xs d j b)
      at (inr a) (inl f) rest = absurd (lt_strict.never j (lt_strict.through j i j (subst (λ y. lt y i ≡ true) f (first i a)) less))
      at (inr a) (inr b) rest = rest a b

  -- a chain in one order is one in the other, if its numbers agree
  chain_in_other : (xs : List ℕ) → ((i j : ℕ) → Contains xs i → Contains xs j → lt i j ≡ true → lu i j ≡ true) → IsChain lt xs → IsChain lu xs
  chain_in_other [] agree c = tt
  chain_in_other (x ∷ []) agree c = tt
  chain_in_other (x ∷ y ∷ ys) agree c = (
    agree x y (contains_head x (y ∷ ys)) (contains_tail x y (y ∷ ys) (contains_head y ys)) c.0,
    chain_in_other (y ∷ ys) (λ i j h k. agree i j (contains_tail x i (y ∷ ys) h) (contains_tail x j (y ∷ ys) k)) c.1,
  )

  module _ (old new : List ℕ) (old_chain : IsChain lt old) (new_chain : IsChain lu new) (unmoved : (i j : ℕ) → AreExchanged lt lu old new i j → ⊥) where
    -- the numbers of the old list that the new one has, and those of the new list that the old one has
    abbrev stay : List ℕ
    stay = filter (λ i. is_in i new) old

    abbrev stayed : List ℕ
    stayed = filter (λ i. is_in i old) new

    in_old : (i : ℕ) → Contains stay i → Contains old i
    in_old i h = (filter-sound (λ k. is_in k new) old i h).0

    in_new : (i : ℕ) → Contains stay i → Contains new i
    in_new i h = contains_from_in new i (filter-sound (λ k. is_in k new) old i h).1

    agree : (i j : ℕ) → Contains stay i → Contains stay j → lt i j ≡ true → lu i j ≡ true
    agree i j h k less = at (one_before lu lu_strict new i j new_chain (in_new i h) (in_new j k))
      where
        at : OneIsBefore lu lu_strict i j → lu i j ≡ true
        at (inl e) = absurd (lt_strict.never j (subst (λ x. lt x j ≡ true) e less))
        at (inr (inl before)) = before
        at (inr (inr behind)) = absurd (unmoved i j (record { i_old = in_old i h; j_old = in_old j k; i_new = in_new i h; j_new = in_new j k; before = less; behind = behind }))

    same_members : (i : ℕ) → is_in i stay ≡ is_in i stayed
    same_members i = kept-members (λ k. is_in k new) old i ∙ either_way (is_in i old) (is_in i new) ∙ sym (kept-members (λ k. is_in k old) new i)
      where
        either_way : (a b : Bool) → a && b ≡ b && a
        either_way true true = refl
        either_way true false = refl
        either_way false true = refl
        either_way false false = refl

    -- where no two numbers are exchanged, those that both chains have stand in the same order in both
    pub keep_order : IsOnce old → IsOnce new → KeepOrder old new
    keep_order old_once new_once = record {
      old_once = old_once;
      new_once = new_once;
      same = same_chain lu lu_strict.never lu_strict.through stay stayed
          (chain_in_other stay agree (part_of_chain lt lt_strict (λ i. is_in i new) old old_chain)) (part_of_chain lu lu_strict (λ i. is_in i old) new new_chain) same_members;
    }
