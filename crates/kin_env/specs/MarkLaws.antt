-- What a tree with at most one marked slot spares.
use Rattle.std.proofs.Common.{◌≡◌, ◌≢◌, ◌⊎◌, inl, inr, refl, sym, ap, ap₂, ◌∙◌, subst, arith, List, [], ◌∷◌, ℕ, zero, suc, ◌+◌, ◌^◌, ◌<◌, ◌≤◌, Bool, true, false, not, ◌&&◌, ◌||◌, set}
use Rattle.std.specs.Prelude.{◌↔◌, Contains}
use Rattle.std.proofs.lemmas.Bool.{and_parts, not-true, or_cases, or_left, or_right, cases_eq, false_from_ne_true}
use Rattle.std.proofs.lemmas.List.{get_or-set_same, get_or-set_other}
use Rattle.kin_algebra.proofs.Tests.{same_test, or_none}
use Rattle.kin_algebra.proofs.Members.{contains_none, contains_head, contains_tail, contains_cases}
use Rattle.kin_motion.specs.declared.fact.Placed.{Placed}
use Rattle.kin_motion.specs.declared.form.Form.{Form}
use Rattle.kin_motion.specs.Forms.{names}
use Rattle.kin_motion.specs.Numbers.{is_in, numbers_from}
use Rattle.kin_motion.proofs.Members.{in_head}
use Rattle.kin_motion.proofs.SetLaws.{filter-sound, filter-complete}
use Rattle.kin_overlay.specs.Overlays.{names_any}
use Rattle.kin_env.specs.Trees.{Envelope, chain_of_slot, is_leaving, leaving_of, names_leaving, IsEnvelopeAtRest}
use Rattle.kin_env.specs.Walks.{slot_in, own_chain}

-- ---- numbers that a form names
pub some_named : (f : Form) (is : List ℕ) → names_any f is ≡ true → (i : ℕ) × Contains is i × (names f i ≡ true)
some_named f [] e = absurd cc
some_named f (i ∷ is) e = at (or_cases (names f i) (names_any f is) e) (some_named f is)
  where
    at : (names f i ≡ true) ⊎ (names_any f is ≡ true) → (names_any f is ≡ true → (j : ℕ) × Contains is j × (names f j ≡ true)) → (j : ℕ) × Contains (i ∷ is) j × (names f j ≡ true)
    at (inl k) rest = (i, contains_head i is, k)
    at (inr k) rest = let w = rest k in (w.0, contains_tail i w.0 is w.1, w.2)

any_named : (f : Form) (is : List ℕ) (i : ℕ) → Contains is i → names f i ≡ true → names_any f is ≡ true
any_named f [] i c e = absurd (contains_none i c)
any_named f (j ∷ is) i c e = at (contains_cases j i is c) (any_named f is i)
  where
    at : (j ≡ i) ⊎ Contains is i → (Contains is i → names f i ≡ true → names_any f is ≡ true) → names f j || names_any f is ≡ true
    at (inl q) rest = or_left (names f j) (names_any f is) (ap (names f) q ∙ e)
    at (inr k) rest = or_right (names f j) (names_any f is) (rest k e)

-- two lists with the same numbers
pub same_named : (f : Form) (is js : List ℕ) → ((i : ℕ) → Contains is i ↔ Contains js i) → names_any f is ≡ names_any f js
same_named f is js same = same_test (names_any f is) (names_any f js) (λ e. let w = some_named f is e in any_named f js w.0 ((same w.0).0 w.1) w.2) (λ e. let w = some_named f js e in any_named f is w.0 ((same w.0).1 w.1) w.2)

-- ---- numbers of slots
number_low : (a n i : ℕ) → Contains (numbers_from a n) i → i < a + n
number_low a zero i c = absurd (contains_none i c)
number_low a (suc n) i c = at (contains_cases a i (numbers_from (a + 1) n) c) (number_low (a + 1) n i)
  where
    at : (a ≡ i) ⊎ Contains (numbers_from (a + 1) n) i → (Contains (numbers_from (a + 1) n) i → i < a + 1 + n) → i < a + suc n
    at (inl q) rest = omega (arith, q)
    at (inr k) rest = omega (arith, rest k)

number_there : (a n i : ℕ) → a ≤ i → i < a + n → Contains (numbers_from a n) i
number_there a zero i low high = absurd (omega arith)
number_there a (suc n) i low high = at (cases_eq a i) (number_there (a + 1) n i)
  where
    at : (a ≡ i) ⊎ (a ≢ i) → (a + 1 ≤ i → i < a + 1 + n → Contains (numbers_from (a + 1) n) i) → Contains (numbers_from a (suc n)) i
    at (inl q) rest = subst (λ j. Contains (numbers_from a (suc n)) j) q (contains_head a (numbers_from (a + 1) n))
    at (inr m) rest = contains_tail a i (numbers_from (a + 1) n) (rest (omega arith) (omega arith))

pub in_leaving : (t : Envelope) (i : ℕ) → Contains (leaving_of t) i ↔ ((i < 2 ^ t.size) × (is_leaving t i ≡ true))
in_leaving t i = (
  λ c. (let k = filter-sound (is_leaving t) (numbers_from 0 (2 ^ t.size)) i c in let low = number_low 0 (2 ^ t.size) i k.0 in (omega (arith, low), k.1)),
  λ k. (let low = k.0 in filter-complete (is_leaving t) (numbers_from 0 (2 ^ t.size)) i (number_there 0 (2 ^ t.size) i (omega arith) (omega arith)) k.1),
)

-- ---- marks of a tree at rest
module _ (t : Envelope) (rest : IsEnvelopeAtRest t) where
  -- after other slots are set, a leaving number was set and isn't any more
  record HasLeftSlot (slots : List Bool) (i : ℕ) : Type 0 where
    pub low : i < 2 ^ t.size
    pub was : slot_in t.slots i ≡ true
    pub now : slot_in slots i ≡ false

  held_in : (i : ℕ) (held : Bool) → is_in i (own_chain i held) ≡ true → held ≡ true
  held_in i true e = refl
  held_in i false e = absurd cc

  has_left : (slots : List Bool) (i : ℕ) → Contains (leaving_of (record t { slots = slots })) i → HasLeftSlot slots i
  has_left slots i c =
      let k = (in_leaving (record t { slots = slots }) i).0 c in
      let parts = and_parts (is_in i (chain_of_slot t i)) (not (slot_in slots i)) k.1 in
      record {
        low = k.0;
        was = held_in i (slot_in t.slots i) (subst (λ (l : List ℕ). is_in i l ≡ true) (rest.unmarked i k.0) parts.0);
        now = not-true (slot_in slots i) parts.1;
      }

  none_left : (slots : List Bool) → ((i : ℕ) → slot_in t.slots i ≡ true → slot_in slots i ≡ true) → (p : Placed) → names_leaving (record t { slots = slots }) p ≡ false
  none_left slots kept p = false_from_ne_true (names_leaving (record t { slots = slots }) p) (λ e. let w = some_named p.fact.form (leaving_of (record t { slots = slots })) e in let h = has_left slots w.0 w.1 in let z : true ≡ false = sym (kept w.0 h.was) ∙ h.now in absurd cc)

  -- at rest no fact is spared
  pub spares_none : (p : Placed) → names_leaving t p ≡ false
  spares_none = none_left t.slots (λ i e. e)

  module _ (slot : ℕ) (inside : slot < 2 ^ t.size) where
    -- nor where one number enters
    pub spares_none_entering : (p : Placed) → names_leaving (record t { slots = set t.slots slot true }) p ≡ false
    spares_none_entering = none_left (set t.slots slot true) (λ i e. at i e (cases_eq i slot))
      where
        at : (i : ℕ) → slot_in t.slots i ≡ true → (i ≡ slot) ⊎ (i ≢ slot) → slot_in (set t.slots slot true) i ≡ true
        at i e (inl q) = ap (slot_in (set t.slots slot true)) q ∙ get_or-set_same t.slots slot true false (subst (λ n. slot < n) (sym rest.room) inside)
        at i e (inr m) = get_or-set_other t.slots slot i true false m ∙ e

    module _ (held : slot_in t.slots slot ≡ true) where
      abbrev left : List Bool
      left = set t.slots slot false

      slot_leaves : Contains (leaving_of (record t { slots = left })) slot
      slot_leaves = (in_leaving (record t { slots = left }) slot).1 (
        inside,
        ap₂ (λ a b. a && not b) (ap (λ (l : List ℕ). is_in slot l) (rest.unmarked slot inside ∙ ap (own_chain slot) held) ∙ in_head slot []) (get_or-set_same t.slots slot false false (subst (λ n. slot < n) (sym rest.room) inside)),
      )

      only_slot : (i : ℕ) → HasLeftSlot left i → i ≡ slot
      only_slot i h = at (cases_eq i slot)
        where
          at : (i ≡ slot) ⊎ (i ≢ slot) → i ≡ slot
          at (inl q) = q
          at (inr m) = absurd (let z : true ≡ false = sym (get_or-set_other t.slots slot i false false m ∙ h.was) ∙ h.now in cc)

      -- where one number leaves, exactly the facts that name it are
      pub spares_leaving : (p : Placed) → names_leaving (record t { slots = set t.slots slot false }) p ≡ names p.fact.form slot
      spares_leaving p = same_named p.fact.form (leaving_of (record t { slots = left })) (slot ∷ []) (λ i. (to i, from i)) ∙ or_none (names p.fact.form slot)
        where
          to : (i : ℕ) → Contains (leaving_of (record t { slots = left })) i → Contains (slot ∷ []) i
          to i c = subst (λ j. Contains (slot ∷ []) j) (sym (only_slot i (has_left left i c))) (contains_head slot [])

          from : (i : ℕ) → Contains (slot ∷ []) i → Contains (leaving_of (record t { slots = left })) i
          from i c = at (contains_cases slot i [] c)
            where
              at : (slot ≡ i) ⊎ Contains [] i → Contains (leaving_of (record t { slots = left })) i
              at (inl q) = subst (λ j. Contains (leaving_of (record t { slots = left })) j) q slot_leaves
              at (inr k) = absurd (contains_none i k)
