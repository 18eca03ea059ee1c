-- Best items of sets of slots.
use Rattle.std.proofs.Common.{◌≡◌, ◌≢◌, ◌⊎◌, inl, inr, refl, sym, ap, ◌∙◌, subst, arith, List, ℕ, Bool, true, false, not, nat_eq, IsTrue}
use Rattle.std.specs.Prelude.{Option, Some, None}
use Rattle.std.proofs.lemmas.Bool.Decides.{nat_tests}
use Rattle.std.proofs.lemmas.Option.{same_Some}
use Rattle.kin_algebra.proofs.Options.{none_or_some}
use Rattle.kin_motion.specs.Scene.{Scene}
use Rattle.kin_motion.specs.Tournaments.{Key, beats, IsBest, item_in}
use Rattle.kin_motion.proofs.NodeLaws.{one_best_of}
use Rattle.kin_motion.proofs.FairKeys.{IsFair}

pub other_false : (a b : Bool) → b ≡ not a → a ≡ false → b ≡ true
other_false a b e f = e ∙ ap not f

both_true : (a b : Bool) → b ≡ not a → a ≡ true → b ≡ true → ⊥
both_true a b e f g = let k : true ≡ false = sym g ∙ e ∙ ap not f in cc

module _ {Item : Type 0} (s : Scene) (key : Key Item) (slots : List (Option Item)) (fair : IsFair s key slots) where
  -- one item at most is the best
  pub one_best : (among : ℕ → Bool) (a b : Item) → IsBest s key slots among a → IsBest s key slots among b → a ≡ b
  one_best = one_best_of s key slots (λ i j a b n e f h k. both_true (beats s key a b) (beats s key b a) (fair.total i j a b n e f) h k)

  -- an item that beats the best of a set beats all of it
  beats_all : (among : ℕ → Bool) (x : ℕ) (a b : Item) → item_in slots x ≡ Some a → IsBest s key slots among b → beats s key a b ≡ true → (i : ℕ) (c : Item) → IsTrue (among i) → item_in slots i ≡ Some c → beats s key a c ≡ true
  beats_all among x a b here best win i c h e = at (nat_eq i best.slot) refl
    where
      at : (t : Bool) → nat_eq i best.slot ≡ t → beats s key a c ≡ true
      at true f =
          let same : i ≡ best.slot = grind (arith, nat_tests, f) in
          let item : b ≡ c = same_Some _ _ (sym best.held ∙ sym (ap (item_in slots) same) ∙ e) in
          subst (λ d. beats s key a d ≡ true) item win
      at false f = fair.through x best.slot i a b c here best.held e win (best.beats_others i c (grind (arith, nat_tests, f)) h e)

  module _ (left right both : ℕ → Bool)
      (apart : (i : ℕ) (c : Item) → item_in slots i ≡ Some c → both i ≡ true → (left i ≡ true) ⊎ (right i ≡ true)) where
    -- the best of one set of slots is that of both where it beats all of the other
    best_of_both : ((i : ℕ) (c : Item) → item_in slots i ≡ Some c → left i ≡ true → both i ≡ true)
        → (a : Item) (l : IsBest s key slots left a) → ((i : ℕ) (c : Item) → i ≢ l.slot → item_in slots i ≡ Some c → right i ≡ true → IsTrue (beats s key a c)) → IsBest s key slots both a
    best_of_both up a l beaten = record {
      slot = l.slot;
      among = up l.slot a l.held l.among;
      held = l.held;
      beats_others = λ i c n h e. at i c n e (apart i c e h);
    }
      where
        at : (i : ℕ) (c : Item) → i ≢ l.slot → item_in slots i ≡ Some c → (left i ≡ true) ⊎ (right i ≡ true) → IsTrue (beats s key a c)
        at i c n e (inl h) = l.beats_others i c n h e
        at i c n e (inr h) = beaten i c n e h

    pub best_of_left : ((i : ℕ) (c : Item) → item_in slots i ≡ Some c → left i ≡ true → both i ≡ true)
        → (a : Item) → IsBest s key slots left a → ((i : ℕ) → right i ≡ true → item_in slots i ≡ None) → IsBest s key slots both a
    best_of_left up a l none = best_of_both up a l (λ i c n e h. absurd (none_or_some (none i h) e))

    -- the winner of the bests of two sets of slots is the best of both
    pub joined : ((i : ℕ) (c : Item) → item_in slots i ≡ Some c → left i ≡ true → both i ≡ true)
        → (a b : Item) → IsBest s key slots left a → IsBest s key slots right b → beats s key a b ≡ true → IsBest s key slots both a
    joined up a b l r win = best_of_both up a l (λ i c n e h. beats_all right l.slot a b l.held r win i c h e)

    -- the same where both bests are in one slot
    pub joined_same : ((i : ℕ) (c : Item) → item_in slots i ≡ Some c → right i ≡ true → both i ≡ true)
        → (a b : Item) → (l : IsBest s key slots left a) → (r : IsBest s key slots right b) → l.slot ≡ r.slot → IsBest s key slots both b
    joined_same up a b l r same = record {
      slot = r.slot;
      among = up r.slot b r.held r.among;
      held = r.held;
      beats_others = λ i c n h e. at i c n e (apart i c e h);
    }
      where
        item : a ≡ b
        item = same_Some _ _ (sym l.held ∙ ap (item_in slots) same ∙ r.held)

        at : (i : ℕ) (c : Item) → i ≢ r.slot → item_in slots i ≡ Some c → (left i ≡ true) ⊎ (right i ≡ true) → IsTrue (beats s key b c)
        at i c n e (inr h) = r.beats_others i c n h e
        at i c n e (inl h) = subst (λ d. IsTrue (beats s key d c)) item (l.beats_others i c (omega arith) h e)
