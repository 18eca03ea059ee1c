-- Node by node, and by definition over the slots: the same.
use Rattle.std.proofs.Common.{◌≡◌, ◌⊎◌, inl, inr, refl, sym, ap, ◌∙◌, subst, arith, List, ℕ, zero, suc, ◌+◌, ◌*◌, ◌-◌, ◌^◌, ◌<◌, ◌≤◌, length, Bool, true, false, cond, nat_eq, nat_lt, IsTrue}
use Rattle.std.specs.Prelude.{Option, Some, None, Contains}
use Rattle.std.proofs.lemmas.Bool.Decides.{nat_tests}
use Rattle.std.proofs.lemmas.List.{get_or_past}
use Rattle.std.proofs.lemmas.Nat.{pow-add}
use Rattle.std.proofs.Math.Pow.{pow_pos}
use Rattle.std.proofs.lemmas.List.Elements.{All-contains}
use Rattle.kin_algebra.proofs.Options.{none_or_some}
use Rattle.kin_algebra.specs.declared.sign.Sign.{Sign}
use Rattle.kin_motion.specs.declared.fact.Placed.{Placed}
use Rattle.kin_motion.specs.Scene.{Scene, Holds, placed_at}
use Rattle.kin_motion.specs.Kinetics.{AllHold}
use Rattle.kin_motion.specs.Tournaments.{Key, beats, IsBest, IsNodeFact, item_in, is_under}
use Rattle.kin_motion.specs.Contents.{IsWinner, IsSettledTournament}
use Rattle.kin_motion.proofs.NodeLaws.{node_with_slot}
use Rattle.kin_motion.proofs.FairKeys.{IsFair}
use Rattle.kin_motion.proofs.Matches.{HasNoFact, IsMatch, IsPlayed}
use Rattle.kin_motion.proofs.UnderNodes.{is_under-leaf, is_under-leaf_alone, is_under-left, is_under-right, is_under-cases}
use Rattle.kin_motion.proofs.SlotBests.{other_false, one_best, best_of_left, joined, joined_same}

module _ {Item : Type 0} (s : Scene) (key : Key Item) (size : ℕ) (slots : List (Option Item)) (room : length slots ≡ 2 ^ size) (fair : IsFair s key slots) where
  -- an item is in a slot of the tree
  low : (i : ℕ) (c : Item) → item_in slots i ≡ Some c → i < 2 ^ size
  low i c e = at (nat_lt i (2 ^ size)) refl
    where
      at : (t : Bool) → nat_lt i (2 ^ size) ≡ t → i < 2 ^ size
      at true f = grind (arith, nat_tests, f)
      at false f =
          let past : 2 ^ size ≤ i = grind (arith, nat_tests, f) in
          absurd (none_or_some (get_or_past slots i None (omega arith)) e)

  -- the winner of an inner node from those of its halves
  module _ (v : ℕ) (some : 0 < v) (inside : v < 2 ^ size) where
    up_left : (i : ℕ) (c : Item) → item_in slots i ≡ Some c → is_under size (2 * v) i ≡ true → is_under size v i ≡ true
    up_left i c e h = is_under-left size v i some inside (low i c e) h

    up_right : (i : ℕ) (c : Item) → item_in slots i ≡ Some c → is_under size (2 * v + 1) i ≡ true → is_under size v i ≡ true
    up_right i c e h = is_under-right size v i some inside (low i c e) h

    apart : (i : ℕ) (c : Item) → item_in slots i ≡ Some c → is_under size v i ≡ true → (is_under size (2 * v) i ≡ true) ⊎ (is_under size (2 * v + 1) i ≡ true)
    apart i c e h = is_under-cases size v i some inside (low i c e) h

    turned : (i : ℕ) (c : Item) → item_in slots i ≡ Some c → is_under size v i ≡ true → (is_under size (2 * v + 1) i ≡ true) ⊎ (is_under size (2 * v) i ≡ true)
    turned i c e h = at (apart i c e h)
      where
        at : (is_under size (2 * v) i ≡ true) ⊎ (is_under size (2 * v + 1) i ≡ true) → (is_under size (2 * v + 1) i ≡ true) ⊎ (is_under size (2 * v) i ≡ true)
        at (inl k) = inr k
        at (inr k) = inl k

    of_both : (a b : Item) → IsBest s key slots (is_under size (2 * v)) a → IsBest s key slots (is_under size (2 * v + 1)) b → IsBest s key slots (is_under size v) (cond (beats s key a b) a b)
    of_both a b l r = at (beats s key a b) refl (nat_eq l.slot r.slot) refl
      where
        at : (t : Bool) → beats s key a b ≡ t → (e : Bool) → nat_eq l.slot r.slot ≡ e → IsBest s key slots (is_under size v) (cond t a b)
        at true f e g = joined s key slots fair (is_under size (2 * v)) (is_under size (2 * v + 1)) (is_under size v) apart up_left a b l r f
        at false f true g = joined_same s key slots fair (is_under size (2 * v)) (is_under size (2 * v + 1)) (is_under size v) apart up_right a b l r (grind (arith, nat_tests, g))
        at false f false g = joined s key slots fair (is_under size (2 * v + 1)) (is_under size (2 * v)) (is_under size v) turned up_right b a r l (other_false (beats s key a b) (beats s key b a) (fair.total l.slot r.slot a b (grind (arith, nat_tests, g)) l.held r.held) f)

    empty_both : ((i : ℕ) → IsTrue (is_under size (2 * v) i) → item_in slots i ≡ None) → ((i : ℕ) → IsTrue (is_under size (2 * v + 1) i) → item_in slots i ≡ None) → (i : ℕ) → IsTrue (is_under size v i) → item_in slots i ≡ None
    empty_both l r i h = at (item_in slots i) refl
      where
        at : (o : Option Item) → item_in slots i ≡ o → o ≡ None
        at None e = refl
        at (Some c) e = half (apart i c e h)
          where
            half : (is_under size (2 * v) i ≡ true) ⊎ (is_under size (2 * v + 1) i ≡ true) → Some c ≡ None
            half (inl k) = sym e ∙ l i k
            half (inr k) = sym e ∙ r i k

    of_halves : (facts : List Placed) (l r w : Option Item) → IsWinner s key size slots (2 * v) l → IsWinner s key size slots (2 * v + 1) r → IsMatch s key facts v w l r → IsWinner s key size slots v w
    of_halves facts None None w hl hr m = subst (λ o. IsWinner s key size slots v o) (sym m.0) (empty_both hl hr)
    of_halves facts (Some a) None w hl hr m = subst (λ o. IsWinner s key size slots v o) (sym m.0) (best_of_left s key slots fair (is_under size (2 * v)) (is_under size (2 * v + 1)) (is_under size v) apart up_left a hl hr)
    of_halves facts None (Some b) w hl hr m = subst (λ o. IsWinner s key size slots v o) (sym m.0) (best_of_left s key slots fair (is_under size (2 * v + 1)) (is_under size (2 * v)) (is_under size v) turned up_right b hr hl)
    of_halves facts (Some a) (Some b) w hl hr m = subst (λ o. IsWinner s key size slots v o) (sym m.0) (of_both a b hl hr)

  one_winner : (v : ℕ) (w x : Option Item) → IsWinner s key size slots v w → IsWinner s key size slots v x → w ≡ x
  one_winner v None None h k = refl
  one_winner v (Some a) None h k = absurd (none_or_some (k h.slot h.among) h.held)
  one_winner v None (Some b) h k = absurd (none_or_some (h k.slot k.among) k.held)
  one_winner v (Some a) (Some b) h k = ap Some (one_best s key slots fair (is_under size v) a b h k)

  -- a node with a fact is an inner one
  inner_part : (p : Placed) → IsNodeFact s key size slots p → (0 < p.part) × (p.part < 2 ^ size)
  inner_part p f =
      let inner = node_with_slot size p.part f.left_best.slot (low f.left_best.slot f.left f.left_best.held) f.left_best.among in
      (omega (arith, inner.0), inner.1)

  -- from the nodes to the definition
  module _ (winner : ℕ → Option Item) (facts : List Placed) (played : IsPlayed s key size slots winner facts) where
    leaf_wins : (i : ℕ) → i < 2 ^ size → IsWinner s key size slots (2 ^ size + i) (item_in slots i)
    leaf_wins i inside = at (item_in slots i) refl
      where
        at : (o : Option Item) → item_in slots i ≡ o → IsWinner s key size slots (2 ^ size + i) o
        at None e = λ j h. empty j h
          where
            empty : (j : ℕ) → IsTrue (is_under size (2 ^ size + i) j) → item_in slots j ≡ None
            empty j h = known (item_in slots j) refl
              where
                known : (o : Option Item) → item_in slots j ≡ o → o ≡ None
                known None f = refl
                known (Some c) f = let same : j ≡ i = is_under-leaf_alone size j i (low j c f) h in sym f ∙ ap (item_in slots) same ∙ e
        at (Some a) e = record {
          slot = i;
          among = is_under-leaf size i;
          held = e;
          beats_others = λ j b n h f. absurd (n (is_under-leaf_alone size j i (low j b f) h));
        }

    -- by the distance to the last node
    wins_from : (far v : ℕ) → 0 < v → v < 2 * 2 ^ size → 2 * 2 ^ size ≤ v + far → IsWinner s key size slots v (winner v)
    wins_from zero v some inside near = absurd (omega arith)
    wins_from (suc far) v some inside near = at (nat_lt v (2 ^ size)) refl (λ h. wins_from far (2 * v) (omega arith) h (omega arith)) (λ h. wins_from far (2 * v + 1) (omega arith) h (omega arith))
      where
        at : (t : Bool) → nat_lt v (2 ^ size) ≡ t
            → (2 * v < 2 * 2 ^ size → IsWinner s key size slots (2 * v) (winner (2 * v))) → (2 * v + 1 < 2 * 2 ^ size → IsWinner s key size slots (2 * v + 1) (winner (2 * v + 1)))
            → IsWinner s key size slots v (winner v)
        at true e left right =
            let inner : v < 2 ^ size = grind (arith, nat_tests, e) in
            of_halves v some inner facts (winner (2 * v)) (winner (2 * v + 1)) (winner v) (left (omega arith)) (right (omega arith)) (played.matches v some inner)
        at false e left right =
            let leaf : 2 ^ size ≤ v = grind (arith, nat_tests, e) in
            let same : 2 ^ size + (v - 2 ^ size) ≡ v = omega arith in
            subst (λ u. IsWinner s key size slots u (winner u)) same (subst (λ o. IsWinner s key size slots (2 ^ size + (v - 2 ^ size)) o) (sym (played.leaves (v - 2 ^ size) (omega arith))) (leaf_wins (v - 2 ^ size) (omega arith)))

    wins : (v : ℕ) → 0 < v → v < 2 * 2 ^ size → IsWinner s key size slots v (winner v)
    wins v some inside = wins_from (2 * 2 ^ size) v some inside (omega arith)

    -- what is known of the fact of a node
    node_of_fact : (p : Placed) → Contains facts p → 0 < p.part → p.part < 2 ^ size → (l r w : Option Item)
        → IsWinner s key size slots (2 * p.part) l → IsWinner s key size slots (2 * p.part + 1) r → IsMatch s key facts p.part w l r → IsNodeFact s key size slots p
    node_of_fact p there some inside None None w hl hr m = absurd (m.1 p there refl)
    node_of_fact p there some inside (Some a) None w hl hr m = absurd (m.1 p there refl)
    node_of_fact p there some inside None (Some b) w hl hr m = absurd (m.1 p there refl)
    node_of_fact p there some inside (Some a) (Some b) w hl hr m = record {
      left = a;
      right = b;
      left_best = hl;
      right_best = hr;
      fact = played.one_fact p (placed_at s p.part (key.form a b)) there m.1 refl;
    }

    fact_of_node : (p : Placed) → (f : IsNodeFact s key size slots p) → (l r w : Option Item)
        → IsWinner s key size slots (2 * p.part) l → IsWinner s key size slots (2 * p.part + 1) r → IsMatch s key facts p.part w l r → Contains facts p
    fact_of_node p f None r w hl hr m = absurd (none_or_some (hl f.left_best.slot f.left_best.among) f.left_best.held)
    fact_of_node p f (Some a) None w hl hr m = absurd (none_or_some (hr f.right_best.slot f.right_best.among) f.right_best.held)
    fact_of_node p f (Some a) (Some b) w hl hr m =
        let left : a ≡ f.left = one_best s key slots fair (is_under size (2 * p.part)) a f.left hl f.left_best in
        let right : b ≡ f.right = one_best s key slots fair (is_under size (2 * p.part + 1)) b f.right hr f.right_best in
        let same : placed_at s p.part (key.form a b) ≡ p = ap (λ x. placed_at s p.part (key.form x b)) left ∙ ap (λ x. placed_at s p.part (key.form f.left x)) right ∙ sym f.fact in
        subst (Contains facts) same m.1

    pub settled_from_played : IsSettledTournament s key size slots winner facts
    settled_from_played = record {
      winners = λ v some inside. wins v some (omega (arith, pow-add 2 size 1));
      exact = record {
        once = played.once;
        each = λ p. (
          (λ there. let k = played.inner p there in node_of_fact p there k.0 k.1 (winner (2 * p.part)) (winner (2 * p.part + 1)) (winner p.part) (wins (2 * p.part) (omega arith) (omega arith)) (wins (2 * p.part + 1) (omega arith) (omega arith)) (played.matches p.part k.0 k.1)),
          (λ f. let k = inner_part p f in fact_of_node p f (winner (2 * p.part)) (winner (2 * p.part + 1)) (winner p.part) (wins (2 * p.part) (omega arith) (omega arith)) (wins (2 * p.part + 1) (omega arith) (omega arith)) (played.matches p.part k.0 k.1)),
        );
      };
    }

  -- from the definition to the nodes
  module _ (winner : ℕ → Option Item) (facts : List Placed) (settled : IsSettledTournament s key size slots winner facts) where
    won : (v : ℕ) → 0 < v → v < 2 * 2 ^ size → IsWinner s key size slots v (winner v)
    won v some inside = settled.winners v some (omega (arith, pow-add 2 size 1))

    leaf_won : (i : ℕ) → i < 2 ^ size → (w o : Option Item) → item_in slots i ≡ o → IsWinner s key size slots (2 ^ size + i) w → w ≡ o
    leaf_won i inside None None e h = refl
    leaf_won i inside None (Some b) e h = absurd (none_or_some (h i (is_under-leaf size i)) e)
    leaf_won i inside (Some a) o e h = let same : h.slot ≡ i = is_under-leaf_alone size h.slot i (low h.slot a h.held) h.among in sym h.held ∙ ap (item_in slots) same ∙ e

    no_fact : (v : ℕ) → ((x y : Item) → IsBest s key slots (is_under size (2 * v)) x → IsBest s key slots (is_under size (2 * v + 1)) y → ⊥) → HasNoFact facts v
    no_fact v none p there e =
        let f = (settled.exact.each p).0 there in
        none f.left f.right (subst (λ u. IsBest s key slots (is_under size (2 * u)) f.left) e f.left_best) (subst (λ u. IsBest s key slots (is_under size (2 * u + 1)) f.right) e f.right_best)

    node_won : (v : ℕ) → 0 < v → v < 2 ^ size → (l r w : Option Item) → IsWinner s key size slots (2 * v) l → IsWinner s key size slots (2 * v + 1) r → IsWinner s key size slots v w → IsMatch s key facts v w l r
    node_won v some inside None None w hl hr h = (one_winner v w None h (empty_both v some inside hl hr), no_fact v (λ x y p q. none_or_some (hl p.slot p.among) p.held))
    node_won v some inside (Some a) None w hl hr h =
        (one_winner v w (Some a) h (best_of_left s key slots fair (is_under size (2 * v)) (is_under size (2 * v + 1)) (is_under size v) (apart v some inside) (up_left v some inside) a hl hr), no_fact v (λ x y p q. none_or_some (hr q.slot q.among) q.held))
    node_won v some inside None (Some b) w hl hr h =
        (one_winner v w (Some b) h (best_of_left s key slots fair (is_under size (2 * v + 1)) (is_under size (2 * v)) (is_under size v) (turned v some inside) (up_right v some inside) b hr hl), no_fact v (λ x y p q. none_or_some (hl p.slot p.among) p.held))
    node_won v some inside (Some a) (Some b) w hl hr h = (
      one_winner v w (Some (cond (beats s key a b) a b)) h (of_both v some inside a b hl hr),
      (settled.exact.each (placed_at s v (key.form a b))).1 (record { left = a; right = b; left_best = hl; right_best = hr; fact = refl }),
    )

    one_there : (p q : Placed) → IsNodeFact s key size slots p → IsNodeFact s key size slots q → p.part ≡ q.part → p ≡ q
    one_there p q f g e =
        let left : f.left ≡ g.left = one_best s key slots fair (is_under size (2 * q.part)) f.left g.left (subst (λ u. IsBest s key slots (is_under size (2 * u)) f.left) e f.left_best) g.left_best in
        let right : f.right ≡ g.right = one_best s key slots fair (is_under size (2 * q.part + 1)) f.right g.right (subst (λ u. IsBest s key slots (is_under size (2 * u + 1)) f.right) e f.right_best) g.right_best in
        f.fact ∙ ap (λ u. placed_at s u (key.form f.left f.right)) e ∙ ap (λ x. placed_at s q.part (key.form x f.right)) left ∙ ap (λ x. placed_at s q.part (key.form g.left x)) right ∙ sym g.fact

    pub played_from_settled : IsPlayed s key size slots winner facts
    played_from_settled = record {
      leaves = λ i inside. leaf_won i inside (winner (2 ^ size + i)) (item_in slots i) refl (won (2 ^ size + i) (omega (arith, pow_pos size)) (omega arith));
      matches = λ v some inside. node_won v some inside (winner (2 * v)) (winner (2 * v + 1)) (winner v) (won (2 * v) (omega arith) (omega arith)) (won (2 * v + 1) (omega arith) (omega arith)) (won v some (omega arith));
      once = settled.exact.once;
      one_fact = λ p q there there'. one_there p q ((settled.exact.each p).0 there) ((settled.exact.each q).0 there');
      inner = λ p there. inner_part p ((settled.exact.each p).0 there);
    }

-- where the facts hold in another scene, the matches end the same way there
module _ {Item : Type 0} (v w : Scene) (key : Key Item) (facts : List Placed) (hold : AllHold w facts) where
  same_sign : (part : ℕ) (a b : Item) → Contains facts (placed_at v part (key.form a b)) → w.sign (key.form a b) ≡ v.sign (key.form a b)
  same_sign part a b there = All-contains (λ p. Holds w p.fact) facts (placed_at v part (key.form a b)) hold there

  same_match : (part : ℕ) (x l r : Option Item) → IsMatch v key facts part x l r → IsMatch w key facts part x l r
  same_match part x None None m = m
  same_match part x (Some a) None m = m
  same_match part x None (Some b) m = m
  same_match part x (Some a) (Some b) m =
      let e = same_sign part a b m.1 in
      (m.0 ∙ ap (λ (t : Sign). Some (cond (key.left_wins t a b) a b)) (sym e), subst (λ (t : Sign). Contains facts (record { part = part; fact = record { form = key.form a b; sign = t } })) (sym e) m.1)

  pub played_elsewhere : (size : ℕ) (slots : List (Option Item)) (winner : ℕ → Option Item) → IsPlayed v key size slots winner facts → IsPlayed w key size slots winner facts
  played_elsewhere size slots winner played = record {
    leaves = played.leaves;
    matches = λ u some inside. same_match u (winner u) (winner (2 * u)) (winner (2 * u + 1)) (played.matches u some inside);
    once = played.once;
    one_fact = played.one_fact;
    inner = played.inner;
  }

-- a settled tournament is settled in every scene in which its facts hold
pub tournament_is_determined : {Item : Type 0} (v w : Scene) (key : Key Item) (size : ℕ) (slots : List (Option Item)) → length slots ≡ 2 ^ size → IsFair v key slots → IsFair w key slots
    → (winner : ℕ → Option Item) (facts : List Placed) → IsSettledTournament v key size slots winner facts → AllHold w facts → IsSettledTournament w key size slots winner facts
tournament_is_determined v w key size slots room here there winner facts settled hold =
    settled_from_played w key size slots room there winner facts (played_elsewhere v w key facts hold size slots winner (played_from_settled v key size slots room here winner facts settled))
