-- Right nodes, and what follows for winners.
use Rattle.std.proofs.Common.{◌≡◌, ◌≢◌, ◌⊎◌, inl, inr, refl, sym, ap, ◌∙◌, subst, arith, List, map, ℕ, ◌+◌, ◌*◌, ◌-◌, ◌^◌, ◌<◌, ◌≤◌, length, Bool, true, false, cond, nat_lt}
use Rattle.std.specs.Prelude.{Option, Some, None, Contains, slice_index_or}
use Rattle.std.proofs.lemmas.Bool.Decides.{nat_tests}
use Rattle.std.proofs.lemmas.List.{get_or-map, get_or-append_right, get_or_append_left, length-map, get_or_past}
use Rattle.std.proofs.lemmas.Bool.{cases_eq}
use Rattle.kin_algebra.proofs.Options.{none_or_some}
use Rattle.kin_algebra.specs.declared.sign.Sign.{Sign}
use Rattle.kin_algebra.specs.declared.sign.Sign.TheVariants.{Zero}
use Rattle.kin_motion.specs.declared.form.Form.{Form}
use Rattle.kin_motion.specs.declared.fact.Fact.{Fact}
use Rattle.kin_motion.specs.declared.fact.Placed.{Placed}
use Rattle.kin_motion.specs.Scene.{Scene, placed_at}
use Rattle.kin_motion.specs.Tournaments.{Key, beats, item_in}
use Rattle.kin_tourney.specs.declared.entry.Entry.{Entry}
use Rattle.kin_motion.proofs.Matches.{HasNoFact, IsMatch, IsPlayed}
use Rattle.kin_tourney.specs.Standings.{Standings, IsTree, IsRight, best_in, fact_in, named_at, entry_at, entry_in, entry_with, item_of, match_of, winners_of, placed_facts}
use Rattle.kin_tourney.proofs.Entries.{entry_in_slot, named_inner}
use Rattle.kin_tourney.proofs.Placements.{fact_of_placed, placed_of_fact, placed_facts_once}

-- the entry that wins a match
abbrev pub winning : {Item : Type 0} → Key Item → (Form → Sign) → Option (Entry Item) → Option (Entry Item) → Option (Entry Item)
winning key sign None None = None
winning key sign (Some l) None = Some l
winning key sign None (Some r) = Some r
winning key sign (Some l) (Some r) = Some (cond (key.left_wins (sign (key.form l.item r.item)) l.item r.item) l r)

entry_back : {Item : Type 0} (items : List (Option Item)) (e : Entry Item) → item_in items e.slot ≡ Some e.item → entry_in items (Some e.slot) ≡ Some e
entry_back {Item} items e h = ap (entry_with e.slot) h

module _ {Item : Type 0} (key : Key Item) (sign : Form → Sign) (t : Standings Item) (tree : IsTree t) where
  holds : (v : ℕ) (e : Entry Item) → entry_at t v ≡ Some e → item_in t.items e.slot ≡ Some e.item
  holds v e f = (entry_in_slot t.items (named_at t v) e f).1

  -- a right node has the winning entry of its halves
  pub entry_right : (v : ℕ) → v < length t.items → IsRight key sign t v → entry_at t v ≡ winning key sign (entry_at t (2 * v)) (entry_at t (2 * v + 1))
  entry_right v inside right =
      ap (entry_in t.items) (named_inner t v inside ∙ ap (λ (p : Option ℕ × Option Fact). p.0) right) ∙ at (entry_at t (2 * v)) refl (entry_at t (2 * v + 1)) refl
    where
      at : (l : Option (Entry Item)) → entry_at t (2 * v) ≡ l → (r : Option (Entry Item)) → entry_at t (2 * v + 1) ≡ r → entry_in t.items (match_of key sign l r).0 ≡ winning key sign l r
      at None e None f = refl
      at (Some l) e None f = entry_back t.items l (holds (2 * v) l e)
      at None e (Some r) f = entry_back t.items r (holds (2 * v + 1) r f)
      at (Some l) e (Some r) f = won (key.left_wins (sign (key.form l.item r.item)) l.item r.item)
        where
          won : (b : Bool) → entry_in t.items (Some (cond b l.slot r.slot)) ≡ Some (cond b l r)
          won true = entry_back t.items l (holds (2 * v) l e)
          won false = entry_back t.items r (holds (2 * v + 1) r f)

-- the winner that callers see
item_of_held : {Item : Type 0} (i : ℕ) (o : Option Item) → item_of (entry_with i o) ≡ o
item_of_held {Item} i None = refl
item_of_held {Item} i (Some a) = refl

pub winner_seen : {Item : Type 0} (t : Standings Item) → IsTree t → (v : ℕ) → slice_index_or (winners_of t) v None ≡ item_of (entry_at t v)
winner_seen {Item} t h v = at (nat_lt v (length t.items)) refl
  where
    f : Option ℕ → Option Item
    f o = item_of (entry_in t.items o)

    at : (b : Bool) → nat_lt v (length t.items) ≡ b → slice_index_or (winners_of t) v None ≡ item_of (entry_in t.items (cond b (best_in t.best v) (Some (v - length t.items))))
    at true e =
        let inside : v < length t.items = grind (arith, nat_tests, e) in
        let room = h.best_room in
        get_or_append_left (map (λ o. item_of (entry_in t.items o)) t.best) t.items None v (let k = length-map t.best (λ o. item_of (entry_in t.items o)) in omega arith)
        ∙ get_or-map (λ o. item_of (entry_in t.items o)) t.best v None None (omega arith)
    at false e =
        let past : length t.items ≤ v = grind (arith, nat_tests, e) in
        let room = h.best_room in
        get_or-append_right (map (λ o. item_of (entry_in t.items o)) t.best) t.items (length t.items) v None (length-map t.best (λ o. item_of (entry_in t.items o)) ∙ h.best_room) past
        ∙ sym (item_of_held (v - length t.items) (item_in t.items (v - length t.items)))

pub entry_leaf : {Item : Type 0} (t : Standings Item) → IsTree t → (i : ℕ) → item_of (entry_at t (2 ^ t.size + i)) ≡ item_in t.items i
entry_leaf {Item} t h i = ap (λ n. item_of (entry_at t (n + i))) (sym h.items_room) ∙ ap (λ o. item_of (entry_in t.items o)) at ∙ item_of_held i (item_in t.items i)
  where
    at : named_at t (length t.items + i) ≡ Some i
    at = leaf_named (nat_lt (length t.items + i) (length t.items)) refl
      where
        leaf_named : (b : Bool) → nat_lt (length t.items + i) (length t.items) ≡ b → cond b (best_in t.best (length t.items + i)) (Some (length t.items + i - length t.items)) ≡ Some i
        leaf_named true e = let low : length t.items + i < length t.items = grind (arith, nat_tests, e) in absurd (omega arith)
        leaf_named false e = let same : length t.items + i - length t.items ≡ i = omega arith in ap Some same

-- a clear node is right at the signs of a scene where its fact holds there
pub right_where_held : {Item : Type 0} (key : Key Item) (t : Standings Item) (v : ℕ) (sign : Sign) (signs : Form → Sign) → IsRight key (λ f. sign) t v
    → ((f : Fact) → fact_in t.facts v ≡ Some f → signs f.form ≡ f.sign) → IsRight key signs t v
right_where_held {Item} key t v sign signs right hold = right ∙ at (entry_at t (2 * v)) (entry_at t (2 * v + 1)) (λ f e. hold f (ap (λ (p : Option ℕ × Option Fact). p.1) right ∙ e))
  where
    at : (l r : Option (Entry Item)) → ((f : Fact) → (match_of key (λ f. sign) l r).1 ≡ Some f → signs f.form ≡ f.sign) → match_of key (λ f. sign) l r ≡ match_of key signs l r
    at None None h = refl
    at (Some l) None h = refl
    at None (Some r) h = refl
    at (Some l) (Some r) h =
        let e : signs (key.form l.item r.item) ≡ sign = h (record { form = key.form l.item r.item; sign = sign }) refl in
        ap (λ (x : Sign). (Some (cond (key.left_wins x l.item r.item) l.slot r.slot), Some (record { form = key.form l.item r.item; sign = x }))) (sym e)

-- and at one sign where it is right at all
pub right_at_one : {Item : Type 0} (key : Key Item) (t : Standings Item) (v : ℕ) (signs : Form → Sign) → IsRight key signs t v → (sign : Sign) × IsRight key (λ f. sign) t v
right_at_one {Item} key t v signs right = at (entry_at t (2 * v)) refl (entry_at t (2 * v + 1)) refl
  where
    to : (l r : Option (Entry Item)) → entry_at t (2 * v) ≡ l → entry_at t (2 * v + 1) ≡ r → (sign : Sign) → match_of key signs l r ≡ match_of key (λ f. sign) l r → IsRight key (λ f. sign) t v
    to l r e f sign same =
        right ∙ ap (λ x. match_of key signs x (entry_at t (2 * v + 1))) e ∙ ap (λ x. match_of key signs l x) f ∙ same
        ∙ sym (ap (λ x. match_of key (λ g. sign) x (entry_at t (2 * v + 1))) e ∙ ap (λ x. match_of key (λ g. sign) l x) f)

    at : (l : Option (Entry Item)) → entry_at t (2 * v) ≡ l → (r : Option (Entry Item)) → entry_at t (2 * v + 1) ≡ r → (sign : Sign) × IsRight key (λ f. sign) t v
    at None e None f = (Zero, to None None e f Zero refl)
    at (Some l) e None f = (Zero, to (Some l) None e f Zero refl)
    at None e (Some r) f = (Zero, to None (Some r) e f Zero refl)
    at (Some l) e (Some r) f = (signs (key.form l.item r.item), to (Some l) (Some r) e f (signs (key.form l.item r.item)) refl)

-- where all nodes are right, the tournament is played
module _ {Item : Type 0} (s : Scene) (key : Key Item) (t : Standings Item) (tree : IsTree t) (no_root : fact_in t.facts 0 ≡ None)
    (right : (v : ℕ) → 0 < v → v < length t.items → IsRight key s.sign t v) where
  abbrev seen : ℕ → Option Item
  seen v = slice_index_or (winners_of t) v None

  no_fact : (v : ℕ) → fact_in t.facts v ≡ None → HasNoFact (placed_facts t) v
  no_fact v e p there f = none_or_some e (ap (fact_in t.facts) (sym f) ∙ fact_of_placed t.facts p there)

  is_match : (v : ℕ) (l r : Option (Entry Item)) → fact_in t.facts v ≡ (match_of key s.sign l r).1 → IsMatch s key (placed_facts t) v (item_of (winning key s.sign l r)) (item_of l) (item_of r)
  is_match v None None e = (refl, no_fact v e)
  is_match v (Some l) None e = (refl, no_fact v e)
  is_match v None (Some r) e = (refl, no_fact v e)
  is_match v (Some l) (Some r) e = (won (beats s key l.item r.item), placed_of_fact t.facts (placed_at s v (key.form l.item r.item)) e)
    where
      won : (b : Bool) → item_of (Some (cond b l r)) ≡ Some (cond b l.item r.item)
      won true = refl
      won false = refl

  match_seen : (v : ℕ) (w l r w' l' r' : Option Item) → w' ≡ w → l' ≡ l → r' ≡ r → IsMatch s key (placed_facts t) v w l r → IsMatch s key (placed_facts t) v w' l' r'
  match_seen v w l r w' l' r' e f g h = subst (λ x. IsMatch s key (placed_facts t) v x l' r') (sym e) (subst (λ x. IsMatch s key (placed_facts t) v w x r') (sym f) (subst (λ x. IsMatch s key (placed_facts t) v w l x) (sym g) h))

  part_low : (p : Placed) → Contains (placed_facts t) p → p.part < 2 ^ t.size
  part_low p there = at (nat_lt p.part (length t.facts)) refl
    where
      at : (b : Bool) → nat_lt p.part (length t.facts) ≡ b → p.part < 2 ^ t.size
      at true e = let inside : p.part < length t.facts = grind (arith, nat_tests, e) in let a = tree.facts_room in let b = tree.items_room in omega arith
      at false e = absurd (none_or_some (get_or_past t.facts p.part None (grind (arith, nat_tests, e))) (fact_of_placed t.facts p there))

  part_some : (p : Placed) → Contains (placed_facts t) p → 0 < p.part
  part_some p there = at (cases_eq p.part 0)
    where
      at : (p.part ≡ 0) ⊎ (p.part ≢ 0) → 0 < p.part
      at (inl e) = absurd (none_or_some no_root (ap (fact_in t.facts) (sym e) ∙ fact_of_placed t.facts p there))
      at (inr n) = omega arith

  one_placed : (p q : Placed) → Contains (placed_facts t) p → Contains (placed_facts t) q → p.part ≡ q.part → p ≡ q
  one_placed p q there there' e =
      let same : p.fact ≡ q.fact = same_some (sym (fact_of_placed t.facts p there) ∙ ap (fact_in t.facts) e ∙ fact_of_placed t.facts q there') in
      λ x. record { part = e x; fact = same x }
    where
      same_some : {a b : Fact} → Some a ≡ Some b → a ≡ b
      same_some {a} {b} e = cc

  pub played_from_right : IsPlayed s key t.size t.items seen (placed_facts t)
  played_from_right = record {
    leaves = λ i inside. winner_seen t tree (2 ^ t.size + i) ∙ entry_leaf t tree i;
    matches = λ v some inside. at v some (let room = tree.items_room in omega arith);
    once = placed_facts_once t.facts;
    one_fact = one_placed;
    inner = λ p there. (part_some p there, part_low p there);
  }
    where
      at : (v : ℕ) → 0 < v → v < length t.items → IsMatch s key (placed_facts t) v (seen v) (seen (2 * v)) (seen (2 * v + 1))
      at v some inside =
          match_seen v (item_of (winning key s.sign (entry_at t (2 * v)) (entry_at t (2 * v + 1)))) (item_of (entry_at t (2 * v))) (item_of (entry_at t (2 * v + 1))) (seen v) (seen (2 * v)) (seen (2 * v + 1))
          (winner_seen t tree v ∙ ap item_of (entry_right key s.sign t tree v inside (right v some inside))) (winner_seen t tree (2 * v)) (winner_seen t tree (2 * v + 1))
          (is_match v (entry_at t (2 * v)) (entry_at t (2 * v + 1)) (ap (λ (p : Option ℕ × Option Fact). p.1) (right v some inside)))
