-- The change of the facts, link by link.
use Rattle.std.proofs.Common.{◌≡◌, ◌≢◌, refl, sym, ap, ap₂, ◌∙◌, subst, inl, inr, List, ◌++◌, ℕ, set, Some, None, Option}
use Rattle.std.specs.Prelude.{slice_get, Contains, ◌↔◌, ◌⊎◌}
use Rattle.std.specs.Option.{option_map, option_to_list}
use Rattle.std.proofs.lemmas.Bool.{cases_eq}
use Rattle.std.proofs.lemmas.Option.{slice_get_within, same_Some}
use Rattle.kin_algebra.proofs.Places.{get-set_same, get-set_other}
use Rattle.kin_motion.specs.declared.fact.Placed.{Placed}
use Rattle.kin_motion.specs.Deltas.{Change}
use Rattle.kin_motion.specs.Kinetics.{HasChanged}
use Rattle.kin_motion.proofs.SlotChanges.{DifferThere, changed_there}
use Rattle.kin_sorted.specs.declared.link.Link.{Link}
use Rattle.kin_motion.specs.Rankings.{IsRanking}
use Rattle.kin_motion.specs.Ranks.{Ranks}
use Rattle.kin_sorted.specs.Links.{fact_of, link_facts, facts_from}
use Rattle.kin_sorted.proofs.LinkLaws.{same_facts, has_fact, has_link}

-- the slot at the left of a fact
abbrev left_of : Ranks → Placed → ℕ
left_of r p = r.left p.part p.fact.form

module _ (r : Ranks) (law : IsRanking r) where
  abbrev facts : List (Option Link) → List Placed
  facts ls = facts_from r 0 ls

  -- the fact of a number's link, if it has one
  abbrev told : ℕ → Option Link → Option Placed
  told i o = option_map (fact_of r i) o

  told_link : (i : ℕ) (o : Option Link) (p : Placed) → told i o ≡ Some p → (l : Link) × (o ≡ Some l) × (p ≡ fact_of r i l)
  told_link i None p e = absurd cc
  told_link i (Some l) p e = (l, refl, sym (same_Some _ _ e))

  told_facts : (i : ℕ) (o : Option Link) → option_to_list (told i o) ≡ link_facts r i o
  told_facts i None = refl
  told_facts i (Some l) = refl

  told_left : (i : ℕ) (o : Option Link) (p : Placed) → told i o ≡ Some p → left_of r p ≡ i
  told_left i o p e = let l = told_link i o p e in ap (λ (q : Placed). left_of r q) l.2 ∙ law.left i l.0.right

  link_left : (i : ℕ) (l : Link) (p : Placed) → p ≡ fact_of r i l → left_of r p ≡ i
  link_left i l p e = ap (λ (q : Placed). left_of r q) e ∙ law.left i l.right

  -- what a list has at a number
  at_number : (ls : List (Option Link)) (i : ℕ) (o : Option Link) → slice_get ls i ≡ Some o → (p : Placed) → left_of r p ≡ i → Contains (facts ls) p ↔ (told i o ≡ Some p)
  at_number ls i o here p t = (to, from)
    where
      to : Contains (facts ls) p → told i o ≡ Some p
      to c =
          let w = has_link r ls p c in
          let e : w.0 ≡ i = sym (link_left w.0 w.1 p w.3) ∙ t in
          ap (told i) (same_Some _ _ (sym here ∙ ap (slice_get ls) (sym e) ∙ w.2)) ∙ ap (λ (q : Placed). Some q) (ap (λ n. fact_of r n w.1) (sym e) ∙ sym w.3)

      from : told i o ≡ Some p → Contains (facts ls) p
      from e = let l = told_link i o p e in subst (Contains (facts ls)) (sym l.2) (has_fact r ls i l.0 (here ∙ ap (λ (x : Option Link). Some x) l.1))

  -- at another number the links before and after a write are the same
  elsewhere : (ls ks : List (Option Link)) (i : ℕ) → ((j : ℕ) → j ≢ i → slice_get ls j ≡ slice_get ks j) → (p : Placed) → ¬ (left_of r p ≡ i) → Contains (facts ls) p → Contains (facts ks) p
  elsewhere ls ks i same p n c =
      let w = has_link r ls p c in
      subst (Contains (facts ks)) (sym w.3) (has_fact r ks w.0 w.1 (sym (same w.0 (λ e. n (link_left w.0 w.1 p w.3 ∙ e))) ∙ w.2))

  module _ (first ls : List (Option Link)) (i : ℕ) (old new : Option Link) (at_first : slice_get first i ≡ Some old) (at_now : slice_get ls i ≡ Some old) (differ : old ≢ new) where
    one_differs : DifferThere (facts first) (facts ls) (facts (set ls i new)) (λ p. left_of r p ≡ i) (told i old) (told i new)
    one_differs = record {
      decided = λ p. cases_eq (left_of r p) i;
      elsewhere = λ p n. (elsewhere ls (set ls i new) i (λ j m. sym (get-set_other ls i j new m)) p n, elsewhere (set ls i new) ls i (λ j m. get-set_other ls i j new m) p n);
      there = λ p h. there p h;
      at_first = at_number first i old at_first;
      at_now = at_number ls i old at_now;
      at_next = at_number (set ls i new) i new (get-set_same ls i new (slice_get_within ls i old at_now));
      another = another;
    }
      where
        there : (p : Placed) → (told i old ≡ Some p) ⊎ (told i new ≡ Some p) → left_of r p ≡ i
        there p (inl e) = told_left i old p e
        there p (inr e) = told_left i new p e

        another : (p : Placed) → told i old ≡ Some p → told i new ≡ Some p → ⊥
        another p e f =
            let l = told_link i old p e in
            let m = told_link i new p f in
            differ (l.1 ∙ ap (λ (x : Link). Some x) (same_facts r law i i l.0 m.0 (sym l.2 ∙ m.2)).1 ∙ sym m.1)

    pub changed_at : (start now : Change) → HasChanged (facts first) (facts ls) start now
        → HasChanged (facts first) (facts (set ls i new)) start (record { dropped = now.dropped ++ link_facts r i old; born = now.born ++ link_facts r i new })
    changed_at start now changed =
        subst (λ (c : Change). HasChanged (facts first) (facts (set ls i new)) start c)
        (ap₂ (λ (ds bs : List Placed). record { dropped = now.dropped ++ ds; born = now.born ++ bs }) (told_facts i old) (told_facts i new))
        (changed_there (facts first) (facts ls) (facts (set ls i new)) (λ p. left_of r p ≡ i) (told i old) (told i new) one_differs start now changed)
