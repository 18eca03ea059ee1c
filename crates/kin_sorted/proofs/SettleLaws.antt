-- After the links are brought up to date the list is sound, and its facts are those of the order.
use Rattle.std.proofs.Common.{◌≡◌, refl, sym, ap, ap₂, ◌∙◌, subst, arith, List, [], ℕ, suc, ◌<◌, true, false, length, Some, None, Option, add-one, inl, inr}
use Rattle.std.specs.Prelude.{slice_get, Contains, ◌↔◌}
use Rattle.std.proofs.lemmas.Option.{slice_get_within, same_Some, none-some}
use Rattle.std.proofs.lemmas.Bool.{cases_Bool}
use Rattle.kin_algebra.proofs.Members.{contains_from_get, get_from_contains}
use Rattle.kin_algebra.specs.declared.sign.Sign.{Sign}
use Rattle.kin_motion.specs.declared.fact.Placed.{Placed}
use Rattle.kin_motion.specs.Numbers.{is_in}
use Rattle.kin_motion.specs.Scene.{Scene, Holds}
use Rattle.kin_motion.specs.Rankings.{IsStrict, IsRanking}
use Rattle.kin_motion.specs.Ranks.{Ranks, AreLive, IsOrder, IsOrderFact, neighbour_facts}
use Rattle.kin_motion.proofs.RankedFacts.{neighbour_at, neighbour_from, order_fact_listed}
use Rattle.kin_sorted.specs.declared.link.Link.{Link}
use Rattle.kin_sorted.specs.Links.{linked, link_for, facts_from}
use Rattle.kin_sorted.specs.Repairs.{IsHeld, IsKnown}
use Rattle.kin_motion.specs.Sets.{AreDistinct, ListsExactly}
use Rattle.kin_sorted.proofs.RowLaws.{get_from_is_in}
use Rattle.kin_sorted.proofs.LinkLaws.{has_fact, has_link, facts-distinct, link_for-at, link_for-absent}

-- a link has both parts
linked_some : (r : Option ℕ) (t : Option Sign) (l : Link) → linked r t ≡ Some l → (r ≡ Some l.right) × (t ≡ Some l.sign)
linked_some None t l e = absurd (none-some l e)
linked_some (Some r) None l e = absurd (none-some l e)
linked_some (Some r) (Some t) l e = (
  ap (λ (k : Link). Some k.right) (same_Some (record { right = r; sign = t }) l e),
  ap (λ (k : Link). Some k.sign)
      (same_Some (record { right = r; sign = t }) l e),
)

module _ (s : Scene) (r : Ranks) (items : List ℕ) (signs : List Sign) (touched : List ℕ) (apart : AreDistinct items) (before after : List (Option Link)) (same : length after ≡ length before)
    (fits : length before ≡ length signs)
    (known : IsKnown s r before items signs [] touched)
    (renewed : (i : ℕ) → i < length before → is_in i touched ≡ true → slice_get after i ≡ Some (link_for items signs i))
    (others : (i : ℕ) → is_in i touched ≡ false → slice_get after i ≡ slice_get before i) where
  -- every link is that of the list
  pub every_link : (i : ℕ) → i < length before → slice_get after i ≡ Some (link_for items signs i)
  every_link i bound = elim (cases_Bool (is_in i touched)) [
    | inl t ↦ renewed i bound t
    | inr f ↦ elim (cases_Bool (is_in i items)) [
      | inl t ↦ (let g = get_from_is_in items i t in
          others i f ∙ known.kept g.0 i bound g.1 refl f ∙ ap (λ (o : Option Link). Some o)
          (ap (λ (o : Option ℕ). linked o (slice_get signs i)) (ap (slice_get items) (add-one g.0)) ∙ sym (link_for-at items signs g.0 i apart g.1)))
      | inr o ↦ others i f ∙ known.gone i bound o f ∙ ap (λ (o : Option Link). Some o) (sym (link_for-absent items signs i o))
    ]
  ]

  right_bound : (i : ℕ) (t : Sign) → slice_get signs i ≡ Some t → i < length before
  right_bound i t h = let l = slice_get_within signs i t h in omega arith

  pub held_after : IsHeld r after items signs [] []
  held_after = record {
    ahead = λ p i j a b out.
        let w = known.right p i j a b refl in
        let bound = right_bound i _ w.sign in
        record {
          sign = s.sign (r.form i j);
          kept = w.sign;
          leads = w.before;
          link = every_link i bound ∙ ap (λ (o : Option Link). Some o) (link_for-at items signs p i apart a ∙ ap₂ linked (ap (slice_get items) (sym (add-one p)) ∙ b) w.sign);
        };
    kept = λ p i bound a out away. every_link i (omega arith) ∙ ap (λ (o : Option Link). Some o)
        (link_for-at items signs p i apart a ∙ ap (λ (o : Option ℕ). linked o (slice_get signs i)) (ap (slice_get items) (sym (add-one p))));
    gone = λ i bound out away. every_link i (omega arith) ∙ ap (λ (o : Option Link). Some o) (link_for-absent items signs i out);
  }

  -- a link leads from a member to the next, with the sign of their line
  pub link_known : (i : ℕ) (l : Link) → slice_get after i ≡ Some (Some l) → (p : ℕ) × (slice_get items p ≡ Some i) × (slice_get items (suc p) ≡ Some l.right) × (l.sign ≡ s.sign (r.form i l.right))
  link_known i l h =
      let bound : i < length before = let w = slice_get_within after i (Some l) h in omega arith in
      let e : link_for items signs i ≡ Some l = same_Some (link_for items signs i) (Some l) (sym (every_link i bound) ∙ h) in
      elim (cases_Bool (is_in i items)) [
        | inl t ↦ (let g = get_from_is_in items i t in
            let parts = linked_some (slice_get items (suc g.0)) (slice_get signs i) l (sym (link_for-at items signs g.0 i apart g.1) ∙ e) in
            let w = known.right g.0 i l.right g.1 (ap (slice_get items) (add-one g.0) ∙ parts.0) refl in
            (g.0, g.1, parts.0, same_Some l.sign (s.sign (r.form i l.right)) (sym parts.1 ∙ w.sign)))
        | inr o ↦ absurd (none-some l (sym (link_for-absent items signs i o) ∙ e))
      ]

  pub all_hold : (f : Placed) → Contains (facts_from r 0 after) f → Holds s f.fact
  all_hold f c =
      let w = has_link r after f c in
      let k = link_known w.0 w.1 w.2 in
      subst (λ (g : Placed). Holds s g.fact) (sym w.3) (sym k.3)

  same_as_neighbours : (f : Placed) → Contains (facts_from r 0 after) f ↔ Contains (neighbour_facts s r items) f
  same_as_neighbours f = (
    (λ c.
        let w = has_link r after f c in
        let k = link_known w.0 w.1 w.2 in
        contains_from_get (neighbour_facts s r items) k.0 f (neighbour_at s r items k.0 w.0 w.1.right k.1 k.2
        ∙ ap (λ (g : Placed). Some g) (ap (λ (t : Sign). record { part = r.part w.0 w.1.right; fact = record { form = r.form w.0 w.1.right; sign = t } }) (sym k.3) ∙ sym w.3))),
    (λ c.
        let g = get_from_contains (neighbour_facts s r items) f c in
        let n = neighbour_from s r items g.0 f g.1 in
        let w = known.right g.0 n.0 n.1 n.2 (ap (slice_get items) (add-one g.0) ∙ n.3) refl in
        let l : slice_get after n.0 ≡ Some (Some (record { right = n.1; sign = s.sign (r.form n.0 n.1) })) =
        every_link n.0 (right_bound n.0 _ w.sign) ∙ ap (λ (o : Option Link). Some o) (link_for-at items signs g.0 n.0 apart n.2 ∙ ap₂ linked n.3 w.sign) in
        subst (Contains (facts_from r 0 after)) (sym n.4) (has_fact r after n.0 (record { right = n.1; sign = s.sign (r.form n.0 n.1) }) l)),
  )

  pub exact_after : IsRanking r → IsStrict s r → AreLive s r items → IsOrder s r items items → ListsExactly (facts_from r 0 after) (IsOrderFact s r items)
  exact_after law laws live order = record {
    once = facts-distinct r law 0 after;
    each = λ f. (
      (λ c. record { order = items; ordered = order; listed = (same_as_neighbours f).0 c }),
      (λ o. (same_as_neighbours f).1 (order_fact_listed s r laws items live order f o)),
    );
  }
