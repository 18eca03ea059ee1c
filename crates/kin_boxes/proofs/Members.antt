-- Which boxes are members, and which facts name one that leaves.
use Rattle.std.proofs.Common.{◌≡◌, inl, inr, refl, sym, ap, ap₂, ◌∙◌, subst, arith, List, [], ◌∷◌, ◌++◌, ℕ, Bool, true, false, cond, not, ◌||◌, ◌&&◌, nat_eq, ℤ, pos, map}
use Rattle.std.specs.Prelude.{filter, flat_map}
use Rattle.std.proofs.lemmas.Bool.{both_ways, eqb-true, eqb-false, or_parts}
use Rattle.std.proofs.lemmas.Bool.Decides.{nat_tests}
use Rattle.kin_motion.specs.declared.form.Form.{Form}
use Rattle.kin_motion.specs.declared.fact.Placed.{Placed}
use Rattle.kin_motion.specs.BoxFacts.{low_end, high_end, point, IsEndOrder, IsEndFact, IsBoxFact}
use Rattle.kin_motion.specs.Forms.{names}
use Rattle.kin_motion.specs.Numbers.{is_in, HasEntered}
use Rattle.kin_motion.specs.Parts.{moved_by}
use Rattle.kin_motion.specs.Scene.{Scene}
use Rattle.kin_motion.specs.Sets.{ListsExactly}
use Rattle.kin_motion.proofs.EndOrders.{end_fact_of}
use Rattle.kin_motion.proofs.SetLaws.{exactly_none}
use Rattle.kin_sorted.specs.Marks.{marked, without_all, names_one}
use Rattle.kin_sorted.proofs.ListLaws.{without_none, is_in-without_all}
use Rattle.kin_boxes.specs.Boxing.{Boxing, entering_box, leaving_box, facts_of, is_spared, with_marks, has_point, IsBoxingAtRest, HasMembers, IsVacantBoxing, IsSettledBoxing}
use Rattle.kin_boxes.proofs.Marking.{none_marked}
use Rattle.kin_boxes.proofs.Settling.{named}

-- an end is one of a box's two ends exactly where it is an end of this box
own_end : (e who : ℕ) → nat_eq e (low_end who) || (nat_eq e (high_end who) || false) ≡ nat_eq (point e) who
own_end e who = at (nat_eq e (low_end who)) refl (nat_eq e (high_end who)) refl (nat_eq (point e) who) refl
  where
    at : (a : Bool) → nat_eq e (low_end who) ≡ a → (b : Bool) → nat_eq e (high_end who) ≡ b → (c : Bool) → nat_eq (point e) who ≡ c → a || (b || false) ≡ c
    at true f b g true h = refl
    at true f b g false h = absurd (let l = eqb-true e (low_end who) f in eqb-false (point e) who h (omega (arith, l)))
    at false f true g true h = refl
    at false f true g false h = absurd (let l = eqb-true e (high_end who) g in eqb-false (point e) who h (omega (arith, l)))
    at false f false g true h = absurd (let l = eqb-true (point e) who h in let a = eqb-false e (low_end who) f in let b = eqb-false e (high_end who) g in
        omega (arith, l, a, b))
    at false f false g false h = refl

module _ (who : ℕ) (before after : List ℕ) (entered : HasEntered who before after) where
  -- the one that has entered is there, and so are all that were there
  there : (n : ℕ) → is_in n after ≡ nat_eq n who || is_in n before
  there n = sym (entered.lists.same n)

  both : (a b c : Bool) → a || (b || c) ≡ (a || (b || false)) || c
  both true b c = refl
  both false true c = refl
  both false false c = refl

  -- the ends of a box enter
  pub ends_enter : (items : List ℕ) → ((e : ℕ) → is_in e items ≡ is_in (point e) before) → (e : ℕ)
      → is_in e (marked (entering_box who) items) ≡ is_in (point e) after
  ends_enter items all e =
      ap (λ b. nat_eq e (low_end who) || (nat_eq e (high_end who) || b)) (ap (is_in e) (without_none items) ∙ all e)
      ∙ both (nat_eq e (low_end who)) (nat_eq e (high_end who)) (is_in (point e) before)
      ∙ ap (λ b. b || is_in (point e) before) (own_end e who)
      ∙ sym (there (point e))

  -- the ends of a box leave
  pub ends_leave : (items : List ℕ) → ((e : ℕ) → is_in e items ≡ is_in (point e) after) → (e : ℕ)
      → is_in e (marked (leaving_box who) items) ≡ is_in (point e) before
  ends_leave items all e =
      is_in-without_all e (low_end who ∷ high_end who ∷ []) items
      ∙ ap₂ (λ a b. a && not b) (all e ∙ there (point e)) (own_end e who)
      ∙ at (nat_eq (point e) who) refl (is_in (point e) before) refl
    where
      at : (a : Bool) → nat_eq (point e) who ≡ a → (b : Bool) → is_in (point e) before ≡ b → (a || b) && not a ≡ b
      at true f true g = absurd (both_ways _ (ap (λ n. is_in n before) (eqb-true (point e) who f) ∙ entered.absent) g)
      at true f false g = refl
      at false f true g = refl
      at false f false g = refl

-- without a mark the members are those that are there
pub members_there : (b : Boxing) (set : List ℕ) → IsBoxingAtRest b → HasMembers b set → (e : ℕ) → is_in e b.by_x.items ≡ is_in (point e) set
members_there b set rest members e = sym (none_marked b.by_x.marks b.by_x.items e rest.marks) ∙ members.members e

pub no_member : (b : Boxing) (set : List ℕ) (who : ℕ) (t : Bool) → IsBoxingAtRest b → HasMembers b set → is_in who set ≡ t → has_point b who ≡ t
no_member b set who t rest members out =
    let at : point (low_end who) ≡ who = omega arith in
    members_there b set rest members (low_end who) ∙ ap (λ n. is_in n set) at ∙ out

pub enters_members : (b : Boxing) (who : ℕ) → IsBoxingAtRest b → (before after : List ℕ) → HasMembers b before → HasEntered who before after
    → HasMembers (with_marks (entering_box who) b) after
enters_members b who rest before after members entered =
    record { whole = members.whole; members = ends_enter who before after entered b.by_x.items (members_there b before rest members) }

pub leaves_members : (b : Boxing) (who : ℕ) → IsBoxingAtRest b → (before after : List ℕ) → HasMembers b before → HasEntered who after before
    → HasMembers (with_marks (leaving_box who) b) after
leaves_members b who rest before after members entered =
    record { whole = members.whole; members = ends_leave who after before entered b.by_x.items (members_there b before rest members) }

-- ---- facts that name the one that leaves
-- no end that stays is of the box that leaves
none_named : (items : List ℕ) (who n : ℕ) → n ≡ who → is_in n (flat_map (λ e. point e ∷ []) (without_all (low_end who ∷ high_end who ∷ []) items)) ≡ false
none_named items who n same = at (is_in n (flat_map (λ e. point e ∷ []) (without_all (low_end who ∷ high_end who ∷ []) items))) refl
  where
    at : (b : Bool) → is_in n (flat_map (λ e. point e ∷ []) (without_all (low_end who ∷ high_end who ∷ []) items)) ≡ b → b ≡ false
    at false h = refl
    at true h =
        let m = named (without_all (low_end who ∷ high_end who ∷ []) items) n h in
        let stays = sym (is_in-without_all m.0 (low_end who ∷ high_end who ∷ []) items) ∙ m.1 in
        let own : is_in m.0 (low_end who ∷ high_end who ∷ []) ≡ true =
        own_end m.0 who ∙ (let e = m.2 in let t : nat_eq (point m.0) who ≡ true = grind (arith, nat_tests, e, same) in t) in
        absurd (both_ways _ (ap (λ b. is_in m.0 items && not b) own ∙ never (is_in m.0 items)) stays)
      where
        never : (a : Bool) → a && not true ≡ false
        never true = refl
        never false = refl

spared_first : (test : ℕ → Bool) (a : ℕ) (ns : List ℕ) (f : Form) → test a ≡ true → names_one (filter test (a ∷ ns)) f ≡ false → names f a ≡ false
spared_first test a ns f e h =
    (or_parts (names f a) (names_one (filter test ns) f) (ap (λ b. names_one (cond b (a ∷ filter test ns) (filter test ns)) f) (sym e) ∙ h)).0

pub spares_leaving : (b : Boxing) (who : ℕ) (p : Placed) → is_spared (with_marks (leaving_box who) b) p ≡ false → names p.fact.form who ≡ false
spares_leaving b who p h =
    let at : point (low_end who) ≡ who = omega arith in
    let left = without_all (low_end who ∷ high_end who ∷ []) b.by_x.items in
    ap (names p.fact.form) (sym at) ∙ spared_first (λ n. not (is_in n (flat_map (λ e. point e ∷ []) left))) (point (low_end who)) (point (high_end who) ∷ []) p.fact.form
    (ap not (none_named b.by_x.items who (point (low_end who)) at)) h

-- ---- without members
pub vacant_facts : (width height : ℤ) (size : ℕ) (b : Boxing) → IsVacantBoxing width height size b → facts_of b ≡ []
vacant_facts width height size b v = ap₂ (λ (xs ys : List Placed). map (moved_by 0) xs ++ map (moved_by 4) ys) v.x.facts v.y.facts

none_listed : (s : Scene) (dx dy size : ℤ) (first : ℕ) (p : Placed) → s.live ≡ [] → ¬ (IsEndFact s dx dy size first p)
none_listed s dx dy size first p none f =
    let m = end_fact_of s dx dy size first f.order p f.listed in
    let there : is_in (point m.0) s.live ≡ true = sym (f.ordered.all m.0) ∙ m.2 in
    absurd (both_ways _ (ap (is_in (point m.0)) none) there)

none_ordered : (s : Scene) (dx dy size : ℤ) → s.live ≡ [] → IsEndOrder s dx dy size []
none_ordered s dx dy size none = record { once = tt; all = λ e. sym (ap (is_in (point e)) none); chain = tt }

pub vacant_settled : (width height : ℤ) (size : ℕ) (b : Boxing) → IsVacantBoxing width height size b → (s : Scene) → s.live ≡ [] → IsSettledBoxing b s
vacant_settled width height size b v s none = record {
  x_order = subst (IsEndOrder s (pos 1) (pos 0) b.by_x.rank.width) (sym v.x.items) (none_ordered s (pos 1) (pos 0) b.by_x.rank.width none);
  y_order = subst (IsEndOrder s (pos 0) (pos 1) b.by_y.rank.width) (sym v.y.items) (none_ordered s (pos 0) (pos 1) b.by_y.rank.width none);
  exact = subst (λ fs. ListsExactly fs (IsBoxFact s b.by_x.rank.width b.by_y.rank.width)) (sym (vacant_facts width height size b v))
      (exactly_none (IsBoxFact s b.by_x.rank.width b.by_y.rank.width) (λ p f. elim f [
        | inl g ↦ none_listed s (pos 1) (pos 0) b.by_x.rank.width 0 p none g
        | inr g ↦ none_listed s (pos 0) (pos 1) b.by_y.rank.width 4 p none g
      ]));
}

pub vacant_members : (width height : ℤ) (size : ℕ) (b : Boxing) → IsVacantBoxing width height size b → HasMembers b []
vacant_members width height size b v =
    record { whole = v.whole; members = λ e. none_marked b.by_x.marks b.by_x.items e v.x.marks ∙ ap (is_in e) v.x.items }
