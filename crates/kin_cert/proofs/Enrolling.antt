-- What a roll keeps when an entry is put in or taken out.
use Rattle.std.proofs.Common.{◌≡◌, ◌≢◌, ℕ, Bool, true, false, cond, ℤ, List, Option, Some, None, is_some, refl, sym, ap, subst, ◌∙◌, inl, inr}
use Rattle.std.proofs.lemmas.Option.{same_Some}
use Rattle.std.proofs.lemmas.Bool.{cases_eq}
use Rattle.indexmap.specs.IndexMap.{IndexMap, get as look_up}
use Rattle.kin_motion.specs.declared.form.Form.{Form}
use Rattle.kin_cert.specs.Entries.{Entry}
use Rattle.kin_cert.specs.declared.holder.Holder.{Holder}
use Rattle.kin_cert.specs.declared.key.Key.{Key}
use Rattle.kin_cert.specs.declared.plan.Plan.{Plan}
use Rattle.kin_fail.specs.declared.owned.Owned.{Owned}
use Rattle.kin_fail.specs.Rank.{padded_rank, is_rank, owned_rank}
use Rattle.kin_cert.specs.Layout.{entry_at, entry_rank, fresh, HasSlot, IsNotFound}
use Rattle.kin_cert.specs.Keys.{key_of, owned_key, is_key}
use Rattle.kin_cert.specs.Holders.{MayHaveLeft}
use Rattle.kin_cert.specs.Rolls.{IsKnownBy, IsOther, IsRoll, IsIdOf, IsStruck, HoldsKey, SharesKey, IsEnrolled}
use Rattle.kin_fail.proofs.Ranks.{rank_same, rank_itself, rank_differs}
use Rattle.kin_cert.proofs.Keys.{some_none, key_same, key_itself, key_differs, rank-key_of, known-once, kept-known, here, elsewhere, stays-shared, left-was-known, left-known, left-shared}
use Rattle.kin_cert.proofs.Rolls.{unlisted, same-index}

-- ---- an entry is put in

module _ {T T' : Type 0} (plan : Plan) (slots after : List (Option Entry)) (holders : Key → Option Holder) (holders' : Key → Option Holder) (others : IndexMap (List ℤ) ℕ T) (others' : IndexMap (List ℤ) ℕ T')
    (roll : IsRoll plan slots holders others) (id : ℕ) (o : Owned) (vacant : entry_at slots id ≡ None) (slot : HasSlot slots after id (Some (fresh o))) (free : IsNotFound slots (owned_rank o)) where
  older : (j : ℕ) (f : Entry) → entry_at slots j ≡ Some f → j ≢ id
  older j f h j_is = some_none f (sym h ∙ ap (entry_at slots) j_is ∙ vacant)

  new_one : (j : ℕ) (f : Entry) → j ≡ id → entry_at after j ≡ Some f → fresh o ≡ f
  new_one j f j_is h = same_Some (fresh o) f (sym slot.changed ∙ ap (entry_at after) (sym j_is) ∙ h)

  listed : look_up is_rank others (owned_rank o) ≡ None
  listed = unlisted plan slots holders others roll (owned_rank o) free

  -- as the holder of its key
  module _ (holds : HoldsKey plan slots holders (owned_key plan o) id holders') (os : (q : List ℤ) → look_up is_rank others' q ≡ look_up is_rank others q) where
    held-first : IsKnownBy holders' (owned_key plan o) id
    held-first = record { holder = holds.holder; known = here holders holders' (owned_key plan o) holds.holder holds.has (owned_key plan o) (key_itself (owned_key plan o)); id_is = holds.id_is }

    -- an older entry has another key, if it is known by its key
    still-known : (j : ℕ) (f : Entry) → entry_at slots j ≡ Some f → IsKnownBy holders (owned_key plan f.owned) j → IsKnownBy holders' (owned_key plan f.owned) j
    still-known j f was x =
        let n : owned_key plan o ≡ owned_key plan f.owned → ⊥ = λ e. holds.free x.holder f (ap holders e ∙ x.known) (ap (entry_at slots) x.id_is ∙ was) (sym e) in
        kept-known holders holders' (owned_key plan f.owned) j (elsewhere holders holders' (owned_key plan o) holds.holder holds.has (owned_key plan f.owned) (key_differs (owned_key plan o) (owned_key plan f.owned) n)) x

    -- and no older entry is known by its key that wasn't
    was-known : (j : ℕ) (q : Key) → j ≢ id → IsKnownBy holders' q j → IsKnownBy holders q j
    was-known j q n x =
        elim (is_key (owned_key plan o) q) as (λ b. is_key (owned_key plan o) q ≡ b → IsKnownBy holders q j) [
          | true ↦ λ t. absurd (n (known-once holders' q (owned_key plan o) j id (sym (key_same (owned_key plan o) q t)) x held-first))
          | false ↦ λ t. kept-known holders' holders q j (sym (elsewhere holders holders' (owned_key plan o) holds.holder holds.has q t)) x
        ] refl

    enrolled-first : IsRoll plan after holders' others'
    enrolled-first =
        record {
          found = λ j f h. elim (cases_eq j id) [
            | inl j_is ↦ inl (subst (λ (x : Entry). IsKnownBy holders' (owned_key plan x.owned) j) (new_one j f j_is h) (subst (λ (i : ℕ). IsKnownBy holders' (owned_key plan o) i) (sym j_is) held-first))
            | inr n ↦
                let was : entry_at slots j ≡ Some f = sym (slot.others j n) ∙ h in
                elim (roll.found j f was) [ inl x ↦ inl (still-known j f was x) | inr y ↦ inr (os (entry_rank f) ∙ y) ]
          ];
          alone = λ j f h x. elim (cases_eq j id) [
            | inl j_is ↦ ap (λ (k : Entry). look_up is_rank others' (entry_rank k)) (sym (new_one j f j_is h)) ∙ os (owned_rank o) ∙ listed
            | inr n ↦ os (entry_rank f) ∙ roll.alone j f (sym (slot.others j n) ∙ h) (was-known j (owned_key plan f.owned) n x)
          ];
          other = λ rank j h.
              let k = roll.other rank j (sym (os rank) ∙ h) in
              record {
                entry = k.entry;
                there = slot.others j (older j k.entry k.there) ∙ k.there;
                ranked = k.ranked;
                shared = stays-shared holders holders' (owned_key plan o) holds.holder holds.has holds.stays (owned_key plan k.entry.owned) k.shared;
              };
        }

  -- among the others
  module _ (shares : SharesKey slots holders (owned_key plan o) holders') (os : (q : List ℤ) → look_up is_rank others' q ≡ cond (is_rank (owned_rank o) q) (Some id) (look_up is_rank others q)) where
    abbrev marked : Holder
    marked = record { id = shares.holder.id; is_shared = true }

    -- each key is known by the id by which it was
    as-known : (q : Key) (j : ℕ) → IsKnownBy holders q j → IsKnownBy holders' q j
    as-known q j x =
        elim (is_key (owned_key plan o) q) as (λ b. is_key (owned_key plan o) q ≡ b → IsKnownBy holders' q j) [
          | true ↦ λ t. record {
            holder = marked;
            known = here holders holders' (owned_key plan o) marked shares.has q t;
            id_is = known-once holders (owned_key plan o) q shares.holder.id j (key_same (owned_key plan o) q t) (record { holder = shares.holder; known = shares.known; id_is = refl }) x;
          }
          | false ↦ λ t. kept-known holders holders' q j (elsewhere holders holders' (owned_key plan o) marked shares.has q t) x
        ] refl

    as-was-known : (q : Key) (j : ℕ) → IsKnownBy holders' q j → IsKnownBy holders q j
    as-was-known q j x =
        elim (is_key (owned_key plan o) q) as (λ b. is_key (owned_key plan o) q ≡ b → IsKnownBy holders q j) [
          | true ↦ λ t.
              let same : marked ≡ x.holder = same_Some marked x.holder (sym (here holders holders' (owned_key plan o) marked shares.has q t) ∙ x.known) in
              record { holder = shares.holder; known = ap holders (sym (key_same (owned_key plan o) q t)) ∙ shares.known; id_is = ap (λ (h : Holder). h.id) same ∙ x.id_is }
          | false ↦ λ t. kept-known holders' holders q j (sym (elsewhere holders holders' (owned_key plan o) marked shares.has q t)) x
        ] refl

    -- no key is known by the newcomer's id, unless it was before
    not-first : IsKnownBy holders' (owned_key plan o) id → ⊥
    not-first x =
        let id_is : shares.holder.id ≡ id = known-once holders (owned_key plan o) (owned_key plan o) shares.holder.id id refl (record { holder = shares.holder; known = shares.known; id_is = refl }) (as-was-known (owned_key plan o) id x) in
        let both : true ≡ false = sym shares.there ∙ ap is_some (ap (entry_at slots) id_is ∙ vacant) in
        absurd cc

    differs : (j : ℕ) (f : Entry) → entry_at slots j ≡ Some f → is_rank (owned_rank o) (entry_rank f) ≡ false
    differs j f h = rank_differs (owned_rank o) (entry_rank f) (λ e. free j f h (sym e))

    enrolled-other : IsRoll plan after holders' others'
    enrolled-other =
        record {
          found = λ j f h. elim (cases_eq j id) [
            | inl j_is ↦
                inr (ap (λ (x : Entry). look_up is_rank others' (entry_rank x)) (sym (new_one j f j_is h)) ∙ os (owned_rank o)
                ∙ ap (λ (b : Bool). cond b (Some id) (look_up is_rank others (owned_rank o))) (rank_itself (owned_rank o)) ∙ ap Some (sym j_is))
            | inr n ↦
                let was : entry_at slots j ≡ Some f = sym (slot.others j n) ∙ h in
                elim (roll.found j f was) [
                  | inl x ↦ inl (as-known (owned_key plan f.owned) j x)
                  | inr y ↦ inr (os (entry_rank f) ∙ ap (λ (b : Bool). cond b (Some id) (look_up is_rank others (entry_rank f))) (differs j f was) ∙ y)
                ]
          ];
          alone = λ j f h x. elim (cases_eq j id) [
            | inl j_is ↦
                absurd (not-first (subst (λ (i : ℕ). IsKnownBy holders' (owned_key plan o) i) j_is (subst (λ (k : Entry). IsKnownBy holders' (owned_key plan k.owned) j) (sym (new_one j f j_is h)) x)))
            | inr n ↦
                let was : entry_at slots j ≡ Some f = sym (slot.others j n) ∙ h in
                os (entry_rank f) ∙ ap (λ (b : Bool). cond b (Some id) (look_up is_rank others (entry_rank f))) (differs j f was) ∙ roll.alone j f was (as-was-known (owned_key plan f.owned) j x)
          ];
          other = λ rank j h.
              elim (is_rank (owned_rank o) rank) as (λ b. is_rank (owned_rank o) rank ≡ b → cond b (Some id) (look_up is_rank others rank) ≡ Some j → IsOther plan after holders' rank j) [
                | true ↦ λ t h. record {
                  entry = fresh o;
                  there = ap (entry_at after) (sym (same_Some id j h)) ∙ slot.changed;
                  ranked = rank_same (owned_rank o) rank t;
                  shared = record { holder = marked; known = here holders holders' (owned_key plan o) marked shares.has (owned_key plan o) (key_itself (owned_key plan o)); shared = refl };
                }
                | false ↦ λ t h.
                    let k = roll.other rank j h in
                    record {
                      entry = k.entry;
                      there = slot.others j (older j k.entry k.there) ∙ k.there;
                      ranked = k.ranked;
                      shared = stays-shared holders holders' (owned_key plan o) marked shares.has (λ h known shared. refl) (owned_key plan k.entry.owned) k.shared;
                    }
              ] refl (sym (os rank) ∙ h);
        }

  pub enrolled-roll : IsEnrolled plan slots holders others (owned_key plan o) (owned_rank o) id holders' others' → IsRoll plan after holders' others'
  enrolled-roll (inl (holds, os)) = enrolled-first holds os
  enrolled-roll (inr (shares, os)) = enrolled-other shares os

-- ---- an entry is taken out

module _ {T T' : Type 0} (plan : Plan) (slots after : List (Option Entry)) (holders : Key → Option Holder) (holders' : Key → Option Holder) (others : IndexMap (List ℤ) ℕ T) (others' : IndexMap (List ℤ) ℕ T')
    (roll : IsRoll plan slots holders others)
    (id : ℕ) (e : Entry) (there : entry_at slots id ≡ Some e) (slot : HasSlot slots after id None) where
  gone : (j : ℕ) (f : Entry) → entry_at after j ≡ Some f → j ≢ id
  gone j f h j_is = some_none f (sym h ∙ ap (entry_at after) j_is ∙ slot.changed)

  stood : (j : ℕ) (f : Entry) → entry_at after j ≡ Some f → entry_at slots j ≡ Some f
  stood j f h = sym (slot.others j (gone j f h)) ∙ h

  this_one : (j : ℕ) (f : Entry) → j ≡ id → entry_at slots j ≡ Some f → f ≡ e
  this_one j f j_is h = same_Some f e (sym h ∙ ap (entry_at slots) j_is ∙ there)

  -- the one by which its key was known
  struck-first : (key : Key) → owned_key plan e.owned ≡ key → IsKnownBy holders (owned_key plan e.owned) id → MayHaveLeft holders key holders' → ((q : List ℤ) → look_up is_rank others' q ≡ look_up is_rank others q)
      → IsRoll plan after holders' others'
  struck-first key placed known left os =
      record {
        found = λ j f h. elim (roll.found j f (stood j f h)) [
          | inl x ↦ inl (left-known holders holders' key left (owned_key plan f.owned) j (λ q_is. gone j f h (known-once holders (owned_key plan f.owned) (owned_key plan e.owned) j id (sym q_is ∙ sym placed) x known)) x)
          | inr y ↦ inr (os (entry_rank f) ∙ y)
        ];
        alone = λ j f h x. os (entry_rank f) ∙ roll.alone j f (stood j f h) (left-was-known holders holders' key left (owned_key plan f.owned) j x);
        other = λ rank j h.
            let was : look_up is_rank others rank ≡ Some j = sym (os rank) ∙ h in
            let k = roll.other rank j was in
            let n : j ≢ id = λ j_is. some_none j (sym was ∙ ap (look_up is_rank others) (sym k.ranked ∙ ap entry_rank (this_one j k.entry j_is k.there)) ∙ roll.alone id e there known) in
            record { entry = k.entry; there = slot.others j n ∙ k.there; ranked = k.ranked; shared = left-shared holders holders' key left (owned_key plan k.entry.owned) k.shared };
      }

  -- one of the others
  struck-other : (rank : List ℤ) → look_up is_rank others rank ≡ Some id → entry_rank e ≡ rank → ((q : List ℤ) → look_up is_rank others' q ≡ cond (is_rank rank q) None (look_up is_rank others q)) → IsRoll plan after holders others'
  struck-other rank known ranked os =
      record {
        found = λ j f h. elim (roll.found j f (stood j f h)) [
          | inl x ↦ inl x
          | inr y ↦
              let n : rank ≡ entry_rank f → ⊥ = λ q_is. gone j f h (same_Some j id (sym y ∙ ap (look_up is_rank others) (sym q_is) ∙ known)) in
              inr (os (entry_rank f) ∙ ap (λ (b : Bool). cond b None (look_up is_rank others (entry_rank f))) (rank_differs rank (entry_rank f) n) ∙ y)
        ];
        alone = λ j f h x. os (entry_rank f) ∙ either (is_rank rank (entry_rank f)) (look_up is_rank others (entry_rank f)) (roll.alone j f (stood j f h) x);
        other = λ q j h.
            elim (is_rank rank q) as (λ b. is_rank rank q ≡ b → cond b None (look_up is_rank others q) ≡ Some j → IsOther plan after holders q j) [
              | true ↦ λ t h. absurd (some_none j (sym h))
              | false ↦ λ t h.
                  let k = roll.other q j h in
                  let n : j ≢ id = λ j_is.
                  let q_is : rank ≡ q = sym ranked ∙ ap entry_rank (sym (this_one j k.entry j_is k.there)) ∙ k.ranked in
                  let both : true ≡ false = sym (ap (is_rank rank) (sym q_is) ∙ rank_itself rank) ∙ t in
                  absurd cc in
                  record { entry = k.entry; there = slot.others j n ∙ k.there; ranked = k.ranked; shared = k.shared }
            ] refl (sym (os q) ∙ h);
      }
    where
      either : (b : Bool) (o : Option ℕ) → o ≡ None → cond b None o ≡ None
      either true o h = refl
      either false o h = h

  pub struck-roll : (s p : ℕ) (f : Form) → entry_rank e ≡ padded_rank s p f → IsStruck plan slots holders others s p f id holders' others' → IsRoll plan after holders' others'
  struck-roll s p f ranked (inl (h, left, os)) =
      let placed = rank-key_of plan e.owned s p f ranked in
      struck-first (key_of plan s p f) placed (subst (λ (q : Key). IsKnownBy holders q id) (sym placed) h.known) left os
  struck-roll s p f ranked (inr (h, fs, os)) = same-index plan after holders others' (struck-other (padded_rank s p f) h ranked os) holders' others' (fs, λ q. refl)

pub struck-id : {T T' : Type 0} (plan : Plan) (slots : List (Option Entry)) (holders : Key → Option Holder) (holders' : Key → Option Holder) (others : IndexMap (List ℤ) ℕ T) (others' : IndexMap (List ℤ) ℕ T') (s p : ℕ) (f : Form) (id : ℕ)
    → IsStruck plan slots holders others s p f id holders' others' → IsIdOf plan slots holders others s p f id
struck-id plan slots holders holders' others others' s p f id (inl h) = inl h.0
struck-id plan slots holders holders' others others' s p f id (inr h) = inr h.0
