-- What a table's layout says of its live facts, and what changes of it keep.
use Rattle.std.proofs.Common.{◌≡◌, ◌≢◌, ℕ, zero, suc, ◌<◌, Bool, true, false, cond, List, [], ◌∷◌, length, get_or, set, Option, Some, None, is_some, refl, sym, ap, subst, ◌∙◌, ◌⊎◌, inl, inr, ◌↔◌, arith}
use Rattle.std.proofs.lemmas.Option.{same_Some}
use Rattle.std.specs.List.{Contains}
use Rattle.std.specs.Ordering.{nat_cmp}
use Rattle.std.specs.FinMap as map
use Rattle.std.specs.FinMap.{FinMap, get-insert, get-remove, get-empty}
use Rattle.std.proofs.lemmas.Cmp.{nat_cmp_total}
use Rattle.std.proofs.lemmas.Bool.{cases_eq}
use Rattle.std.proofs.lemmas.List.{get_or-set_same, get_or-set_other}
use Rattle.kin_num.specs.declared.instant.Moment.{Moment}
use Rattle.kin_motion.specs.declared.form.Form.{Form}
use Rattle.kin_motion.specs.Scene.{Scene}
use Rattle.kin_queue.proofs.Entries.{same, same_is, same_itself, differ}
use Rattle.kin_cert.specs.Entries.{Entry}
use Rattle.kin_fail.specs.declared.owned.Owned.{Owned}
use Rattle.kin_cert.specs.Facts.{LiveFact, IsAt, NoneAlike}
use Rattle.kin_fail.specs.Rank.{padded_rank}
use Rattle.kin_cert.specs.Layout.{IsTable, live_fact, live_in, entry_at, entry_rank, queued_at, with, fresh, timed, HasSlot, NoneTwice, IsNotFound, IsTimed}
use Rattle.kin_fail.proofs.Ranks.{rank_names}
use Rattle.kin_cert.proofs.Keys.{some_none}
use Rattle.kin_cert.proofs.Slots.{live-there, live-from, live-once, IsEntryOf}

-- the rank of a fact at an owner and a form
pub rank-at : (s p : ℕ) (f : Form) (e : Entry) → IsAt s p f (live_fact e) → entry_rank e ≡ padded_rank s p f
rank-at s p f e at =
    ap (λ (x : ℕ). padded_rank x e.owned.part e.owned.fact.form) at.structure_is
    ∙ ap (λ (x : ℕ). padded_rank s x e.owned.fact.form) at.part_is
    ∙ ap (λ (x : Form). padded_rank s p x) at.form_is

pub at-rank : (s p : ℕ) (f : Form) (e : Entry) → entry_rank e ≡ padded_rank s p f → IsAt s p f (live_fact e)
at-rank s p f e h =
    let n = rank_names e.owned.structure e.owned.part e.owned.fact.form s p f h in
    record { structure_is = n.structure; part_is = n.part; form_is = n.form }

pub table-once : (slots : List (Option Entry)) → NoneTwice slots → NoneAlike (live_in slots)
table-once slots once = live-once slots (λ i j e f a b alike. once i j e f a b (rank-at _ _ _ e alike))

-- no entry has the rank of an owner's form without a live fact
pub not-found : (slots : List (Option Entry)) (s p : ℕ) (f : Form) → ((l : LiveFact) → Contains (live_in slots) l → ¬ (IsAt s p f l)) → IsNotFound slots (padded_rank s p f)
not-found slots s p f none id e there ranked = none (live_fact e) (live-there slots id e there) (at-rank s p f e ranked)

-- the slot of a live fact
pub rank-of-live : (slots : List (Option Entry)) (s p : ℕ) (f : Form) (l : LiveFact) → IsAt s p f l → (h : IsEntryOf slots l) → entry_rank h.entry ≡ padded_rank s p f
rank-of-live slots s p f l at h = rank-at s p f h.entry (subst (λ (x : LiveFact). IsAt s p f x) (sym h.is) at)

pub none-of : {A : Type 0} (o : Option A) → is_some o ≡ false → o ≡ None
none-of None e = refl
none-of (Some x) e = absurd (cc)

-- a slot that is written
in-slots : (slots : List (Option Entry)) (id : ℕ) (e : Entry) → entry_at slots id ≡ Some e → id < length slots
in-slots [] id e h = absurd (some_none e (sym h))
in-slots (o ∷ slots) zero e h = omega arith
in-slots (o ∷ slots) (suc id) e h = let lt = in-slots slots id e h in omega (arith, lt)

pub has-slot : (slots : List (Option Entry)) (id : ℕ) (e : Entry) (o : Option Entry) → entry_at slots id ≡ Some e → HasSlot slots (set slots id o) id o
has-slot slots id e o h =
    record {
      changed = get_or-set_same slots id o None (in-slots slots id e h);
      others = λ j n. get_or-set_other slots id j o None n;
    }

pub same-slot : (slots : List (Option Entry)) (id : ℕ) (e : Entry) → entry_at slots id ≡ Some e → set slots id (Some e) ≡ slots
same-slot [] id e h = refl
same-slot (o ∷ slots) zero e h = ap (λ (x : Option Entry). x ∷ slots) (sym h)
same-slot (o ∷ slots) (suc id) e h = ap (λ (xs : List (Option Entry)). o ∷ xs) (same-slot slots id e h)

-- taking an absent id out changes nothing
pub remove-absent : (moments : FinMap nat_cmp Moment) (id : ℕ) → map.get moments id ≡ None → map.remove moments id ≡ moments
remove-absent moments id none =
    map.same_map nat_cmp_total map.nat_cmp-IsAntisymmetric _ _ (λ q.
    get-remove nat_cmp_total moments id q
    ∙ elim (same q id) as (λ b. same q id ≡ b → cond b None (map.get moments q) ≡ map.get moments q) [
      | true ↦ λ e. sym (ap (map.get moments) (same_is q id e) ∙ none)
      | false ↦ λ e. refl
    ] refl)

pub elsewhere : {A : Type 0} (j id : ℕ) (x y : A) → j ≢ id → cond (same j id) x y ≡ y
elsewhere j id x y n = ap (λ (b : Bool). cond b x y) (differ j id n)

pub here : {A : Type 0} (id : ℕ) (x y : A) → cond (same id id) x y ≡ x
here id x y = ap (λ (b : Bool). cond b x y) (same_itself id)

-- one slot and its moment change
pub changed-table : (slots after : List (Option Entry)) (moments moments_after : FinMap nat_cmp Moment) (id : ℕ) (o : Option Entry) → IsTable slots moments → HasSlot slots after id o
    → map.get moments_after id ≡ queued_at o → ((j : ℕ) → j ≢ id → map.get moments_after j ≡ map.get moments j) → IsTable after moments_after
changed-table slots after moments moments_after id o table slot at_id others j =
    elim (cases_eq j id) [
      | inl j_is ↦ ap (map.get moments_after) j_is ∙ at_id ∙ sym (ap queued_at (ap (entry_at after) j_is ∙ slot.changed))
      | inr n ↦ others j n ∙ table j ∙ ap queued_at (sym (slot.others j n))
    ]

-- the id is taken out of the queue, and its slot has no moment
pub unqueued-table : (slots after : List (Option Entry)) (moments moments_after : FinMap nat_cmp Moment) (id : ℕ) (o : Option Entry) → IsTable slots moments → HasSlot slots after id o → queued_at o ≡ None
    → moments_after ≡ map.remove moments id → IsTable after moments_after
unqueued-table slots after moments moments_after id o table slot none fewer =
    let got : (j : ℕ) → map.get moments_after j ≡ cond (same j id) None (map.get moments j) = λ j. ap (λ (m : FinMap nat_cmp Moment). map.get m j) fewer ∙ get-remove nat_cmp_total moments id j in
    changed-table slots after moments moments_after id o table slot (got id ∙ here id None (map.get moments id) ∙ sym none) (λ j n. got j ∙ elsewhere j id None (map.get moments j) n)

-- a fact that never fails as yet is put in
pub put-table : (slots after : List (Option Entry)) (moments : FinMap nat_cmp Moment) (id : ℕ) (o : Owned) → IsTable slots moments → entry_at slots id ≡ None → HasSlot slots after id (Some (fresh o)) → IsTable after moments
put-table slots after moments id o table vacant slot =
    changed-table slots after moments moments id (Some (fresh o)) table slot (table id ∙ ap queued_at vacant) (λ j n. refl)

queued-with : (moments : FinMap nat_cmp Moment) (id : ℕ) (o : Option Moment) → map.get moments id ≡ None → (j : ℕ) → map.get (with moments id o) j ≡ cond (same j id) o (map.get moments j)
queued-with moments id None none j =
    elim (same j id) as (λ b. same j id ≡ b → map.get moments j ≡ cond b None (map.get moments j)) [
      | true ↦ λ t. ap (map.get moments) (same_is j id t) ∙ none
      | false ↦ λ t. refl
    ] refl
queued-with moments id (Some m) none j = get-insert nat_cmp_total moments id m j

-- its first failure is found
module _ (scene : Moment → Scene) (now : Moment) (o : Owned) (id : ℕ) (slots after : List (Option Entry)) (moments moments_after : FinMap nat_cmp Moment)
    (table : IsTable slots moments) (there : entry_at slots id ≡ Some (fresh o)) (timed_so : IsTimed scene now o id slots moments after moments_after) where
  absent : map.get moments id ≡ None
  absent = table id ∙ ap queued_at there

  pub timed-slot : HasSlot slots after id (Some (timed (fresh o) timed_so.fails))
  timed-slot = subst (λ (xs : List (Option Entry)). HasSlot slots xs id (Some (timed (fresh o) timed_so.fails))) (sym timed_so.slots_are) (has-slot slots id (fresh o) (Some (timed (fresh o) timed_so.fails)) there)

  pub timed-table : IsTable after moments_after
  timed-table =
      let got : (j : ℕ) → map.get moments_after j ≡ cond (same j id) timed_so.fails (map.get moments j) = λ j. ap (λ (m : FinMap nat_cmp Moment). map.get m j) timed_so.moments_are ∙ queued-with moments id timed_so.fails absent j in
      changed-table slots after moments moments_after id (Some (timed (fresh o) timed_so.fails)) table timed-slot (got id ∙ here id timed_so.fails (map.get moments id)) (λ j n. got j ∙ elsewhere j id timed_so.fails (map.get moments j) n)

-- an entry is taken out
module _ (slots after : List (Option Entry)) (once : NoneTwice slots) (id : ℕ) (e : Entry) (there : entry_at slots id ≡ Some e) (slot : HasSlot slots after id None) where
  gone : (j : ℕ) (f : Entry) → entry_at after j ≡ Some f → j ≢ id
  gone j f h j_is = some_none f (sym h ∙ ap (entry_at after) j_is ∙ slot.changed)

  stood : (j : ℕ) (f : Entry) → entry_at after j ≡ Some f → entry_at slots j ≡ Some f
  stood j f h = sym (slot.others j (gone j f h)) ∙ h

  pub dropped-rest : (s p : ℕ) (f : Form) → IsAt s p f (live_fact e) → (l : LiveFact) → Contains (live_in after) l ↔ (Contains (live_in slots) l × ¬ (IsAt s p f l))
  dropped-rest s p f at l = (to, from)
    where
      to : Contains (live_in after) l → Contains (live_in slots) l × ¬ (IsAt s p f l)
      to c =
          let h = live-from after l c in (
            subst (λ (x : LiveFact). Contains (live_in slots) x) h.is (live-there slots h.id h.entry (stood h.id h.entry h.there)),
            λ l_at. gone h.id h.entry h.there (once h.id id h.entry e (stood h.id h.entry h.there) there (rank-of-live after s p f l l_at h ∙ sym (rank-at s p f e at))),
          )

      from : Contains (live_in slots) l × ¬ (IsAt s p f l) → Contains (live_in after) l
      from (c, n) =
          let h = live-from slots l c in
          let apart : h.id ≢ id = λ h_is.
          let same_entry : h.entry ≡ e = same_Some h.entry e (sym h.there ∙ ap (entry_at slots) h_is ∙ there) in
          n (subst (λ (x : LiveFact). IsAt s p f x) (ap live_fact (sym same_entry) ∙ h.is) at) in
          subst (λ (x : LiveFact). Contains (live_in after) x) h.is (live-there after h.id h.entry (slot.others h.id apart ∙ h.there))

-- an entry is put in
module _ (slots after : List (Option Entry)) (id : ℕ) (e : Entry) (vacant : entry_at slots id ≡ None) (slot : HasSlot slots after id (Some e)) where
  older : (j : ℕ) (f : Entry) → entry_at slots j ≡ Some f → j ≢ id
  older j f h j_is = some_none f (sym h ∙ ap (entry_at slots) j_is ∙ vacant)

  pub gained-exactly : (l : LiveFact) → Contains (live_in after) l ↔ (Contains (live_in slots) l ⊎ (l ≡ live_fact e))
  gained-exactly l = (to, from)
    where
      to : Contains (live_in after) l → Contains (live_in slots) l ⊎ (l ≡ live_fact e)
      to c =
          let h = live-from after l c in
          elim (cases_eq h.id id) [
            | inl h_is ↦ inr (sym h.is ∙ ap live_fact (same_Some h.entry e (sym h.there ∙ ap (entry_at after) h_is ∙ slot.changed)))
            | inr n ↦ inl (subst (λ (x : LiveFact). Contains (live_in slots) x) h.is (live-there slots h.id h.entry (sym (slot.others h.id n) ∙ h.there)))
          ]

      from : Contains (live_in slots) l ⊎ (l ≡ live_fact e) → Contains (live_in after) l
      from (inl c) =
          let h = live-from slots l c in
          subst (λ (x : LiveFact). Contains (live_in after) x) h.is (live-there after h.id h.entry (slot.others h.id (older h.id h.entry h.there) ∙ h.there))
      from (inr l_is) = subst (λ (x : LiveFact). Contains (live_in after) x) (sym l_is) (live-there after id e slot.changed)

-- an entry stands where another one stood
module _ (slots after : List (Option Entry)) (once : NoneTwice slots) (id : ℕ) (e e' : Entry) (there : entry_at slots id ≡ Some e) (slot : HasSlot slots after id (Some e')) where
  pub replaced-exactly : (s p : ℕ) (f : Form) → IsAt s p f (live_fact e) → (l : LiveFact) → Contains (live_in after) l ↔ ((Contains (live_in slots) l × ¬ (IsAt s p f l)) ⊎ (l ≡ live_fact e'))
  replaced-exactly s p f at l = (to, from)
    where
      to : Contains (live_in after) l → (Contains (live_in slots) l × ¬ (IsAt s p f l)) ⊎ (l ≡ live_fact e')
      to c =
          let h = live-from after l c in
          elim (cases_eq h.id id) [
            | inl h_is ↦ inr (sym h.is ∙ ap live_fact (same_Some h.entry e' (sym h.there ∙ ap (entry_at after) h_is ∙ slot.changed)))
            | inr n ↦
                let was : entry_at slots h.id ≡ Some h.entry = sym (slot.others h.id n) ∙ h.there in
                inl (subst (λ (x : LiveFact). Contains (live_in slots) x) h.is (live-there slots h.id h.entry was), λ l_at. n (once h.id id h.entry e was there (rank-of-live after s p f l l_at h ∙ sym (rank-at s p f e at))))
          ]

      from : (Contains (live_in slots) l × ¬ (IsAt s p f l)) ⊎ (l ≡ live_fact e') → Contains (live_in after) l
      from (inl (c, n)) =
          let h = live-from slots l c in
          let apart : h.id ≢ id = λ h_is.
          let same_entry : h.entry ≡ e = same_Some h.entry e (sym h.there ∙ ap (entry_at slots) h_is ∙ there) in
          n (subst (λ (x : LiveFact). IsAt s p f x) (ap live_fact (sym same_entry) ∙ h.is) at) in
          subst (λ (x : LiveFact). Contains (live_in after) x) h.is (live-there after h.id h.entry (slot.others h.id apart ∙ h.there))
      from (inr l_is) = subst (λ (x : LiveFact). Contains (live_in after) x) (sym l_is) (live-there after id e' slot.changed)

pub empty-table : (slots : List (Option Entry)) (moments : FinMap nat_cmp Moment) → slots ≡ [] → moments ≡ map.empty → IsTable slots moments
empty-table slots moments no_slots no_moments id =
    ap (λ (m : FinMap nat_cmp Moment). map.get m id) no_moments ∙ get-empty nat_cmp id ∙ sym (ap queued_at (ap (λ (xs : List (Option Entry)). get_or xs id None) no_slots))
