-- What a roll's layout says of its entries, and what changes of an entry keep.
use Rattle.std.proofs.Common.{◌≡◌, ◌≢◌, ℕ, true, false, ℤ, List, Option, Some, None, refl, sym, ap, subst, ◌∙◌, ◌⊎◌, inl, inr}
use Rattle.std.proofs.lemmas.Option.{same_Some}
use Rattle.std.proofs.lemmas.Bool.{cases_eq}
use Rattle.indexmap.specs.IndexMap.{IndexMap, get as look_up}
use Rattle.kin_motion.specs.declared.form.Form.{Form}
use Rattle.kin_cert.specs.Entries.{Entry}
use Rattle.kin_cert.specs.declared.holder.Holder.{Holder}
use Rattle.kin_cert.specs.declared.key.Key.{Key}
use Rattle.kin_cert.specs.declared.plan.Plan.{Plan}
use Rattle.kin_fail.specs.declared.owned.Owned.{Owned}
use Rattle.kin_fail.specs.Rank.{padded_rank, is_rank, owned_rank}
use Rattle.kin_cert.specs.Layout.{entry_at, entry_rank, fresh, HasSlot, NoneTwice, IsThere, IsNotFound}
use Rattle.kin_cert.specs.Keys.{key_of, owned_key}
use Rattle.kin_cert.specs.Rolls.{IsKnownBy, IsShared, IsRoll, IsFirstAt, IsIdOf, HasNoId, MayFollow, IsSameIndex}
use Rattle.kin_cert.proofs.Keys.{some_none, rank-key, rank-key_of, known-once, kept-known, kept-shared}

module _ {T : Type 0} (plan : Plan) (slots : List (Option Entry)) (holders : Key → Option Holder) (others : IndexMap (List ℤ) ℕ T) (roll : IsRoll plan slots holders others) where
  pub once : NoneTwice slots
  once i j e f a b same =
      elim (roll.found i e a) [
        | inl x ↦ elim (roll.found j f b) [
          | inl y ↦ known-once holders (owned_key plan e.owned) (owned_key plan f.owned) i j (rank-key plan e.owned f.owned same) x y
          | inr y ↦ absurd (some_none j (sym y ∙ ap (look_up is_rank others) (sym same) ∙ roll.alone i e a x))
        ]
        | inr x ↦ elim (roll.found j f b) [
          | inl y ↦ absurd (some_none i (sym x ∙ ap (look_up is_rank others) same ∙ roll.alone j f b y))
          | inr y ↦ same_Some i j (sym x ∙ ap (look_up is_rank others) same ∙ y)
        ]
      ]

  -- the entry of an id
  pub id-there : (s p : ℕ) (f : Form) (id : ℕ) → IsIdOf plan slots holders others s p f id → (e : Entry) × (entry_at slots id ≡ Some e) × (entry_rank e ≡ padded_rank s p f)
  id-there s p f id (inl h) = (h.entry, h.there, h.ranked)
  id-there s p f id (inr h) = let k = roll.other (padded_rank s p f) id h in (k.entry, k.there, k.ranked)

  -- the entry by which its key is known
  pub first-known : (s p : ℕ) (f : Form) (id : ℕ) → (h : IsFirstAt plan slots holders s p f id) → IsKnownBy holders (owned_key plan h.entry.owned) id
  first-known s p f id h = subst (λ (q : Key). IsKnownBy holders q id) (sym (rank-key_of plan h.entry.owned s p f h.ranked)) h.known

  -- what is neither known by its key nor among the others isn't there
  pub nowhere : (s p : ℕ) (f : Form) → HasNoId plan slots holders others s p f → IsNotFound slots (padded_rank s p f)
  nowhere s p f nobody id e there ranked =
      let placed : owned_key plan e.owned ≡ key_of plan s p f = rank-key_of plan e.owned s p f ranked in
      elim (roll.found id e there) [
        | inl x ↦ nobody.no_first x.holder e (ap holders (sym placed) ∙ x.known) (ap (entry_at slots) x.id_is ∙ there) ranked
        | inr y ↦
            let k = roll.other (entry_rank e) id y in
            let at : owned_key plan k.entry.owned ≡ key_of plan s p f = rank-key_of plan k.entry.owned s p f (k.ranked ∙ ranked) in
            some_none id (sym y ∙ ap (look_up is_rank others) ranked ∙ nobody.no_other k.shared.holder (ap holders (sym at) ∙ k.shared.known) k.shared.shared)
      ]

  -- the others have no rank that isn't there
  pub unlisted : (rank : List ℤ) → IsNotFound slots rank → look_up is_rank others rank ≡ None
  unlisted rank free =
      elim (look_up is_rank others rank) as (λ o. look_up is_rank others rank ≡ o → o ≡ None) [
        | None ↦ λ h. refl
        | Some id ↦ λ h. let k = roll.other rank id h in absurd (free id k.entry k.there k.ranked)
      ] refl

  -- where the other indices answer the same, it is the same
  pub same-index : {T' : Type 0} (holders' : Key → Option Holder) (others' : IndexMap (List ℤ) ℕ T') → IsSameIndex holders others holders' others' → IsRoll plan slots holders' others'
  same-index holders' others' (fs, os) =
      record {
        found = λ id e there. elim (roll.found id e there) [
          | inl x ↦ inl (kept-known holders holders' (owned_key plan e.owned) id (fs (owned_key plan e.owned)) x)
          | inr y ↦ inr (os (entry_rank e) ∙ y)
        ];
        alone = λ id e there x. os (entry_rank e) ∙ roll.alone id e there (kept-known holders' holders (owned_key plan e.owned) id (sym (fs (owned_key plan e.owned))) x);
        other = λ r id h.
            let k = roll.other r id (sym (os r) ∙ h) in
            record { entry = k.entry; there = k.there; ranked = k.ranked; shared = kept-shared holders holders' (owned_key plan k.entry.owned) (fs (owned_key plan k.entry.owned)) k.shared };
      }

  -- none of the others has a key that isn't shared
  unshared-unlisted : (o : Owned) (h : Holder) → holders (owned_key plan o) ≡ Some h → h.is_shared ≡ false → look_up is_rank others (owned_rank o) ≡ None
  unshared-unlisted o h known unshared =
      elim (look_up is_rank others (owned_rank o)) as (λ x. look_up is_rank others (owned_rank o) ≡ x → x ≡ None) [
        | None ↦ λ e. refl
        | Some id ↦ λ e.
            let k = roll.other (owned_rank o) id e in
            let same : k.shared.holder ≡ h = same_Some k.shared.holder h (sym k.shared.known ∙ ap holders (rank-key plan k.entry.owned o k.ranked) ∙ known) in
            let both : true ≡ false = sym k.shared.shared ∙ ap (λ (x : Holder). x.is_shared) same ∙ unshared in
            absurd cc
      ] refl

  -- the key of an entry has a holder
  pub key-held : (s p : ℕ) (f : Form) → IsThere slots (padded_rank s p f) → (h : Holder) × (holders (key_of plan s p f) ≡ Some h)
  key-held s p f (id, (e, there, ranked)) =
      let at : owned_key plan e.owned ≡ key_of plan s p f = rank-key_of plan e.owned s p f ranked in
      elim (roll.found id e there) [
        | inl x ↦ (x.holder, ap holders (sym at) ∙ x.known)
        | inr y ↦
            let k = roll.other (entry_rank e) id y in
            (k.shared.holder, ap holders (sym at ∙ rank-key plan e.owned k.entry.owned (sym k.ranked)) ∙ k.shared.known)
      ]

  -- and is its own, where the key isn't shared
  pub unshared-first : (s p : ℕ) (f : Form) → IsThere slots (padded_rank s p f) → (h : Holder) → holders (key_of plan s p f) ≡ Some h → h.is_shared ≡ false → IsFirstAt plan slots holders s p f h.id
  unshared-first s p f (id, (e, there, ranked)) h known unshared =
      let at : owned_key plan e.owned ≡ key_of plan s p f = rank-key_of plan e.owned s p f ranked in
      elim (roll.found id e there) [
        | inl x ↦
            let same : h ≡ x.holder = same_Some h x.holder (sym known ∙ ap holders (sym at) ∙ x.known) in
            record { known = record { holder = h; known = known; id_is = refl }; entry = e; there = ap (λ (k : Holder). entry_at slots k.id) same ∙ ap (entry_at slots) x.id_is ∙ there; ranked = ranked }
        | inr y ↦ absurd (some_none id (sym y ∙ unshared-unlisted e.owned h (ap holders at ∙ known) unshared))
      ]

  -- the holder of a key that may be taken has the old fact
  pub follows-first : (old new : Owned) (holder : Holder) → IsThere slots (owned_rank old) → holders (owned_key plan old) ≡ Some holder → MayFollow slots others holder old new → IsFirstAt plan slots holders old.structure old.part old.fact.form holder.id
  follows-first old new holder live known (inl unshared) = unshared-first old.structure old.part old.fact.form live holder known unshared
  follows-first old new holder live known (inr (first, free)) = record { known = record { holder = holder; known = known; id_is = refl }; entry = first.0; there = first.1; ranked = first.2 }

  -- what may follow the entry by which its key is known isn't among the others
  pub follows-unlisted : (old new : Owned) (holder : Holder) → holders (owned_key plan old) ≡ Some holder → owned_key plan new ≡ owned_key plan old
      → IsFirstAt plan slots holders old.structure old.part old.fact.form holder.id → MayFollow slots others holder old new → look_up is_rank others (owned_rank new) ≡ None
  follows-unlisted old new holder known placed first (inl unshared) = unshared-unlisted new holder (ap holders placed ∙ known) unshared
  follows-unlisted old new holder known placed first (inr (had, inl same)) =
      ap (look_up is_rank others) (same ∙ sym first.ranked) ∙ roll.alone holder.id first.entry first.there (first-known old.structure old.part old.fact.form holder.id first)
  follows-unlisted old new holder known placed first (inr (had, inr free)) = free

  -- an entry that keeps its owner and form
  module _ (after : List (Option Entry)) (id : ℕ) (e e' : Entry) (there : entry_at slots id ≡ Some e) (slot : HasSlot slots after id (Some e')) (same : e.owned ≡ e'.owned) where
    was : (j : ℕ) (f : Entry) → entry_at after j ≡ Some f → (g : Entry) × (entry_at slots j ≡ Some g) × (g.owned ≡ f.owned)
    was j f h =
        elim (cases_eq j id) [
          | inl j_is ↦ (e, ap (entry_at slots) j_is ∙ there, same ∙ ap (λ (x : Entry). x.owned) (same_Some e' f (sym slot.changed ∙ ap (entry_at after) (sym j_is) ∙ h)))
          | inr n ↦ (f, sym (slot.others j n) ∙ h, refl)
        ]

    becomes : (j : ℕ) (g : Entry) → entry_at slots j ≡ Some g → (f : Entry) × (entry_at after j ≡ Some f) × (f.owned ≡ g.owned)
    becomes j g h =
        elim (cases_eq j id) [
          | inl j_is ↦ (e', ap (entry_at after) j_is ∙ slot.changed, sym same ∙ ap (λ (x : Entry). x.owned) (same_Some e g (sym there ∙ ap (entry_at slots) (sym j_is) ∙ h)))
          | inr n ↦ (g, slot.others j n ∙ h, refl)
        ]

    pub kept-roll : IsRoll plan after holders others
    kept-roll =
        record {
          found = λ j f h. let g = was j f h in subst (λ (o : Owned). IsKnownBy holders (owned_key plan o) j ⊎ (look_up is_rank others (owned_rank o) ≡ Some j)) g.2 (roll.found j g.0 g.1);
          alone = λ j f h. let g = was j f h in subst (λ (o : Owned). IsKnownBy holders (owned_key plan o) j → look_up is_rank others (owned_rank o) ≡ None) g.2 (roll.alone j g.0 g.1);
          other = λ rank j h.
              let k = roll.other rank j h in
              let f = becomes j k.entry k.there in
              record { entry = f.0; there = f.1; ranked = ap owned_rank f.2 ∙ k.ranked; shared = subst (λ (o : Owned). IsShared holders (owned_key plan o)) (sym f.2) k.shared };
        }

  -- an entry takes the place of one by which the key is known
  module _ (after : List (Option Entry)) (id : ℕ) (e : Entry) (o : Owned) (there : entry_at slots id ≡ Some e) (known : IsKnownBy holders (owned_key plan e.owned) id)
      (placed : owned_key plan o ≡ owned_key plan e.owned) (unlisted_o : look_up is_rank others (owned_rank o) ≡ None) (slot : HasSlot slots after id (Some (fresh o))) where
    pub only-there : (j : ℕ) (f : Entry) → entry_at slots j ≡ Some f → entry_rank f ≡ owned_rank o → j ≡ id
    only-there j f h ranked =
        elim (roll.found j f h) [
          | inl x ↦ known-once holders (owned_key plan f.owned) (owned_key plan e.owned) j id (rank-key plan f.owned o ranked ∙ placed) x known
          | inr y ↦ absurd (some_none j (sym y ∙ ap (look_up is_rank others) ranked ∙ unlisted_o))
        ]

    this : (j : ℕ) (f : Entry) → j ≡ id → entry_at after j ≡ Some f → fresh o ≡ f
    this j f j_is h = same_Some (fresh o) f (sym slot.changed ∙ ap (entry_at after) (sym j_is) ∙ h)

    pub taken-over-roll : IsRoll plan after holders others
    taken-over-roll =
        record {
          found = λ j f h. elim (cases_eq j id) [
            | inl j_is ↦
                inl (subst (λ (x : Entry). IsKnownBy holders (owned_key plan x.owned) j) (this j f j_is h) (subst (λ (q : Key). IsKnownBy holders q j) (sym placed) (subst (λ (i : ℕ). IsKnownBy holders (owned_key plan e.owned) i) (sym j_is) known)))
            | inr n ↦ roll.found j f (sym (slot.others j n) ∙ h)
          ];
          alone = λ j f h x. elim (cases_eq j id) [
            | inl j_is ↦ ap (λ (k : Entry). look_up is_rank others (entry_rank k)) (sym (this j f j_is h)) ∙ unlisted_o
            | inr n ↦ roll.alone j f (sym (slot.others j n) ∙ h) x
          ];
          other = λ rank j h.
              let k = roll.other rank j h in
              let n : j ≢ id = λ j_is.
              let k_is : k.entry ≡ e = same_Some k.entry e (sym k.there ∙ ap (entry_at slots) j_is ∙ there) in
              some_none j (sym h ∙ ap (look_up is_rank others) (sym k.ranked ∙ ap entry_rank k_is) ∙ roll.alone id e there known) in
              record { entry = k.entry; there = slot.others j n ∙ k.there; ranked = k.ranked; shared = k.shared };
        }
