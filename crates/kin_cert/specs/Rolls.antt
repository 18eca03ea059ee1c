-- How a roll lies in memory: slots of entries, the holders of their keys, and an index of the ids of all others. No public clause cites this module.
use Rattle.std.specs.Prelude.{◌≡◌, ◌≢◌, ◌⊎◌, ℕ, true, false, cond, ℤ, List, Option, Some, None, IsSome}
use Rattle.indexmap.specs.IndexMap.{IndexMap, get as look_up}
use Rattle.kin_motion.specs.declared.form.Form.{Form}
use Rattle.kin_cert.specs.Entries.{Entry}
use Rattle.kin_fail.specs.declared.owned.Owned.{Owned}
use Rattle.kin_cert.specs.declared.holder.Holder.{Holder}
use Rattle.kin_cert.specs.declared.key.Key.{Key}
use Rattle.kin_cert.specs.declared.plan.Plan.{Plan}
use Rattle.kin_fail.specs.Rank.{padded_rank, is_rank, owned_rank}
use Rattle.kin_cert.specs.Keys.{key_of, owned_key}
use Rattle.kin_cert.specs.Holders.{HasHolder, AreSame, MayHaveLeft}
use Rattle.kin_cert.specs.Layout.{entry_at, entry_rank, HasRank}

-- the key is known by this id, of which the fact may be gone
pub record IsKnownBy (holders : Key → Option Holder) (key : Key) (id : ℕ) : Type 0 where
  pub holder : Holder
  pub known : holders key ≡ Some holder
  pub id_is : holder.id ≡ id

-- the key is marked as one of which further facts may be among the others
pub record IsShared (holders : Key → Option Holder) (key : Key) : Type 0 where
  pub holder : Holder
  pub known : holders key ≡ Some holder
  pub shared : holder.is_shared ≡ true

-- an entry of this rank is there, and its key is shared
pub record IsOther (plan : Plan) (slots : List (Option Entry)) (holders : Key → Option Holder) (rank : List ℤ) (id : ℕ) : Type 0 where
  pub entry : Entry
  pub there : entry_at slots id ≡ Some entry
  pub ranked : entry_rank entry ≡ rank
  pub shared : IsShared holders (owned_key plan entry.owned)

-- each entry is found by its key or among the others, not by both, and the others are there
pub record IsRoll {T : Type 0} (plan : Plan) (slots : List (Option Entry)) (holders : Key → Option Holder) (others : IndexMap (List ℤ) ℕ T) : Type 0 where
  pub found : (id : ℕ) (e : Entry) → entry_at slots id ≡ Some e → IsKnownBy holders (owned_key plan e.owned) id ⊎ (look_up is_rank others (entry_rank e) ≡ Some id)
  pub alone : (id : ℕ) (e : Entry) → entry_at slots id ≡ Some e → IsKnownBy holders (owned_key plan e.owned) id → look_up is_rank others (entry_rank e) ≡ None
  pub other : (rank : List ℤ) (id : ℕ) → look_up is_rank others rank ≡ Some id → IsOther plan slots holders rank id

-- the key is known by this id, whose entry is the owner's of this form
pub record IsFirstAt (plan : Plan) (slots : List (Option Entry)) (holders : Key → Option Holder) (structure part : ℕ) (form : Form) (id : ℕ) : Type 0 where
  pub known : IsKnownBy holders (key_of plan structure part form) id
  pub entry : Entry
  pub there : entry_at slots id ≡ Some entry
  pub ranked : entry_rank entry ≡ padded_rank structure part form

-- the id of the owner's form, by its key or among the others
abbrev pub IsIdOf : {T : Type 0} → Plan → List (Option Entry) → (Key → Option Holder) → IndexMap (List ℤ) ℕ T → ℕ → ℕ → Form → ℕ → Type 0
IsIdOf plan slots holders others structure part form id = IsFirstAt plan slots holders structure part form id ⊎ (look_up is_rank others (padded_rank structure part form) ≡ Some id)

-- where the key is known, its holder isn't the owner's of this form, nor is one of the others if it is shared
pub record HasNoId {T : Type 0} (plan : Plan) (slots : List (Option Entry)) (holders : Key → Option Holder) (others : IndexMap (List ℤ) ℕ T) (structure part : ℕ) (form : Form) : Type 0 where
  pub no_first : (h : Holder) (e : Entry) → holders (key_of plan structure part form) ≡ Some h → entry_at slots h.id ≡ Some e → entry_rank e ≢ padded_rank structure part form
  pub no_other : (h : Holder) → holders (key_of plan structure part form) ≡ Some h → h.is_shared ≡ true → look_up is_rank others (padded_rank structure part form) ≡ None

-- the owner's form has the id by its key, which may be gone now, or was among the others and no longer is
abbrev pub IsStruck : {T T' : Type 0} → Plan → List (Option Entry) → (Key → Option Holder) → IndexMap (List ℤ) ℕ T → ℕ → ℕ → Form → ℕ → (Key → Option Holder) → IndexMap (List ℤ) ℕ T' → Type 0
IsStruck plan slots holders others structure part form id holders' others' =
    (IsFirstAt plan slots holders structure part form id × MayHaveLeft holders (key_of plan structure part form) holders' × ((q : List ℤ) → look_up is_rank others' q ≡ look_up is_rank others q))
    ⊎ ((look_up is_rank others (padded_rank structure part form) ≡ Some id) × AreSame holders holders' × ((q : List ℤ) → look_up is_rank others' q ≡ cond (is_rank (padded_rank structure part form) q) None (look_up is_rank others q)))

-- the key isn't shared; or its holder has the old fact, and the new one has the owner and form of the old one or isn't among the others
abbrev pub MayFollow : {T : Type 0} → List (Option Entry) → IndexMap (List ℤ) ℕ T → Holder → Owned → Owned → Type 0
MayFollow slots others holder old new = (holder.is_shared ≡ false) ⊎ (HasRank slots holder.id (owned_rank old) × ((owned_rank new ≡ owned_rank old) ⊎ (look_up is_rank others (owned_rank new) ≡ None)))

-- the id holds a key that had no entry, and which is shared if it was
pub record HoldsKey (plan : Plan) (slots : List (Option Entry)) (holders : Key → Option Holder) (key : Key) (id : ℕ) (holders' : Key → Option Holder) : Type 0 where
  pub holder : Holder
  pub id_is : holder.id ≡ id
  pub free : (h : Holder) (e : Entry) → holders key ≡ Some h → entry_at slots h.id ≡ Some e → owned_key plan e.owned ≢ key
  pub stays : (h : Holder) → holders key ≡ Some h → h.is_shared ≡ true → holder.is_shared ≡ true
  pub has : HasHolder holders key holder holders'

-- the key keeps the id by which it is known, where there is an entry, and is shared
pub record SharesKey (slots : List (Option Entry)) (holders : Key → Option Holder) (key : Key) (holders' : Key → Option Holder) : Type 0 where
  pub holder : Holder
  pub known : holders key ≡ Some holder
  pub there : IsSome (entry_at slots holder.id)
  pub has : HasHolder holders key (record { id = holder.id; is_shared = true }) holders'

-- the id holds its key, or is new among the others where the key was held
abbrev pub IsEnrolled : {T T' : Type 0} → Plan → List (Option Entry) → (Key → Option Holder) → IndexMap (List ℤ) ℕ T → Key → List ℤ → ℕ → (Key → Option Holder) → IndexMap (List ℤ) ℕ T' → Type 0
IsEnrolled plan slots holders others key rank id holders' others' =
    (HoldsKey plan slots holders key id holders' × ((q : List ℤ) → look_up is_rank others' q ≡ look_up is_rank others q))
    ⊎ (SharesKey slots holders key holders' × ((q : List ℤ) → look_up is_rank others' q ≡ cond (is_rank rank q) (Some id) (look_up is_rank others q)))

-- all is found as before
abbrev pub IsSameIndex : {T T' : Type 0} → (Key → Option Holder) → IndexMap (List ℤ) ℕ T → (Key → Option Holder) → IndexMap (List ℤ) ℕ T' → Type 0
IsSameIndex holders others holders' others' = AreSame holders holders' × ((q : List ℤ) → look_up is_rank others' q ≡ look_up is_rank others q)
