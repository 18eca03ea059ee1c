-- How the holders of keys lie in memory: by seat, or in an index of buckets. No public clause cites this module.
use Rattle.std.specs.Prelude.{◌≡◌, ◌⊎◌, ℕ, ◌-◌, ◌/◌, ◌%◌, false, cond, nat_lt, if◌then◌else◌, nat_eq, List, Option, Some, None, slice_get, slice_index_or}
use Rattle.indexmap.specs.IndexMap.{IndexMap, get as look_up}
use Rattle.kin_cert.specs.declared.holder.Holder.{Holder}
use Rattle.kin_cert.specs.declared.guesses.Spot.{Spot}
use Rattle.kin_cert.specs.declared.holders.Holders.{Holders}
use Rattle.kin_cert.specs.declared.key.Key.{Key}
use Rattle.kin_cert.specs.declared.key.Key.TheVariants.{Seat, Bucket}
use Rattle.kin_cert.specs.Bucket.{is_bucket}
use Rattle.kin_cert.specs.Keys.{is_key}

-- what a seat says: below 2 nothing, else twice the id and 2 more, and 1 where it is shared
abbrev pub holder_in : ℕ → Option Holder
holder_in word = if nat_lt word 2 then None else Some (record { id = word / 2 - 1; is_shared = nat_eq (word % 2) 1 })

-- the holder of a key, if it has one
abbrev pub holder_of : Holders → Key → Option Holder
holder_of h (Seat seat) = holder_in (slice_index_or h.seats.items seat 0)
holder_of h (Bucket bucket) = look_up is_bucket h.index bucket

-- the key has this holder, and every other one is as it was
abbrev pub HasHolder : (Key → Option Holder) → Key → Holder → (Key → Option Holder) → Type 0
HasHolder holders key holder holders' = (q : Key) → holders' q ≡ cond (is_key key q) (Some holder) (holders q)

-- all keys have the holders that they had
abbrev pub AreSame : (Key → Option Holder) → (Key → Option Holder) → Type 0
AreSame holders holders' = (q : Key) → holders' q ≡ holders q

-- the key has a holder, and isn't shared
pub record IsUnshared (holders : Key → Option Holder) (key : Key) : Type 0 where
  pub holder : Holder
  pub known : holders key ≡ Some holder
  pub unshared : holder.is_shared ≡ false

-- the key wasn't shared, and has no holder any more, and every other one is as it was
pub record HasLeft (holders : Key → Option Holder) (key : Key) (holders' : Key → Option Holder) : Type 0 where
  pub was : IsUnshared holders key
  pub gone : (q : Key) → holders' q ≡ cond (is_key key q) None (holders q)

-- the key has no holder any more, or all is as it was
abbrev pub MayHaveLeft : (Key → Option Holder) → Key → (Key → Option Holder) → Type 0
MayHaveLeft holders key holders' = HasLeft holders key holders' ⊎ AreSame holders holders'

-- the bucket is in the index, at this position and with this holder
pub record StandsAt {S : Type 0} (index : IndexMap (List ℕ) Holder S) (bucket : List ℕ) (spot : Spot) : Type 0 where
  pub at : slice_get index.entries spot.position ≡ Some (bucket, spot.holder)
  pub known : look_up is_bucket index bucket ≡ Some spot.holder

-- the seat has this holder, or none, and every other one is as it was
abbrev pub HasSeated : List ℕ → ℕ → Option Holder → List ℕ → Type 0
HasSeated seats seat holder seats' = (q : ℕ) → holder_in (slice_index_or seats' q 0) ≡ cond (nat_eq seat q) holder (holder_in (slice_index_or seats q 0))

-- the bucket has this holder in the index, or isn't there, and every other one is as it was
abbrev pub HasPut : {S T : Type 0} → IndexMap (List ℕ) Holder S → List ℕ → Option Holder → IndexMap (List ℕ) Holder T → Type 0
HasPut index bucket holder index' = (q : List ℕ) → look_up is_bucket index' q ≡ cond (is_bucket bucket q) holder (look_up is_bucket index q)
