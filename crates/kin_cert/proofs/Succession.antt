-- A fact comes to the place of another one of its key.
use Rattle.std.proofs.Common.{◌≡◌, ℕ, List, Option, Some, None, Bool, slice_set, refl, sym, ap, ◌∙◌, subst, ℤ}
use Rattle.std.specs.Prelude.{is_some}
use Rattle.std.proofs.lemmas.Option.{same_Some}
use Rattle.indexmap.specs.IndexMap.{IndexMap, get as look_up}
use Rattle.kin_cert.specs.declared.holder.Holder.{Holder}
use Rattle.kin_cert.specs.declared.key.Key.{Key}
use Rattle.kin_cert.specs.declared.plan.Plan.{Plan}
use Rattle.kin_fail.specs.declared.owned.Owned.{Owned}
use Rattle.kin_cert.specs.Entries.{Entry}
use Rattle.kin_fail.specs.Rank.{is_rank, owned_rank}
use Rattle.kin_cert.specs.Layout.{entry_at, entry_rank, fresh, queued_at, HasSlot, IsThere, IsTakenOver}
use Rattle.kin_cert.specs.Keys.{owned_key}
use Rattle.kin_cert.specs.Rolls.{IsFirstAt, IsKnownBy, IsRoll, MayFollow}
use Rattle.kin_cert.proofs.Keys.{rank-key_of}
use Rattle.kin_cert.proofs.Rolls.{once, follows-first, follows-unlisted, only-there, taken-over-roll}
use Rattle.kin_cert.proofs.Tables.{has-slot}

module _ {T : Type 0} {plan : Plan} {slots : List (Option Entry)} {holders : Key → Option Holder} {others : IndexMap (List ℤ) ℕ T} (roll : IsRoll plan slots holders others) (old new : Owned) (holder : Holder)
    (live : IsThere slots (owned_rank old)) (known : holders (owned_key plan old) ≡ Some holder) (placed : owned_key plan new ≡ owned_key plan old) (follows : MayFollow slots others holder old new)
    (e : Entry) (there : entry_at slots holder.id ≡ Some e) where
  first : IsFirstAt plan slots holders old.structure old.part old.fact.form holder.id
  first = follows-first plan slots holders others roll old new holder live known follows

  entry_is : first.entry ≡ e
  entry_is = same_Some first.entry e (sym first.there ∙ there)

  key_is : owned_key plan e.owned ≡ owned_key plan old
  key_is = ap (λ (x : Entry). owned_key plan x.owned) (sym entry_is) ∙ rank-key_of plan first.entry.owned old.structure old.part old.fact.form first.ranked

  known_there : IsKnownBy holders (owned_key plan e.owned) holder.id
  known_there = subst (λ (q : Key). IsKnownBy holders q holder.id) (sym key_is) first.known

  unlisted : look_up is_rank others (owned_rank new) ≡ None
  unlisted = follows-unlisted plan slots holders others roll old new holder known placed first follows

  slot : HasSlot slots (slice_set slots holder.id (Some (fresh new))) holder.id (Some (fresh new))
  slot = has-slot slots holder.id e (Some (fresh new)) there

  -- the entry has the rank of the old fact
  pub ranked_there : entry_rank e ≡ owned_rank old
  ranked_there = ap entry_rank (sym entry_is) ∙ first.ranked

  -- the indices serve the roll as it is then
  pub succession_roll : IsRoll plan (slice_set slots holder.id (Some (fresh new))) holders others
  succession_roll = taken-over-roll plan slots holders others roll _ holder.id e new there known_there (placed ∙ sym key_is) unlisted slot

  -- no other entry has the new owner and form
  pub succeeds : (is_queued : Bool) → is_queued ≡ is_some (queued_at (Some e)) → IsTakenOver slots (owned_rank old) new (record { id = holder.id; is_queued = is_queued }) (slice_set slots holder.id (Some (fresh new)))
  succeeds is_queued queued = record {
    vacancy_of = record { entry = e; there = there; ranked = ranked_there; queued = queued };
    slots = refl;
    free = only-there plan slots holders others roll _ holder.id e new there known_there (placed ∙ sym key_is) unlisted slot;
    once = once plan slots holders others roll;
  }
