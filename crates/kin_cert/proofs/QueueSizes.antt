-- No queue of a table has more entries than there are live facts.
use Rattle.std.proofs.Common.{◌≡◌, ℕ, zero, suc, ◌+◌, ◌-◌, ◌≤◌, Bool, true, false, ◌||◌, cond, List, [], ◌∷◌, length, map, set, Option, Some, None, IsSome, refl, ap, subst, ◌∙◌, arith}
use Rattle.std.specs.List.{list_any}
use Rattle.std.specs.FinMap as fin
use Rattle.std.specs.FinMap.{len, entries, len-entries, len-insert, len-remove, contains_key-keys}
use Rattle.std.proofs.lemmas.Cmp.{nat_cmp_total}
use Rattle.std.proofs.lemmas.Option.{none-some}
use Rattle.kin_num.specs.declared.instant.Moment.{Moment}
use Rattle.kin_queue.proofs.Entries.{same, same_itself}
use Rattle.kin_cert.specs.Entries.{Entry}
use Rattle.kin_cert.specs.Facts.{LiveFact}
use Rattle.kin_cert.specs.Schedules.{with_each}
use Rattle.kin_cert.specs.Layout.{entry_at, live_in, queued_at, IsTable}
use Rattle.kin_cert.proofs.Schedules.{Moments}
use Rattle.kin_cert.proofs.Tables.{has-slot, unqueued-table}

-- one more id, or none
inserted : (m : Moments) (id : ℕ) (at : Moment) → len m ≤ len (fin.insert m id at)
inserted m id at = at_key (fin.contains_key m id) (len-insert nat_cmp_total m id at)
  where
    at_key : (b : Bool) → len (fin.insert m id at) ≡ cond b (len m) (len m + 1) → len m ≤ len (fin.insert m id at)
    at_key true e = omega (arith, e)
    at_key false e = omega (arith, e)

-- ids beside a map are only more
pub fewer_mapped : (m : Moments) (at : Moment) (ids : List ℕ) → len m ≤ len (with_each m at ids)
fewer_mapped m at [] = omega arith
fewer_mapped m at (id ∷ ids) = omega (arith, fewer_mapped m at ids, inserted (with_each m at ids) id at)

pub fewer_than : (m : Moments) (at : Moment) (ids : List ℕ) (all : Moments) → with_each m at ids ≡ all → len m ≤ len all
fewer_than m at ids all e = subst (λ (x : Moments). len m ≤ len x) e (fewer_mapped m at ids)

-- a map that isn't empty has an id
some_id : (m : Moments) (n : ℕ) → len m ≡ suc n → (id : ℕ) × IsSome (fin.get m id)
some_id m n some = at (entries m) refl
  where
    at : (es : List (ℕ × Moment)) → entries m ≡ es → (id : ℕ) × IsSome (fin.get m id)
    at [] e = let none : len m ≡ 0 = len-entries m ∙ ap length e in absurd (omega (arith, some, none))
    at (x ∷ es) e = (
      x.0,
      contains_key-keys m x.0
          ∙ ap (λ (xs : List (ℕ × Moment)). list_any (same x.0) (map (λ y. y.0) xs)) e
          ∙ first (same x.0 x.0) (list_any (same x.0) (map (λ y. y.0) es)) (same_itself x.0),
    )
      where
        first : (a b : Bool) → a ≡ true → a || b ≡ true
        first a b t = ap (λ (c : Bool). c || b) t

-- an entry that is taken out is one live fact fewer
live-cleared : (slots : List (Option Entry)) (id : ℕ) (e : Entry) → entry_at slots id ≡ Some e → length (live_in (set slots id None)) + 1 ≡ length (live_in slots)
live-cleared [] id e h = absurd (none-some e h)
live-cleared (None ∷ slots) zero e h = absurd (none-some e h)
live-cleared (None ∷ slots) (suc id) e h = live-cleared slots id e h
live-cleared (Some f ∷ slots) zero e h = omega arith
live-cleared (Some f ∷ slots) (suc id) e h = omega (arith, live-cleared slots id e h)

-- an id of the queue has an entry
queued-entry : (o : Option Entry) → IsSome (queued_at o) → (e : Entry) × (o ≡ Some e)
queued-entry None some = absurd cc
queued-entry (Some e) some = (e, refl)

queued-within : (n : ℕ) (slots : List (Option Entry)) (m : Moments) → IsTable slots m → len m ≡ n → len m ≤ length (live_in slots)
queued-within zero slots m table e = omega (arith, e)
queued-within (suc n) slots m table e =
    let id = some_id m n e in
    let there = queued-entry (entry_at slots id.0) (subst (λ (o : Option Moment). IsSome o) (table id.0) id.1) in
    let slot = has-slot slots id.0 there.0 None there.1 in
    let less : len (fin.remove m id.0) ≡ cond (fin.contains_key m id.0) (suc n - 1) (suc n) = len-remove nat_cmp_total m id.0 ∙ ap (λ (k : ℕ). cond (fin.contains_key m id.0) (k - 1) k) e in
    let one_fewer : len (fin.remove m id.0) ≡ suc n - 1 = less ∙ ap (λ (b : Bool). cond b (suc n - 1) (suc n)) id.1 in
    let fewer : len (fin.remove m id.0) ≡ n = omega (arith, one_fewer) in
    let rest = queued-within n (set slots id.0 None) (fin.remove m id.0) (unqueued-table slots (set slots id.0 None) m (fin.remove m id.0) id.0 None table slot refl refl) fewer in
    omega (arith, e, fewer, rest, live-cleared slots id.0 there.0 there.1)

pub few-queued : (slots : List (Option Entry)) (m : Moments) → IsTable slots m → len m ≤ length (live_in slots)
few-queued slots m table = queued-within (len m) slots m table refl

-- the same, where these are the live facts of a table
pub few-queued-of : (slots : List (Option Entry)) (m : Moments) (live : List LiveFact) → IsTable slots m → live_in slots ≡ live → len m ≤ length live
few-queued-of slots m live table e = subst (λ (ls : List LiveFact). len m ≤ length ls) e (few-queued slots m table)
