-- What the tickets of a heap mean, where the instants are held by id. No public clause cites this module.
use Rattle.std.specs.Prelude.{ℕ, List, map}
use Rattle.std.specs.List.{All}
use Rattle.kin_num.specs.declared.instant.Moment.{Moment}
use Rattle.kin_num.specs.Canonical.{IsCanonical}
use Rattle.kin_instant.specs.declared.key.Key.{Key}
use Rattle.kin_instant.specs.Keys.{IsKeyOf}
use Rattle.kin_queue.specs.declared.instants.Instants.{Instants}
use Rattle.kin_queue.specs.declared.ticket.Ticket.{Ticket}
use Rattle.kin_queue.specs.Cells.{instant_in, IsHeld}

-- the moment of a ticket
abbrev pub moment_in : Instants → Ticket → Moment
moment_in s t = record { at = instant_in s t.id; phase = t.phase }

-- the key in a ticket
abbrev pub key_in : Ticket → Key
key_in t = record { span = t.span; phase = t.phase; is_vague = t.is_vague }

-- the id of a ticket with its moment
abbrev pub entry_of : Instants → Ticket → ℕ × Moment
entry_of s t = (t.id, moment_in s t)

-- the ids of a list of tickets with their moments
abbrev pub entries_of : Instants → List Ticket → List (ℕ × Moment)
entries_of s ts = map (entry_of s) ts

-- the moment is canonical, and this is its key
pub record HasKey (k : Key) (m : Moment) : Type 0 where
  pub key : IsKeyOf k m
  pub canonical : IsCanonical m.at

-- the instant of the id is canonical, and the ticket has the key of its moment
pub record IsStamped (s : Instants) (t : Ticket) : Type 0 where
  pub held : IsHeld s t.id
  pub canonical : IsCanonical (instant_in s t.id)
  pub key : IsKeyOf (key_in t) (moment_in s t)

-- so does each ticket of a list
abbrev pub AreStamped : Instants → List Ticket → Type 0
AreStamped s ts = All (IsStamped s) ts
