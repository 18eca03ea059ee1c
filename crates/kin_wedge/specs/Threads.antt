-- Slots, each of which points at a slot or at none. Those that point at one slot are threaded through the slots.
use Rattle.std.specs.Prelude.{◌≡◌, ℕ, zero, suc, ◌<◌, ◌≤◌, ◌^◌, cond, nat_eq, nat_lt, List, [], ◌∷◌, length, map, Option, Some, None, slice_get, slice_set}
use Rattle.kin_wedge.specs.declared.thread.Thread.{Thread}

-- at which slot each slot points, which are the next and the previous of those that point there, and which is the first of those that point at it
pub record Web : Type 0 where
  pub targets : List (Option ℕ)
  pub next : ℕ → Option ℕ
  pub previous : ℕ → Option ℕ
  pub first : ℕ → Option ℕ

-- the slot s points at q
abbrev pub PointsAt : Web → ℕ → ℕ → Type 0
PointsAt w s q = slice_get w.targets s ≡ Some (Some q)

-- of those that point at q the first is the last that began to point there, each next one began before it, and `previous` undoes `next`
pub record IsThreaded (w : Web) : Type 0 where
  pub began : ℕ → ℕ
  pub now : ℕ
  pub past : (s : ℕ) → began s < now
  pub within : (s q : ℕ) → PointsAt w s q → q < length w.targets
  pub first : (s q : ℕ) → w.first q ≡ Some s → PointsAt w s q × (w.previous s ≡ None)
  pub next : (s n q : ℕ) → PointsAt w s q → w.next s ≡ Some n → PointsAt w n q × (w.previous n ≡ Some s) × (began n < began s)
  pub previous : (s p q : ℕ) → PointsAt w s q → w.previous s ≡ Some p → PointsAt w p q × (w.next p ≡ Some s)
  pub front : (s q : ℕ) → PointsAt w s q → w.previous s ≡ None → w.first q ≡ Some s

-- from a slot on, these slots below a bound are reached by `next`, and then none
abbrev pub IsReached : ℕ → (ℕ → Option ℕ) → Option ℕ → List ℕ → Type 0
IsReached bound next at [] = at ≡ None
IsReached bound next at (s ∷ rest) = (at ≡ Some s) × (s < bound) × IsReached bound next (next s) rest

-- at most n of them
abbrev pub walk : ℕ → (ℕ → Option ℕ) → Option ℕ → List ℕ
walk zero next at = []
walk (suc n) next None = []
walk (suc n) next (Some s) = s ∷ walk n next (next s)

-- a function with another value at one number, if one is given
abbrev pub changed : {A : Type 0} → (ℕ → A) → Option ℕ → A → ℕ → A
changed f None v x = f x
changed f (Some s) v x = cond (nat_eq x s) v (f x)

-- q, where there is no previous one
abbrev pub led_from : Option ℕ → ℕ → Option ℕ
led_from None q = Some q
led_from (Some p) q = None

-- s, which pointed at q, points at none, and its neighbours are joined
abbrev pub unlinked : Web → ℕ → ℕ → Web
unlinked w s q = record {
  targets = slice_set w.targets s None;
  next = changed w.next (w.previous s) (w.next s);
  previous = changed w.previous (w.next s) (w.previous s);
  first = changed w.first (led_from (w.previous s) q) (w.next s);
}

-- s, which pointed at none, points at q, as the first of those that do
abbrev pub linked : Web → ℕ → ℕ → Web
linked w s q = record {
  targets = slice_set w.targets s (Some q);
  next = changed w.next (Some s) (w.first q);
  previous = changed (changed w.previous (Some s) None) (w.first q) (Some s);
  first = changed w.first (Some q) (Some s);
}

-- the slot that a word names
abbrev pub named : ℕ → Option ℕ
named word = cond (nat_lt word 65535) (Some word) None

abbrev pub word_of : (Thread → ℕ) → Option Thread → Option ℕ
word_of f None = None
word_of f (Some t) = named (f t)

abbrev pub vacant_thread : Thread
vacant_thread = record { next = 65535; previous = 65535; first = 65535 }

-- the slot after a slot, by the words of the threads
abbrev pub next_in : List Thread → ℕ → Option ℕ
next_in ts s = word_of (λ t. t.next) (slice_get ts s)

-- what the words say of the slots' targets, and of their threads
abbrev pub web : List ℕ → List Thread → Web
web words ts = record {
  targets = map named words;
  next = next_in ts;
  previous = λ s. word_of (λ t. t.previous) (slice_get ts s);
  first = λ s. word_of (λ t. t.first) (slice_get ts s);
}

-- each slot has a word and a thread, a word names each slot, and the slots are threaded
pub record AreThreads (words : List ℕ) (ts : List Thread) : Type 0 where
  pub small : length words ≤ 2 ^ 15
  pub even : length ts ≡ length words
  pub threaded : IsThreaded (web words ts)
