-- Lists that go to a caller's buffer.
use Rattle.std.specs.Prelude.{◌≡◌, ℕ, ◌<◌, ◌≤◌, List, [], ◌∷◌, Option, Some, None, length, take, drop, flat_map}
use Rattle.kin_c.specs.declared.status.Status.{Status}
use Rattle.kin_c.specs.declared.status.Status.TheVariants.{Done, NoWorld, Refused, TooSmall}

-- the items of a buffer, and the length that is said of the list in it
pub record Buffer (A : Type 0) : Type 0 where
  pub list : List A
  pub len : ℕ

abbrev pub buffer : {A : Type 0} → List A → ℕ → Buffer A
buffer list len = record { list = list; len = len }

-- the buffer begins with these items, and is as before from there on
pub record IsWritten {A : Type 0} (items : List A) (before after : Buffer A) : Type 0 where
  pub room : length items ≤ length before.list
  pub len : after.len ≡ length items
  pub list : take (length items) after.list ≡ items
  pub rest : drop (length items) after.list ≡ drop (length items) before.list

-- these are more items than the buffer has room for, and it is as before
pub record IsTooLong {A : Type 0} (items : List A) (before after : Buffer A) : Type 0 where
  pub room : length before.list < length items
  pub len : after.len ≡ length items
  pub list : after.list ≡ before.list

-- the items are written where there is room for them
abbrev pub Puts : {A : Type 0} → List A → Buffer A → Buffer A → Status → Type 0
Puts items before after Done = IsWritten items before after
Puts items before after TooSmall = IsTooLong items before after
Puts items before after NoWorld = ⊥
Puts items before after (Refused refusal) = ⊥

-- both numbers of a pair, if there is one
abbrev pub pair_list : Option (ℕ × ℕ) → List ℕ
pair_list None = []
pair_list (Some pair) = pair.0 ∷ pair.1 ∷ []

-- both numbers of each pair, pair after pair
abbrev pub pairs_list : List (ℕ × ℕ) → List ℕ
pairs_list pairs = flat_map (λ pair. pair.0 ∷ pair.1 ∷ []) pairs
