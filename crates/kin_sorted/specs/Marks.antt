-- The items that wait to enter and to leave.
use Rattle.std.specs.Prelude.{◌≡◌, ℕ, ◌<◌, Bool, true, false, not, cond, nat_eq, List, [], ◌∷◌, ◌++◌, filter, flat_map, ◌||◌}
use Rattle.kin_motion.specs.declared.form.Form.{Form}
use Rattle.kin_motion.specs.declared.fact.Placed.{Placed}
use Rattle.kin_motion.specs.Forms.{names}
use Rattle.kin_motion.specs.Numbers.{is_in, IsOnce}
use Rattle.kin_motion.specs.Ranks.{Ranks}

pub record Marks : Type 0 where
  pub entering : List ℕ
  pub leaving : List ℕ

-- those enter and these leave
abbrev pub marks_of : List ℕ → List ℕ → Marks
marks_of entering leaving = record { entering = entering; leaving = leaving }

-- the list without an item
abbrev pub without : ℕ → List ℕ → List ℕ
without i [] = []
without i (x ∷ xs) = cond (nat_eq i x) (without i xs) (x ∷ without i xs)

-- the list without these items
abbrev pub without_all : List ℕ → List ℕ → List ℕ
without_all es [] = []
without_all es (x ∷ xs) = cond (is_in x es) (without_all es xs) (x ∷ without_all es xs)

-- the members as they will be, in some order
abbrev pub marked : Marks → List ℕ → List ℕ
marked m items = m.entering ++ without_all m.leaving items

-- an item that leaves stays after all; any other one enters
abbrev pub with_entering : ℕ → Marks → Marks
with_entering i m = cond (is_in i m.leaving)
    (record { entering = m.entering; leaving = without i m.leaving })
    (record { entering = m.entering ++ i ∷ []; leaving = m.leaving })

-- an item that enters stays away after all; any other one leaves
abbrev pub with_leaving : ℕ → Marks → Marks
with_leaving i m = cond (is_in i m.entering)
    (record { entering = without i m.entering; leaving = m.leaving })
    (record { entering = m.entering; leaving = m.leaving ++ i ∷ [] })

-- the numbers that items of the list name
abbrev pub numbers_of : Ranks → List ℕ → List ℕ
numbers_of r items = flat_map r.names items

-- the numbers that only leaving items name
abbrev pub gone_numbers : Ranks → Marks → List ℕ → List ℕ
gone_numbers r m items = filter (λ n. not (is_in n (numbers_of r (marked m items)))) (numbers_of r m.leaving)

-- whether the form names a number of the list
abbrev pub names_one : List ℕ → Form → Bool
names_one [] f = false
names_one (n ∷ ns) f = names f n || names_one ns f

-- whether the fact names a number that only leaving items name
abbrev pub names_gone : Ranks → Marks → List ℕ → Placed → Bool
names_gone r m items p = names_one (gone_numbers r m items) p.fact.form

-- the members are different; different items enter, which are no members and have a slot, and different members leave
pub record AreMarks (m : Marks) (room : ℕ) (items : List ℕ) : Type 0 where
  pub once : IsOnce items
  pub entering_once : IsOnce m.entering
  pub leaving_once : IsOnce m.leaving
  pub within : (i : ℕ) → is_in i m.entering ≡ true → i < room
  pub new : (i : ℕ) → is_in i m.entering ≡ true → is_in i items ≡ false
  pub member : (i : ℕ) → is_in i m.leaving ≡ true → is_in i items ≡ true
