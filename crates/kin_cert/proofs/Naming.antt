-- What changes of slots do to the index of a roll.
use Rattle.std.proofs.Common.{◌≡◌, ◌≢◌, refl, sym, ap, subst, ◌∙◌, arith, List, [], ◌∷◌, ◌++◌, length, get_or, ℕ, zero, suc, ◌+◌, ◌*◌, ◌≤◌, Option, Some, None, inl, inr}
use Rattle.std.specs.List.{Contains}
use Rattle.std.proofs.lemmas.Option.{same_Some, none-some}
use Rattle.std.proofs.lemmas.Bool.{cases_eq, cases_lt}
use Rattle.std.proofs.lemmas.List.Elements.{Contains-push_cases}
use Rattle.kin_pointers.specs.Pointing.{Pointing}
use Rattle.kin_cert.specs.Entries.{Entry}
use Rattle.kin_cert.specs.Layout.{entry_at, HasSlot}
use Rattle.kin_cert.specs.Names.{Aimed, target_of, slot_number, numbers_in, numbers_at, owned_in, IsIndex, IsIndexUpTo, IsIndexBut, AreNamed, HasNumbers, AreKept, HaveSameFacts}

-- the fact of one id changes, which is noted
pub renamed : (a b : Option Aimed) (slots after : List (Option Entry)) (id : ℕ) (o : Option Entry) → AreNamed a slots → HasSlot slots after id o → AreKept a b id → AreNamed b after
renamed a None slots after id o named slot kept = tt
renamed None (Some b) slots after id o named slot kept = absurd kept
renamed (Some a) (Some b) slots after id o named slot kept = λ j k out low.
    let other : j ≢ id = λ e. out (subst (Contains b.changed) (sym e) kept.1.there) in
    ap (λ (p : Pointing). target_of p (4 * j + k)) kept.0
    ∙ named j k (λ h. out (kept.1.kept j h)) low
    ∙ ap (λ (x : Option Entry). slot_number (numbers_at x) k) (sym (slot.others j other))

-- an id that has changed is aimed
pub renewed : (a : Aimed) (changed : List ℕ) (q : Pointing) (slots : List (Option Entry)) (id : ℕ) → IsIndexBut a slots → a.changed ≡ changed ++ id ∷ [] → HasNumbers a.pointing q id (numbers_at (entry_at slots id)) → IsIndexBut (record { pointing = q; changed = changed }) slots
renewed a changed q slots id index taken aimed = λ j k out low.
    elim (cases_eq j id) [
      | inl is ↦ ap (λ (x : ℕ). target_of q (4 * x + k)) is ∙ aimed.changed k low ∙ ap (λ (x : ℕ). slot_number (numbers_at (entry_at slots x)) k) (sym is)
      | inr n ↦ aimed.others j k n low ∙ index j k (λ h. elim (Contains-push_cases changed id j (subst (λ (xs : List ℕ). Contains xs j) taken h)) [
        | inl still ↦ absurd (out still)
        | inr is ↦ absurd (n (sym is))
      ]) low
    ]

same_numbers : (x y : Option Entry) → owned_in x ≡ owned_in y → numbers_at x ≡ numbers_at y
same_numbers None None e = refl
same_numbers None (Some y) e = absurd (none-some y.owned e)
same_numbers (Some x) None e = absurd (none-some x.owned (sym e))
same_numbers (Some x) (Some y) e = ap (λ o. numbers_in (Some o.fact.form)) (same_Some x.owned y.owned e)

-- no fact changes
pub still-named : (a : Option Aimed) (slots after : List (Option Entry)) → AreNamed a slots → HaveSameFacts slots after → AreNamed a after
still-named None slots after named same = tt
still-named (Some a) slots after named same = λ id k out low. named id k out low ∙ ap (λ (xs : List ℕ). slot_number xs k) (sym (same_numbers (entry_at after id) (entry_at slots id) (same id)))

pub same-facts : (slots after : List (Option Entry)) (id : ℕ) (e f : Entry) → entry_at slots id ≡ Some e → HasSlot slots after id (Some f) → f.owned ≡ e.owned → HaveSameFacts slots after
same-facts slots after id e f there slot same j =
    elim (cases_eq j id) [
      | inl j_is ↦ ap owned_in (ap (entry_at after) j_is ∙ slot.changed) ∙ ap (λ o. Some o) same ∙ sym (ap owned_in (ap (entry_at slots) j_is ∙ there))
      | inr n ↦ ap owned_in (slot.others j n)
    ]

-- the index grows id by id
pub index-more : (n : ℕ) (p q : Pointing) (slots : List (Option Entry)) → IsIndexUpTo n p slots → HasNumbers p q n (numbers_at (entry_at slots n)) → IsIndexUpTo (n + 1) q slots
index-more n p q slots index more = record {
  done = λ id k low high. elim (cases_eq id n) [
    | inl is ↦ ap (λ (x : ℕ). target_of q (4 * x + k)) is ∙ more.changed k high ∙ ap (λ (x : ℕ). slot_number (numbers_at (entry_at slots x)) k) (sym is)
    | inr m ↦ more.others id k m high ∙ index.done id k (omega (arith, low, m)) high
  ];
  rest = λ id k low high. more.others id k (λ e. omega (arith, low, e)) high ∙ index.rest id k (omega (arith, low)) high;
}

past : (slots : List (Option Entry)) (id : ℕ) → length slots ≤ id → get_or slots id None ≡ None
past [] id low = refl
past (o ∷ slots) zero low = absurd (omega (arith, low))
past (o ∷ slots) (suc id) low = past slots id (omega (arith, low))

pub index-all : (n : ℕ) (p : Pointing) (slots : List (Option Entry)) → length slots ≤ n → IsIndexUpTo n p slots → IsIndex p slots
index-all n p slots long index id k low =
    elim (cases_lt id n) [
      | inl lt ↦ index.done id k lt low
      | inr ge ↦ index.rest id k (omega (arith, ge)) low ∙ ap (λ (o : Option Entry). slot_number (numbers_at o) k) (sym (past slots id (omega (arith, long, ge))))
    ]
