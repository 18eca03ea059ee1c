-- The live facts in the slots of a slab.
use Rattle.std.proofs.Common.{◌≡◌, ℕ, zero, suc, ◌+◌, ◌<◌, Bool, false, cond, not, List, [], ◌∷◌, length, get_or, set, Option, Some, None, is_some, count_by, refl, sym, ap, subst, ◌∙◌, inl, inr, arith}
use Rattle.std.proofs.lemmas.Option.{none-some}
use Rattle.kin_algebra.proofs.Members.{contains_none, contains_head}
use Rattle.std.specs.List.{Contains}
use Rattle.std.proofs.lemmas.List.Sums.{sum_by-cons}
use Rattle.std.proofs.lemmas.List.Kept.{AllPairs-cons}
use Rattle.slab.proofs.SlabLemmas.{Contains-cons, Contains-cons_cases}
use Rattle.kin_cert.specs.Entries.{Entry}
use Rattle.kin_cert.specs.Facts.{LiveFact, AreAlike, NoneAlike}
use Rattle.kin_cert.specs.Layout.{live_fact, live_in, waiting, due_count}

-- the entry of a slot is live
pub live-there : (slots : List (Option Entry)) (id : ℕ) (e : Entry) → get_or slots id None ≡ Some e → Contains (live_in slots) (live_fact e)
live-there [] id e h = absurd (none-some e h)
live-there (None ∷ slots) zero e h = absurd (none-some e h)
live-there (None ∷ slots) (suc id) e h = live-there slots id e h
live-there (Some f ∷ slots) zero e h =
    let same : f ≡ e = cc in
    subst (λ (x : Entry). Contains (live_fact f ∷ live_in slots) (live_fact x)) same (contains_head (live_fact f) (live_in slots))
live-there (Some f ∷ slots) (suc id) e h = Contains-cons (live_fact f) (live_fact e) (live_in slots) (live-there slots id e h)

-- a slot and its entry
pub record IsEntryOf (slots : List (Option Entry)) (l : LiveFact) : Type 0 where
  pub id : ℕ
  pub entry : Entry
  pub there : get_or slots id None ≡ Some entry
  pub is : live_fact entry ≡ l

later_slot : (o : Option Entry) (slots : List (Option Entry)) (l : LiveFact) → IsEntryOf slots l → IsEntryOf (o ∷ slots) l
later_slot o slots l h = record { id = suc h.id; entry = h.entry; there = h.there; is = h.is }

-- a live fact is the entry of a slot
pub live-from : (slots : List (Option Entry)) (l : LiveFact) → Contains (live_in slots) l → IsEntryOf slots l
live-from [] l h = absurd (contains_none l h)
live-from (None ∷ slots) l h = later_slot None slots l (live-from slots l h)
live-from (Some e ∷ slots) l h =
    elim (Contains-cons_cases (live_fact e) l (live_in slots) h) [
      | inl same ↦ record { id = 0; entry = e; there = refl; is = same }
      | inr rest ↦ later_slot (Some e) slots l (live-from slots l rest)
    ]

pub live-count : (slots : List (Option Entry)) → length (live_in slots) ≡ count_by is_some slots
live-count [] = refl
live-count (None ∷ slots) = omega (arith, live-count slots, sum_by-cons (λ o. cond (is_some o) 1 0) None slots)
live-count (Some e ∷ slots) = omega (arith, live-count slots, sum_by-cons (λ o. cond (is_some o) 1 0) (Some e) slots)

-- entries that are alike stand in one slot
abbrev pub AreNamed : List (Option Entry) → Type 0
AreNamed slots = (i j : ℕ) (e f : Entry) → get_or slots i None ≡ Some e → get_or slots j None ≡ Some f → AreAlike (live_fact e) (live_fact f) → i ≡ j

fewer_named : (o : Option Entry) (slots : List (Option Entry)) → AreNamed (o ∷ slots) → AreNamed slots
fewer_named o slots h i j e f a b c = let s : suc i ≡ suc j = h (suc i) (suc j) e f a b c in omega arith

pub live-once : (slots : List (Option Entry)) → AreNamed slots → NoneAlike (live_in slots)
live-once [] h = λ i j d lt within. absurd (omega (arith, within))
live-once (None ∷ slots) h = live-once slots (fewer_named None slots h)
live-once (Some e ∷ slots) h =
    AllPairs-cons (λ (k l : LiveFact). ¬ (AreAlike k l)) (live_fact e) (live_in slots)
    (λ i d within alike.
    let r = live-from slots (get_or (live_in slots) i d) (i, within, get_or-same (live_in slots) i d within) in
    let s : 0 ≡ suc r.id = h 0 (suc r.id) e r.entry refl r.there (subst (λ (x : LiveFact). AreAlike (live_fact e) x) (sym r.is) alike) in
    omega (arith, s))
    (live-once slots (fewer_named (Some e) slots h))
  where
    get_or-same : (xs : List LiveFact) (i : ℕ) (d : LiveFact) → i < length xs → get_or xs i (get_or xs i d) ≡ get_or xs i d
    get_or-same [] i d lt = absurd (omega (arith, lt))
    get_or-same (x ∷ xs) zero d lt = refl
    get_or-same (x ∷ xs) (suc i) d lt = get_or-same xs i d (omega (arith, lt))

abbrev due : LiveFact → ℕ
due l = cond (not l.waits) 1 0

due_count-cons : (l : LiveFact) (ls : List LiveFact) → due_count (l ∷ ls) ≡ due l + due_count ls
due_count-cons l ls = sum_by-cons due l ls

pub live-set-count : (slots : List (Option Entry)) (id : ℕ) (e f : Entry) → get_or slots id None ≡ Some e → length (live_in (set slots id (Some f))) ≡ length (live_in slots)
live-set-count [] id e f h = absurd (none-some e h)
live-set-count (None ∷ slots) zero e f h = absurd (none-some e h)
live-set-count (None ∷ slots) (suc id) e f h = live-set-count slots id e f h
live-set-count (Some g ∷ slots) zero e f h = refl
live-set-count (Some g ∷ slots) (suc id) e f h = ap suc (live-set-count slots id e f h)

pub live-set-due : (slots : List (Option Entry)) (id : ℕ) (e : Entry) → get_or slots id None ≡ Some e → e.is_waiting ≡ false → due_count (live_in (set slots id (Some (waiting e)))) + 1 ≡ due_count (live_in slots)
live-set-due [] id e h w = absurd (none-some e h)
live-set-due (None ∷ slots) zero e h w = absurd (none-some e h)
live-set-due (None ∷ slots) (suc id) e h w = live-set-due slots id e h w
live-set-due (Some g ∷ slots) zero e h w =
    let same : g ≡ e = cc in
    let one : due (live_fact g) ≡ 1 = ap (λ (x : Entry). cond (not x.is_waiting) 1 0) same ∙ ap (λ (b : Bool). cond (not b) 1 0) w in
    omega (arith, one, due_count-cons (live_fact (waiting e)) (live_in slots), due_count-cons (live_fact g) (live_in slots))
live-set-due (Some g ∷ slots) (suc id) e h w =
    omega (arith, live-set-due slots id e h w, due_count-cons (live_fact g) (live_in (set slots id (Some (waiting e)))), due_count-cons (live_fact g) (live_in slots))
