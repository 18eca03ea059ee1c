-- The facts whose slots point at a number are those that name it, and remaking them remakes exactly these.
use Rattle.std.proofs.Common.{◌≡◌, ◌≢◌, refl, sym, ap, subst, ◌∙◌, arith, List, [], ◌∷◌, length, get_or, set, ℕ, zero, suc, ◌+◌, ◌*◌, ◌-◌, ◌/◌, ◌^◌, min, Bool, true, false, cond, Option, Some, None, count_by, ◌⊎◌, inl, inr}
use Rattle.std.specs.Prelude.{slice_get}
use Rattle.std.proofs.lemmas.Option.{same_Some, none-some}
use Rattle.std.proofs.lemmas.List.Sums.{sum_by-cons}
use Rattle.std.specs.List.{Contains}
use Rattle.kin_algebra.proofs.Members.{contains_none, contains_head, contains_tail, contains_cases}
use Rattle.kin_num.specs.declared.instant.Moment.{Moment}
use Rattle.kin_motion.specs.Forms.{names, IsAskable}
use Rattle.kin_motion.specs.Scene.{Scene, Holds}
use Rattle.kin_motion.specs.Sets.{AreDistinct}
use Rattle.kin_motion.proofs.SetLaws.{distinct_head, distinct_tail}
use Rattle.kin_pointers.specs.Pointing.{Pointing, AreSlotsOf}
use Rattle.kin_cert.specs.Entries.{Entry}
use Rattle.kin_cert.specs.Facts.{LiveFact}
use Rattle.kin_fail.specs.Failures.{IsFirstFailure}
use Rattle.kin_cert.specs.Layout.{entry_at, live_fact, live_in, fresh, timed, HasSlot}
use Rattle.kin_cert.specs.Names.{Aimed, IsCurrent, target_of, slot_number, numbers_at, owned_in, IsIndex, AreNamed, ListsSlotsOf, MayRenew, IsRenewed, AreRenewed}
use Rattle.kin_cert.specs.Remade.{names_number, IsRemade, HasRemade}
use Rattle.kin_cert.proofs.Slots.{live-there, live-from, IsEntryOf}
use Rattle.kin_cert.proofs.Tables.{has-slot}
use Rattle.kin_cert.proofs.Renewing.{of-fact}
use Rattle.kin_cert.proofs.SlotNumbers.{named-there, there-named, one-there}

-- the id has a fact that names the number
pub record Names (slots : List (Option Entry)) (number id : ℕ) : Type 0 where
  pub entry : Entry
  pub there : entry_at slots id ≡ Some entry
  pub names_it : names entry.owned.fact.form number ≡ true

-- slots, each of an id whose fact names the number, and for each such id one
pub record AreMarks (slots : List (Option Entry)) (number : ℕ) (marks : List ℕ) : Type 0 where
  pub once : AreDistinct marks
  pub apart : (s t : ℕ) → Contains marks s → Contains marks t → s / 4 ≡ t / 4 → s ≡ t
  pub only : (s : ℕ) → Contains marks s → Names slots number (s / 4)
  pub all : (id : ℕ) → Names slots number id → (s : ℕ) × Contains marks s × (s / 4 ≡ id)

-- ---- the slots that point at a number
get-some : (ts : List (Option ℕ)) (s n : ℕ) → get_or ts s None ≡ Some n → slice_get ts s ≡ Some (Some n)
get-some [] s n e = absurd (none-some n e)
get-some (t ∷ ts) zero n e = ap (λ (x : Option ℕ). Some x) e
get-some (t ∷ ts) (suc s) n e = get-some ts s n e

some-get : (ts : List (Option ℕ)) (s n : ℕ) → slice_get ts s ≡ Some (Some n) → get_or ts s None ≡ Some n
some-get [] s n e = absurd cc
some-get (t ∷ ts) zero n e = same_Some t (Some n) e
some-get (t ∷ ts) (suc s) n e = some-get ts s n e

module _ (p : Pointing) (slots : List (Option Entry)) (number : ℕ) (marks : List ℕ) (index : IsIndex p slots) (exact : AreSlotsOf p number marks) where
  abbrev place : ℕ → ℕ
  place s = s - 4 * (s / 4)

  numbered : (s : ℕ) → Contains marks s → slot_number (numbers_at (entry_at slots (s / 4))) (place s) ≡ Some number
  numbered s h =
      sym (index (s / 4) (place s) (omega arith)) ∙ ap (target_of p) (omega arith) ∙ some-get p.targets s number ((exact.each s).0 h)

  named : (s : ℕ) (o : Option Entry) → entry_at slots (s / 4) ≡ o → slot_number (numbers_at o) (place s) ≡ Some number → Names slots number (s / 4)
  named s None there e = absurd (none-some number e)
  named s (Some x) there e = record { entry = x; there = there; names_it = there-named x.owned.fact.form (place s) number e }

  pub index-marks : AreMarks slots number marks
  index-marks = record {
    once = exact.once;
    apart = λ s t h k e.
        let same : place s ≡ place t = one-there (numbers_at (entry_at slots (s / 4))) (place s) (place t) number (numbered s h) (ap (λ (id : ℕ). slot_number (numbers_at (entry_at slots id)) (place t)) e ∙ numbered t k) in
        omega (arith, same, e);
    only = λ s h. named s (entry_at slots (s / 4)) refl (numbered s h);
    all = λ id n.
        let k = named-there n.entry.owned.fact.form number n.names_it in
        let e : target_of p (4 * id + k.0) ≡ Some number = index id k.0 k.1 ∙ ap (λ (o : Option Entry). slot_number (numbers_at o) k.0) n.there ∙ k.2 in (
          4 * id + k.0,
          (exact.each (4 * id + k.0)).1 (get-some p.targets (4 * id + k.0) number e),
          omega (arith, k.1),
        );
  }

pub marks-of : (names : Option Aimed) (slots : List (Option Entry)) (number : ℕ) (marks : List ℕ) → AreNamed names slots → IsCurrent names number → ListsSlotsOf names number marks → AreMarks slots number marks
marks-of None slots number marks index current exact = absurd exact
marks-of (Some a) slots number marks index current exact =
    index-marks a.pointing slots number marks (λ id k low. index id k (λ h. contains_none id (subst (λ (xs : List ℕ). Contains xs id) current.0 h)) low) exact

-- ---- how many they are
abbrev naming : ℕ → List (Option Entry) → ℕ
naming number slots = count_by (names_number number) (live_in slots)

abbrev one : ℕ → Entry → ℕ
one number e = cond (names e.owned.fact.form number) 1 0

naming-cons : (number : ℕ) (e : Entry) (slots : List (Option Entry)) → naming number (Some e ∷ slots) ≡ one number e + naming number slots
naming-cons number e slots = sum_by-cons (λ (l : LiveFact). cond (names_number number l) 1 0) (live_fact e) (live_in slots)

-- one fewer after one of them is taken out
fewer : (number : ℕ) (slots : List (Option Entry)) (id : ℕ) (e : Entry) → entry_at slots id ≡ Some e → names e.owned.fact.form number ≡ true → naming number (set slots id None) + 1 ≡ naming number slots
fewer number [] id e h n = absurd (none-some e h)
fewer number (None ∷ slots) zero e h n = absurd (none-some e h)
fewer number (None ∷ slots) (suc id) e h n = fewer number slots id e h n
fewer number (Some f ∷ slots) zero e h n =
    let is : f ≡ e = same_Some f e h in
    let it : one number f ≡ 1 = ap (λ (x : Entry). one number x) is ∙ ap (λ (b : Bool). cond b 1 0) n in
    omega (arith, it, naming-cons number f slots)
fewer number (Some f ∷ slots) (suc id) e h n = omega (arith, fewer number slots id e h n, naming-cons number f (set slots id None), naming-cons number f slots)

later : (number : ℕ) (o : Option Entry) (slots : List (Option Entry)) (id : ℕ) → Names slots number id → Names (o ∷ slots) number (suc id)
later number o slots id n = record { entry = n.entry; there = n.there; names_it = n.names_it }

none-naming : (number : ℕ) (slots : List (Option Entry)) → ((id : ℕ) → ¬ (Names slots number id)) → naming number slots ≡ 0
none-naming number [] n = refl
none-naming number (None ∷ slots) n = none-naming number slots (λ id k. n (suc id) (later number None slots id k))
none-naming number (Some e ∷ slots) n =
    let rest = none-naming number slots (λ id k. n (suc id) (later number (Some e) slots id k)) in
    omega (arith, rest, at (names e.owned.fact.form number) refl, naming-cons number e slots)
  where
    at : (b : Bool) → names e.owned.fact.form number ≡ b → one number e ≡ 0
    at true f = absurd (n 0 (record { entry = e; there = refl; names_it = f }))
    at false f = ap (λ (b : Bool). cond b 1 0) f

-- after the first of them is taken out, the others are the marks
fewer-marks : (slots : List (Option Entry)) (number m : ℕ) (marks : List ℕ) → AreMarks slots number (m ∷ marks) → AreMarks (set slots (m / 4) None) number marks
fewer-marks slots number m marks are = record {
  once = distinct_tail m marks are.once;
  apart = λ s t h k e. are.apart s t (contains_tail m s marks h) (contains_tail m t marks k) e;
  only = λ s h.
      let n = are.only s (contains_tail m s marks h) in
      record { entry = n.entry; there = slot.others (s / 4) (other s h) ∙ n.there; names_it = n.names_it };
  all = λ id n.
      let not_m : id ≢ m / 4 = λ e. none-some n.entry (sym slot.changed ∙ ap (entry_at (set slots (m / 4) None)) (sym e) ∙ n.there) in
      let k = are.all id (record { entry = n.entry; there = sym (slot.others id not_m) ∙ n.there; names_it = n.names_it }) in
      (k.0, behind k.0 (λ e. not_m (sym k.2 ∙ ap (λ (x : ℕ). x / 4) (sym e))) (contains_cases m k.0 marks k.1), k.2);
}
  where
    own : Names slots number (m / 4)
    own = are.only m (contains_head m marks)

    slot : HasSlot slots (set slots (m / 4) None) (m / 4) None
    slot = has-slot slots (m / 4) own.entry None own.there

    other : (s : ℕ) → Contains marks s → s / 4 ≢ m / 4
    other s h e = distinct_head m marks are.once (subst (λ (x : ℕ). Contains marks x) (are.apart s m (contains_tail m s marks h) (contains_head m marks) e) h)

    behind : (s : ℕ) → (m ≢ s) → (m ≡ s) ⊎ Contains marks s → Contains marks s
    behind s n (inl e) = absurd (n e)
    behind s n (inr h) = h

pub marks-count : (number : ℕ) (marks : List ℕ) (slots : List (Option Entry)) → AreMarks slots number marks → length marks ≡ count_by (names_number number) (live_in slots)
marks-count number [] slots are = sym (none-naming number slots (λ id n. contains_none (are.all id n).0 (are.all id n).1))
marks-count number (m ∷ marks) slots are =
    let own = are.only m (contains_head m marks) in
    let rest = marks-count number marks (set slots (m / 4) None) (fewer-marks slots number m marks are) in
    let less = fewer number slots (m / 4) own.entry own.there own.names_it in
    omega (arith, rest, less)

-- ---- they may be remade, and remaking them is what is asked
pub may-remake : (slots : List (Option Entry)) (number : ℕ) (marks : List ℕ) (live : List ℕ) (s : Scene) → AreMarks slots number marks
    → ((l : LiveFact) → Contains (live_in slots) l → names_number number l ≡ true → IsAskable live l.certificate.placed.fact.form)
    → ((l : LiveFact) → Contains (live_in slots) l → names_number number l ≡ true → Holds s l.certificate.placed.fact)
    → (m : ℕ) → Contains marks m → MayRenew live s slots (m / 4)
may-remake slots number marks live s are askable holds m h =
    let n = are.only m h in
    let there = live-there slots (m / 4) n.entry n.there in
    record { entry = n.entry; there = n.there; askable = askable (live_fact n.entry) there n.names_it; holds = holds (live_fact n.entry) there n.names_it }

module _ (scene : Moment → Scene) (now : Moment) (number : ℕ) (marks : List ℕ) (slots after : List (Option Entry)) (are : AreMarks slots number marks) (renewed : AreRenewed scene now marks slots after) where
  -- an entry that doesn't name the number is as it was
  stays : (id : ℕ) (e : Entry) → entry_at slots id ≡ Some e → names e.owned.fact.form number ≡ false → entry_at after id ≡ entry_at slots id
  stays id e there n = renewed.others id (λ s h s_is.
      let k = are.only s h in
      let is : k.entry ≡ e = same_Some k.entry e (sym k.there ∙ ap (entry_at slots) s_is ∙ there) in
      let yes : names e.owned.fact.form number ≡ true = subst (λ (x : Entry). names x.owned.fact.form number ≡ true) is k.names_it in
      let no_more : true ≡ false = sym yes ∙ n in
      cc)

  -- and one that names it is made anew
  anew : (id : ℕ) → Names slots number id → IsRenewed scene now (entry_at slots id) (entry_at after id)
  anew id n = let k = are.all id n in subst (λ (x : ℕ). IsRenewed scene now (entry_at slots x) (entry_at after x)) k.2 (renewed.renewed k.0 k.1)

  remade-from : (id : ℕ) (e : Entry) → entry_at slots id ≡ Some e → IsRenewed scene now (entry_at slots id) (entry_at after id) → (f : Entry) × (entry_at after id ≡ Some f) × IsRemade scene now (live_fact e) (live_fact f)
  remade-from id e there r =
      let is : r.entry ≡ e = same_Some r.entry e (sym r.was ∙ there) in (
        timed (fresh e.owned) r.fails,
        r.is ∙ ap (λ (x : Entry). Some (timed (fresh x.owned) r.fails)) is,
        record { certificate = refl; fails = subst (λ (x : Entry). IsFirstFailure scene now x.owned.fact r.fails) is r.first; waits_not = refl },
      )

  pub remade-all : (made made_after : ℕ) → made_after ≡ min (made + length marks) (2 ^ 64 - 1)
      → HasRemade number scene now (record { live = live_in slots; made = made }) (record { live = live_in after; made = made_after })
  remade-all made made_after count = record {
    kept = λ l h n.
        let k = live-from slots l h in
        let n_entry : names k.entry.owned.fact.form number ≡ false = subst (λ (x : LiveFact). names_number number x ≡ false) (sym k.is) n in
        subst (λ (x : LiveFact). Contains (live_in after) x) k.is (live-there after k.id k.entry (stays k.id k.entry k.there n_entry ∙ k.there));
    remade = λ l h y.
        let k = live-from slots l h in
        let y_entry : names k.entry.owned.fact.form number ≡ true = subst (λ (x : LiveFact). names_number number x ≡ true) (sym k.is) y in
        let r = remade-from k.id k.entry k.there (anew k.id (record { entry = k.entry; there = k.there; names_it = y_entry })) in
        (live_fact r.0, live-there after k.id r.0 r.1, subst (λ (x : LiveFact). IsRemade scene now x (live_fact r.0)) k.is r.2);
    only = λ l h. from l (live-from after l h);
    count = renewed.count;
    made = count ∙ ap (λ (n : ℕ). min (made + n) (2 ^ 64 - 1)) (marks-count number marks slots are);
  }
    where
      from : (l : LiveFact) → IsEntryOf after l → (Contains (live_in slots) l × (names_number number l ≡ false)) ⊎ ((k : LiveFact) × Contains (live_in slots) k × (names_number number k ≡ true) × IsRemade scene now k l)
      from l k =
          let f = of-fact (entry_at slots k.id) k.entry.owned (sym (renewed.facts k.id) ∙ ap owned_in k.there) in
          at f.0 f.1 (names f.0.owned.fact.form number) refl
        where
          at : (e : Entry) → entry_at slots k.id ≡ Some e → (b : Bool) → names e.owned.fact.form number ≡ b → (Contains (live_in slots) l × (names_number number l ≡ false)) ⊎ ((k : LiveFact) × Contains (live_in slots) k × (names_number number k ≡ true) × IsRemade scene now k l)
          at e there false n =
              let same : e ≡ k.entry = same_Some e k.entry (sym there ∙ sym (stays k.id e there n) ∙ k.there) in
              let l_is : live_fact e ≡ l = ap live_fact same ∙ k.is in
              inl (subst (λ (x : LiveFact). Contains (live_in slots) x × (names_number number x ≡ false)) l_is (live-there slots k.id e there, n))
          at e there true y =
              let r = remade-from k.id e there (anew k.id (record { entry = e; there = there; names_it = y })) in
              let same : r.0 ≡ k.entry = same_Some r.0 k.entry (sym r.1 ∙ k.there) in
              inr (live_fact e, live-there slots k.id e there, y, subst (λ (x : LiveFact). IsRemade scene now (live_fact e) x) (ap live_fact same ∙ k.is) r.2)
