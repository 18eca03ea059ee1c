-- The facts that are due, and the one that is given out.
use Rattle.std.proofs.Common.{◌≡◌, ◌≢◌, ℕ, Bool, true, false, cond, IfSome, MatchOption, List, Option, Some, None, refl, sym, ap, subst, ◌∙◌, ◌⊎◌, inl, inr, ◌↔◌}
use Rattle.std.proofs.lemmas.Option.{same_Some}
use Rattle.std.specs.List.{Contains}
use Rattle.std.specs.Ordering.{nat_cmp}
use Rattle.std.specs.FinMap as map
use Rattle.std.specs.FinMap.{FinMap, get-empty}
use Rattle.std.proofs.lemmas.Bool.{cases_eq}
use Rattle.kin_num.specs.declared.instant.Moment.{Moment}
use Rattle.kin_queue.specs.Agenda.{IsLeast}
use Rattle.kin_cert.specs.Entries.{Entry}
use Rattle.kin_cert.specs.Facts.{LiveFact}
use Rattle.kin_fail.specs.Rank.{padded_rank}
use Rattle.kin_cert.specs.Taken.{NoneWaits, NoneFails, IsLeastFailure}
use Rattle.kin_cert.specs.Layout.{IsTable, live_fact, live_in, entry_at, queued_at, waiting, HasSlot, NoneTwice, IsDue, IsDueAt, NoneDue, HasGiven}
use Rattle.kin_cert.proofs.Slots.{live-there, live-from}
use Rattle.kin_cert.proofs.Keys.{some_none}

-- what a queued entry says
pub record IsQueued (o : Option Entry) (m : Moment) : Type 0 where
  pub entry : Entry
  pub there : o ≡ Some entry
  pub due : IsDueAt (live_fact entry) m

pub queued-entry : (o : Option Entry) (m : Moment) → queued_at o ≡ Some m → IsQueued o m
queued-entry None m h = absurd (some_none m (sym h))
queued-entry (Some e) m h =
    elim e.is_waiting as (λ b. e.is_waiting ≡ b → cond b None e.fails ≡ Some m → IsQueued (Some e) m) [
      | true ↦ λ w h. absurd (some_none m (sym h))
      | false ↦ λ w h. record { entry = e; there = refl; due = record { fails = h; waits_not = w } }
    ] refl h

module _ (slots : List (Option Entry)) (moments : FinMap nat_cmp Moment) (table : IsTable slots moments) where
  -- a fact that is due is queued
  pub due-queued : (l : LiveFact) (m : Moment) → Contains (live_in slots) l → IsDueAt l m → (id : ℕ) × (map.get moments id ≡ Some m)
  due-queued l m c d =
      let h = live-from slots l c in
      let fails : h.entry.fails ≡ Some m = ap (λ (x : LiveFact). x.fails) h.is ∙ d.fails in
      let waits_not : h.entry.is_waiting ≡ false = ap (λ (x : LiveFact). x.waits) h.is ∙ d.waits_not in
      (h.id, table h.id ∙ ap queued_at h.there ∙ ap (λ (b : Bool). cond b None h.entry.fails) waits_not ∙ fails)

  pub queued-slot : (id : ℕ) (m : Moment) → map.get moments id ≡ Some m → IsQueued (entry_at slots id) m
  queued-slot id m h = queued-entry (entry_at slots id) m (sym (table id) ∙ h)

  pub due-some : (id : ℕ) (at : Moment) → IsLeast moments (id, at) → IsDue (live_in slots) at
  due-some id at next =
      let q = queued-slot id at next.there in
      record {
        some = (live_fact q.entry, live-there slots id q.entry q.there, q.due);
        least = λ l n c d. let k = due-queued l n c d in next.least k.0 n k.1;
      }

  pub due-none : moments ≡ map.empty → NoneDue (live_in slots)
  due-none none l m c d =
      let k = due-queued l m c d in
      some_none m (sym k.1 ∙ ap (λ (x : FinMap nat_cmp Moment). map.get x k.0) none ∙ get-empty nat_cmp k.0)

  module _ (after : List (Option Entry)) (once : NoneTwice slots) (id : ℕ) (at : Moment) (next : IsLeast moments (id, at)) (e : Entry) (there : entry_at slots id ≡ Some e)
      (slot : HasSlot slots after id (Some (waiting e))) where
    pub given-due : IsDueAt (live_fact e) at
    given-due =
        let q = queued-slot id at next.there in
        subst (λ (x : Entry). IsDueAt (live_fact x) at) (same_Some q.entry e (sym q.there ∙ there)) q.due

    apart-from : (j : ℕ) (f : Entry) → entry_at slots j ≡ Some f → j ≢ id → live_fact f ≡ live_fact e → ⊥
    apart-from j f h n same_fact = n (once j id f e h there (ap (λ (x : LiveFact). padded_rank x.certificate.structure x.certificate.placed.part x.certificate.placed.fact.form) same_fact))

    pub has-given : HasGiven (live_in slots) (live_in after) (live_fact e) at
    has-given =
        record {
          there = live-there slots id e there;
          due = given-due;
          least = (due-some id at next).least;
          exactly = λ l. (to l, from l);
        }
      where
        to : (l : LiveFact) → Contains (live_in after) l → (Contains (live_in slots) l × ¬ (l ≡ live_fact e)) ⊎ (l ≡ live_fact (waiting e))
        to l c =
            let h = live-from after l c in
            elim (cases_eq h.id id) [
              | inl j_is ↦ inr (sym h.is ∙ ap live_fact (sym (same_Some (waiting e) h.entry (sym slot.changed ∙ ap (entry_at after) (sym j_is) ∙ h.there))))
              | inr n ↦
                  let h_was : entry_at slots h.id ≡ Some h.entry = sym (slot.others h.id n) ∙ h.there in
                  inl (subst (λ (x : LiveFact). Contains (live_in slots) x) h.is (live-there slots h.id h.entry h_was), λ l_is. apart-from h.id h.entry h_was n (h.is ∙ l_is))
            ]

        from : (l : LiveFact) → (Contains (live_in slots) l × ¬ (l ≡ live_fact e)) ⊎ (l ≡ live_fact (waiting e)) → Contains (live_in after) l
        from l (inl (c, n)) =
            let h = live-from slots l c in
            let apart : h.id ≢ id = λ j_is. n (sym h.is ∙ ap live_fact (same_Some h.entry e (sym h.there ∙ ap (entry_at slots) j_is ∙ there))) in
            subst (λ (x : LiveFact). Contains (live_in after) x) h.is (live-there after h.id h.entry (slot.others h.id apart ∙ h.there))
        from l (inr l_is) = subst (λ (x : LiveFact). Contains (live_in after) x) (sym l_is) (live-there after id (waiting e) slot.changed)

-- where no fact waits, the least moment at which one is due is the least failure moment
pub due-least : (live : List LiveFact) (m : Moment) → NoneWaits live → IsDue live m → IsLeastFailure live m
due-least live m none d =
    record {
      some = (d.some.0, d.some.1, d.some.2.fails);
      least = λ l n c f. d.least l n c (record { fails = f; waits_not = none l c });
    }

pub least-due : (live : List LiveFact) (m : Moment) → NoneWaits live → IsLeastFailure live m → IsDue live m
least-due live m none h =
    record {
      some = (h.some.0, h.some.1, record { fails = h.some.2; waits_not = none h.some.0 h.some.1 });
      least = λ l n c d. h.least l n c d.fails;
    }

pub least-if : (live : List LiveFact) (o : Option Moment) → NoneWaits live → MatchOption o (NoneDue live) (λ m. IsDue live m) → IfSome o (λ m. IsLeastFailure live m)
least-if live None none d = tt
least-if live (Some m) none d = due-least live m none d

pub none-if : (live : List LiveFact) (o : Option Moment) → NoneWaits live → MatchOption o (NoneDue live) (λ m. IsDue live m) → (o ≡ None) ↔ NoneFails live
none-if live None none d = ((λ e l c m f. d l m c (record { fails = f; waits_not = none l c })), λ n. refl)
none-if live (Some m) none d = ((λ e. absurd (some_none m e)), λ n. absurd (n d.some.0 d.some.1 m d.some.2.fails))
