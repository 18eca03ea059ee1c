-- Each structure is told of its facts that wait, and one after another is repaired.
use Rattle.std.proofs.Common.{◌≡◌, refl, sym, ap, ap₂, ◌∙◌, subst, arith, ℕ, ◌+◌, ◌-◌, ◌^◌, ◌<◌, ◌≤◌, true, List, length, Contains, IsTrue, filter}
use Rattle.kin_world.proofs.Vocabulary.{nat_tests, Certificate, owned_by, Placed, contains_map, contains_mapped, distinct_filter, distinct_mapped_on, filter-complete, filter-sound}
use Rattle.kin_world.proofs.Vocabulary.{LiveFact, certificate_of, Owned, Facts, Scene, AreWaiting, HasComeTo, HasGoneOn, HasSameFrame, HasSettled, IsRepaired, IsRepairing, IsUnderRepair, ListsWaiting, Stage, gathered, is_of, placed_of, told_to}
use Rattle.kin_world.proofs.Certificates.{come_on}
use Rattle.kin_world.proofs.RepairLaws.{boxed_waiting, same_facts, sound_at_end}

-- what two calls leave as it is
pub frame_through : (a b c : Stage) → HasSameFrame a b → HasSameFrame b c → HasSameFrame a c
frame_through a b c first second = second ∙ ap (λ (x : Stage). record x { structures = c.structures; table = c.table }) first

-- ---- the facts are sorted out
of_structure : (k : ℕ) (taken : List Owned) (o : Owned) → Contains (filter (is_of k) taken) o → o.structure ≡ k
of_structure k taken o there = let t = (filter-sound (is_of k) taken o there).1 in grind (arith, nat_tests, t)

module _ {live : List LiveFact} {taken : List Owned} (waiting : AreWaiting live taken) where
  -- those of a structure are all that wait of it
  pub gathered_wait : (k : ℕ) → ListsWaiting k live (gathered k taken)
  gathered_wait k = record {
    once = distinct_mapped_on placed_of (filter (is_of k) taken) (λ o p in_o in_p e. ap₂ (λ (n : ℕ) (q : Placed). record { structure = n; part = q.part; fact = q.fact }) (of_structure k taken o in_o ∙ sym (of_structure k taken p in_p)) e)
        (distinct_filter (is_of k) taken waiting.once);
    each = λ p. (to p, from p);
  }
    where
      to : (p : Placed) → Contains (gathered k taken) p → (l : LiveFact) × Contains live l × IsTrue l.waits × (l.certificate ≡ owned_by k p)
      to p there =
          let o = contains_mapped placed_of (filter (is_of k) taken) p there in
          let l = waiting.only o.0 (filter-sound (is_of k) taken o.0 o.1).0 in
          (l.0, l.1, l.2, l.3 ∙ ap₂ (λ (n : ℕ) (q : Placed). owned_by n q) (of_structure k taken o.0 o.1) (sym o.2))

      from : (p : Placed) → ((l : LiveFact) × Contains live l × IsTrue l.waits × (l.certificate ≡ owned_by k p)) → Contains (gathered k taken) p
      from p (l, there, waits, is) =
          let o = waiting.each l there waits in
          let same : certificate_of o.0 ≡ owned_by k p = sym o.2 ∙ is in
          let e : o.0.structure ≡ k = ap (λ (c : Certificate). c.structure) same in
          let own : is_of k o.0 ≡ true = grind (arith, nat_tests, e) in
          subst (λ (c : Certificate). Contains (gathered k taken) c.placed) same (contains_map placed_of (filter (is_of k) taken) o.0 (filter-complete (is_of k) taken o.0 o.1 own))

-- so in its box each structure has its facts that fail now
pub boxed_first : {before : Scene} {s : Stage} {taken : List Owned} → IsUnderRepair 0 before s → AreWaiting s.table.live taken → (boxes : List (List Placed))
    → ((k : ℕ) → k < length s.structures → told_to boxes k ≡ gathered k taken) → IsRepaired boxes 0 s
boxed_first {before} {s} under waiting boxes sorted = (before, under, boxed_waiting under boxes (λ k within. rw (sorted k within) (gathered_wait waiting k)))

-- ---- one structure after another
-- at the start nothing has come to another state
pub come_none : (table : Facts) → table.made ≤ 2 ^ 64 - 1 → HasComeTo 0 table table
come_none table counted = record { made = same_facts table counted; ahead = λ c low. (λ h. h, λ h. h) }

pub repairing_none : {s : Stage} {boxes : List (List Placed)} → IsRepaired boxes 0 s → IsRepairing s s 0 boxes
repairing_none {s} repair = record { repair = repair; come = come_none s.table repair.1.in_order.counted; frame = refl }

module _ {start s t : Stage} {boxes : List (List Placed)} {k : ℕ} (h : IsRepairing start s k boxes) (did : HasGoneOn (IsRepaired boxes) k s t) (frame : HasSameFrame s t) where
  repair : IsRepaired boxes (k + 1) t
  repair = did.next h.repair

  pub same_count : length t.structures ≡ length s.structures
  same_count = repair.1.in_order.count ∙ ap (λ (x : Stage). length x.keeps) frame ∙ sym h.repair.1.in_order.count

  pub repairing_on : IsRepairing start t (k + 1) boxes
  repairing_on = record {
    repair = repair;
    come = come_on k k start.table s.table t.table (omega arith) h.come did.others did.made;
    frame = frame_through start s t h.frame frame;
  }

-- at the end every structure is settled
pub repaired_all : {start s : Stage} {boxes : List (List Placed)} {k : ℕ} → IsRepairing start s k boxes → length s.structures ≤ k → HasSettled start.table s
repaired_all h all = record { sound = sound_at_end h.repair.1 all; made = h.come.made }
