-- The start: no number is live, at the instant 0, and the structures have no members.
use Rattle.std.proofs.Common.{ext_get_or, ◌≡◌, inl, inr, refl, sym, ap, ◌∙◌, arith, ℕ, zero, suc, ◌+◌, List, [], ◌∷◌, ◌++◌, length, Option, Some, None, replicate, slice_get, Contains}
use Rattle.kin_world.proofs.Vocabulary.{length-replicate, same_Some, contains_none, get-push_cases, IsCanonical, Course, live_of, motion_of, filled_from, LiveFact, sight, Stage, Keep, AreVacant, IsVacant, IsFit, IsSound, Structure}
use Rattle.kin_motion.proofs.SlotLaws.{none_live}

-- a list of so many empty slots
pub empty_slots : (n : ℕ) (ms : List (Option Course)) → length ms ≡ n → ((i : ℕ) → motion_of ms i ≡ None) → ms ≡ replicate n None
empty_slots n ms e h = ext_get_or None ms (replicate n None) (e ∙ sym (length-replicate n None)) (λ i low. h i ∙ sym (none_live n i))

none_filled : (n k : ℕ) → filled_from {A = Course} k (replicate n None) ≡ []
none_filled zero k = refl
none_filled (suc n) k = none_filled n (k + 1)

-- one structure more
pub vacant_more : (size : ℕ) (keeps : List Keep) (structures after : List Structure) (keep : Keep) (st : Structure)
    → AreVacant size keeps structures → slice_get keeps (length structures) ≡ Some keep → IsVacant size keep st → after ≡ structures ++ st ∷ [] → AreVacant size keeps after
vacant_more size keeps structures after keep st vacant here own pushed_is j keep' st' kept there = elim (get-push_cases structures st j st' (rw pushed_is at there)) [
  | inl old ↦ vacant j keep' st' kept old
  | inr (last, same) ↦ let e : keep ≡ keep' = same_Some _ _ (sym here ∙ rw last at kept) in rw (same, ← e) own
]

-- without members they are all settled where no number is live
pub sound_start : (s : Stage) (n : ℕ) → IsFit s.size s.keeps s.motions → IsCanonical s.moment.at → s.motions ≡ replicate n None → length s.structures ≡ length s.keeps → AreVacant s.size s.keeps s.structures → s.table ≡ record { live = []; made = 0 } → IsSound s
sound_start s n fit canonical none count vacant empty = record {
  in_order = record {
    fit = fit;
    canonical = canonical;
    counted = rw empty (omega arith);
    count = count;
    each = λ j keep st kept there.
        let v = vacant j keep st kept there in
        record {
          fine = record { kind = v.kind; rest = v.rest; members = rw nobody v.members; settled = v.settled (sight s) nobody };
          tabled = rw (v.facts, empty) (λ p. (λ there. absurd (contains_none p there), λ l. absurd (contains_none l.0 l.1)));
        };
    once = rw empty (λ i j d less within. absurd (omega (arith, within)));
    owned = λ l there. absurd (nothing_there l there);
    timely = λ l there. absurd (nothing_there l there);
  };
  none_waits = λ l there. absurd (nothing_there l there);
}
  where
    nobody : live_of s.motions ≡ []
    nobody = ap live_of none ∙ none_filled n 0

    nothing_there : (l : LiveFact) → Contains s.table.live l → ⊥
    nothing_there l there = contains_none l (rw empty at there)
