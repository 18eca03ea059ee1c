-- What fails at the least failure moment is taken out, and all else is seen from there.
use Rattle.kin_world.proofs.Vocabulary.{◌≡◌, ◌≢◌, inl, inr, refl, sym, ap, ◌∙◌, subst, arith, false, List, map, Some, Contains, ◌↔◌, true, All, ℤ, Option, Contains-permutation, IsPermutation-sym, IsCanonical, IsEarlier}
use Rattle.kin_world.proofs.Vocabulary.{Moment, total, live_of, IsAskable, Block, IsNextBlock, seen_in, Certificate, FailsFirst, HoldsAt, scene_at, exactly_in_words, Facts, LiveFact, NoneAlike, certificate_of, IsFirstFailure, HasGivenOut}
use Rattle.kin_world.proofs.Vocabulary.{HasTaken, IsLeastFailure, certificate_rank, is_taken_before, IsTimed, Owned, later_start, next_block, AreWaiting, HasSettled, IsSound, IsUnderRepair, Stage, setting, sight}
use Rattle.kin_motion.proofs.JournalLaws.{never_less_rank, less_rank_through}
use Rattle.kin_motion.proofs.ListChains.{chain_distinct}
use Rattle.kin_world.proofs.Certificates.{HaveSameCertificates, same_listed}
use Rattle.kin_world.proofs.InOrder.{retimed, timed}
use Rattle.kin_world.proofs.SoundLaws.{failure_at, in_time, least_fails, live_askable, one_least, real}
use Rattle.kin_world.proofs.StructureLaws.{all_from_each}
use Rattle.std.proofs.lemmas.List.Sorted.{IsPermutation-refl}

-- what was taken out in the journal's order is as good as what was given out in any
abbrev pub as_given : {old new : List LiveFact} {taken : List Owned} → HasTaken old new taken → HasGivenOut old new taken
as_given {old} {new} {taken} has =
    let rank : Owned → List ℤ = λ o. certificate_rank (certificate_of o) in
    let once = chain_distinct is_taken_before (λ o p q. less_rank_through (rank o) (rank p) (rank q)) (λ o. never_less_rank (rank o)) taken has.in_order in
    record { taken = taken; has_taken = has; reordered = IsPermutation-refl taken; once = once }

module _ {s : Stage} (sound : IsSound s) (table : Facts) {given : List Owned} (out : HasGivenOut s.table.live table.live given) where
  abbrev has : HasTaken s.table.live table.live out.taken
  has = out.has_taken

  first : FailsFirst (scene_at s.motions) s.moment has.moment has.least.some.0.certificate.placed.fact
  first = least_fails sound has.moment has.least

  pub same_facts : HaveSameCertificates s.table.live table.live
  same_facts = record {
    stay = λ l there. let k = has.stays l there in (k.0, k.1, k.2.certificate);
    only = λ k there. let l = has.only k there in (l.0, l.1, sym l.2.certificate);
  }

  -- a fact was given out exactly where it fails at the moment
  pub given_each : (o : Owned) → Contains given o ↔ ((l : LiveFact) × Contains s.table.live l × (l.fails ≡ Some has.moment) × (l.certificate ≡ certificate_of o))
  given_each o = (
    λ h. (has.each o).0 (Contains-permutation given out.taken o out.reordered h),
    λ h. Contains-permutation out.taken given o (IsPermutation-sym given out.taken out.reordered) ((has.each o).1 h),
  )

  -- Seen from such a moment: what was taken out doesn't hold, and all else has yet to fail.
  pub record IsReached (m : Moment) : Type 0 where
    pub canonical : IsCanonical m.at
    pub later : IsEarlier s.moment m
    pub ahead : (l : LiveFact) → Contains s.table.live l → (n : Moment) → l.fails ≡ Some n → n ≢ has.moment → IsEarlier m n
    pub failed : (l : LiveFact) → Contains s.table.live l → l.fails ≡ Some has.moment → ¬ (HoldsAt (scene_at s.motions) m l.certificate.placed.fact)

  -- so it is seen from the moment itself
  pub at_once : IsReached has.moment
  at_once = record {
    canonical = first.canonical;
    later = first.later_is_later;
    ahead = λ l there n e other. elim (total has.moment n first.canonical (failure_at sound l there n e).canonical) [
      | inl more ↦ more
      | inr (inl less) ↦ absurd (has.least.least l n there e less)
      | inr (inr same) ↦ absurd (other (sym same))
    ];
    failed = λ l there e. (failure_at sound l there has.moment e).fails;
  }

  -- the facts that were taken out wait for the repair of their structures
  pub given_waiting : AreWaiting table.live given
  given_waiting = record {
    once = out.once;
    each = λ l there waits.
        let was = has.only l there in
        let o : Owned = record { structure = was.0.certificate.structure; part = was.0.certificate.placed.part; fact = was.0.certificate.placed.fact } in
        (o, (given_each o).1 (was.0, was.1, was.2.waits.0 waits, refl), was.2.certificate);
    only = λ o there.
        let l = (given_each o).0 there in
        let k = has.stays l.0 l.1 in
        (k.0, k.1, k.2.waits.1 l.2, k.2.certificate ∙ l.3);
  }

  -- and may be asked for
  pub given_askable : All (λ (o : Owned). IsAskable (live_of s.motions) o.fact.form) given
  given_askable =
      all_from_each given (λ o there. let l = (given_each o).0 there in subst (λ (c : Certificate). IsAskable (live_of s.motions) c.placed.fact.form) l.3 (live_askable sound l.0 l.1))

  pub reached_under_repair : (m : Moment) → IsReached m → NoneAlike table.live → table.made ≡ s.table.made → IsUnderRepair 0 (sight s) (record s { moment = m; table = table })
  reached_under_repair m reached once made =
      let o = retimed sound.in_order s.motions m table refl sound.in_order.fit.slow reached.canonical once (rw made sound.in_order.counted) same_facts
      (λ j keep st kept there was. record { done = λ less. absurd (omega (arith, less)); ahead = λ more. was.fine })
      (λ l there. record { timed = timed_after l there; failed = λ waits. let was = has.only l there in rw was.2.certificate (reached.failed was.0 was.1 (was.2.waits.0 waits)) }) in
      record { in_order = o; real = real sound; same_live = refl }
    where
      timed_after : (l : LiveFact) → Contains table.live l → l.waits ≡ false → IsTimed (scene_at s.motions) m l
      timed_after l there not =
          let was = has.only l there in
          let ahead : (n : Moment) → was.0.fails ≡ Some n → IsEarlier m n = λ n e. reached.ahead was.0 was.1 n e (λ same. let w : l.waits ≡ true = was.2.waits.1 (e ∙ ap (λ (x : Moment). Some x) same) in absurd cc) in
          let first = later_start (scene_at s.motions) s.moment sound.in_order.canonical was.0 (timed sound.in_order sound.none_waits was.0 was.1) m reached.canonical reached.later ahead in
          record {
            waits_not = not;
            fails = subst (λ (c : Certificate). IsFirstFailure (scene_at s.motions) m c.placed.fact l.fails) (sym was.2.certificate)
                (subst (λ (o : Option Moment). IsFirstFailure (scene_at s.motions) m was.0.certificate.placed.fact o) (sym was.2.fails) first);
          }

  module _ (m : Moment) (least : IsLeastFailure s.table.live m) where
    pub at_moment : has.moment ≡ m
    at_moment = one_least sound has.moment m has.least least

    pub taken_under_repair : NoneAlike table.live → table.made ≡ s.table.made → IsUnderRepair 0 (sight s) (record s { moment = m; table = table })
    taken_under_repair once made = rw (← at_moment) (reached_under_repair has.moment at_once once made)

    -- they are the next block
    pub taken_block : (b : Block) → b ≡ record { moment = m; failures = map (λ o. seen_in (scene_at s.motions m) (certificate_of o)) out.taken } → IsNextBlock (setting s) s.moment b
    taken_block b is = rw (is, ← at_moment) (next_block (setting s) s.moment s.table.live table.live (in_time sound) out.taken has _ refl)

  -- to take facts out makes nothing
  pub settled_since : {t : Stage} → table.made ≡ s.table.made → HasSettled table t → HasSettled s.table t
  settled_since made done = record {
    sound = done.sound;
    made = record {
      born = done.made.born;
      exactly = exactly_in_words done.made.born _ _ (λ c. let same = same_listed same_facts c in ((λ h. (h.0, λ old. h.1 (same.0 old))), (λ h. (h.0, λ old. h.1 (same.1 old))))) done.made.exactly;
      count = rw (← made) done.made.count;
    };
  }
