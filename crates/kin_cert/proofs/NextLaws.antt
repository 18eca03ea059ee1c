-- A table that is in time tells what comes next: the next block, or that nothing fails.
use Rattle.std.proofs.Common.{◌≡◌, ◌≢◌, ◌⊎◌, inl, inr, List, [], ◌∷◌, map, Option, Some, None, refl, sym, ap, subst}
use Rattle.std.proofs.lemmas.Option.{same_Some}
use Rattle.std.specs.List.{Contains}
use Rattle.kin_num.specs.declared.instant.Moment.{Moment}
use Rattle.kin_num.specs.Canonical.{IsCanonical}
use Rattle.kin_num.specs.Order.{IsEarlier}
use Rattle.kin_num.proofs.MomentLaws.{never, through, total}
use Rattle.kin_motion.specs.declared.fact.Fact.{Fact}
use Rattle.kin_motion.specs.Journal as journal
use Rattle.kin_motion.specs.Journal.{Setting, Failure, NothingFails, IsNextBlock, IsJournal, seen_in}
use Rattle.kin_motion.specs.Live.{Certificate, IsLiveFact, ListsLive}
use Rattle.kin_motion.specs.Moments.{HoldsAt, FailsFirst}
use Rattle.kin_motion.specs.Numbers.{IsChain}
use Rattle.kin_motion.specs.Scene.{Scene}
use Rattle.kin_motion.proofs.SetLaws.{contains_none, contains_mapped, contains_map}
use Rattle.kin_fail.specs.declared.owned.Owned.{Owned}
use Rattle.kin_fail.specs.Blocks.{certificate_of}
use Rattle.kin_cert.specs.Facts.{LiveFact}
use Rattle.kin_fail.specs.Failures.{IsFirstFailure}
use Rattle.kin_cert.specs.Taken.{NoneFails, NoneFailsUntil, IsLeastFailure, HasTaken, is_taken_before}
use Rattle.kin_cert.proofs.Keys.{some_none}
use Rattle.kin_cert.specs.Told.{certificates_of, IsTimed}

-- what is not before a moment is not before an earlier one
still_later : (first now m : Moment) → IsCanonical first.at → IsCanonical now.at → IsCanonical m.at → IsEarlier first now → ¬ (IsEarlier m now) → ¬ (IsEarlier m first)
still_later first now m c d e later from h = from (through m first now e c d h later)

-- what is before a moment is before all that are not before it
pub earlier_still : (x m n : Moment) → IsCanonical x.at → IsCanonical m.at → IsCanonical n.at → IsEarlier x m → ¬ (IsEarlier n m) → IsEarlier x n
earlier_still x m n c d e until least = at (total m n d e)
  where
    at : IsEarlier m n ⊎ (IsEarlier n m ⊎ (m ≡ n)) → IsEarlier x n
    at (inl more) = through x m n c d e until more
    at (inr (inl less)) = absurd (least less)
    at (inr (inr same)) = subst (IsEarlier x) same until

-- ---- one fact
module _ (scene : Moment → Scene) (now : Moment) (canonical : IsCanonical now.at) where
  holds_before : (f : Fact) (fails : Option Moment) → IsFirstFailure scene now f fails
      → (x : Moment) → IsCanonical x.at → ¬ (IsEarlier x now) → ((n : Moment) → fails ≡ Some n → IsCanonical n.at → IsEarlier x n) → HoldsAt scene x f
  holds_before f None holds x c from before = holds x c from
  holds_before f (Some n) first x c from before = first.holds_until x (record { canonical = c; from = from; until = before n refl first.canonical })

  failure_later : (f : Fact) (fails : Option Moment) → IsFirstFailure scene now f fails
      → (m : Moment) → IsCanonical m.at → IsEarlier now m → ((n : Moment) → fails ≡ Some n → IsEarlier m n) → IsFirstFailure scene m f fails
  failure_later f None holds m c later before = λ x d from. holds x d (still_later now m x canonical c d later from)
  failure_later f (Some n) first m c later before =
      record {
        canonical = first.canonical;
        later_is_later = before n refl;
        holds_until = λ x u. first.holds_until x (record { canonical = u.canonical; from = still_later now m x canonical c u.canonical later u.from; until = u.until });
        fails = first.fails;
      }

  module _ (l : LiveFact) (timed : IsTimed scene now l) where
    pub fails_first : (m : Moment) → l.fails ≡ Some m → FailsFirst scene now m l.certificate.placed.fact
    fails_first m e = subst (IsFirstFailure scene now l.certificate.placed.fact) e timed.fails

    pub fails_now : (m : Moment) → l.fails ≡ Some m → ¬ (HoldsAt scene m l.certificate.placed.fact)
    fails_now m e = (fails_first m e).fails

    -- it holds from now on and before its failure
    pub holds_until_failure : (x : Moment) → IsCanonical x.at → ¬ (IsEarlier x now) → ((n : Moment) → l.fails ≡ Some n → IsCanonical n.at → IsEarlier x n) → HoldsAt scene x l.certificate.placed.fact
    holds_until_failure = holds_before l.certificate.placed.fact l.fails timed.fails

    pub timed_holds : HoldsAt scene now l.certificate.placed.fact
    timed_holds = holds_until_failure now canonical (never now canonical) (λ n e c. (fails_first n e).later_is_later)

    -- its failure is the first one also seen from a later moment before it
    pub later_start : (m : Moment) → IsCanonical m.at → IsEarlier now m → ((n : Moment) → l.fails ≡ Some n → IsEarlier m n) → IsFirstFailure scene m l.certificate.placed.fact l.fails
    later_start = failure_later l.certificate.placed.fact l.fails timed.fails

-- ---- all facts
-- the table has exactly the facts that are live now, each with its first failure seen from now
pub record IsInTime (t : Setting) (now : Moment) (live : List LiveFact) : Type 0 where
  pub canonical : IsCanonical now.at
  pub lists : ListsLive t.size t.keeps (t.scene now) (certificates_of live)
  pub timed : (l : LiveFact) → Contains live l → IsTimed t.scene now l

-- a failure that is not before the moment and not after it is at it
at_moment : (fails : Option Moment) (m : Moment) → IsCanonical m.at → ((n : Moment) → fails ≡ Some n → IsCanonical n.at) → ((n : Moment) → fails ≡ Some n → ¬ (IsEarlier n m))
    → ¬ ((n : Moment) → fails ≡ Some n → IsCanonical n.at → IsEarlier m n) → fails ≡ Some m
at_moment None m c forms least not_later = absurd (not_later (λ n e d. absurd (some_none n (sym e))))
at_moment (Some n) m c forms least not_later = at (total m n c (forms n refl))
  where
    at : IsEarlier m n ⊎ (IsEarlier n m ⊎ (m ≡ n)) → Some n ≡ Some m
    at (inl more) = absurd (not_later (λ k e d. subst (IsEarlier m) (same_Some n k e) more))
    at (inr (inl less)) = absurd (least n refl less)
    at (inr (inr same)) = ap (λ (x : Moment). Some x) (sym same)

module _ (t : Setting) (now : Moment) (live : List LiveFact) (in_time : IsInTime t now live) where
  first_of : (l : LiveFact) → Contains live l → (m : Moment) → l.fails ≡ Some m → FailsFirst t.scene now m l.certificate.placed.fact
  first_of l there = fails_first t.scene now in_time.canonical l (in_time.timed l there)

  live_of : (c : Certificate) → IsLiveFact t.size t.keeps (t.scene now) c → (l : LiveFact) × Contains live l × (c ≡ l.certificate)
  live_of c is = contains_mapped (λ (l : LiveFact). l.certificate) live c ((in_time.lists.each c).1 is)

  -- all facts hold before all failures
  all_hold : (x : Moment) → IsCanonical x.at → ¬ (IsEarlier x now) → ((l : LiveFact) (n : Moment) → Contains live l → l.fails ≡ Some n → IsCanonical n.at → IsEarlier x n) → journal.AllHoldAt t now x
  all_hold x canonical from before c is =
      let l = live_of c is in
      subst (λ (d : Certificate). HoldsAt t.scene x d.placed.fact) (sym l.2)
      (holds_until_failure t.scene now in_time.canonical l.0 (in_time.timed l.0 l.1) x canonical from (λ n. before l.0 n l.1))

  pub nothing_fails : NoneFails live → NothingFails t now
  nothing_fails none c is m canonical from = all_hold m canonical from (λ l n there e d. absurd (none l there n e)) c is

  module _ (m : Moment) (least : IsLeastFailure live m) where
    first : IsCanonical m.at × IsEarlier now m
    first = let f = first_of least.some.0 least.some.1 m least.some.2 in (f.canonical, f.later_is_later)

    not_before : ¬ (IsEarlier m now)
    not_before h = never now in_time.canonical (through now m now in_time.canonical first.0 in_time.canonical first.1 h)

    pub hold_before_least : (x : Moment) → IsCanonical x.at → ¬ (IsEarlier x now) → IsEarlier x m → journal.AllHoldAt t now x
    hold_before_least x canonical from until = all_hold x canonical from (λ l n there e d. earlier_still x m n canonical first.0 d until (least.least l n there e))

    -- what doesn't hold at the least failure fails there
    fails_at_least : (c : Certificate) → IsLiveFact t.size t.keeps (t.scene now) c → ¬ (HoldsAt t.scene m c.placed.fact) → (l : LiveFact) × Contains live l × (l.fails ≡ Some m) × (l.certificate ≡ c)
    fails_at_least c is fails =
        let l = live_of c is in
        let not_later : ¬ ((n : Moment) → l.0.fails ≡ Some n → IsCanonical n.at → IsEarlier m n) = λ later.
        fails (subst (λ (d : Certificate). HoldsAt t.scene m d.placed.fact) (sym l.2)
        (holds_until_failure t.scene now in_time.canonical l.0 (in_time.timed l.0 l.1) m first.0 not_before later)) in
        (l.0, l.1, at_moment l.0.fails m first.0 (λ n e. (first_of l.0 l.1 n e).canonical) (λ n e. least.least l.0 n l.1 e) not_later, sym l.2)

  pub nothing_until : (limit : Moment) → IsCanonical limit.at → ¬ (IsEarlier limit now) → NoneFailsUntil live limit → IsJournal t now limit []
  nothing_until limit canonical from (inl none) = (
    λ c is x u. nothing_fails none c is x u.canonical u.from,
    λ c is. nothing_fails none c is limit canonical from,
  )
  nothing_until limit canonical from (inr (m, least, until)) = (
    λ c is x u. hold_before_least m least x u.canonical u.from (through x limit m u.canonical canonical (first m least).0 u.until until) c is,
    hold_before_least m least limit canonical from until,
  )

-- ---- the next block
-- the journal's order of what is taken
failures_in_order : (s : Scene) (os : List Owned) → IsChain is_taken_before os → IsChain journal.is_listed_before (map (λ o. seen_in s (certificate_of o)) os)
failures_in_order s [] chain = tt
failures_in_order s (o ∷ []) chain = tt
failures_in_order s (o ∷ p ∷ os) chain = (chain.0, failures_in_order s (p ∷ os) chain.1)

-- a certificate as the table gives it out
abbrev owned_of : Certificate → Owned
owned_of c = record { structure = c.structure; part = c.placed.part; fact = c.placed.fact }

module _ (t : Setting) (now : Moment) (old new : List LiveFact) (in_time : IsInTime t now old) (taken : List Owned) (has : HasTaken old new taken) where
  abbrev failure_of : Owned → Failure
  failure_of o = seen_in (t.scene has.moment) (certificate_of o)

  is_failure : (o : Owned) → Contains taken o → journal.IsFailure t now has.moment (failure_of o)
  is_failure o there =
      let l = (has.each o).0 there in
      record {
        live = subst (IsLiveFact t.size t.keeps (t.scene now)) l.3 ((in_time.lists.each l.0.certificate).0 (contains_map (λ (x : LiveFact). x.certificate) old l.0 l.1));
        fails = subst (λ (c : Certificate). ¬ (HoldsAt t.scene has.moment c.placed.fact)) l.3 (first_of t now old in_time l.0 l.1 has.moment l.2).fails;
        sign = refl;
      }

  is_taken : (f : Failure) → journal.IsFailure t now has.moment f → Contains (map failure_of taken) f
  is_taken f is =
      let l = fails_at_least t now old in_time has.moment has.least f.was is.live is.fails in
      let same : failure_of (owned_of f.was) ≡ f = λ i. record { was = f.was; now = sym is.sign i } in
      subst (Contains (map failure_of taken)) same (contains_map failure_of taken (owned_of f.was) ((has.each (owned_of f.was)).1 l))

  some_taken : map failure_of taken ≢ []
  some_taken none =
      let l = has.least.some in
      let o : Owned = owned_of l.0.certificate in
      contains_none (failure_of o) (subst (λ (fs : List Failure). Contains fs (failure_of o)) none (contains_map failure_of taken o ((has.each o).1 (l.0, l.1, l.2, refl))))

  taken_block : IsNextBlock t now (record { moment = has.moment; failures = map failure_of taken })
  taken_block =
      let first = first t now old in_time has.moment has.least in
      record {
        canonical = first.0;
        later = first.1;
        some = some_taken;
        exact = λ f. (
          λ there. let o = contains_mapped failure_of taken f there in subst (journal.IsFailure t now has.moment) (sym o.2) (is_failure o.0 o.1),
          is_taken f,
        );
        in_order = failures_in_order (t.scene has.moment) taken has.in_order;
        hold_before = λ c is x u. hold_before_least t now old in_time has.moment has.least x u.canonical u.from u.until c is;
      }

  -- the failures that are given are the next block
  pub next_block : (failures : List Failure) → failures ≡ map (λ o. seen_in (t.scene has.moment) (certificate_of o)) taken → IsNextBlock t now (record { moment = has.moment; failures = failures })
  next_block failures e = subst (λ (fs : List Failure). IsNextBlock t now (record { moment = has.moment; failures = fs })) (sym e) taken_block
