-- A table that has applied a change is told it.
use Rattle.std.proofs.Common.{◌≡◌, ◌≢◌, ℕ, ◌⊎◌, inl, inr, ◌↔◌, List, map, sym, ap, subst, ◌∙◌}
use Rattle.std.specs.List.{Contains}
use Rattle.kin_num.specs.declared.instant.Moment.{Moment}
use Rattle.kin_motion.specs.declared.fact.Placed.{Placed}
use Rattle.kin_motion.specs.Deltas.{Change}
use Rattle.kin_motion.specs.Kinetics.{HasChanged}
use Rattle.kin_motion.specs.Live.{Certificate, owned_by}
use Rattle.kin_motion.specs.Scene.{Scene}
use Rattle.kin_motion.proofs.SetLaws.{contains_mapped, contains_map, distinct_mapped}
use Rattle.kin_fail.specs.Failures.{IsFirstFailure}
use Rattle.kin_cert.specs.Facts.{LiveFact, NoneAlike}
use Rattle.kin_cert.specs.Applied.{IsAmong, IsBorn, HasApplied}
use Rattle.kin_cert.proofs.Changes.{is-at, once-same}
use Rattle.kin_cert.specs.Told.{certificates_of, nothing, HasFactsOf, IsTimed, MayTell, AreNew, IsTold}
use Rattle.kin_fail.proofs.SamePlaced.{there_or_not}
use Rattle.kin_cert.proofs.TellLaws.{dropped_all, born_all}

same_owned : (k : ℕ) (p q : Placed) → owned_by k p ≡ owned_by k q → p ≡ q
same_owned k p q e = ap (λ (c : Certificate). c.placed) e

-- a born fact is in time
born_timed : (k : ℕ) (scene : Moment → Scene) (now : Moment) (p : Placed) (l : LiveFact) → IsBorn k scene now p l → IsTimed scene now l
born_timed k scene now p l b = record {
  waits_not = b.waits_not;
  fails = subst (λ (c : Certificate). IsFirstFailure scene now c.placed.fact l.fails) (sym b.is) b.fails;
}

module _ (k : ℕ) (change : Change) (scene : Moment → Scene) (now : Moment) (old new : List LiveFact) (once : NoneAlike old) (did : HasApplied k change scene now old new) where
  module _ (before after : List Placed) (tabled : HasFactsOf old k before) (changed : HasChanged before after nothing change) where
    -- a fact that stays isn't dropped: no other has its owner and form
    stays : (p : Placed) → Contains before p → Contains after p → (l : LiveFact) × Contains new l × (l.certificate ≡ owned_by k p)
    stays p was is =
        let l = (tabled p).0 was in
        let kept : ¬ (IsAmong k change.dropped l.0) = λ (d, d_dropped, of).
        let gone = ((dropped_all before after change changed).each d).0 d_dropped in
        let m = (tabled d).0 gone.0 in
        let same : m.0 ≡ l.0 = once-same old once k d.part d.fact.form m.0 l.0 m.1 l.1 (is-at k d m.0 m.2) of in
        gone.1 (subst (λ (x : Placed). Contains after x) (same_owned k p d (sym l.2 ∙ ap (λ (x : LiveFact). x.certificate) (sym same) ∙ m.2)) is) in
        (l.0, did.kept l.0 l.1 kept, l.2)

    comes : (p : Placed) → Contains change.born p → (l : LiveFact) × Contains new l × (l.certificate ≡ owned_by k p)
    comes p c = let b = did.born p c in (b.0, b.1, b.2.is)

    to : (p : Placed) → Contains after p → (l : LiveFact) × Contains new l × (l.certificate ≡ owned_by k p)
    to p is =
        elim (there_or_not before p) [
          | inl was ↦ stays p was is
          | inr n ↦ comes p (((born_all before after change changed).each p).1 (is, n))
        ]

    from : (p : Placed) → (l : LiveFact) × Contains new l × (l.certificate ≡ owned_by k p) → Contains after p
    from p (l, there, owned) =
        elim (did.only l there) [
          | inl (was, kept) ↦ elim (there_or_not after p) [
            | inl is ↦ is
            | inr n ↦ absurd (kept (p, ((dropped_all before after change changed).each p).1 ((tabled p).1 (l, was, owned), n), is-at k p l owned))
          ]
          | inr (q, q_born, b) ↦ subst (λ (x : Placed). Contains after x) (same_owned k q p (sym b.is ∙ owned)) (((born_all before after change changed).each q).0 q_born).0
        ]

    pub facts_told : HasFactsOf new k after
    facts_told p = (to p, from p)

  pub others_told : (l : LiveFact) → l.certificate.structure ≢ k → Contains old l ↔ Contains new l
  others_told l other = (
    λ c. did.kept l c (λ (p, there, of). other of.structure_is),
    λ c. elim (did.only l c) [
      | inl (was, kept) ↦ was
      | inr (p, there, b) ↦ absurd (other (ap (λ (x : Certificate). x.structure) b.is))
    ],
  )

  pub own_told : (l : LiveFact) → Contains new l → l.certificate.structure ≡ k → Contains old l ⊎ IsTimed scene now l
  own_told l c own =
      elim (did.only l c) [
        | inl (was, kept) ↦ inl was
        | inr (p, there, b) ↦ inr (born_timed k scene now p l b)
      ]

  module _ (before after : List Placed) (tabled : HasFactsOf old k before) (changed : HasChanged before after nothing change) where
    -- a born fact is a new certificate
    is_new : (p : Placed) → Contains change.born p → Contains (certificates_of new) (owned_by k p) × ¬ (Contains (certificates_of old) (owned_by k p))
    is_new p c =
        let b = did.born p c in
        let born = ((born_all before after change changed).each p).0 c in (
          subst (λ (x : Certificate). Contains (certificates_of new) x) b.2.is (contains_map (λ l. l.certificate) new b.0 b.1),
          λ there.
              let m = contains_mapped (λ l. l.certificate) old (owned_by k p) there in
              born.1 ((tabled p).1 (m.0, m.1, sym m.2)),
        )

    only_new : (c : Certificate) → Contains (certificates_of new) c × ¬ (Contains (certificates_of old) c) → Contains (map (owned_by k) change.born) c
    only_new c (there, n) =
        let m = contains_mapped (λ (l : LiveFact). l.certificate) new c there in
        elim (did.only m.0 m.1) [
          | inl (was, kept) ↦ absurd (n (subst (λ (x : Certificate). Contains (certificates_of old) x) (sym m.2) (contains_map (λ l. l.certificate) old m.0 was)))
          | inr (p, p_born, b) ↦ subst (λ (x : Certificate). Contains (map (owned_by k) change.born) x) (sym b.is ∙ sym m.2) (contains_map (owned_by k) change.born p p_born)
        ]

    pub born_told : AreNew old new (map (owned_by k) change.born)
    born_told = record {
      once = distinct_mapped (owned_by k) change.born (same_owned k) (born_all before after change changed).once;
      each = λ c. (
        λ there.
            let m = contains_mapped (owned_by k) change.born c there in
            subst (λ (x : Certificate). Contains (certificates_of new) x × ¬ (Contains (certificates_of old) x)) (sym m.2) (is_new m.0 m.1),
        only_new c,
      );
    }

pub told : (k : ℕ) (change : Change) (scene : Moment → Scene) (now : Moment) (old new : List LiveFact) → MayTell k change (scene now) old → HasApplied k change scene now old new → NoneAlike new → IsTold k change scene now old new
told k change scene now old new may did once = record {
  once = once;
  facts = facts_told k change scene now old new may.once did;
  others = others_told k change scene now old new may.once did;
  own = own_told k change scene now old new may.once did;
  born = born_told k change scene now old new may.once did may.before may.after may.tabled may.changed;
}
