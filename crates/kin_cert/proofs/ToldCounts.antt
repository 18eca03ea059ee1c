-- What a change that was told leaves in the table, in numbers: how many facts there are, and how many of them wait.
use Rattle.std.proofs.Common.{◌≡◌, inl, inr, refl, sym, ap, ◌∙◌, subst, arith, ℕ, suc, ◌+◌, ◌≤◌, Bool, true, false, cond, not, List, [], ◌∷◌, ◌++◌, map, filter, length}
use Rattle.std.specs.Prelude.{Contains}
use Rattle.std.proofs.lemmas.Bool.{cases_Bool, cases_eq}
use Rattle.std.proofs.lemmas.List.{length-append, length-map}
use Rattle.std.proofs.lemmas.List.Elements.{Contains-append_left, Contains-append_right}
use Rattle.std.proofs.lemmas.List.Filters.{length-filter_both}
use Rattle.std.proofs.lemmas.List.Sums.{length-filter}
use Rattle.kin_num.specs.declared.instant.Moment.{Moment}
use Rattle.kin_motion.specs.declared.fact.Placed.{Placed}
use Rattle.kin_motion.specs.Deltas.{Change}
use Rattle.kin_motion.specs.Kinetics.{HasChanged}
use Rattle.kin_motion.specs.Live.{Certificate, owned_by}
use Rattle.kin_motion.specs.Scene.{Scene}
use Rattle.kin_motion.specs.Sets.{AreDistinct}
use Rattle.kin_motion.proofs.SetLaws.{contains_mapped, contains_map, distinct_cons, distinct_none, distinct_head, distinct_tail, distinct_mapped, filter-complete, filter-sound}
use Rattle.kin_motion.proofs.SetSizes.{no_longer}
use Rattle.kin_cert.specs.Cost.{is_ungiven, ungiven, waiting_count}
use Rattle.kin_cert.specs.Facts.{AreAlike, LiveFact, NoneAlike}
use Rattle.kin_cert.specs.Told.{certificates_of, nothing, AreNew, HasFactsOf, IsTold}
use Rattle.kin_cert.proofs.Changes.{is-at, once-same}
use Rattle.kin_cert.proofs.TellLaws.{born_all, dropped_all}
use Rattle.kin_cert.proofs.Ungiven.{some-ungiven}
use Rattle.kin_fail.proofs.SamePlaced.{there_or_not}

-- no owner has a form twice, so no certificate stands twice
pub certificates_distinct : (live : List LiveFact) → NoneAlike live → AreDistinct (certificates_of live)
certificates_distinct [] once = distinct_none
certificates_distinct (l ∷ ls) once =
    distinct_cons l.certificate (certificates_of ls) fresh (certificates_distinct ls (λ i j d low in_. once (suc i) (suc j) d (omega (arith, low)) (omega (arith, in_))))
  where
    fresh : Contains (certificates_of ls) l.certificate → ⊥
    fresh h =
        let o = contains_mapped (λ (k : LiveFact). k.certificate) ls l.certificate h in
        once 0 (suc o.1.0) o.0 (omega arith) (omega (arith, o.1.1)) (subst (λ (k : LiveFact). AreAlike l k) (sym o.1.2) (is-at o.0.certificate.structure o.0.certificate.placed l o.2))

-- what tells all items of a list apart tells apart those that pass a test
distinct_passed : {A B : Type 0} (f : A → B) (test : A → Bool) (xs : List A) → AreDistinct (map f xs) → AreDistinct (map f (filter test xs))
distinct_passed f test [] d = distinct_none
distinct_passed {A} {B} f test (x ∷ xs) d = at (test x) (distinct_passed f test xs (distinct_tail (f x) (map f xs) d))
  where
    fresh : Contains (map f (filter test xs)) (f x) → ⊥
    fresh h =
        let y = contains_mapped f (filter test xs) (f x) h in
        distinct_head (f x) (map f xs) d (subst (λ (z : B). Contains (map f xs) z) (sym y.2) (contains_map f xs y.0 (filter-sound test xs y.0 y.1).0))

    at : (b : Bool) → AreDistinct (map f (filter test xs)) → AreDistinct (map f (cond b (x ∷ filter test xs) (filter test xs)))
    at true rest = distinct_cons (f x) (map f (filter test xs)) fresh rest
    at false rest = rest

module _ (k : ℕ) (change : Change) (scene : Moment → Scene) (now : Moment) (old new : List LiveFact) (once : NoneAlike old) (told : IsTold k change scene now old new)
    (before after : List Placed) (tabled : HasFactsOf old k before) (changed : HasChanged before after nothing change) where
  -- a live fact of the structure is among the facts that were told, before and after
  was_there : (l : LiveFact) → Contains old l → l.certificate.structure ≡ k → Contains before l.certificate.placed
  was_there l there own = (tabled l.certificate.placed).1 (l, there, ap (λ n. owned_by n l.certificate.placed) own)

  -- exactly the dropped facts are gone
  gone : (p : Placed) → Contains change.dropped p → Contains (certificates_of old) (owned_by k p) × ¬ (Contains (certificates_of new) (owned_by k p))
  gone p h =
      let d = ((dropped_all before after change changed).each p).0 h in
      let l = (tabled p).0 d.0 in (
        subst (λ (c : Certificate). Contains (certificates_of old) c) l.2 (contains_map (λ (x : LiveFact). x.certificate) old l.0 l.1),
        λ there.
            let m = contains_mapped (λ (x : LiveFact). x.certificate) new (owned_by k p) there in
            d.1 ((told.facts before after tabled changed p).1 (m.0, m.1, sym m.2)),
      )

  only_gone : (c : Certificate) → Contains (certificates_of old) c × ¬ (Contains (certificates_of new) c) → Contains (map (owned_by k) change.dropped) c
  only_gone c (there, n) =
      let l = contains_mapped (λ (x : LiveFact). x.certificate) old c there in
      let stays : Contains new l.0 → ⊥ = λ h. n (subst (λ (x : Certificate). Contains (certificates_of new) x) (sym l.2) (contains_map (λ (x : LiveFact). x.certificate) new l.0 h)) in
      elim (cases_eq l.0.certificate.structure k) [
        | inl own ↦
            let is : l.0.certificate ≡ owned_by k l.0.certificate.placed = ap (λ m. owned_by m l.0.certificate.placed) own in
            let left : Contains after l.0.certificate.placed → ⊥ = λ h.
            let m = (told.facts before after tabled changed l.0.certificate.placed).0 h in
            n (subst (λ (x : Certificate). Contains (certificates_of new) x) (m.2 ∙ sym is ∙ sym l.2) (contains_map (λ (x : LiveFact). x.certificate) new m.0 m.1)) in
            subst (λ (x : Certificate). Contains (map (owned_by k) change.dropped) x) (sym is ∙ sym l.2)
            (contains_map (owned_by k) change.dropped l.0.certificate.placed (((dropped_all before after change changed).each l.0.certificate.placed).1 (was_there l.0 l.1 own, left)))
        | inr other ↦ absurd (stays ((told.others l.0 other).0 l.1))
      ]

  pub gone_told : AreNew new old (map (owned_by k) change.dropped)
  gone_told = record {
    once = distinct_mapped (owned_by k) change.dropped (λ p q e. ap (λ (c : Certificate). c.placed) e) (dropped_all before after change changed).once;
    each = λ c. (
      λ h. let m = contains_mapped (owned_by k) change.dropped c h in subst (λ (x : Certificate). Contains (certificates_of old) x × ¬ (Contains (certificates_of new) x)) (sym m.2) (gone m.0 m.1),
      only_gone c,
    );
  }

  -- there are no more than before and those born
  old_or_born : (c : Certificate) → Contains (certificates_of new) c → Contains (certificates_of old ++ map (owned_by k) change.born) c
  old_or_born c h =
      let l = contains_mapped (λ (x : LiveFact). x.certificate) new c h in
      let p = l.0.certificate.placed in
      let old_one : (x : LiveFact) → Contains old x → x.certificate ≡ l.0.certificate → Contains (certificates_of old ++ map (owned_by k) change.born) c = λ x there e.
      Contains-append_left (certificates_of old) (map (owned_by k) change.born) c (subst (λ (y : Certificate). Contains (certificates_of old) y) (e ∙ sym l.2) (contains_map (λ (y : LiveFact). y.certificate) old x there)) in
      elim (cases_eq l.0.certificate.structure k) [
        | inr other ↦ old_one l.0 ((told.others l.0 other).1 l.1) refl
        | inl own ↦
            let is : l.0.certificate ≡ owned_by k p = ap (λ n. owned_by n p) own in
            elim (there_or_not before p) [
              | inl was ↦ let m = (tabled p).0 was in old_one m.0 m.1 (m.2 ∙ sym is)
              | inr fresh ↦
                  let one = ((born_all before after change changed).each p).1 ((told.facts before after tabled changed p).1 (l.0, l.1, is), fresh) in
                  Contains-append_right (certificates_of old) (map (owned_by k) change.born) c (subst (λ (y : Certificate). Contains (map (owned_by k) change.born) y) (sym is ∙ sym l.2) (contains_map (owned_by k) change.born p one))
            ]
      ]

  pub few_told : length new ≤ length old + length change.born
  few_told =
      let few = no_longer (certificates_of new) (certificates_of old ++ map (owned_by k) change.born) (certificates_distinct new told.once) old_or_born in
      omega (
        arith,
        few,
        length-map new (λ (l : LiveFact). l.certificate),
        length-map old (λ (l : LiveFact). l.certificate),
        length-map change.born (owned_by k),
        length-append (certificates_of old) (map (owned_by k) change.born),
      )

  -- a fact that waits is left to another structure, or is dropped, and isn't counted among those that weren't given
  module _ (leave : (l : LiveFact) → Contains old l → l.waits ≡ true → l.certificate.structure ≡ k → ¬ (Contains after l.certificate.placed)) where
    abbrev waits : LiveFact → Bool
    waits l = l.waits

    abbrev given : Placed → Bool
    given p = not (is_ungiven k old p)

    is_given : (l : LiveFact) → Contains old l → l.waits ≡ true → l.certificate.structure ≡ k → is_ungiven k old l.certificate.placed ≡ false
    is_given l there waits own = elim (cases_Bool (is_ungiven k old l.certificate.placed)) [
      | inr no_other ↦ no_other
      | inl other ↦
          let u = some-ungiven k old l.certificate.placed other in
          let same = once-same old once k l.certificate.placed.part l.certificate.placed.fact.form u.fact l u.there there u.of (is-at k l.certificate.placed l (ap (λ n. owned_by n l.certificate.placed) own)) in
          let clash : true ≡ false = sym waits ∙ ap (λ (x : LiveFact). x.waits) (sym same) ∙ u.waits_not in
          absurd cc
    ]

    left_or_dropped : (c : Certificate) → Contains (map (λ (l : LiveFact). l.certificate) (filter waits old)) c → Contains (map (λ (l : LiveFact). l.certificate) (filter waits new) ++ map (owned_by k) (filter given change.dropped)) c
    left_or_dropped c h =
        let l = contains_mapped (λ (x : LiveFact). x.certificate) (filter waits old) c h in
        let passed = filter-sound waits old l.0 l.1 in
        elim (cases_eq l.0.certificate.structure k) [
          | inr other ↦
              Contains-append_left _ _ c
              (subst (λ (x : Certificate). Contains (map (λ (l : LiveFact). l.certificate) (filter waits new)) x) (sym l.2)
              (contains_map (λ (x : LiveFact). x.certificate) (filter waits new) l.0 (filter-complete waits new l.0 ((told.others l.0 other).0 passed.0) passed.1)))
          | inl own ↦
              let p = l.0.certificate.placed in
              let is : owned_by k p ≡ c = ap (λ n. owned_by n p) (sym own) ∙ sym l.2 in
              let dropped = ((dropped_all before after change changed).each p).1 (was_there l.0 passed.0 own, leave l.0 passed.0 passed.1 own) in
              let test : given p ≡ true = ap not (is_given l.0 passed.0 passed.1 own) in
              Contains-append_right _ _ c (subst (λ (x : Certificate). Contains (map (owned_by k) (filter given change.dropped)) x) is (contains_map (owned_by k) (filter given change.dropped) p (filter-complete given change.dropped p dropped test)))
        ]

    pub waiting_told : waiting_count old + ungiven k old change.dropped ≤ waiting_count new + length change.dropped
    waiting_told =
        let few = no_longer (map (λ (l : LiveFact). l.certificate) (filter waits old)) (map (λ (l : LiveFact). l.certificate) (filter waits new) ++ map (owned_by k) (filter given change.dropped))
        (distinct_passed (λ (l : LiveFact). l.certificate) waits old (certificates_distinct old once)) left_or_dropped in
        omega (
          arith,
          few,
          length-append (map (λ (l : LiveFact). l.certificate) (filter waits new)) (map (owned_by k) (filter given change.dropped)),
          length-map (filter waits old) (λ (l : LiveFact). l.certificate),
          length-map (filter waits new) (λ (l : LiveFact). l.certificate),
          length-map (filter given change.dropped) (owned_by k),
          length-filter waits old,
          length-filter waits new,
          length-filter (is_ungiven k old) change.dropped,
          length-filter_both (is_ungiven k old) given (λ p. refl) change.dropped,
        )
