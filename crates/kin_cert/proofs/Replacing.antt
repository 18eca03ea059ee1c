-- A born fact in the stead of a dropped one.
use Rattle.std.proofs.Common.{◌≡◌, ℕ, suc, ◌+◌, ◌<◌, ℤ, List, ◌∷◌, length, get_or, set, Option, Some, None, refl, sym, ap, subst, ◌∙◌, inl, inr, arith}
use Rattle.kin_algebra.proofs.Members.{contains_head}
use Rattle.std.proofs.lemmas.Option.{slice_get-get_or, same_Some}
use Rattle.std.proofs.lemmas.List.{get_or_default}
use Rattle.std.specs.List.{Contains}
use Rattle.std.specs.Ordering.{nat_cmp}
use Rattle.std.specs.FinMap.{FinMap}
use Rattle.slab.proofs.SlabLemmas.{Contains-cons, Contains-cons_cases}
use Rattle.kin_num.specs.declared.instant.Moment.{Moment}
use Rattle.kin_motion.specs.declared.fact.Placed.{Placed}
use Rattle.kin_motion.specs.Live.{Certificate}
use Rattle.kin_motion.specs.Scene.{Scene}
use Rattle.kin_cert.specs.Entries.{Entry}
use Rattle.kin_cert.specs.declared.entry.Vacancy.{Vacancy}
use Rattle.kin_fail.specs.declared.owned.Owned.{Owned}
use Rattle.kin_cert.specs.Facts.{LiveFact, NoneAlike}
use Rattle.kin_cert.specs.Applied.{IsOf, IsLiveIn, MayApply, IsBorn, HasApplied}
use Rattle.kin_fail.specs.Rank.{owned_rank}
use Rattle.kin_cert.specs.Layout.{entry_at, live_fact, live_in, held, fresh, timed, HasSlot, IsThere, IsTakenOver, IsTimed, HasReplaced, HasBorn}
use Rattle.kin_cert.proofs.Changes.{is-at, once-same}
use Rattle.kin_cert.proofs.Slots.{live-from, live-set-count}
use Rattle.kin_cert.proofs.Tables.{at-rank, rank-of-live, table-once, has-slot, gained-exactly, replaced-exactly}

-- a live fact has an entry
pub live-there : (slots : List (Option Entry)) (s : ℕ) (p : Placed) → IsLiveIn (live_in slots) s p → IsThere slots (owned_rank (held s p))
live-there slots s p (l, there, is) = let h = live-from slots l there in (h.id, (h.entry, h.there, rank-of-live slots s p.part p.fact.form l (is-at s p l is) h))

-- a slot that is written twice
pub twice : (slots after later : List (Option Entry)) (id : ℕ) (o o' : Option Entry) → HasSlot slots after id o → HasSlot after later id o' → HasSlot slots later id o'
twice slots after later id o o' first second = record { changed = second.changed; others = λ j n. second.others j n ∙ first.others j n }

-- the slot of a fact that is taken over
pub taken-slot : (slots after : List (Option Entry)) (rank : List ℤ) (o : Owned) (vacancy : Vacancy) → IsTakenOver slots rank o vacancy after → HasSlot slots after vacancy.id (Some (fresh o))
taken-slot slots after rank o vacancy k =
    subst (λ (xs : List (Option Entry)). HasSlot slots xs vacancy.id (Some (fresh o))) (sym k.slots) (has-slot slots vacancy.id k.vacancy_of.entry (Some (fresh o)) k.vacancy_of.there)

module _ (s : ℕ) (scene : Moment → Scene) (now : Moment) (p : Placed) (slots after later : List (Option Entry)) (id : ℕ) (moments moments_later : FinMap nat_cmp Moment)
    (there : entry_at after id ≡ Some (fresh (held s p))) (timed_so : IsTimed scene now (held s p) id after moments later moments_later) where
  abbrev entry : Entry
  entry = timed (fresh (held s p)) timed_so.fails

  is-born : IsBorn s scene now p (live_fact entry)
  is-born = record { is = refl; fails = timed_so.first; waits_not = refl }

  later-count : length (live_in later) ≡ length (live_in after)
  later-count = ap (λ (xs : List (Option Entry)). length (live_in xs)) timed_so.slots_are ∙ live-set-count after id (fresh (held s p)) entry there

  later-slot : HasSlot after later id (Some entry)
  later-slot = subst (λ (xs : List (Option Entry)). HasSlot after xs id (Some entry)) (sym timed_so.slots_are) (has-slot after id (fresh (held s p)) (Some entry) there)

  pub has-born : entry_at slots id ≡ None → HasSlot slots after id (Some (fresh (held s p))) → HasBorn s scene now p (live_in slots) (live_in later)
  has-born vacant slot =
      record {
        fact = live_fact entry;
        is_born = is-born;
        exactly = gained-exactly slots later id entry vacant (twice slots after later id (Some (fresh (held s p))) (Some entry) slot later-slot);
      }

  pub born-count : length (live_in after) ≡ length (live_in slots) + 1 → length (live_in later) ≡ length (live_in slots) + 1
  born-count more = later-count ∙ more

  pub has-replaced : (dropped : Placed) (vacancy : Vacancy) → vacancy.id ≡ id → IsTakenOver slots (owned_rank (held s dropped)) (held s p) vacancy after → HasReplaced s scene now dropped p (live_in slots) (live_in later)
  has-replaced dropped vacancy id_is k =
      let e = k.vacancy_of.entry in
      let at_id : entry_at slots id ≡ Some e = ap (entry_at slots) (sym id_is) ∙ k.vacancy_of.there in
      let after_is : after ≡ set slots id (Some (fresh (held s p))) = k.slots ∙ ap (λ (j : ℕ). set slots j (Some (fresh (held s p)))) id_is in
      let slot : HasSlot slots after id (Some (fresh (held s p))) =
      subst (λ (xs : List (Option Entry)). HasSlot slots xs id (Some (fresh (held s p)))) (sym after_is) (has-slot slots id e (Some (fresh (held s p))) at_id) in
      let count : length (live_in after) ≡ length (live_in slots) = ap (λ (xs : List (Option Entry)). length (live_in xs)) after_is ∙ live-set-count slots id e (fresh (held s p)) at_id in
      record {
        fact = live_fact entry;
        is_born = is-born;
        free = λ l c of.
            let h = live-from slots l c in
            let h_id : h.id ≡ vacancy.id = k.free h.id h.entry h.there (rank-of-live slots s p.part p.fact.form l of h) in
            let h_is : e ≡ h.entry = same_Some e h.entry (sym k.vacancy_of.there ∙ ap (entry_at slots) (sym h_id) ∙ h.there) in
            subst (λ (x : LiveFact). IsOf s dropped x) (ap live_fact h_is ∙ h.is) (at-rank s dropped.part dropped.fact.form e k.vacancy_of.ranked);
        exactly = replaced-exactly slots later k.once id e entry at_id (twice slots after later id (Some (fresh (held s p))) (Some entry) slot later-slot) s dropped.part dropped.fact.form
            (at-rank s dropped.part dropped.fact.form e k.vacancy_of.ranked);
        count = later-count ∙ count;
        once = table-once slots k.once;
      }

-- a dropped fact is live
module _ (s : ℕ) (d : Placed) (ds bs : List Placed) (old : List LiveFact) (may : MayApply s (record { dropped = d ∷ ds; born = bs }) old) (once : NoneAlike old) where
  pub live-of : (i : ℕ) → i < length (d ∷ ds) → IsLiveIn old s (get_or (d ∷ ds) i d)
  live-of i lt = may.dropped_live i d lt

  -- and no later one is the first one
  pub later-apart : (i : ℕ) → i < length ds → (l : LiveFact) → Contains old l → IsOf s d l → IsOf s (get_or ds i d) l → ⊥
  later-apart i lt l c of_d of =
      let k = live-of 0 (omega arith) in
      let m = live-of (suc i) (omega (arith, lt)) in
      let k_is : k.0 ≡ l = once-same old once s d.part d.fact.form k.0 l k.1 c (is-at s d k.0 k.2) of_d in
      let m_is : m.0 ≡ l = once-same old once s (get_or ds i d).part (get_or ds i d).fact.form m.0 l m.1 c (is-at s (get_or ds i d) m.0 m.2) of in
      let same : d ≡ get_or ds i d = ap (λ (x : Certificate). x.placed) (sym k.2 ∙ ap (λ (x : LiveFact). x.certificate) (k_is ∙ sym m_is) ∙ m.2) in
      let e : 0 ≡ suc i = may.dropped_once 0 (suc i) d refl (slice_get-get_or (d ∷ ds) (suc i) d (omega (arith, lt)) ∙ ap (λ (x : Placed). Some x) (sym same)) in
      absurd (omega (arith, e))

-- no later born fact has the owner and form of the first one
pub born-apart : (s : ℕ) (scene : Moment → Scene) (now : Moment) (b : Placed) (ds bs : List Placed) (old : List LiveFact) → MayApply s (record { dropped = ds; born = b ∷ bs }) old → (l : LiveFact) → IsBorn s scene now b l → (q : Placed) → Contains bs q → IsOf s q l → ⊥
born-apart s scene now b ds bs old may l born q (j, lt, is) of =
    let at = is-at s b l born.is in
    let q_is : q ≡ get_or bs j b = sym is ∙ get_or_default bs j q b lt in
    may.born_once 0 (suc j) b (omega arith) (omega (arith, lt)) (sym at.part_is ∙ of.part_is ∙ ap (λ (x : Placed). x.part) q_is) (sym at.form_is ∙ of.form_is ∙ ap (λ (x : Placed). x.fact.form) q_is)

-- the rest of a change after its first pair
module _ (s : ℕ) (scene : Moment → Scene) (now : Moment) (d b : Placed) (ds bs : List Placed) (old mid : List LiveFact)
    (may : MayApply s (record { dropped = d ∷ ds; born = b ∷ bs }) old) (did : HasReplaced s scene now d b old mid) where
  -- no later dropped fact has the owner and form of the born one
  pub apart-born : (q : Placed) → Contains ds q → IsOf s q did.fact → ⊥
  apart-born q (j, lt, is) of =
      let at = is-at s b did.fact did.is_born.is in
      let of' : IsOf s (get_or ds j d) did.fact = subst (λ (x : Placed). IsOf s x did.fact) (sym is ∙ get_or_default ds j q d lt) of in
      let m = live-of s d ds (b ∷ bs) old may did.once (suc j) (omega (arith, lt)) in
      let m_at = is-at s (get_or ds j d) m.0 m.2 in
      let of_b : IsOf s b m.0 = record { structure_is = m_at.structure_is; part_is = m_at.part_is ∙ sym of'.part_is ∙ at.part_is; form_is = m_at.form_is ∙ sym of'.form_is ∙ at.form_is } in
      later-apart s d ds (b ∷ bs) old may did.once j lt m.0 m.1 (did.free m.0 m.1 of_b) m_at

  pub rest-may : MayApply s (record { dropped = ds; born = bs }) mid
  rest-may =
      record {
        dropped_live = λ i x lt.
            let m = live-of s d ds (b ∷ bs) old may did.once (suc i) (omega (arith, lt)) in
            let x_is : get_or ds i d ≡ get_or ds i x = get_or_default ds i d x lt in
            subst (λ (y : Placed). IsLiveIn mid s y) x_is (m.0, (did.exactly m.0).1 (inl (m.1, λ of_d. later-apart s d ds (b ∷ bs) old may did.once i lt m.0 m.1 of_d (is-at s (get_or ds i d) m.0 m.2))), m.2);
        dropped_once = λ i j x at_i at_j. let e : suc i ≡ suc j = may.dropped_once (suc i) (suc j) x at_i at_j in omega (arith, e);
        born_free = λ l c (q, q_born, of). elim ((did.exactly l).0 c) [
          | inl (was, not_d) ↦
              let (p, p_dropped, p_of) = may.born_free l was (q, Contains-cons b q bs q_born, of) in
              elim (Contains-cons_cases d p ds p_dropped) [
                | inl e ↦ absurd (not_d (subst (λ (x : Placed). IsOf s x l) (sym e) p_of))
                | inr rest ↦ (p, rest, p_of)
              ]
          | inr l_is ↦ absurd (born-apart s scene now b (d ∷ ds) bs old may did.fact did.is_born q q_born (subst (λ (x : LiveFact). IsOf s q x) l_is of))
        ];
        born_once = λ i j x lt in_born. may.born_once (suc i) (suc j) x (omega (arith, lt)) (omega (arith, in_born));
      }

  pub rest-did : (after : List LiveFact) → HasApplied s (record { dropped = ds; born = bs }) scene now mid after → HasApplied s (record { dropped = d ∷ ds; born = b ∷ bs }) scene now old after
  rest-did after app =
      record {
        kept = λ l c n. app.kept l ((did.exactly l).1 (inl (c, λ of. n (d, contains_head d ds, of)))) (λ (p, p_there, of). n (p, Contains-cons d p ds p_there, of));
        born = λ p c. elim (Contains-cons_cases b p bs c) [
          | inl e ↦ (did.fact, app.kept did.fact ((did.exactly did.fact).1 (inr refl)) (λ (q, q_there, of). apart-born q q_there of), subst (λ (x : Placed). IsBorn s scene now x did.fact) e did.is_born)
          | inr rest ↦ app.born p rest
        ];
        only = λ l c. elim (app.only l c) [
          | inl (there, n) ↦ elim ((did.exactly l).0 there) [
            | inl (was, not_d) ↦ inl (
              was,
              λ (p, p_there, of). elim (Contains-cons_cases d p ds p_there) [
                | inl e ↦ not_d (subst (λ (x : Placed). IsOf s x l) (sym e) of)
                | inr rest ↦ n (p, rest, of)
              ],
            )
            | inr l_is ↦ inr (b, contains_head b bs, subst (λ (x : LiveFact). IsBorn s scene now b x) (sym l_is) did.is_born)
          ]
          | inr (p, p_there, is) ↦ inr (p, Contains-cons b p bs p_there, is)
        ];
        count = omega (arith, app.count, did.count);
      }
