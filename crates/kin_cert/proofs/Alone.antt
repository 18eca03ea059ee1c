-- A dropped fact, or a born one, that goes by itself, and the rest of its change.
use Rattle.std.proofs.Common.{◌≡◌, ℕ, suc, ◌+◌, ◌*◌, ◌≤◌, ◌↔◌, cond, List, ◌∷◌, length, get_or, refl, sym, ap, subst, ◌∙◌, inl, inr, arith}
use Rattle.kin_algebra.proofs.Members.{contains_head}
use Rattle.std.proofs.lemmas.List.{get_or_default}
use Rattle.std.proofs.lemmas.Nat.{mul-le}
use Rattle.std.specs.List.{Contains}
use Rattle.slab.proofs.SlabLemmas.{Contains-cons, Contains-cons_cases}
use Rattle.kin_num.specs.declared.instant.Moment.{Moment}
use Rattle.kin_motion.specs.declared.fact.Placed.{Placed}
use Rattle.kin_motion.specs.Scene.{Scene}
use Rattle.kin_cert.specs.Facts.{LiveFact, NoneAlike}
use Rattle.kin_cert.specs.Applied.{IsOf, IsLiveIn, MayApply, IsBorn, HasApplied}
use Rattle.kin_cert.specs.Cost.{TakesAtMost, is_ungiven, ungiven, change_cost}
use Rattle.kin_cert.specs.Layout.{HasBorn, IsPaid}
use Rattle.kin_cert.proofs.Changes.{is-at}
use Rattle.kin_cert.proofs.Costs.{enough}
use Rattle.kin_cert.proofs.Replacing.{live-of, later-apart, born-apart}
use Rattle.kin_cert.proofs.Paying.{share}
use Rattle.kin_cert.proofs.Ungiven.{ungiven-cons, fewer-ungiven}

-- the first dropped fact is gone
module _ (s : ℕ) (d : Placed) (ds bs : List Placed) (old mid : List LiveFact)
    (may : MayApply s (record { dropped = d ∷ ds; born = bs }) old) (once : NoneAlike old) (rest : (l : LiveFact) → Contains mid l ↔ (Contains old l × ¬ (IsOf s d l))) (count : length mid + 1 ≡ length old) where
  pub dropped-may : MayApply s (record { dropped = ds; born = bs }) mid
  dropped-may =
      record {
        dropped_live = λ i x lt.
            let m = live-of s d ds bs old may once (suc i) (omega (arith, lt)) in
            let x_is : get_or ds i d ≡ get_or ds i x = get_or_default ds i d x lt in
            subst (λ (y : Placed). IsLiveIn mid s y) x_is (m.0, (rest m.0).1 (m.1, λ of_d. later-apart s d ds bs old may once i lt m.0 m.1 of_d (is-at s (get_or ds i d) m.0 m.2)), m.2);
        dropped_once = λ i j x at_i at_j. let e : suc i ≡ suc j = may.dropped_once (suc i) (suc j) x at_i at_j in omega (arith, e);
        born_free = λ l c among.
            let was = (rest l).0 c in
            let (p, p_dropped, p_of) = may.born_free l was.0 among in
            elim (Contains-cons_cases d p ds p_dropped) [
              | inl e ↦ absurd (was.1 (subst (λ (x : Placed). IsOf s x l) (sym e) p_of))
              | inr later ↦ (p, later, p_of)
            ];
        born_once = may.born_once;
      }

  pub dropped-did : (scene : Moment → Scene) (now : Moment) (after : List LiveFact) → HasApplied s (record { dropped = ds; born = bs }) scene now mid after → HasApplied s (record { dropped = d ∷ ds; born = bs }) scene now old after
  dropped-did scene now after app =
      record {
        kept = λ l c n. app.kept l ((rest l).1 (c, λ of. n (d, contains_head d ds, of))) (λ (p, p_there, of). n (p, Contains-cons d p ds p_there, of));
        born = app.born;
        only = λ l c. elim (app.only l c) [
          | inl (there, n) ↦
              let was = (rest l).0 there in
              inl (
                was.0,
                λ (p, p_there, of). elim (Contains-cons_cases d p ds p_there) [
                  | inl e ↦ was.1 (subst (λ (x : Placed). IsOf s x l) (sym e) of)
                  | inr later ↦ n (p, later, of)
                ],
              )
          | inr is ↦ inr is
        ];
        count = omega (arith, app.count, count);
      }

  pub dropped-paid : (n : ℕ) (all : ℕ → ℕ) (before at after : ℕ) → length old ≤ n → IsPaid n all (change_cost s (record { dropped = d ∷ ds; born = bs }) old) before at
      → TakesAtMost (length old) (λ r. cond (is_ungiven s old d) r 0) at after → IsPaid n all (change_cost s (record { dropped = ds; born = bs }) mid) before after
  dropped-paid n all before at after le paid one r e =
      let so_far = paid r e in
      let cost = one r (enough (length old) n r le e) in
      let less = fewer-ungiven s old mid ds (λ p there l l_there of. ((rest l).0 l_there).0) in
      let fewer : ungiven s mid ds * r ≤ ungiven s old ds * r = mul-le (ungiven s mid ds) r (ungiven s old ds) r less (omega arith) in
      let first = share (is_ungiven s old d) r in
      let sum : ungiven s old (d ∷ ds) * r ≡ (cond (is_ungiven s old d) 1 0 + ungiven s old ds) * r = ap (λ (k : ℕ). k * r) (ungiven-cons s old d ds) in
      omega (arith, so_far, cost, fewer, first, sum)

-- the first born fact is live
module _ (s : ℕ) (scene : Moment → Scene) (now : Moment) (b : Placed) (ds bs : List Placed) (old mid : List LiveFact)
    (may : MayApply s (record { dropped = ds; born = b ∷ bs }) old) (free : (l : LiveFact) → Contains old l → ¬ (IsOf s b l)) (did : HasBorn s scene now b old mid) (count : length mid ≡ length old + 1) where
  -- no fact that is to be dropped has its owner and form
  not-dropped : (q : Placed) → Contains ds q → IsOf s q did.fact → ⊥
  not-dropped q (j, lt, is) of =
      let at = is-at s b did.fact did.is_born.is in
      let m = may.dropped_live j q lt in
      let m_at = is-at s (get_or ds j q) m.0 m.2 in
      let of' : IsOf s (get_or ds j q) did.fact = subst (λ (x : Placed). IsOf s x did.fact) (sym is) of in
      free m.0 m.1 (record { structure_is = m_at.structure_is; part_is = m_at.part_is ∙ sym of'.part_is ∙ at.part_is; form_is = m_at.form_is ∙ sym of'.form_is ∙ at.form_is })

  pub born-may : MayApply s (record { dropped = ds; born = bs }) mid
  born-may =
      record {
        dropped_live = λ i x lt. let m = may.dropped_live i x lt in (m.0, (did.exactly m.0).1 (inl m.1), m.2);
        dropped_once = may.dropped_once;
        born_free = λ l c (q, q_born, of). elim ((did.exactly l).0 c) [
          | inl was ↦ may.born_free l was (q, Contains-cons b q bs q_born, of)
          | inr l_is ↦ absurd (born-apart s scene now b ds bs old may did.fact did.is_born q q_born (subst (λ (x : LiveFact). IsOf s q x) l_is of))
        ];
        born_once = λ i j x lt in_born. may.born_once (suc i) (suc j) x (omega (arith, lt)) (omega (arith, in_born));
      }

  pub born-did : (after : List LiveFact) → HasApplied s (record { dropped = ds; born = bs }) scene now mid after → HasApplied s (record { dropped = ds; born = b ∷ bs }) scene now old after
  born-did after app =
      record {
        kept = λ l c n. app.kept l ((did.exactly l).1 (inl c)) n;
        born = λ p c. elim (Contains-cons_cases b p bs c) [
          | inl e ↦ (did.fact, app.kept did.fact ((did.exactly did.fact).1 (inr refl)) (λ (q, q_there, of). not-dropped q q_there of), subst (λ (x : Placed). IsBorn s scene now x did.fact) e did.is_born)
          | inr later ↦ app.born p later
        ];
        only = λ l c. elim (app.only l c) [
          | inl (there, n) ↦ elim ((did.exactly l).0 there) [
            | inl was ↦ inl (was, n)
            | inr l_is ↦ inr (b, contains_head b bs, subst (λ (x : LiveFact). IsBorn s scene now b x) (sym l_is) did.is_born)
          ]
          | inr (p, p_there, is) ↦ inr (p, Contains-cons b p bs p_there, is)
        ];
        count = omega (arith, app.count, count);
      }

  pub born-paid : (n : ℕ) (all : ℕ → ℕ) (before at after : ℕ) → length old ≤ n → IsPaid n all (change_cost s (record { dropped = ds; born = b ∷ bs }) old) before at
      → TakesAtMost (length old) (λ r. r + 1) at after → IsPaid n all (change_cost s (record { dropped = ds; born = bs }) mid) before after
  born-paid n all before at after le paid one r e =
      let so_far = paid r e in
      let cost = one r (enough (length old) n r le e) in
      let less = fewer-ungiven s old mid ds (λ p there l l_there of. elim ((did.exactly l).0 l_there) [
        | inl was ↦ was
        | inr is ↦ absurd (not-dropped p there (subst (λ (x : LiveFact). IsOf s p x) is of))
      ]) in
      let fewer : ungiven s mid ds * r ≤ ungiven s old ds * r = mul-le (ungiven s mid ds) r (ungiven s old ds) r less (omega arith) in
      omega (arith, so_far, cost, fewer)
