use Rattle.std.proofs.Common.{◌≡◌, Option, Some, None, refl, sym, subst, MatchOption, IfSome, IsNone}
use Rattle.kin_num.specs.declared.instant.Shape.{Shape}
use Rattle.kin_num.specs.Quadratic.{Quadratic}
use Rattle.kin_num.specs.Order.{IsLess}
use Rattle.kin_instant.specs.declared.roots.Roots.TheVariants.{Nowhere, One, Two, All}
use Rattle.kin_instant.specs.Roots.{AreRootsOf}
use Rattle.kin_instant.specs.Places.{IsNextRoot}
use Rattle.kin_instant.proofs.Kept.{keeps}
use Rattle.kin_instant.proofs.Nexts.{IsEmpty, nowhere, everywhere, some_next, two_counted, one_next, one_none, first_next, second_next, two_none}
use Rattle.kin_instant.proofs.next.next_root.Goals as goal

module _ (p : Quadratic) (w r s : Shape) (h : AreRootsOf p (Two r s)) where
  first : (t : Shape) → (t ≡ r) × IsLess w r → IsNextRoot p w t
  first t m = subst (IsNextRoot p w) (sym m.0) (first_next p w r s h m.1)

  second : ¬ (IsLess w r) → (t : Shape) → (t ≡ s) × IsLess w s → IsNextRoot p w t
  second n t m = subst (IsNextRoot p w) (sym m.0) (second_next p w r s h n m.1)

  next_of : ¬ (IsLess w r) → (o : Option Shape) → MatchOption o (¬ (IsLess w s)) (λ t. (t ≡ s) × IsLess w s) → IfSome o (IsNextRoot p w)
  next_of n None m = tt
  next_of n (Some t) m = second n t m

  none_of : ¬ (IsLess w r) → (o : Option Shape) → MatchOption o (¬ (IsLess w s)) (λ t. (t ≡ s) × IsLess w s) → (IsNone o → IsEmpty p w) × (IsEmpty p w → IsNone o)
  none_of n None m = (λ e. two_none p w r s h n m, λ k. refl)
  none_of n (Some t) m = (λ e. absurd cc, λ k. absurd (some_next p w t (second n t m) (two_counted p w r s h) k))

module _ (p : Quadratic) (w r : Shape) (h : AreRootsOf p (One r)) where
  only_next : (o : Option Shape) → MatchOption o (¬ (IsLess w r)) (λ t. (t ≡ r) × IsLess w r) → IfSome o (IsNextRoot p w)
  only_next None m = tt
  only_next (Some t) m = subst (IsNextRoot p w) (sym m.0) (one_next p w r h m.1)

  only_none : (o : Option Shape) → MatchOption o (¬ (IsLess w r)) (λ t. (t ≡ r) × IsLess w r) → IsNone o → IsEmpty p w
  only_none None m e = one_none p w r h m
  only_none (Some t) m e = absurd cc

pub returns-in-Nowhere-clause-kept : goal.returns-in-Nowhere-clause-kept
returns-in-Nowhere-clause-kept c =
    let k = subst (AreRootsOf c.args.p.now) c.in-Nowhere.is (let x : AreRootsOf c.args.p.now c.roots.result = record { canonical = c.roots.ensures.canonical; exact = c.roots.ensures.exact; rising = c.roots.ensures.rising; number = c.roots.ensures.number } in x) in
    keeps c.args.p.now c.args.w.now Nowhere k None tt (λ e. nowhere c.args.p.now c.args.w.now k)

pub returns-in-All-clause-kept : goal.returns-in-All-clause-kept
returns-in-All-clause-kept c =
    let k = subst (AreRootsOf c.args.p.now) c.in-All.is (let x : AreRootsOf c.args.p.now c.roots.result = record { canonical = c.roots.ensures.canonical; exact = c.roots.ensures.exact; rising = c.roots.ensures.rising; number = c.roots.ensures.number } in x) in
    keeps c.args.p.now c.args.w.now All k None tt (λ e. everywhere c.args.p.now c.args.w.now k)

pub returns-in-One-clause-kept : goal.returns-in-One-clause-kept
returns-in-One-clause-kept c =
    let k : AreRootsOf c.args.p.now (One c.in-One.r) = record { canonical = c.in-One.ensures.canonical; exact = c.in-One.ensures.exact; rising = c.in-One.ensures.rising; number = c.in-One.ensures.number } in
    keeps c.args.p.now c.args.w.now (One c.in-One.r) k c.if_later.result (only_next c.args.p.now c.args.w.now c.in-One.r k c.if_later.result c.if_later.ensures) (only_none c.args.p.now c.args.w.now c.in-One.r k c.if_later.result c.if_later.ensures)

pub returns-in-Some-clause-kept : goal.returns-in-Some-clause-kept
returns-in-Some-clause-kept c =
    keeps c.args.p.now c.args.w.now (Two c.in-Two.r c.in-Two.s) (record { canonical = c.in-Two.ensures.canonical; exact = c.in-Two.ensures.exact; rising = c.in-Two.ensures.rising; number = c.in-Two.ensures.number }) (Some c.in-Some.r) (first c.args.p.now c.args.w.now c.in-Two.r c.in-Two.s (record { canonical = c.in-Two.ensures.canonical; exact = c.in-Two.ensures.exact; rising = c.in-Two.ensures.rising; number = c.in-Two.ensures.number }) c.in-Some.r c.in-Some.ensures) (λ e. absurd cc)

pub returns-in-None-clause-kept : goal.returns-in-None-clause-kept
returns-in-None-clause-kept c =
    keeps c.args.p.now c.args.w.now (Two c.in-Two.r c.in-Two.s) (record { canonical = c.in-Two.ensures.canonical; exact = c.in-Two.ensures.exact; rising = c.in-Two.ensures.rising; number = c.in-Two.ensures.number }) c.if_later-in-None.result
    (next_of c.args.p.now c.args.w.now c.in-Two.r c.in-Two.s (record { canonical = c.in-Two.ensures.canonical; exact = c.in-Two.ensures.exact; rising = c.in-Two.ensures.rising; number = c.in-Two.ensures.number }) c.in-None.ensures c.if_later-in-None.result c.if_later-in-None.ensures)
    (none_of c.args.p.now c.args.w.now c.in-Two.r c.in-Two.s (record { canonical = c.in-Two.ensures.canonical; exact = c.in-Two.ensures.exact; rising = c.in-Two.ensures.rising; number = c.in-Two.ensures.number }) c.in-None.ensures c.if_later-in-None.result c.if_later-in-None.ensures).0

pub returns-in-Some-clause-next : goal.returns-in-Some-clause-next
returns-in-Some-clause-next c = first c.args.p.now c.args.w.now c.in-Two.r c.in-Two.s (record { canonical = c.in-Two.ensures.canonical; exact = c.in-Two.ensures.exact; rising = c.in-Two.ensures.rising; number = c.in-Two.ensures.number }) c.in-Some.r c.in-Some.ensures

pub returns-in-None-clause-next : goal.returns-in-None-clause-next
returns-in-None-clause-next c = next_of c.args.p.now c.args.w.now c.in-Two.r c.in-Two.s (record { canonical = c.in-Two.ensures.canonical; exact = c.in-Two.ensures.exact; rising = c.in-Two.ensures.rising; number = c.in-Two.ensures.number }) c.in-None.ensures c.if_later-in-None.result c.if_later-in-None.ensures

pub returns-in-None-clause-none : goal.returns-in-None-clause-none
returns-in-None-clause-none c = none_of c.args.p.now c.args.w.now c.in-Two.r c.in-Two.s (record { canonical = c.in-Two.ensures.canonical; exact = c.in-Two.ensures.exact; rising = c.in-Two.ensures.rising; number = c.in-Two.ensures.number }) c.in-None.ensures c.if_later-in-None.result c.if_later-in-None.ensures
