use Rattle.std.proofs.Common.{◌≡◌, true, false, inl, inr, ℕ, List, Option, Some, None, refl, sym, subst, ◌∙◌, rules}
use Rattle.std.specs.List.{Contains}
use Rattle.kin_algebra.proofs.Members.{contains_none}
use Rattle.kin_num.specs.declared.instant.Moment.{Moment}
use Rattle.kin_num.specs.Order.{IsEarlier}
use Rattle.kin_queue.specs.Agenda.{IsLeast, IsNext}
use Rattle.kin_cert.specs.Schedules.{just_after}
use Rattle.kin_cert.proofs.Schedules.{Moments, some_listed, only_listed, mapped_least, listed_least}
use Rattle.kin_cert.proofs.schedule.Schedule.least.Goals as goal

pub returns-else-is_empty : goal.returns-else-is_empty
returns-else-is_empty c =
    let m = c.self.inside.queue.moments in
    let ids = c.self.inside.soon in
    let empty : IsNext c.self.inside.queue.moments None = subst (λ (o : Option (ℕ × Moment)). IsNext c.self.inside.queue.moments o) (sym c.first.ensures.value ∙ c.in_default.is) c.first.ensures.least in
    let some = some_listed ids (λ e. let yes : false ≡ true = c.if-is_empty.ensures.1 e in cc) in
    (some.0, subst (λ (w : Moment). IsLeast c.args.self.now (some.0, w)) (sym c.moment_after.ensures) (subst (λ (x : Moments). IsLeast x (some.0, just_after c.self.inside.soon_from)) c.self.view_is (only_listed m (just_after c.self.inside.soon_from) ids c.self.invariant c.recall_canonical.ensures empty some.0 some.1)))

pub returns-then-comes_first : goal.returns-then-comes_first
returns-then-comes_first c =
    let m = c.self.inside.queue.moments in
    let ids = c.self.inside.soon in
    let next = c.in-Some.next in
    let first : IsNext c.self.inside.queue.moments (Some c.in-Some.next) = subst (λ (o : Option (ℕ × Moment)). IsNext c.self.inside.queue.moments o) (sym c.first.ensures.value ∙ c.in-Some.is) c.first.ensures.least in
    let earlier : (q : ℕ) → Contains c.self.inside.soon q → IsEarlier c.in-Some.next.1 (just_after c.self.inside.soon_from) = λ q there. elim (c.if-comes_first.ensures.yes refl) [
      | inl e ↦ absurd (contains_none q (subst (λ (xs : List ℕ). Contains xs q) e there))
      | inr h ↦ h
    ] in
    (next.0, subst (λ (x : Moments). IsLeast x c.in-Some.next) c.self.view_is (mapped_least m (just_after c.self.inside.soon_from) ids c.self.invariant c.recall_canonical.ensures next first earlier))

pub returns-else-comes_first : goal.returns-else-comes_first
returns-else-comes_first c =
    let m = c.self.inside.queue.moments in
    let ids = c.self.inside.soon in
    let first : IsNext c.self.inside.queue.moments (Some c.in-Some.next) = subst (λ (o : Option (ℕ × Moment)). IsNext c.self.inside.queue.moments o) (sym c.first.ensures.value ∙ c.in-Some.is) c.first.ensures.least in
    let other = c.if-comes_first.ensures.other refl in
    let some = some_listed ids (λ e. other.0 e) in
    (some.0, subst (λ (w : Moment). IsLeast c.args.self.now (some.0, w)) (sym c.moment_after-else-comes_first.ensures) (subst (λ (x : Moments). IsLeast x (some.0, just_after c.self.inside.soon_from)) c.self.view_is (listed_least m (just_after c.self.inside.soon_from) ids c.self.invariant c.recall_canonical.ensures c.in-Some.next first other.1 some.0 some.1)))

pub returns-then-is_empty : goal.returns-then-is_empty
returns-then-is_empty c = search rules
