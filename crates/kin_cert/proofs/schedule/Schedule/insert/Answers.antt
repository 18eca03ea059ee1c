use Rattle.std.proofs.Common.{◌≡◌, ◌⊎◌, inl, inr, ℕ, List, [], None, OnOk, OnErr, Result, Ok, Err, refl, sym, ap, subst, ◌∙◌}
use Rattle.std.specs.FinMap.{get, insert}
use Rattle.kin_algebra.proofs.Results.{from_two}
use Rattle.kin_num.specs.declared.instant.Moment.{Moment}
use Rattle.kin_queue.specs.Agenda.{Agenda}
use Rattle.kin_cert.specs.Schedules.{with_each, AreBeside, just_after}
use Rattle.kin_cert.proofs.Schedules.{Moments, not_listed, not_mapped, mapped_beside, mapped_is, pushed_beside, pushed_is, at_either}
use Rattle.kin_cert.proofs.Costs.{takes_more, none_taken}
use Rattle.kin_cert.proofs.QueueSizes.{fewer_than}
use Rattle.kin_cert.proofs.schedule.Schedule.insert.Goals as goal

pub insert-requires : goal.insert-requires
insert-requires g c =
    let free : get (with_each c.self.inside.queue.moments (just_after c.self.inside.soon_from) c.self.inside.soon) c.args.id ≡ None = ap (λ (x : Moments). get x c.args.id) c.self.view_is ∙ c.requires.absent in
    record { absent = not_mapped c.self.inside.queue.moments (just_after c.self.inside.soon_from) c.self.inside.soon c.self.invariant c.args.id free }

either : {T E : Type 0} (r : Result T E) (A B P : Type 0) → OnOk r A → OnErr r B → (A → P) → (B → P) → P
either (Ok x) A B P a b f g = f a
either (Err e) A B P a b f g = g b

pub invariant_of-self : goal.invariant_of-self
invariant_of-self g c =
    let m = c.self.inside.queue.moments in
    let ids = c.self.inside.soon in
    let free : get (with_each c.self.inside.queue.moments (just_after c.self.inside.soon_from) c.self.inside.soon) c.args.id ≡ None = ap (λ (x : Moments). get x c.args.id) c.self.view_is ∙ c.requires.absent in
    either c.insert.result _ _ (AreBeside c.insert.new.self.moments c.self.inside.soon) c.insert.ensures.ok c.insert.ensures.err
    (λ ok. subst (λ (x : Moments). AreBeside x c.self.inside.soon) (sym ok) (mapped_beside m (just_after c.self.inside.soon_from) ids c.self.invariant c.args.id free c.args.at.now c.recall_canonical.ensures))
    (λ err. subst (λ (x : Agenda). AreBeside x.moments c.self.inside.soon) (sym err) c.self.invariant)

pub returns-then-not-may_join-clause-ok : goal.returns-then-not-may_join-clause-ok
returns-then-not-may_join-clause-ok g c =
    let free : get (with_each c.self.inside.queue.moments (just_after c.self.inside.soon_from) c.self.inside.soon) c.args.id ≡ None = ap (λ (x : Moments). get x c.args.id) c.self.view_is ∙ c.requires.absent in
    from_two c.insert.result
    (λ ok again.
    ap (λ (x : Moments). with_each x (just_after c.self.inside.soon_from) c.self.inside.soon) ok
    ∙ mapped_is c.self.inside.queue.moments (just_after c.self.inside.soon_from) c.self.inside.soon c.self.invariant c.args.id free c.args.at.now c.recall_canonical.ensures
    ∙ ap (λ (x : Moments). insert x c.args.id c.args.at.now) c.self.view_is)
    c.insert.ensures.ok c.insert.ensures.ok

pub insert-requires-2 : goal.insert-requires-2
insert-requires-2 g c =
    let free : get (with_each c.self.inside.queue.moments (just_after c.self.inside.soon_from) c.self.inside.soon) c.args.id ≡ None = ap (λ (x : Moments). get x c.args.id) c.self.view_is ∙ c.requires.absent in
    not_listed c.self.inside.queue.moments (just_after c.self.inside.soon_from) c.self.inside.soon c.self.invariant c.args.id free

pub invariant_of-self-2 : goal.invariant_of-self-2
invariant_of-self-2 g c =
    let free : get (with_each c.self.inside.queue.moments (just_after c.self.inside.soon_from) c.self.inside.soon) c.args.id ≡ None = ap (λ (x : Moments). get x c.args.id) c.self.view_is ∙ c.requires.absent in
    subst (λ (xs : List ℕ). AreBeside c.self.inside.queue.moments xs) (sym c.in_ok-insert.ensures.ok) (pushed_beside c.self.inside.queue.moments (just_after c.self.inside.soon_from) c.self.inside.soon c.self.invariant c.args.id free)

pub returns-clause-ok : goal.returns-clause-ok
returns-clause-ok g c =
    let m = c.self.inside.queue.moments in
    let ids = c.self.inside.soon in
    let w = c.args.at.now in
    let join : (c.self.inside.soon ≡ []) ⊎ ((just_after c.self.inside.soon_from) ≡ c.args.at.now) = elim (c.if-not-may_join.ensures.same refl) [
      | inl e ↦ inl e
      | inr e ↦ inr (ap just_after e ∙ sym (c.if-not-may_join.ensures.after refl))
    ] in
    let same = at_either m (just_after c.self.inside.soon_from) w ids join in
    let free : get (with_each c.self.inside.queue.moments c.args.at.now c.self.inside.soon) c.args.id ≡ None = ap (λ (x : Moments). get x c.args.id) (sym same ∙ c.self.view_is) ∙ c.requires.absent in
    ap (λ (x : Moment). with_each m x c.insert-2.new.self) (sym (c.if-not-may_join.ensures.after refl)) ∙ ap (with_each m w) c.in_ok-insert.ensures.ok ∙ pushed_is m w ids c.self.invariant c.args.id free ∙ ap (λ (x : Moments). insert x c.args.id c.args.at.now) (sym same ∙ c.self.view_is)

pub returns-then-not-may_join-clause-cost : goal.returns-then-not-may_join-clause-cost
returns-then-not-may_join-clause-cost g c = takes_more _ _ _ _ (fewer_than c.self.inside.queue.moments (just_after c.self.inside.soon_from) c.self.inside.soon _ c.self.view_is) c.insert.ensures.cost

pub returns-clause-cost : goal.returns-clause-cost
returns-clause-cost g c = none_taken _ _
