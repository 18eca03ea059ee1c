use Rattle.std.proofs.Common.{◌≡◌, ℕ, List, IsSome, is_some, true, false, sym, ap, subst, ◌∙◌}
use Rattle.std.specs.FinMap.{get, remove}
use Rattle.std.specs.List.{Contains}
use Rattle.kin_num.specs.declared.instant.Moment.{Moment}
use Rattle.kin_cert.specs.Schedules.{with_each, AreBeside, just_after}
use Rattle.kin_cert.proofs.Schedules.{Moments, unmapped_beside, unmapped_is, unlisted_beside, unlisted_is, where_it_is}
use Rattle.kin_cert.proofs.Costs.{takes_more, none_taken}
use Rattle.kin_cert.proofs.QueueSizes.{fewer_than}
use Rattle.kin_cert.proofs.schedule.Schedule.remove.Goals as goal

pub invariant_of-self : goal.invariant_of-self
invariant_of-self g c =
    subst (λ (x : Moments). AreBeside x c.self.inside.soon) (sym c.remove.ensures.moments) (unmapped_beside c.self.inside.queue.moments (just_after c.self.inside.soon_from) c.self.inside.soon c.self.invariant c.args.id (sym c.if-has.ensures))

pub returns-then-has-clause-rest : goal.returns-then-has-clause-rest
returns-then-has-clause-rest g c =
    ap (λ (x : Moments). with_each x (just_after c.self.inside.soon_from) c.self.inside.soon) c.remove.ensures.moments
    ∙ unmapped_is c.self.inside.queue.moments (just_after c.self.inside.soon_from) c.self.inside.soon c.self.invariant c.args.id (sym c.if-has.ensures)
    ∙ ap (λ (x : Moments). remove x c.args.id) c.self.view_is

-- an id that isn't in the queue is in the list
listed : (m : Moments) (at : Moment) (ids : List ℕ) → AreBeside m ids → (id : ℕ) (view : Moments) → with_each m at ids ≡ view → IsSome (get view id) → false ≡ is_some (get m id) → Contains ids id
listed m at ids h id view view_is present out = where_it_is m at ids h id (subst (λ (x : Moments). IsSome (get x id)) (sym view_is) present) (λ there. let both : false ≡ true = out ∙ there in cc)

pub remove-requires-2 : goal.remove-requires-2
remove-requires-2 g c =
    listed c.self.inside.queue.moments (just_after c.self.inside.soon_from) c.self.inside.soon c.self.invariant c.args.id c.args.self.now c.self.view_is c.requires.present c.if-has.ensures

pub invariant_of-self-2 : goal.invariant_of-self-2
invariant_of-self-2 g c =
    unlisted_beside c.self.inside.queue.moments (just_after c.self.inside.soon_from) c.self.inside.soon c.remove-2.new.self c.self.invariant c.args.id
    (listed c.self.inside.queue.moments (just_after c.self.inside.soon_from) c.self.inside.soon c.self.invariant c.args.id c.args.self.now c.self.view_is c.requires.present c.if-has.ensures) c.remove-2.ensures.once c.remove-2.ensures.left

pub returns-clause-rest : goal.returns-clause-rest
returns-clause-rest g c =
    unlisted_is c.self.inside.queue.moments (just_after c.self.inside.soon_from) c.self.inside.soon c.remove-2.new.self c.self.invariant c.args.id
    (listed c.self.inside.queue.moments (just_after c.self.inside.soon_from) c.self.inside.soon c.self.invariant c.args.id c.args.self.now c.self.view_is c.requires.present c.if-has.ensures) c.remove-2.ensures.once c.remove-2.ensures.left
    ∙ ap (λ (x : Moments). remove x c.args.id) c.self.view_is

pub returns-then-has-clause-cost : goal.returns-then-has-clause-cost
returns-then-has-clause-cost g c = takes_more _ _ _ _ (fewer_than c.self.inside.queue.moments (just_after c.self.inside.soon_from) c.self.inside.soon _ c.self.view_is) c.remove.ensures.cost

pub returns-clause-cost : goal.returns-clause-cost
returns-clause-cost g c = none_taken _ _
