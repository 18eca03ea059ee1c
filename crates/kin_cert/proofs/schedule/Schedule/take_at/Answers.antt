use Rattle.std.proofs.Common.{◌≡◌, ◌≢◌, ◌⊎◌, inl, inr, ℕ, List, [], ◌∷◌, ◌++◌, Some, refl, sym, ap, subst, ◌∙◌}
use Rattle.std.specs.FinMap.{get, remove}
use Rattle.std.specs.List.{Contains}
use Rattle.std.proofs.lemmas.List.Elements.{Contains-push}
use Rattle.kin_num.specs.declared.instant.Moment.{Moment}
use Rattle.kin_queue.specs.Agenda.{Agenda}
use Rattle.kin_cert.specs.Schedules.{with_each, AreBeside, just_after}
use Rattle.kin_cert.proofs.Schedules.{Moments, has_each, popped_beside, popped_is}
use Rattle.kin_cert.proofs.Popping.{of_some, of_none, of_either, popped_there, popped_rest, still_beside, none_at}
use Rattle.kin_cert.proofs.Costs.{takes_more, none_taken}
use Rattle.kin_cert.proofs.QueueSizes.{fewer_than}
use Rattle.kin_cert.proofs.schedule.Schedule.take_at.Goals as goal

-- what is in the list: the ids, and the one that is taken at the end
pub invariant_of-self : goal.invariant_of-self
invariant_of-self g c =
    let ids : c.self.inside.soon ≡ c.pop.new.self ++ c.in-Some.id ∷ [] = c.in-Some.ensures.some in
    popped_beside c.self.inside.queue.moments (just_after c.self.inside.soon_from) c.pop.new.self c.in-Some.id (subst (λ (xs : List ℕ). AreBeside c.self.inside.queue.moments xs) ids c.self.invariant)

pub returns-then-have_moment-clause-there : goal.returns-then-have_moment-clause-there
returns-then-have_moment-clause-there g c =
    let ids : c.self.inside.soon ≡ c.pop.new.self ++ c.in-Some.id ∷ [] = c.in-Some.ensures.some in
    let at : (just_after c.self.inside.soon_from) ≡ c.args.moment.now = (c.if-have_moment.ensures.yes refl).1 ∙ c.moment.ensures.value in
    subst (λ (x : Moments). get x c.in-Some.id ≡ Some c.args.moment.now) c.self.view_is
    ((has_each c.self.inside.queue.moments (just_after c.self.inside.soon_from) c.self.inside.soon c.self.invariant c.in-Some.id c.args.moment.now).1
    (inl (subst (λ (xs : List ℕ). Contains xs c.in-Some.id) (sym ids) (Contains-push c.pop.new.self c.in-Some.id), sym at)))

pub returns-then-have_moment-clause-rest : goal.returns-then-have_moment-clause-rest
returns-then-have_moment-clause-rest g c =
    let m = c.self.inside.queue.moments in
    let ids : c.self.inside.soon ≡ c.pop.new.self ++ c.in-Some.id ∷ [] = c.in-Some.ensures.some in
    popped_is m (just_after c.self.inside.soon_from) c.pop.new.self c.in-Some.id (subst (λ (xs : List ℕ). AreBeside c.self.inside.queue.moments xs) ids c.self.invariant)
    ∙ ap (λ (xs : List ℕ). remove (with_each c.self.inside.queue.moments (just_after c.self.inside.soon_from) xs) c.in-Some.id) (sym ids)
    ∙ ap (λ (x : Moments). remove x c.in-Some.id) c.self.view_is

-- the list has no id, or another moment
elsewhere : (ids : List ℕ) (at moment due : Moment) → moment ≡ due → (ids ≡ []) ⊎ (at ≢ moment) → (ids ≡ []) ⊎ (at ≢ due)
elsewhere ids at moment due f (inl n) = inl n
elsewhere ids at moment due f (inr n) = inr (λ k. n (k ∙ sym f))

pub invariant_of-self-2 : goal.invariant_of-self-2
invariant_of-self-2 g c =
    let m = c.self.inside.queue.moments in
    let out = c.pop_at.ensures in
    of_either c.pop_at.result
    (λ id e f. still_beside m (just_after c.self.inside.soon_from) c.self.inside.soon c.self.invariant c.self.inside.queue.next out.least c.args.moment.now c.pop_at.new.self.moments id e f)
    (λ same. subst (λ (a : Agenda). AreBeside a.moments c.self.inside.soon) (sym same) c.self.invariant)
    out.some out.rest out.unchanged

pub returns-clause-there : goal.returns-clause-there
returns-clause-there g c =
    let m = c.self.inside.queue.moments in
    let out = c.pop_at.ensures in
    of_some c.pop_at.result
    (λ id e f. subst (λ (x : Moments). get x id ≡ Some c.args.moment.now) c.self.view_is
    (popped_there m (just_after c.self.inside.soon_from) c.self.inside.soon c.self.invariant c.self.inside.queue.next out.least c.args.moment.now id e))
    out.some out.rest

pub returns-clause-rest : goal.returns-clause-rest
returns-clause-rest g c =
    let m = c.self.inside.queue.moments in
    let out = c.pop_at.ensures in
    of_some c.pop_at.result
    (λ id e f. popped_rest m (just_after c.self.inside.soon_from) c.self.inside.soon c.self.invariant c.self.inside.queue.next out.least c.args.moment.now c.pop_at.new.self.moments id e f
    ∙ ap (λ (x : Moments). remove x id) c.self.view_is)
    out.some out.rest

pub returns-clause-none : goal.returns-clause-none
returns-clause-none g c =
    let m = c.self.inside.queue.moments in
    let out = c.pop_at.ensures in
    let other = elsewhere c.self.inside.soon (just_after c.self.inside.soon_from) c.moment.result.now c.args.moment.now c.moment.ensures.value (c.if-have_moment.ensures.other refl) in
    of_none c.pop_at.result
    (λ apart id k. none_at m (just_after c.self.inside.soon_from) c.self.inside.soon c.self.invariant c.self.inside.queue.next out.least c.args.moment.now c.moment.ensures.canonical other
    (λ i n h. c.requires.first i n (subst (λ (x : Moments). get x i ≡ Some n) c.self.view_is h)) apart id (subst (λ (x : Moments). get x id ≡ Some c.args.moment.now) (sym c.self.view_is) k))
    out.none

pub returns-clause-unchanged : goal.returns-clause-unchanged
returns-clause-unchanged g c =
    of_none c.pop_at.result
    (λ same. ap (λ (a : Agenda). with_each a.moments (just_after c.self.inside.soon_from) c.self.inside.soon) same ∙ c.self.view_is)
    c.pop_at.ensures.unchanged

pub returns-then-have_moment-clause-cost : goal.returns-then-have_moment-clause-cost
returns-then-have_moment-clause-cost g c = none_taken _ _

pub returns-clause-cost : goal.returns-clause-cost
returns-clause-cost g c = takes_more _ _ _ _ (fewer_than c.self.inside.queue.moments (just_after c.self.inside.soon_from) c.self.inside.soon _ c.self.view_is) c.pop_at.ensures.cost
