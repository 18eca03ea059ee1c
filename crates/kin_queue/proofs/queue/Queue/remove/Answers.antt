use Rattle.std.proofs.Common.{◌≡◌, ℕ, length, drop, get_or, sym, ap, subst, ◌∙◌, arith}
use Rattle.std.proofs.lemmas.Grind.{get_or_default_zero}
use Rattle.std.specs.FinMap.{remove, from_entries}
use Rattle.std.specs.Ordering.{nat_cmp}
use Rattle.kin_queue.specs.Agenda.{Agenda}
use Rattle.kin_queue.specs.Cost.{TakesSteps}
use Rattle.kin_queue.specs.Tickets.{entries_of}
use Rattle.kin_queue.proofs.Contents.{counted}
use Rattle.kin_queue.proofs.Known.{known_at}
use Rattle.kin_queue.proofs.Tickets.{entries_length, ticket_there}
use Rattle.kin_queue.proofs.Root.{with_itself}
use Rattle.kin_queue.proofs.Whole.{take_whole}
use Rattle.kin_queue.proofs.queue.Queue.remove.Goals as goal

pub index-requires : goal.index-requires
index-requires g c =
    let k = known_at _ _ c.self.invariant.keyed.heap c.args.id c.self.inside.next _ c.self.view_is c.requires.present in
    let low = k.known in
    omega arith

pub take_out-requires-clause-place : goal.take_out-requires-clause-place
take_out-requires-clause-place g c =
    let k = known_at _ _ c.self.invariant.keyed.heap c.args.id c.self.inside.next _ c.self.view_is c.requires.present in
    let place : c.index.result.now ≡ get_or c.self.inside.places.items c.args.id 0 = c.index.ensures ∙ get_or_default_zero c.self.inside.places.items c.args.id c.index.result.now k.known in
    rw place (ticket_there c.self.inside.instants c.self.inside.entries.items (get_or c.self.inside.places.items c.args.id 0) k.within)

pub invariant_of-self : goal.invariant_of-self
invariant_of-self g c =
    let ps = c.take_out.new.places in
    record {
      keyed = rw (take_whole c.self.inside.places.len ps (drop (length ps) c.self.inside.places.items) (omega arith)) c.take_out.ensures.heap;
      least = with_itself _;
    }

pub returns-clause-moments : goal.returns-clause-moments
returns-clause-moments g c =
    let es = entries_of c.self.inside.instants c.self.inside.entries.items in
    let k = known_at _ _ c.self.invariant.keyed.heap c.args.id c.self.inside.next _ c.self.view_is c.requires.present in
    let place : c.index.result.now ≡ get_or c.self.inside.places.items c.args.id 0 = c.index.ensures ∙ get_or_default_zero c.self.inside.places.items c.args.id c.index.result.now k.known in
    let id : (get_or es c.index.result.now k.entry).0 ≡ c.args.id = rw (place, k.stands k.entry) k.names in
    let taken : from_entries {R = nat_cmp} (entries_of c.self.inside.instants c.take_out.new.entries.items) ≡ remove (from_entries {R = nat_cmp} es) (get_or es c.index.result.now k.entry).0 =
    c.take_out.ensures.moments k.entry in
    taken
    ∙ ap (λ (n : ℕ). remove (from_entries {R = nat_cmp} es) n) id
    ∙ ap (λ (a : Agenda). remove a.moments c.args.id) c.self.view_is

pub returns-clause-cost : goal.returns-clause-cost
returns-clause-cost g c = subst (λ (n : ℕ). TakesSteps n c.args.steps.now c.take_out.new.steps) (sym (entries_length c.self.inside.instants c.self.inside.entries.items) ∙ counted (entries_of c.self.inside.instants c.self.inside.entries.items) c.self.inside.places.items c.self.inside.next c.args.self.now c.self.view_is c.self.invariant.keyed.heap) c.take_out.ensures.cost
