use Rattle.std.proofs.Common.{◌≡◌, sym, ap, ◌∙◌, subst, List, [], map}
use Rattle.kin_motion.specs.declared.fact.Placed.{Placed}
use Rattle.kin_motion.specs.Kinetics.{ListsFailing, HasChanged}
use Rattle.kin_motion.specs.Parts.{moved_by}
use Rattle.kin_motion.proofs.ChangeLaws.{nothing_changed}
use Rattle.kin_list.specs.Listing.{Listing, names_leaving}
use Rattle.kin_wedge.proofs.Posted.{none_told, stood_still}
use Rattle.kin_wedge.proofs.part.settle_list.Goals as goal

pub returns-then-is_at_rest-clause-resettled : goal.returns-then-is_at_rest-clause-resettled
returns-then-is_at_rest-clause-resettled g c =
    let s = g.O.Signs.scene c.args.now.now in
    let l = c.args.list.now in
    let rest = c.is_at_rest.ensures.0 c.if-is_at_rest.true in
    let none : c.args.told.now ≡ [] = none_told c.args.told.now (sym c.is_empty.ensures ∙ c.if-is_empty.true) in
    stood_still s l c.stand_still.new.self c.stand_still.ensures.same rest
    (c.stand_still.ensures.settled rest s c.requires.real c.requires.ready (subst (ListsFailing l.facts (names_leaving l.mark) s) none c.requires.failing))

pub returns-then-is_at_rest-clause-delta : goal.returns-then-is_at_rest-clause-delta
returns-then-is_at_rest-clause-delta g c =
    subst (λ (fs : List Placed). HasChanged (map (moved_by c.args.part) c.args.list.now.facts) (map (moved_by c.args.part) fs) c.args.out.now c.args.out.now) (sym (ap (λ (l : Listing). l.facts) c.stand_still.ensures.same))
    (nothing_changed (map (moved_by c.args.part) c.args.list.now.facts) c.args.out.now)

pub returns-clause-delta : goal.returns-clause-delta
returns-clause-delta g c = c.settle_in.ensures.delta
