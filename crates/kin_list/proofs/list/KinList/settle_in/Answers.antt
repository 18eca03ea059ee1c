use Rattle.std.proofs.Common.{◌≡◌, sym, ap, ◌∙◌, subst, length}
use Rattle.kin_algebra.proofs.Results.{for_ok, at_ok}
use Rattle.kin_motion.specs.Kinetics.{ListsFailing}
use Rattle.kin_motion.specs.Numbers.{is_in, Lists}
use Rattle.kin_sorted.specs.declared.single.Single.{Single}
use Rattle.kin_motion.specs.Directions.{along}
use Rattle.kin_sorted.specs.Marks.{marked, names_gone, without_all}
use Rattle.kin_motion.specs.Ranks.{AreLive}
use Rattle.kin_sorted.specs.Sorting.{AreFewTests, marks_for}
use Rattle.kin_list.specs.Listing as listing
use Rattle.kin_list.specs.Rows.{exchanged}
use Rattle.kin_list.proofs.AlongLaws.{marked_live, marked_same, failing_same, few_same, lasting_same, lists_marked, settled_along, staying_same}
use Rattle.kin_list.proofs.list.KinList.settle_in.Goals as goal

pub settle_one-settled-requires-clause-live : goal.settle_one-settled-requires-clause-live
settle_one-settled-requires-clause-live g c =
    let s = g.O.Signs.scene c.args.now.now in
    let k = c.self.inside in
    let d = k.sorted.rank in
    let ready = rw (sym c.self.view_is) at c.requires.ready in
    subst (λ (one : Single). AreLive s (along d.slots d.dx d.dy) (marked (marks_for one) k.sorted.items)) (sym c.single.ensures)
    (marked_live s d.slots d.dx d.dy k.mark k.sorted.items ready)

pub settle_one-settled-requires-clause-failing : goal.settle_one-settled-requires-clause-failing
settle_one-settled-requires-clause-failing g c =
    let s = g.O.Signs.scene c.args.now.now in
    let k = c.self.inside in
    let d = k.sorted.rank in
    let failing = rw (sym c.self.view_is) at c.requires.failing in
    subst (λ (one : Single). ListsFailing k.sorted.facts (names_gone (along d.slots d.dx d.dy) (marks_for one) k.sorted.items) s c.args.failed.now) (sym c.single.ensures)
    (failing_same s d.slots d.dx d.dy k.mark k.sorted.items k.sorted.facts c.args.failed.now failing)

pub returns-clause-settled : goal.returns-clause-settled
returns-clause-settled g c = for_ok c.settle_one-settled.result _ (λ v ok.
    let s = g.O.Signs.scene c.args.now.now in
    let k = c.self.inside in
    let new = c.settle_one-settled.new.self in
    let d = new.rank in
    let ready = rw (sym c.self.view_is) at c.requires.ready in
    let settled = at_ok c.settle_one-settled.result _ v ok c.settle_one-settled.ensures.settled in
    let members = at_ok c.settle_one-settled.result _ v ok c.settle_one-settled.ensures.members in
    settled_along s d.slots d.dx d.dy new.items
    (λ i. members.same i ∙ ap (λ (one : Single). is_in i (marked (marks_for one) k.sorted.items)) c.single.ensures ∙ ap (is_in i) (marked_same k.mark k.sorted.items)
    ∙ (lists_marked k.mark k.sorted.items s.live ready).same i) new.facts settled.order settled.exact)

pub returns-clause-exchanges : goal.returns-clause-exchanges
returns-clause-exchanges g c = for_ok c.settle_one-settled.result _ (λ v ok.
    let k = c.self.inside in
    let new = c.settle_one-settled.new.self in
    let led = subst (λ (one : Single). exchanged new.swaps (without_all (marks_for one).leaving k.sorted.items) ≡ without_all (marks_for one).entering new.items) c.single.ensures
    (at_ok c.settle_one-settled.result _ v ok c.settle_one-settled.ensures.exchanges) in
    rw (sym c.self.view_is) (ap (exchanged new.swaps) (sym (staying_same k.mark k.sorted.items)) ∙ led ∙ lasting_same k.mark new.items))

pub returns-clause-tests : goal.returns-clause-tests
returns-clause-tests g c = for_ok c.settle_one-settled.result _ (λ v ok.
    let k = c.self.inside in
    let new = c.settle_one-settled.new.self in
    let members = at_ok c.settle_one-settled.result _ v ok c.settle_one-settled.ensures.members in
    let lists : Lists new.items (listing.marked k.mark k.sorted.items) = record {
      once = members.once;
      same = λ i. members.same i ∙ ap (λ (one : Single). is_in i (marked (marks_for one) k.sorted.items)) c.single.ensures ∙ ap (is_in i) (marked_same k.mark k.sorted.items);
    } in
    let few = subst (λ (one : Single). AreFewTests (length (marks_for one).entering) k.sorted.items new.items c.args.out.now c.settle_one-settled.new.out
    c.args.steps.now c.settle_one-settled.new.steps) c.single.ensures (at_ok c.settle_one-settled.result _ v ok c.settle_one-settled.ensures.tests) in
    rw (sym c.self.view_is) (few_same k.mark k.sorted.items new.items _ _ c.args.steps.now c.settle_one-settled.new.steps lists few))
