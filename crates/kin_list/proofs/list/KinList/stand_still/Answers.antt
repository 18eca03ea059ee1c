use Rattle.std.proofs.Common.{◌≡◌, sym, ap, ◌∙◌, subst, []}
use Rattle.kin_motion.specs.Kinetics.{ListsFailing}
use Rattle.kin_motion.specs.Numbers.{is_in, Lists}
use Rattle.kin_sorted.specs.declared.direction.Direction.{Direction}
use Rattle.kin_motion.specs.Directions.{along}
use Rattle.kin_sorted.specs.Marks.{Marks, marked, names_gone}
use Rattle.kin_motion.specs.Ranks.{AreLive}
use Rattle.kin_sorted.specs.Sorting.{Sorting}
use Rattle.kin_list.specs.declared.mark.Mark.{Mark}
use Rattle.kin_list.specs.declared.mark.Mark.TheVariants.{Rest}
use Rattle.kin_list.specs.Listing.{Listing, HasMarked, IsReadyListing, names_leaving}
use Rattle.kin_list.specs.Sound.{IsMarkable, IsSound}
use Rattle.kin_list.proofs.AlongLaws.{marked_live, failing_same, settled_along}
use Rattle.kin_list.proofs.list.KinList.stand_still.Goals as goal

pub returns-clause-settled : goal.returns-clause-settled
returns-clause-settled c = λ rest s real ready failing.
    let k = c.self.inside in
    let d = k.sorted.rank in
    let new = c.stand_still.new.self in
    let at_rest : k.mark ≡ Rest = ap (λ (l : Listing). l.mark) c.self.view_is ∙ rest in
    let sound : IsMarkable Rest k.sorted = subst (λ (m : Mark). IsSound m k.sorted) at_rest c.self.invariant in
    let lists : Lists k.sorted.items s.live = subst (λ (m : Mark). HasMarked m k.sorted.items s.live) at_rest (subst (λ (l : Listing). IsReadyListing l s) (sym c.self.view_is) ready) in
    let failing' = subst (λ (m : Mark). ListsFailing k.sorted.facts (names_leaving m) s []) at_rest
    (subst (λ (l : Listing). ListsFailing l.facts (names_leaving l.mark) s []) (sym c.self.view_is) failing) in
    let live = subst (λ (m : Marks). AreLive s (along d.slots d.dx d.dy) (marked m k.sorted.items)) (sym sound.rest.marks) (marked_live s d.slots d.dx d.dy Rest k.sorted.items lists) in
    let spared = subst (λ (m : Marks). ListsFailing k.sorted.facts (names_gone (along d.slots d.dx d.dy) m k.sorted.items) s []) (sym sound.rest.marks)
    (failing_same s d.slots d.dx d.dy Rest k.sorted.items k.sorted.facts [] failing') in
    let settled = c.stand_still.ensures.settled sound.rest s real (record { whole = sound.rest.whole; live = live }) spared in
    settled_along s new.rank.slots new.rank.dx new.rank.dy new.items (λ i. ap (λ (l : Sorting Direction). is_in i l.items) c.stand_still.ensures.same ∙ lists.same i)
    new.facts settled.order settled.exact
