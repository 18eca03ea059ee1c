use Rattle.std.proofs.Common.{◌≡◌, sym, ap, ◌∙◌, subst, [], true}
use Rattle.kin_motion.specs.Kinetics.{ListsFailing}
use Rattle.kin_sorted.specs.Links.{facts_from}
use Rattle.kin_sorted.specs.Marks.{Marks, marked, names_gone}
use Rattle.kin_motion.specs.Ranks.{AreLive}
use Rattle.kin_sorted.specs.Sorting.{Sorting, IsReady, is_spared, unmarked}
use Rattle.kin_sorted.proofs.StillLaws.{settled_still}
use Rattle.kin_sorted.proofs.sorted.Sorted.stand_still.Goals as goal

pub returns-clause-settled : goal.returns-clause-settled
returns-clause-settled g c = λ rest s real ready failing.
    let k = c.self.inside in
    let r = g.R.Ranked.ranks k.rank in
    let law = g.met.R.Ranked.law k.rank in
    let whole : k.whole ≡ true = ap (λ (l : Sorting g.row.R.Denot). l.whole) c.self.view_is ∙ rest.whole in
    let at_rest : k.marks ≡ unmarked = ap (λ (l : Sorting g.row.R.Denot). l.marks) c.self.view_is ∙ rest.marks in
    let ready' = subst (λ (l : Sorting g.row.R.Denot). IsReady (g.R.Ranked.ranks l.rank) l s) (sym c.self.view_is) ready in
    let failing' = subst (λ (l : Sorting g.row.R.Denot). ListsFailing l.facts (is_spared (g.R.Ranked.ranks l.rank) l) s []) (sym c.self.view_is) failing in
    let done = settled_still s r law (law.strict s real) k.lineup.row.links k.lineup.row.items k.lineup.row.signs (c.self.invariant.held whole)
    (subst (λ (m : Marks). ListsFailing (facts_from r 0 k.lineup.row.links) (names_gone r m k.lineup.row.items) s []) at_rest failing')
    (subst (λ (m : Marks). AreLive s r (marked m k.lineup.row.items)) at_rest ready'.live) (c.self.invariant.marks whole).once (k.lineup.linked ∙ sym k.lineup.signed) in
    record { live = done.0; order = done.1; exact = done.2 }
