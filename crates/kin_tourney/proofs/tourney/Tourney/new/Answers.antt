use Rattle.std.proofs.Common.{◌≡◌, sym, subst, ◌^◌, true, []}
use Rattle.kin_tourney.specs.Sound.{IsSound}
use Rattle.kin_tourney.specs.Standings.{Standings, IsTree, placed_from, seen_as}
use Rattle.kin_tourney.specs.Tournament.{IsSettled}
use Rattle.kin_tourney.proofs.Fresh.{fresh, fresh_tree, fresh_sound, fresh_settled, no_facts}
use Rattle.kin_tourney.proofs.tourney.Tourney.new.Goals as goal

pub invariant_of-result : goal.invariant_of-result
invariant_of-result g c =
    let item = g.row.K-Item.Denot in
    let is : c.in_ok-tree.tree ≡ fresh item c.args.size = c.in_ok-tree.ensures in (
      subst (λ (t : Standings item). IsTree t) (sym is) (fresh_tree item c.args.size c.requires.high),
      λ w. subst (λ (t : Standings item). IsSound (g.K.Keyed.key c.args.key) t) (sym is) (fresh_sound item c.args.size c.requires.low (g.K.Keyed.key c.args.key)),
    )

pub returns-clause-facts : goal.returns-clause-facts
returns-clause-facts g c =
    let item = g.row.K-Item.Denot in
    let is : c.in_ok-tree.tree ≡ fresh item c.args.size = c.in_ok-tree.ensures in
    subst (λ (t : Standings item). placed_from 0 t.facts ≡ []) (sym is) (no_facts item c.args.size 0 (2 ^ c.args.size))

pub returns-clause-settled : goal.returns-clause-settled
returns-clause-settled g c =
    let item = g.row.K-Item.Denot in
    let key = g.K.Keyed.key c.args.key in
    let is : c.in_ok-tree.tree ≡ fresh item c.args.size = c.in_ok-tree.ensures in
    λ s. subst (λ (t : Standings item). IsSettled g.K.Keyed.names key (seen_as c.args.key t true) s) (sym is) (fresh_settled item c.args.size c.args.key g.K.Keyed.names key s c.requires.high)
