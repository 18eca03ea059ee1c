use Rattle.std.proofs.Common.{◌≡◌, sym, ap, ◌∙◌, subst, ℕ, ◌≤◌, ◌++◌, length, map, take, drop}
use Rattle.std.specs.Prelude.{Contains}
use Rattle.kin_motion.specs.Deltas.{Change}
use Rattle.kin_motion.specs.Parts.{moved_by}
use Rattle.kin_motion.proofs.Gains.{gained_behind, mapped_report}
use Rattle.kin_motion.proofs.PartLaws.{moved_one}
use Rattle.kin_tourney.specs.Tournament.{Tournament}
use Rattle.kin_pairs.proofs.Joining.{facts_low}
use Rattle.kin_pairs.proofs.mail.Mail.settle_pairs.Goals as goal

pub move_from-requires-clause-low : goal.move_from-requires-clause-low
move_from-requires-clause-low g c = λ p h.
    let n : c.len-dropped.result ≡ length c.args.out.now.dropped = c.len-dropped.ensures ∙ c.out.inside.dropped.ok.0 ∙ ap (λ (d : Change). length d.dropped) c.out.view_is in
    c.requires.low p (gained_behind c.len-dropped.result c.args.out.now.dropped c.settle_told.new.out.dropped _ n c.in_ok-settle_told.ensures.delta.dropped p
    (subst (λ (d : Change). Contains (drop c.len-dropped.result d.dropped) p) c.out-2.view_is h)).0

pub move_from-requires-2-clause-low : goal.move_from-requires-2-clause-low
move_from-requires-2-clause-low g c = λ p h.
    let n : c.len-born.result ≡ length c.args.out.now.born = c.len-born.ensures ∙ c.out.inside.born.ok.0 ∙ ap (λ (d : Change). length d.born) c.out.view_is in
    facts_low g.K.Keyed.names (g.K.Keyed.key c.settle_told.new.self.key) c.settle_told.new.self (g.O.Signs.scene c.args.now.now) c.in_ok-settle_told.ensures.settled
    (subst (λ (n : ℕ). n ≤ 15) (sym (ap (λ (t : Tournament g.row.K.Denot g.row.K-Item.Denot). t.size) c.in_ok-settle_told.ensures.same)) c.requires.small) p
    (gained_behind c.len-born.result c.args.out.now.born c.settle_told.new.out.born _ n c.in_ok-settle_told.ensures.delta.born p
    (subst (λ (d : Change). Contains (drop c.len-born.result d.born) p) c.out-2.view_is h)).0

pub returns-clause-delta : goal.returns-clause-delta
returns-clause-delta g c =
    let n = c.args.parts in
    mapped_report (moved_by n) (moved_one n) c.args.pairs.now.facts c.settle_told.new.self.facts c.args.out.now c.settle_told.new.out _ c.len-dropped.result c.len-born.result
    (c.len-dropped.ensures ∙ c.out.inside.dropped.ok.0 ∙ ap (λ (d : Change). length d.dropped) c.out.view_is) (c.len-born.ensures ∙ c.out.inside.born.ok.0 ∙ ap (λ (d : Change). length d.born) c.out.view_is)
    c.in_ok-settle_told.ensures.delta
    (c.move_from.ensures ∙ ap (λ (d : Change). take c.len-dropped.result d.dropped ++ map (moved_by n) (drop c.len-dropped.result d.dropped)) c.out-2.view_is)
    (c.move_from-2.ensures ∙ ap (λ (d : Change). take c.len-born.result d.born ++ map (moved_by n) (drop c.len-born.result d.born)) c.out-2.view_is)
