use Rattle.std.proofs.Common.{◌≡◌, ◌≢◌, ◌∙◌, sym, inl, true, false}
use Rattle.kin_tourney.specs.declared.doubt.Doubt.TheVariants.{Here}
use Rattle.kin_tourney.specs.Standings.{doubt_in}
use Rattle.kin_tourney.proofs.Rechecks.{passes_below, plays_all, replayed_held}
use Rattle.kin_tourney.proofs.Soundness.{right_askable}
use Rattle.kin_tourney.proofs.tree.Tree.renew.Goals as goal

pub failed_sign-requires-clause-askable : goal.failed_sign-requires-clause-askable
failed_sign-requires-clause-askable g c = λ f e.
    let not_here : doubt_in c.args.self.now.doubts c.args.node ≢ Here = λ h. absurd (let k : false ≡ true = sym c.if-is_here.false ∙ c.is_here.ensures.1 h in cc) in
    let once = c.requires.consistent (passes_below (doubt_in c.args.self.now.doubts c.args.node) not_here) in
    let live = (g.O.Signs.scene c.args.now.now).live in
    right_askable (g.K.Keyed.key c.args.key.now) live g.K.Keyed.names (λ x y. g.met.K.Keyed.askable c.args.key.now live x y) c.args.self.now c.requires.live c.args.node once.0 f once.1 e

pub returns-in_default-clause-renewed : goal.returns-in_default-clause-renewed
returns-in_default-clause-renewed g c =
    let not_here : doubt_in c.args.self.now.doubts c.args.node ≢ Here = λ h. absurd (let k : false ≡ true = sym c.if-is_here.false ∙ c.is_here.ensures.1 h in cc) in
    let once = c.requires.consistent (passes_below (doubt_in c.args.self.now.doubts c.args.node) not_here) in
    inl (
      plays_all c.args.all (doubt_in c.args.self.now.doubts c.args.node) c.if-not-all.false c.requires.doubted,
      replayed_held (g.K.Keyed.key c.args.key.now) (g.O.Signs.scene c.args.now.now).sign c.args.self.now c.args.node once (c.failed_sign.ensures.held c.in_default.is) c.args.out.now,
    )
