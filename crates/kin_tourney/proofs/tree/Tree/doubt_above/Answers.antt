use Rattle.std.proofs.Common.{◌≡◌, ◌≢◌, inl, ◌∙◌, sym, subst, ap, arith, ◌/◌, ◌+◌, ◌<◌, ℕ, length}
use Rattle.std.proofs.lemmas.Bool.Decides.{nat_tests}
use Rattle.kin_tourney.specs.Standings.{Standings, doubt_in}
use Rattle.kin_tourney.specs.declared.doubt.Doubt.TheVariants.{Below, Clear}
use Rattle.kin_tourney.specs.Repairs.{IsSpread}
use Rattle.kin_tourney.proofs.Raising.{IsRaising, raised, raising_starts, raising_done}
use Rattle.kin_tourney.proofs.tree.Tree.doubt_above.Goals as goal

pub loop-is_won-init : goal.loop-is_won-init
loop-is_won-init g c =
    let same : c.lead_to.new.self.items ≡ c.args.self.now.items = ap (λ (t : Standings g.row.K-Item.Denot). t.items) c.lead_to.ensures.same in
    let leaf : c.slots.result ≡ length c.lead_to.new.self.items = c.slots.ensures ∙ sym (ap length same) in
    let among : c.args.slot < length c.lead_to.new.self.items = subst (λ (t : Standings g.row.K-Item.Denot). c.args.slot < length t.items) (sym c.lead_to.ensures.same) c.requires.slot in
    let reached = subst (λ (n : ℕ). doubt_in c.lead_to.new.self.doubts ((n + c.args.slot) / 2) ≢ Clear) leaf c.lead_to.ensures.spread.reached in
    record {
      raising = subst (λ (n : ℕ). IsRaising c.args.slot c.lead_to.new.self c.lead_to.new.self (n + c.args.slot)) (sym leaf) (raising_starts c.args.slot c.lead_to.new.self c.lead_to.ensures.tree among reached);
      won = λ e. grind (arith, nat_tests, e);
      lost = λ e. inl (grind (arith, nat_tests, e));
    }

pub loop-is_won-preserved : goal.loop-is_won-preserved
loop-is_won-preserved g c =
    let among : c.args.slot < length c.lead_to.new.self.items = subst (λ (t : Standings g.row.K-Item.Denot). c.args.slot < length t.items) (sym c.lead_to.ensures.same) c.requires.slot in
    record {
      raising = raised c.args.slot c.lead_to.new.self c.loop-is_won.self c.raise.new.self c.loop-is_won.node (c.loop-is_won.invariant.won c.loop-is_won-test.true) c.loop-is_won.invariant.raising c.raise.ensures.tree c.lead_to.ensures.tree among c.raise.ensures.same;
      won = c.is_won_below_root-is_won.ensures.won;
      lost = c.is_won_below_root-is_won.ensures.lost;
    }

pub returns-clause-marked : goal.returns-clause-marked
returns-clause-marked g c =
    let among : c.args.slot < length c.lead_to.new.self.items = subst (λ (t : Standings g.row.K-Item.Denot). c.args.slot < length t.items) (sym c.lead_to.ensures.same) c.requires.slot in
    (raising_done c.args.slot c.args.self.now c.lead_to.new.self c.loop-is_won.self c.loop-is_won.node c.requires.tree c.requires.slot c.lead_to.ensures.tree among c.lead_to.ensures.same
    (subst (λ (n : ℕ). IsSpread c.args.self.now.doubts c.lead_to.new.self.doubts Below ((n + c.args.slot) / 2)) c.slots.ensures c.lead_to.ensures.spread) (c.loop-is_won.invariant.lost c.loop-is_won-test.false) c.loop-is_won.invariant.raising).1
