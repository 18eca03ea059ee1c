use Rattle.std.proofs.Common.{◌≡◌, sym, subst, List, [], ◌∷◌, ◌++◌, ℕ, not, filter, rules}
use Rattle.std.specs.Prelude.{reverse}
use Rattle.kin_motion.specs.Chains.{round}
use Rattle.kin_motion.specs.Numbers.{is_in, IsIn}
use Rattle.kin_motion.proofs.Members.{in_head, in_left, in_right}
use Rattle.kin_hull.proofs.Rounds.{listed_next}
use Rattle.kin_hull.proofs.around.go_round.Goals as goal

pub list_new-requires : goal.list_new-requires
list_new-requires c =
    let x = c.in-Some.number.now in
    λ h. c.requires x (c.loop-number.invariant.among x (subst (λ xs. IsIn c.in-Some.number.now xs) (sym c.in-Some.ensures.steps) (in_right x c.next.new.self.iter.rest.now (x ∷ []) (in_head x [])))) h

pub loop-number-preserved : goal.loop-number-preserved
loop-number-preserved c = record {
  joined =
      listed_next c.args.lower.now c.loop-number.cycle.items c.next.new.self.iter.rest.now (round c.args.lower.now c.args.upper.now) c.in-Some.number.now
      (subst (λ (xs : List ℕ). c.loop-number.cycle.items ++ filter (λ p. not (is_in p c.args.lower.now)) (reverse xs) ≡ round c.args.lower.now c.args.upper.now) c.in-Some.ensures.steps c.loop-number.invariant.joined)
      c.list_new.new.cycle.items c.in_ok-list_new.ensures;
  among = λ p h. c.loop-number.invariant.among p (subst (λ xs. IsIn p xs) (sym c.in-Some.ensures.steps) (in_left p c.next.new.self.iter.rest.now (c.in-Some.number.now ∷ []) h));
}

pub loop-number-init : goal.loop-number-init
loop-number-init c = search rules
