use Rattle.std.proofs.Common.{sym, subst, arith, Result, Ok, Err}
use Rattle.std.specs.Prelude.{IfOk}
use Rattle.std.proofs.lemmas.Int.{to_z-of_z}
use Rattle.kin_motion.specs.Live.{IsSmallKeep}
use Rattle.kin_motion.specs.Extremes.{along_key}
use Rattle.kin_tourney.specs.declared.along.Along.{Along}
use Rattle.kin_tourney.specs.Points.{point_names}
use Rattle.kin_tourney.specs.Tournament.{IsSettled}
use Rattle.kin_tourney.proofs.EnterPoints.{no_points, points_for}
use Rattle.kin_tourney.proofs.points.TourneyAlongKept.vacant.Goals as goal

-- what follows of an `Ok` from four clauses
from_four : {T E : Type 0} {P Q R S U : T → Type 0} (r : Result T E) → ((v : T) → P v → Q v → R v → S v → U v) → IfOk r P → IfOk r Q → IfOk r R → IfOk r S → IfOk r U
from_four (Ok v) f p q r s = f v p q r s
from_four (Err e) f p q r s = tt

pub returns-clause-kind : goal.returns-clause-kind
returns-clause-kind c =
    let small = subst IsSmallKeep c.in-Extreme.is c.requires.small in
    from_four c.new.result
    (λ t same size slots rest. points_for c.in-Extreme.dx c.in-Extreme.dy _ c.args.size c.args.keep.now t c.in-Extreme.is (grind (arith, to_z-of_z)) (grind (arith, to_z-of_z)) same size) c.new.ensures.key c.new.ensures.size c.new.ensures.slots c.new.ensures.rest

pub returns-clause-members : goal.returns-clause-members
returns-clause-members c = from_four c.new.result (λ t same slots marked rest. no_points t c.args.size same slots marked rest) c.new.ensures.size c.new.ensures.slots c.new.ensures.marked c.new.ensures.rest

pub returns-clause-settled : goal.returns-clause-settled
returns-clause-settled c =
    from_four c.new.result (λ t same settled marked rest s none. subst (λ (k : Along). IsSettled point_names (along_key k.dx k.dy) t s) (sym same) (settled s)) c.new.ensures.key c.new.ensures.settled c.new.ensures.marked c.new.ensures.rest
