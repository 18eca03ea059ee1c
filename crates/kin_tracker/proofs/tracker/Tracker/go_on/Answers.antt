use Rattle.std.proofs.Common.{sym}
use Rattle.kin_world.specs.Worlds.{HasMoved, HasPassed}
use Rattle.kin_tracker.proofs.Arriving.{fewer_then}
use Rattle.kin_tracker.proofs.Coming.{block_comes, comes_later, leg_comes}
use Rattle.kin_tracker.proofs.tracker.Tracker.go_on.Goals as goal

pub step-requires-clause-later : goal.step-requires-clause-later
step-requires-clause-later c =
    let n = c.in-Some.ensures.some in
    comes_later c.self.inside.world (c.is_whole.ensures.whole c.if-not-is_whole.false) c.in-Some.moment n.0 n.1 n.2

-- a leg comes
pub returns-in_default-found-clause-gone : goal.returns-in_default-found-clause-gone
returns-in_default-found-clause-gone c =
    let w = c.self.inside.world in
    let n = c.in-Some.ensures.some in
    let m = c.in-Some.moment in
    let h : HasMoved m w c.step.new.world = rw c.in_default-found.is at c.in-Ok.ensures.stepped in
    rw (sym c.self.view_is) (leg_comes w (c.is_whole.ensures.whole c.if-not-is_whole.false) m n.0 n.1 n.2 h.nothing, h.gone)

pub returns-in_default-found-clause-fewer : goal.returns-in_default-found-clause-fewer
returns-in_default-found-clause-fewer c =
    let w = c.self.inside.world in
    let whole = c.is_whole.ensures.whole c.if-not-is_whole.false in
    let n = c.in-Some.ensures.some in
    let m = c.in-Some.moment in
    let h : HasMoved m w c.step.new.world = rw c.in_default-found.is at c.in-Ok.ensures.stepped in
    let is = leg_comes w whole m n.0 n.1 n.2 h.nothing in
    λ come. rw (sym c.self.view_is) (fewer_then whole is.later h.gone)

-- a block comes
pub returns-clause-gone : goal.returns-clause-gone
returns-clause-gone c =
    let w = c.self.inside.world in
    let n = c.in-Some.ensures.some in
    let m = c.in-Some.moment in
    let b = c.in-Some-found.block in
    let h : HasPassed m b w c.step.new.world = rw c.in-Some-found.is at c.in-Ok.ensures.stepped in
    rw (sym c.self.view_is) (block_comes w (c.is_whole.ensures.whole c.if-not-is_whole.false) m n.0 n.1 n.2 b h.next h.within, h.gone)
