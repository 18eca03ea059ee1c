use Rattle.std.proofs.Common.{◌≡◌, sym, ap, subst, refl, arith, ◌∙◌, List, ◌++◌, ◌*◌, get_or, set}
use Rattle.std.specs.Prelude.{None}
use Rattle.std.proofs.lemmas.Option.{same_Some}
use Rattle.kin_algebra.proofs.Places.{get_within}
use Rattle.kin_algebra.proofs.Results.{for_ok, at_ok}
use Rattle.kin_env.specs.declared.node.Node.{Node}
use Rattle.kin_env.specs.Joints.{IsTold, IsVisited, HalvesKeepOrder}
use Rattle.kin_env.specs.Nodes.{chain_of}
use Rattle.kin_env.specs.Walks.{IsHeard}
use Rattle.kin_env.proofs.Following.{followed, right_there, right_stays}
use Rattle.kin_env.proofs.Hearing.{heard, halves_read, read_above, read_left, read_right}
use Rattle.kin_env.proofs.branches.visit_among.Goals as goal

pub visit-requires : goal.visit-requires
visit-requires g c =
    let whole = sym c.split_at_mut-above.ensures.value in
    let front = c.split_at_mut-above.ensures.front_len in
    let own = c.index-above-node-2.is in
    let t = c.requires.told _ _ _
    (read_above _ _ c.requires.some c.requires.room _ _ whole front _ own) (read_left _ _ c.requires.some c.requires.room _ _ whole front _ c.index-below-0-2.is) (read_right _ _ c.requires.some c.requires.room _ _ whole front _ c.index-below-1-2.is) in
    record {
      real = c.requires.real;
      left_rest = t.1;
      right_rest = t.2;
      told = subst (λ (n : Node). IsTold c.args.node (g.O.Signs.scene c.args.now.now) n c.index-below-0-2.result c.index-below-1-2.result) own t.0;
    }

pub returns-clause-tests : goal.returns-clause-tests
returns-clause-tests g c = λ h.
    let whole = sym c.split_at_mut-above.ensures.value in
    let front = c.split_at_mut-above.ensures.front_len in
    let own = c.index-above-node-2.is in
    c.in_ok-visit.ensures.tests
    (subst (λ (n : Node). HalvesKeepOrder n.merge (chain_of c.index-below-0-2.result) (chain_of c.index-below-1-2.result)) own
    (halves_read c.args.nodes.now c.args.node _ _ _
    (read_above _ _ c.requires.some c.requires.room _ _ whole front _ own) (read_left _ _ c.requires.some c.requires.room _ _ whole front _ c.index-below-0-2.is) (read_right _ _ c.requires.some c.requires.room _ _ whole front _ c.index-below-1-2.is) h))

pub returns-clause-heard : goal.returns-clause-heard
returns-clause-heard g c =
    let whole = sym c.split_at_mut-above.ensures.value in
    let front = c.split_at_mut-above.ensures.front_len in
    let own = c.index-above-node-2.is in
    let visited = subst (λ (m : Node). IsVisited c.args.node (g.O.Signs.scene c.args.now.now) m c.visit.new.self c.index-below-0-2.result c.index-below-1-2.result c.args.out.now c.visit.new.out) (sym own) c.in_ok-visit.ensures.visited in
    let high = c.split_at_mut-above.result.1.now in
    let left_was = get_or high 0 c.index-below-0-3.result in
    let left : Node = record left_was { edits = c.take_back.new.edits } in
    let next = set high 0 left in
    let right_was = get_or next 1 c.index-below-1-3.result in
    let right : Node = record right_was { edits = c.take_back-2.new.edits } in
    heard _ _ c.requires.some c.requires.room _ _ whole front _ _ _ c.visit.new.self left_was right_was left right
    (read_above _ _ c.requires.some c.requires.room _ _ whole front _ own) (read_left _ _ c.requires.some c.requires.room _ _ whole front _ c.index-below-0-2.is) (read_right _ _ c.requires.some c.requires.room _ _ whole front _ c.index-below-1-2.is)
    _ _ _ visited
    (ap (λ (m : Node). get_or high 0 m) c.index-below-0-3.is) refl refl refl c.take_back.ensures
    (ap (λ (m : Node). get_or next 1 m) c.index-below-1-3.is) refl refl refl c.take_back-2.ensures

pub goes_without-requires : goal.goes_without-requires
goes_without-requires g c =
    let whole = sym c.split_at_mut-above.ensures.value in
    let front = c.split_at_mut-above.ensures.front_len in
    let room = c.requires.room in
    let left = get_within c.args.nodes.now (2 * c.args.node) (omega arith) in
    record {
      rest = (c.requires.told _ _ _
          (read_above _ _ c.requires.some c.requires.room _ _ whole front _ c.index-above-node.is) left.1
          (read_right _ _ c.requires.some c.requires.room _ _ whole front _ (ap (λ (n : Node). get_or c.split_at_mut-above.result.1.now 1 n) c.index-below-1.is))).2;
    }

pub follow-requires : goal.follow-requires
follow-requires g c =
    let whole = sym c.split_at_mut-above.ensures.value in
    let front = c.split_at_mut-above.ensures.front_len in
    record {
      rest = (c.requires.told _ _ _
          (read_above _ _ c.requires.some c.requires.room _ _ whole front _ c.index-above-node.is)
          (read_left _ _ c.requires.some c.requires.room _ _ whole front _ (ap (λ (n : Node). get_or c.split_at_mut-above.result.1.now 0 n) c.index-below-0.is))
          (read_right _ _ c.requires.some c.requires.room _ _ whole front _ c.index-below-1.is)).1;
    }

pub returns-then-goes_without-clause-tests : goal.returns-then-goes_without-clause-tests
returns-then-goes_without-clause-tests g c = for_ok c.follow.result _ (λ x k h. omega arith)

pub returns-then-goes_without-clause-heard : goal.returns-then-goes_without-clause-heard
returns-then-goes_without-clause-heard g c =
    let whole = sym c.split_at_mut-above.ensures.value in
    let front = c.split_at_mut-above.ensures.front_len in
    let above = c.split_at_mut-above.result.0.now in
    let below = c.split_at_mut-above.result.1.now in
    let s = g.O.Signs.scene c.args.now.now in
    let asked = get_or above c.args.node c.index-above-node.result in
    let node = get_or above c.args.node c.index-above-node-then-goes_without.result in
    let left = get_or below 0 c.index-below-0.result in
    let right = get_or below 1 c.index-below-1.result in
    let left_is : left ≡ get_or below 0 left = ap (λ (n : Node). get_or below 0 n) c.index-below-0.is in
    let right_is : right ≡ get_or below 1 right = ap (λ (n : Node). get_or below 1 n) c.index-below-1.is in
    let asked_own = read_above _ _ c.requires.some c.requires.room _ _ whole front asked (ap (λ (n : Node). get_or above c.args.node n) c.index-above-node.is) in
    let own = read_above _ _ c.requires.some c.requires.room _ _ whole front node (ap (λ (n : Node). get_or above c.args.node n) c.index-above-node-then-goes_without.is) in
    let left_own = read_left _ _ c.requires.some c.requires.room _ _ whole front left left_is in
    let right_own = read_right _ _ c.requires.some c.requires.room _ _ whole front right right_is in
    let told = (c.requires.told node left right own left_own right_own).0 in
    let k = c.goes_without.ensures in
    let so = c.if-goes_without.true in
    let e = c.follow.ensures in
    let none = subst (λ (n : Node). n.merge ≡ None) (same_Some asked node (sym asked_own ∙ own)) (k.none so) in
    let new = c.follow.new.self in
    let half = c.follow.new.half in
    for_ok c.follow.result _ (λ x is.
    subst (λ (ns : List Node). IsHeard c.args.node s c.args.nodes.now (set above c.args.node new ++ ns) c.args.out.now c.args.out.now) (right_stays below half right right_is)
    (heard _ _ c.requires.some c.requires.room _ _ whole front node left right new left right half right own left_own right_own s c.args.out.now c.args.out.now
    (followed c.args.node s node new left right c.args.out.now told none (k.quiet so) (k.empty so) e.merge (at_ok c.follow.result _ x is e.passed) e.edits e.failed)
    left_is (ap (λ (n : Node). n.merge) e.half) (ap (λ (n : Node). n.passed.items) e.half) (ap (λ (n : Node). n.failed.items) e.half) e.taken
    (right_there below half right right_is) refl refl refl (k.quiet so)))
