use Rattle.kin_rank.specs.Finding.{is_within}
use Rattle.kin_rank.proofs.Asking.{sorted_rises, sorted_has}
use Rattle.kin_rank.proofs.ranges.pick_rising.Goals as goal

pub returns-clause-rising : goal.returns-clause-rising
returns-clause-rising c = sorted_rises (is_within c.args.places.now c.args.range) c.args.numbers.now c.in_ok-picked.picked.items c.sort_unstable.new.self.items c.requires.apart
    c.in_ok-picked.ensures c.sort_unstable.ensures.permutation c.sort_unstable.ensures.sorted

pub returns-clause-each : goal.returns-clause-each
returns-clause-each c = sorted_has (is_within c.args.places.now c.args.range) c.args.numbers.now c.in_ok-picked.picked.items c.sort_unstable.new.self.items c.in_ok-picked.ensures
    c.sort_unstable.ensures.permutation
