use Rattle.std.proofs.Common.{◌≡◌, refl, sym, ap, ◌∙◌, arith, List, [], ◌∷◌, ◌++◌, ◌+◌, map, reverse, length, Some}
use Rattle.std.proofs.lemmas.List.{map-append, length-append}
use Rattle.kin_motion.specs.Merges.{Half.{A, B}, Breakpoint, breakpoints_of, slopes_from}
use Rattle.kin_motion.specs.Scene.{placed_at}
use Rattle.kin_motion.specs.Sweeps.{breakpoints_back}
use Rattle.kin_diameter.specs.Merging.{left_of}
use Rattle.kin_diameter.specs.Seen.{half_of, seen, slope_fact}
use Rattle.kin_diameter.proofs.Merges.{under_way_is, goes_on, facts_more}
use Rattle.kin_diameter.proofs.MergedSweeps.{sweep_done, kept_once}
use Rattle.kin_diameter.proofs.merge.Merged.merge.Goals as goal

pub both-preserved : goal.both-preserved
both-preserved g c =
    let s = g.O.Signs.scene c.args.now.now in
    let upper = breakpoints_of A c.args.upper.now in
    let lower = breakpoints_back (reverse c.args.lower.now) in
    let us = breakpoints_of A c.both.upper_rest.now in
    let ls = breakpoints_back (reverse c.both.lower_rest.now) in
    let es = map seen c.both.self.breakpoints.items in
    let p = c.in-Some.next in
    let last = c.both.last in
    let w = c.both.invariant.under_way in
    let next = c.in-Some.ensures.some in
    let items : map seen c.push.new.self.breakpoints.items ≡ map seen c.both.self.breakpoints.items ++ seen c.in-Some.next.at ∷ [] = ap (map seen) c.in_ok-push.ensures.breakpoints ∙ map-append seen c.both.self.breakpoints.items (c.in-Some.next.at ∷ []) in
    let count = c.in-Some.ensures.count in
    let few = c.both.invariant.few in
    let more : length c.push.new.self.breakpoints.items ≡ length c.both.self.breakpoints.items + 1 = ap length c.in_ok-push.ensures.breakpoints ∙ length-append c.both.self.breakpoints.items (c.in-Some.next.at ∷ []) in
    record {
      under_way = under_way_is s upper lower (left_of A (half_of c.in-Some.next.at.chain) us) (breakpoints_of A c.rest_after.result.0.now) (left_of B (half_of c.in-Some.next.at.chain) ls) (breakpoints_back (reverse c.rest_after.result.1.now))
          (es ++ seen c.in-Some.next.at ∷ []) (map seen c.push.new.self.breakpoints.items) (Some c.in-Some.next) c.rest_after.ensures.upper c.rest_after.ensures.lower items (goes_on s upper lower us ls es last p w next);
      facts = c.in_ok-push.ensures.slopes ∙ facts_more s us ls es last c.in-Some.next.at c.in-Some.next.ahead (map slope_fact c.both.self.slopes.items) w.ends next c.both.invariant.facts
          ∙ ap (λ (l : List Breakpoint). map (placed_at s 0) (slopes_from l)) (sym items);
      upper_left = λ i h. c.both.invariant.upper_left i (c.rest_after.ensures.upper_among i h);
      lower_left = λ i h. c.both.invariant.lower_left i (c.rest_after.ensures.lower_among i h);
      few = omega (arith, count, few, more);
    }

pub returns : goal.returns
returns g c =
    let s = g.O.Signs.scene c.args.now.now in
    let es = map seen c.both.self.breakpoints.items in
    let none = c.in_default.ensures.none refl in
    let sweep =
    sweep_done s c.requires.real c.args.upper.now c.args.lower.now c.requires.chains (breakpoints_of A c.both.upper_rest.now) (breakpoints_back (reverse c.both.lower_rest.now))
    es c.both.last none.0 none.1 c.both.invariant.under_way in
    let few = c.both.invariant.few in
    let count = c.in_default.ensures.none_count refl in
    record {
      sweep = sweep;
      facts = c.both.invariant.facts;
      once = kept_once s c.requires.real c.args.upper.now c.args.lower.now c.requires.chains es c.both.self.slopes.items sweep c.both.invariant.facts;
      cost = omega (arith, few, count);
    }
