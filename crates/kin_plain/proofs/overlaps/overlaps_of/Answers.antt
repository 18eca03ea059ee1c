use Rattle.std.proofs.Common.{w32}
use Rattle.std.proofs.lemmas.Int.{to_z-of_z}
use Rattle.kin_plain.proofs.LiveLists.{all_live}
use Rattle.kin_plain.proofs.OverlapPairs.{all_overlaps, later_live, overlaps_more}
use Rattle.kin_plain.proofs.overlaps.overlaps_of.Goals as goal

pub put_overlaps_with-requires-clause-i_live : goal.put_overlaps_with-requires-clause-i_live
put_overlaps_with-requires-clause-i_live g c =
    all_live (g.O.Signs.scene c.args.now.now) c.args.live.now c.requires.live c.loop-place.place 0 c.loop-place-test.true

pub put_overlaps_with-requires-clause-live : goal.put_overlaps_with-requires-clause-live
put_overlaps_with-requires-clause-live g c = later_live (g.O.Signs.scene c.args.now.now) c.args.live.now _ _ c.requires.live

pub loop-place-preserved : goal.loop-place-preserved
loop-place-preserved g c =
    overlaps_more (g.O.Signs.scene c.args.now.now) _ _ c.args.live.now c.loop-place.place c.loop-place.pairs.items c.put_overlaps_with.new.pairs.items _
    c.loop-place-test.true c.in_ok-put_overlaps_with.ensures c.loop-place.invariant

pub returns : goal.returns
returns g c =
    let same_w = to_z-of_z w32 c.args.w (record { sfits = c.ranges.w.sfits }) in
    let same_h = to_z-of_z w32 c.args.h (record { sfits = c.ranges.h.sfits }) in
    all_overlaps (g.O.Signs.scene c.args.now.now) c.args.w c.args.h _ _ c.args.live.now c.loop-place.place c.loop-place.pairs.items same_w same_h
    c.loop-place-test.false c.loop-place.invariant
