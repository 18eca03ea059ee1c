use Rattle.kin_world.proofs.Vocabulary.{ap, true, ◌^◌, [], At, certificates_of}
use Rattle.kin_num.proofs.Values.{start_canonical}
use Rattle.kin_world.proofs.StartLaws.{empty_slots, sound_start}
use Rattle.kin_world.proofs.upkeep.Upkeep.new.Goals as goal

pub of-requires : goal.of-requires
of-requires c = record { canonical = start_canonical }

pub returns-clause-sound : goal.returns-clause-sound
returns-clause-sound c =
    let motions = c.in_ok-motions.ensures in
    let kept = rw (← c.in-Ok.ensures.items) at c.in_ok-structures.ensures in
    sound_start _ (2 ^ c.args.size)
    (record { low = c.requires.low; high = c.requires.high; keepable = rw c.in-Ok.ensures.items c.requires.keepable; room = motions.room; slow = motions.slow }) (rw c.of.ensures start_canonical)
    (empty_slots (2 ^ c.args.size) c.in_ok-motions.motions motions.room motions.none) kept.count kept.vacant
    (λ t. record { live = c.in_ok-with_room.ensures.live t; made = c.in_ok-with_room.ensures.made t })

pub returns-clause-empty : goal.returns-clause-empty
returns-clause-empty c =
    let none = empty_slots (2 ^ c.args.size) c.in_ok-motions.motions c.in_ok-motions.ensures.room c.in_ok-motions.ensures.none in
    let live = ap certificates_of c.in_ok-with_room.ensures.live in
    λ t. record { size = c.args.size; keeps = c.in-Ok.ensures.items t; motions = none t; legs = []; moment = record { at = c.of.ensures t; phase = At }; live = live t; made = c.in_ok-with_room.ensures.made t; whole = true }
