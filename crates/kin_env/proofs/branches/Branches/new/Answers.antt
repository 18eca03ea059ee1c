use Rattle.std.proofs.Common.{ap, ◌∙◌, arith, ◌*◌, replicate, set, false}
use Rattle.std.proofs.Math.Pow.{pow_pos}
use Rattle.kin_tourney.specs.declared.doubt.Doubt.TheVariants.{Clear, Here}
use Rattle.kin_env.specs.declared.branches.Branches.{Branches}
use Rattle.kin_env.proofs.Gifts.{blank_sound}
use Rattle.kin_env.proofs.branches.Branches.new.Goals as goal

pub no_doubts-requires : goal.no_doubts-requires
no_doubts-requires c = omega (arith, c.room_for-room.ensures.value, pow_pos c.args.size)

pub returns-clause-sound : goal.returns-clause-sound
returns-clause-sound c =
    let x : Branches = record { alloc = c.args.alloc; size = c.args.size; slots = c.in_ok-slots.slots; nodes = c.in_ok-nodes.nodes; doubts = c.in_ok-doubts.doubts; buffers = tt } in
    let is = c.room_for-room.ensures.value in
    blank_sound x c.requires.low c.requires.high
    (c.in_ok-slots.ensures ∙ ap (λ n. replicate n false) is)
    (c.in_ok-nodes.ensures.room ∙ ap (λ n. 2 * n) is)
    c.in_ok-nodes.ensures.blank
    (c.in_ok-doubts.ensures ∙ ap (λ n. set (replicate (2 * n) Clear) 0 Here) is)
