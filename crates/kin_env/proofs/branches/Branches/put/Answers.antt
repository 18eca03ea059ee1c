use Rattle.std.proofs.Common.{◌≡◌, ap, subst, arith, ◌+◌, length}
use Rattle.kin_tourney.specs.Repairs.{IsSpread}
use Rattle.kin_tourney.specs.declared.doubt.Doubt.TheVariants.{Below}
use Rattle.kin_env.specs.declared.branches.Branches.{Branches}
use Rattle.kin_env.proofs.Gifts.{marked_sound}
use Rattle.kin_env.proofs.branches.Branches.put.Goals as goal

pub doubt_leaf-requires : goal.doubt_leaf-requires
doubt_leaf-requires c = record { closed = c.requires.sound.shape.closed; inside = omega (arith, c.requires.slot, c.requires.sound.shape.doubts_room, c.requires.sound.shape.slots_room, c.len.ensures) }

pub returns-clause-sound : goal.returns-clause-sound
returns-clause-sound c =
    let t = c.args.self.now in
    let x = c.doubt_leaf.new.self in
    let e = c.doubt_leaf.ensures in
    let same : c.len.result ≡ length t.slots.items = omega (arith, c.len.ensures) in
    marked_sound t x c.args.slot c.args.held c.requires.sound c.requires.slot (ap (λ (b : Branches). b.size) e.same) (ap (λ (b : Branches). b.slots.items) e.same) (ap (λ (b : Branches). b.nodes.items) e.same) e.closed
    (subst (λ n. IsSpread t.doubts.items x.doubts.items Below n) (ap (λ n. n + c.args.slot) same) e.spread)
