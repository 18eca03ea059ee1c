use Rattle.std.proofs.Common.{◌≡◌, arith, ℕ, ◌<◌, length, Vec, Global}
use Rattle.std.specs.Prelude.{vec_len}
use Rattle.std.proofs.lemmas.List.Filters.{dedup_is}
use Rattle.kin_wedge.proofs.ChangedSlots.{listed}
use Rattle.kin_wedge.proofs.Noting.{noted_once, rising_once, rising_short}
use Rattle.kin_wedge.proofs.changed.list_changed.Goals as goal

few : (n : ℕ) (v : Vec ℕ Global) → n ≡ vec_len v → n < 2 → length v.items < 2
few n v is l = omega (arith, is, l, v.ok.0)

pub returns-then-len-lt2 : goal.returns-then-len-lt2
returns-then-len-lt2 c =
    let v = c.note_all.new.changed in
    listed c.args.table.now c.args.touches.now v.items c.requires.slots c.in_ok-note_all.ensures (rising_short v.items (few c.len.result v c.len.ensures c.if-len-lt2.true))

pub returns : goal.returns
returns c =
    let once = dedup_is _ _ _ c.dedup.ensures.filtered in
    listed c.args.table.now c.args.touches.now c.dedup.new.self.items c.requires.slots (noted_once _ _ _ c.sort_unstable.ensures.permutation once c.args.table.now c.args.touches.now c.in_ok-note_all.ensures) (rising_once _ _ _ c.sort_unstable.ensures.permutation once c.sort_unstable.ensures.sorted)
