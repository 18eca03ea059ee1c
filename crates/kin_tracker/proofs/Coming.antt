-- What comes next to a world, and what a step to its moment finds there.
use Rattle.std.proofs.Common.{◌≡◌, sym, subst, [], Some, None}
use Rattle.std.proofs.lemmas.Option.{same_Some}
use Rattle.kin_num.specs.Canonical.{IsCanonical}
use Rattle.kin_num.specs.Order.{IsEarlier}
use Rattle.kin_num.specs.declared.instant.Moment.{Moment}
use Rattle.kin_num.proofs.MomentLaws.{never, through}
use Rattle.kin_motion.specs.Journal.{Block, IsJournal, IsNextBlock}
use Rattle.kin_motion.proofs.JournalLaws.{block_is_listed, next_block_is_one}
use Rattle.kin_legs.specs.Nexts.{Next, IsNext, block, leg, nothing, comes_at}
use Rattle.kin_world.specs.Worlds.{IsWhole, World, world_setting, world_view}

not_back : (now m : Moment) → IsCanonical now.at → IsCanonical m.at → IsEarlier now m → ¬ (IsEarlier m now)
not_back now m here there later e = never now here (through now m now here there here later e)

module _ (w : World) (whole : IsWhole w) (m : Moment) where
  comes_canonical : (n : Next) → IsNext (world_view w) n → comes_at n ≡ Some m → IsCanonical m.at
  comes_canonical (block b) is at = subst (λ (k : Moment). IsCanonical k.at) (same_Some b.moment m at) is.next.canonical
  comes_canonical (leg k) is at = subst (λ (k : Moment). IsCanonical k.at) (same_Some k m at) is.canonical
  comes_canonical nothing is at = absurd (let clash : None ≡ Some m = at in cc)

  pub comes_later : (n : Next) → IsNext (world_view w) n → comes_at n ≡ Some m → ¬ (IsEarlier m w.moment)
  comes_later (block b) is at = subst (λ (k : Moment). ¬ (IsEarlier k w.moment)) (same_Some b.moment m at) (not_back w.moment b.moment whole.canonical is.next.canonical is.next.later)
  comes_later (leg k) is at = subst (λ (k : Moment). ¬ (IsEarlier k w.moment)) (same_Some k m at) (not_back w.moment k whole.canonical is.canonical is.later)
  comes_later nothing is at = absurd (let clash : None ≡ Some m = at in cc)

  -- a block comes up to there: so it is what comes next
  pub block_comes : (n : Next) → IsNext (world_view w) n → comes_at n ≡ Some m → (b : Block) → IsNextBlock (world_setting w) w.moment b → ¬ (IsEarlier m b.moment) → IsNext (world_view w) (block b)
  block_comes (block c) is at b next within = subst (λ (d : Block). IsNext (world_view w) (block d)) (next_block_is_one (world_setting w) w.moment c b whole.canonical is.next next) is
  block_comes (leg k) is at b next within =
      absurd (block_is_listed (world_setting w) w.moment k b whole.canonical is.canonical next (subst (λ (x : Moment). ¬ (IsEarlier x b.moment)) (sym (same_Some k m at)) within) is.none_fails)
  block_comes nothing is at b next within = absurd (let clash : None ≡ Some m = at in cc)

  -- nothing fails up to there: so a leg comes next
  pub leg_comes : (n : Next) → IsNext (world_view w) n → comes_at n ≡ Some m → IsJournal (world_setting w) w.moment m [] → IsNext (world_view w) (leg m)
  leg_comes (block c) is at quiet =
      let same = same_Some c.moment m at in
      absurd (block_is_listed (world_setting w) w.moment m c whole.canonical (comes_canonical (block c) is at) is.next
      (subst (λ (x : Moment). ¬ (IsEarlier x c.moment)) same (never c.moment is.next.canonical)) quiet)
  leg_comes (leg k) is at quiet = subst (λ (x : Moment). IsNext (world_view w) (leg x)) (same_Some k m at) is
  leg_comes nothing is at quiet = absurd (let clash : None ≡ Some m = at in cc)
