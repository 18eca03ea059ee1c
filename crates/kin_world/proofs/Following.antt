-- The motion of a new leg, and why there is none.
use Rattle.std.proofs.Common.{◌≡◌, ◌↔◌, inl, inr, refl, sym, subst, ℕ, ℤ, ◌<◌, ◌≤◌, ◌^◌, Option, Some}
use Rattle.std.specs.Prelude.{option_map, unwrap_or}
use Rattle.kin_world.proofs.Vocabulary.{At, IsEarlier, IsNotWhole, IsOutOfBounds, IsSlow, Leg, IsKnownBy, Moment, Course, TurnsTo}
use Rattle.kin_num.specs.declared.instant.Phase.TheVariants.{After}
use Rattle.kin_motion.specs.Plans.{Plan}
use Rattle.kin_motion.specs.Turning.{just_at}
use Rattle.kin_legs.specs.Paths.{lasting, whole}
use Rattle.kin_legs.specs.Scheduling.{FollowsTooFast, MayFollow, last_motion}
use Rattle.kin_legs.proofs.SchedulingLaws.{one_continues}

-- the motion that the leg goes on from
abbrev pub before_of : Course → Option Leg → Course
before_of motion last = unwrap_or (option_map (λ (l : Leg). l.m) last) motion

-- at a whole instant a turn is always whole
pub turns_whole : (c : Course) (at : ℕ) (u v : ℤ) → at < 2 ^ 31 → IsNotWhole (just_at (whole at)) u v c → ⊥
turns_whole c at u v soon (inl after) = let clash : At ≡ After = after in absurd cc
turns_whole c at u v soon (inr none) = let one = one_continues (lasting c) at u v soon in none one.0 one.1

module _ {motion : Course} {last : Option Leg} {plan : Plan} (known : IsKnownBy motion last plan) {now : Moment} {at : ℕ} {u v : ℤ} (ahead : IsEarlier now (just_at (whole at))) where
  goes_from : (new : Course) → TurnsTo (whole at) u v (before_of motion last) new ↔ TurnsTo (whole at) u v (last_motion plan) new
  goes_from new = (subst (λ (c : Course). TurnsTo (whole at) u v c new) (sym known.motion_is), subst (λ (c : Course). TurnsTo (whole at) u v c new) known.motion_is)

  pub may_follow : ¬ ((l : Leg) × (last ≡ Some l) × (at ≤ l.at)) → (new : Course) → TurnsTo (whole at) u v (before_of motion last) new → IsSlow new → MayFollow now plan at u v new
  may_follow after new turns slow = record { ahead = ahead; after = λ has. after ((known.from at).0 has); continues = (goes_from new).0 turns; slow = slow }

  pub too_fast : ¬ ((l : Leg) × (last ≡ Some l) × (at ≤ l.at)) → IsOutOfBounds (just_at (whole at)) u v (before_of motion last) ↔ FollowsTooFast now plan at u v
  too_fast after = (
    λ out. record { ahead = ahead; after = λ has. after ((known.from at).0 has); motion = out.1.0; continues = (goes_from out.1.0).0 out.1.1; far = out.1.2 },
    λ far. (refl, (far.motion, (goes_from far.motion).1 far.continues, far.far)),
  )
