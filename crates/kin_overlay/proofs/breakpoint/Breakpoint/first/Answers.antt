use Rattle.std.proofs.Common.{◌≡◌, refl, sym, arith, List, [], ◌∷◌, ℕ, ◌<◌, length, None}
use Rattle.kin_motion.specs.Merges.{Half, breakpoints_of}
use Rattle.kin_overlay.specs.Lists.{first_of}
use Rattle.kin_overlay.specs.Seen.{half_of}
use Rattle.kin_overlay.proofs.breakpoint.Breakpoint.first.Goals as goal

none_of_few : (h : Half) (ps : List ℕ) → length ps < 2 → first_of (breakpoints_of h ps) ≡ None
none_of_few h [] l = refl
none_of_few h (i ∷ []) l = refl
none_of_few h (i ∷ j ∷ ps) l = absurd (omega arith)

pub returns-then-chain-lt2 : goal.returns-then-chain-lt2
returns-then-chain-lt2 c = sym (none_of_few (half_of c.args.half) c.args.chain.now c.if-chain-lt2.true)
