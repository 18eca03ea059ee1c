-- What a tree of matches keeps between two repairs.
use Rattle.std.specs.Prelude.{◌≡◌, ◌≢◌, ℕ, ◌+◌, ◌*◌, ◌/◌, ◌≤◌, ◌<◌, true, length, Some, None}
use Rattle.kin_algebra.specs.declared.sign.Sign.{Sign}
use Rattle.kin_motion.specs.Tournaments.{Key, is_under}
use Rattle.kin_tourney.specs.declared.doubt.Doubt.TheVariants.{Clear, Here}
use Rattle.kin_tourney.specs.Tournament.{mark_in, mark_count}
use Rattle.kin_tourney.specs.Repairs.{IsFed}
use Rattle.kin_tourney.specs.Standings.{Standings, IsRight, doubt_in, doubt_count, fact_in, named_at}

-- there is an inner node; nodes above a marked slot are in doubt, and few others; those of which it is the best of a half are in doubt themselves; a node that isn't is the match of its halves at some sign; each best slot is that of a half
pub record IsSound {Item : Type 0} (key : Key Item) (t : Standings Item) : Type 0 where
  pub some : 1 ≤ t.size
  pub leaves : (i : ℕ) → mark_in t.marked i ≡ true → doubt_in t.doubts ((length t.items + i) / 2) ≢ Clear
  pub won : (i u : ℕ) → mark_in t.marked i ≡ true → is_under t.size u i ≡ true → named_at t u ≡ Some i → doubt_in t.doubts (u / 2) ≡ Here
  pub consistent : (v : ℕ) → 0 < v → v < length t.items → doubt_in t.doubts v ≢ Here → (sign : Sign) × IsRight key (λ f. sign) t v
  pub fed : IsFed t
  pub no_root : fact_in t.facts 0 ≡ None
  pub few : doubt_count t.doubts ≤ 1 + t.size * mark_count t.marked
