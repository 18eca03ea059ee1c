-- An envelope tree with the motions that it follows.
use Rattle.std.specs.Prelude.{◌≡◌, ℕ, ◌^◌, ◌≤◌, ◌<◌, not, ◌&&◌, List, Option, length, IsTrue}
use Rattle.kin_motion.specs.Course.{Course, live_of}
use Rattle.kin_motion.specs.Numbers.{is_in, IsIn}
use Rattle.kin_env.specs.Trees.{Envelope, chain_of_slot, is_leaving}
use Rattle.kin_env.specs.Walks.{slot_in}

-- the set slots are the live numbers, and known are the numbers that have left and entered since the last settle
pub record IsFollowed (size : ℕ) (motions : List (Option Course)) (t : Envelope) (gone fresh : List ℕ) : Type 0 where
  pub small : size ≤ 12
  pub motions_room : length motions ≡ 2 ^ size
  pub sized : t.size ≡ size
  pub room : length t.slots ≡ 2 ^ size
  pub whole : IsTrue t.whole
  pub members : (i : ℕ) → is_in i (live_of motions) ≡ slot_in t.slots i
  pub gone_low : (i : ℕ) → IsIn i gone → i < 2 ^ size
  pub left : (i : ℕ) → i < 2 ^ size → is_in i gone ≡ is_leaving t i
  pub entered : (i : ℕ) → i < 2 ^ size → is_in i fresh ≡ slot_in t.slots i && not (is_in i (chain_of_slot t i))
