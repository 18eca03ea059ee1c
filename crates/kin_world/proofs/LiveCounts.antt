-- A whole world has few live facts.
use Rattle.kin_world.proofs.Vocabulary.{◌≡◌, ◌≤◌, sym, ℕ, length, live_of, live_fits, real_at, World, IsWhole}
use Rattle.kin_motion.specs.FactCounts.{most_live}
use Rattle.kin_motion.proofs.FactCounts.{few_live_facts}
use Rattle.kin_world.specs.Worlds.{world_scene}

pub few_live : (w : World) (n : ℕ) → IsWhole w → n ≡ length w.live → n ≤ most_live w.size w.keeps (length (live_of w.motions))
few_live w n whole e =
    few_live_facts w.size w.keeps (world_scene w) n (real_at w.motions w.moment whole.canonical) (live_fits w.size w.motions w.moment whole.room) (w.live, whole.live, sym e)
