-- The determination law of a tournament.
use Rattle.std.specs.Prelude.{ℕ, List}
use Rattle.kin_motion.specs.Scene.{Scene, IsReal}
use Rattle.kin_motion.specs.Kinetics.{HaveSameLive, AllHold}
use Rattle.kin_motion.specs.Tournaments.{Key}
use Rattle.kin_tourney.specs.Names.{IsTotal, IsTransitive}
use Rattle.kin_tourney.specs.Tournament.{Tournament, IsSettled, winner_at}
use Rattle.kin_tourney.specs.Ready.{fair_when_ready, ready_elsewhere}
use Rattle.kin_motion.proofs.PlayedTournaments.{tournament_is_determined}

-- a settled tournament is settled in every real scene with the same live numbers in which its facts hold
pub determined_law : {K Item : Type 0} (names : Item → List ℕ) (key : Key Item) → IsTotal names key → IsTransitive names key
    → (t : Tournament K Item) (v w : Scene) → IsReal v → IsSettled names key t v → HaveSameLive v w → IsReal w → AllHold w t.facts → IsSettled names key t w
determined_law {K} {Item} names key total through t v w real before same real' hold =
    let ready = ready_elsewhere names t v w same before.ready in
    record {
      room = before.room;
      ready = ready;
      tournament = tournament_is_determined v w key t.size t.slots before.room (fair_when_ready names key total through t v real before.ready) (fair_when_ready names key total through t w real' ready) (winner_at t) t.facts before.tournament hold;
    }
