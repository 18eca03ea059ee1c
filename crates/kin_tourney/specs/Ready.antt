-- Items that are ready are fair.
use Rattle.std.proofs.Common.{sym, ap, ◌∙◌, subst, ℕ, List}
use Rattle.std.specs.Prelude.{Some}
use Rattle.kin_motion.specs.Scene.{Scene, IsReal}
use Rattle.kin_motion.specs.Kinetics.{HaveSameLive}
use Rattle.kin_motion.specs.Tournaments.{Key}
use Rattle.kin_tourney.specs.Names.{AreLive, IsTotal, IsTransitive}
use Rattle.kin_motion.proofs.FairKeys.{IsFair}
use Rattle.kin_tourney.specs.Tournament.{Tournament, IsReady}

pub fair_when_ready : {K Item : Type 0} (names : Item → List ℕ) (key : Key Item) → IsTotal names key → IsTransitive names key
    → (t : Tournament K Item) (s : Scene) → IsReal s → IsReady names t s → IsFair s key t.slots
fair_when_ready {K} {Item} names key total through t s real ready = record {
  total = λ i j a b n here there. total s a b real (ready.live i a here) (ready.live j b there) (λ e. n (ready.apart i j a here (there ∙ ap Some (sym e))));
  through = λ i j k a b c p q r. through s a b c real (ready.live i a p) (ready.live j b q) (ready.live k c r);
}

pub ready_elsewhere : {K Item : Type 0} (names : Item → List ℕ) (t : Tournament K Item) (v w : Scene) → HaveSameLive v w → IsReady names t v → IsReady names t w
ready_elsewhere {K} {Item} names t v w same h = record {
  whole = h.whole;
  apart = h.apart;
  live = λ i a e. subst (λ live. AreLive live (names a)) same (h.live i a e);
}
