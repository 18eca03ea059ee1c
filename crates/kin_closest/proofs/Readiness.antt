-- Once all slots hold their candidates, the tournament may settle.
use Rattle.std.proofs.Common.{◌≡◌, sym, ◌∙◌, [], ◌∷◌, ℕ}
use Rattle.std.specs.Prelude.{Option, Some, slice_get, IsTrue}
use Rattle.std.proofs.lemmas.List.Elements.{All-nil, All-cons}
use Rattle.kin_motion.specs.Agreements.{FitsSize}
use Rattle.kin_motion.specs.Numbers.{IsIn}
use Rattle.kin_motion.specs.Scene.{Scene, IsReal}
use Rattle.kin_motion.specs.Octants.{AreCandidates}
use Rattle.kin_motion.specs.ClosestPairs.{Near}
use Rattle.kin_motion.specs.ClosestFacts.{AreNearSlots}
use Rattle.kin_motion.proofs.NodeLaws.{held_slot}
use Rattle.kin_motion.proofs.NearLaws.{own-slot}
use Rattle.kin_tourney.specs.Tournament.{Tournament, IsReady}
pub use Rattle.kin_pairs.proofs.LiveNames.{names_live}
use Rattle.kin_near.specs.BestPairs.{HoldCandidates}
use Rattle.kin_pairs.specs.PairKeys.{pair_names}
use Rattle.kin_near.proofs.BestPairs.{ArePoints, points}
use Rattle.kin_near.proofs.SettledPairs.{are_near}

module _ {K : Type 0} (size : ℕ) (s : Scene) (real : IsReal s) (fits : FitsSize size s) (candidate : ℕ → ℕ → Option ℕ) (told : AreCandidates size s candidate) (u : Tournament K Near) (held : HoldCandidates size candidate u.slots) where
  filled : AreNearSlots size s u.slots
  filled = are_near size s candidate told u.slots held

  two_points : (i : ℕ) (m : Near) → slice_get u.slots i ≡ Some (Some m) → ArePoints size s real fits u.slots filled m
  two_points i m e = points size s real fits u.slots filled i m e

  -- different slots hold different pairs of live numbers
  pub ready : IsTrue u.whole → IsReady pair_names u s
  ready whole = record {
    whole = whole;
    apart = λ i j a e f. sym (own-slot s real size i u.slots a filled (held_slot u.slots i a e)) ∙ own-slot s real size j u.slots a filled (held_slot u.slots j a f);
    live = λ i a e. let p = two_points i a (held_slot u.slots i a e) in All-cons (λ n. IsIn n s.live) a.i (a.j ∷ []) p.i_live (All-cons (λ n. IsIn n s.live) a.j [] p.j_live (All-nil (λ n. IsIn n s.live)));
  }
