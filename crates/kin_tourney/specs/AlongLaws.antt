-- The laws of the key of the extreme point.
use Rattle.std.specs.Prelude.{List, ◌≡◌, ◌≢◌, ℕ, ◌≤◌, true, not, ℤ, pos, [], ◌∷◌, unsigned_abs}
use Rattle.std.proofs.Common.{ap, ◌∙◌, arith}
use Rattle.std.proofs.lemmas.List.Elements.{All-head}
use Rattle.kin_motion.specs.declared.form.Form.TheVariants.{Line}
use Rattle.kin_motion.specs.Numbers.{IsIn}
use Rattle.kin_motion.specs.Scene.{Scene, IsReal}
use Rattle.kin_motion.specs.Forms.{IsAskable}
use Rattle.kin_motion.specs.Extremes.{along_key, left_is_farther}
use Rattle.kin_motion.specs.Tournaments.{beats}
use Rattle.kin_motion.proofs.RealLaws.{real_line_laws}
use Rattle.kin_motion.proofs.BestLaws.{farther_through, farther_turned}
use Rattle.kin_tourney.specs.Names.{AreLive}

-- the form keeps the bounds
pub along_askable : (dx dy : ℤ) → unsigned_abs dx ≤ 16 → unsigned_abs dy ≤ 16 → (live : List ℕ) (i j : ℕ) → AreLive live (i ∷ []) → AreLive live (j ∷ []) → IsAskable live (Line dx dy (pos 0) i j)
along_askable dx dy small small' live i j i_live j_live = record {
  i_live = All-head (λ k. IsIn k live) i [] i_live;
  j_live = All-head (λ k. IsIn k live) j [] j_live;
  dx_small = small;
  dy_small = small';
  off_small = omega arith;
}

-- of two points one is farther, or as far and less
pub along_total : (dx dy : ℤ) (s : Scene) (i j : ℕ) → IsReal s → AreLive s.live (i ∷ []) → AreLive s.live (j ∷ []) → i ≢ j → beats s (along_key dx dy) j i ≡ not (beats s (along_key dx dy) i j)
along_total dx dy s i j real live live' n = ap (λ t. left_is_farther t j i) ((real_line_laws s real).opposite dx dy i j) ∙ farther_turned (s.sign (Line dx dy (pos 0) i j)) i j n

-- farther than a farther one is farther
pub along_transitive : (dx dy : ℤ) (s : Scene) (i j k : ℕ) → IsReal s → AreLive s.live (i ∷ []) → AreLive s.live (j ∷ []) → AreLive s.live (k ∷ []) → beats s (along_key dx dy) i j ≡ true → beats s (along_key dx dy) j k ≡ true → beats s (along_key dx dy) i k ≡ true
along_transitive dx dy s i j k real live live' live'' = farther_through _ _ _ i j k ((real_line_laws s real).chain dx dy i j k)
