-- The laws of points that stay and of upper chains, read off in a real scene.
use Rattle.std.proofs.Common.{◌≡◌, ◌≢◌, ◌⊎◌, inl, inr, sym, ap, ◌∙◌, subst, List, ◌∷◌, ℕ}
use Rattle.kin_algebra.specs.declared.sign.Sign.{Sign}
use Rattle.kin_algebra.specs.declared.sign.Sign.TheVariants.{Minus, Plus}
use Rattle.kin_algebra.specs.Signs.{opposite_of}
use Rattle.kin_algebra.proofs.Signs.{AtLeast, code, opposite-opposite}
use Rattle.kin_motion.specs.declared.form.Form.TheVariants.{Turn}
use Rattle.kin_motion.specs.Scene.{Scene, IsReal}
use Rattle.kin_motion.specs.Chains.{IsUpperChain}
use Rattle.kin_motion.specs.Merges.{last_of}
use Rattle.kin_motion.proofs.RealLaws.{real_turn_laws}
use Rattle.kin_motion.proofs.MergeLaws.{turns_right}
use Rattle.kin_motion.specs.Numbers.{IsIn}
use Rattle.kin_motion.proofs.Members.{in_head}
use Rattle.kin_motion.proofs.MergeFormLaws.{last_in}
use Rattle.kin_chain.specs.Upper.{StaysIn, IsAsHigh, DifferentX, TurningRight, SmallerSet, BestPoint, EndPoints}
use Rattle.kin_chain.proofs.Comparisons.{AtMost, Below, Level, own_most, most_most, below_most, level_most}
use Rattle.kin_chain.proofs.Planes.{step, height}
use Rattle.kin_chain.proofs.Geometry.{up, along}
use Rattle.kin_chain.proofs.Stays.{apart, bare_stays, left_is}
use Rattle.kin_chain.proofs.Outer.{Outer, outer}
use Rattle.kin_chain.proofs.OuterSigns.{left_sign, right_sign}
use Rattle.kin_chain.proofs.ChainEnds.{first_left, last_right}
use Rattle.kin_chain.proofs.RealPlanes.{here, places, shown}
use Rattle.kin_chain.proofs.ChainsOfChains.{bare_in_part}
use Rattle.kin_chain.proofs.MergedChain.{Bare, chain_of}

-- + or 0 isn't -
pub never_minus : {t : Sign} → AtLeast t → t ≢ Minus
never_minus {t} (inl e) f = code (sym e ∙ f)
never_minus {t} (inr e) f = code (sym e ∙ f)

pub different_x : DifferentX
different_x s set p q real sp sq e = at (apart (here s real) (places s real) sp.0 sq.0 (stays sp) (stays sq) (level_most (here s real) level))
  where
    stays : {r : ℕ} → StaysIn s set r → Bare s real set r
    stays {r} st = bare_stays (here s real) (places s real) s (shown s real) set r st.1

    level : Level (here s real) (places s real).x p q
    level = record { is = sym ((shown s real).x_signs p q) ∙ e }

    at : (p ≡ q) ⊎ Below (here s real) (places s real).x p q → p ≡ q
    at (inl f) = f
    at (inr b) = absurd (code (sym b.is ∙ level.is))

pub turning_right : TurningRight
turning_right s set p q r real sp sq sr left right = back (s.sign (Turn p q r)) (sym ((real_turn_laws s real).slope p q r) ∙ turns_right s (real_turn_laws s real) set p q r sp.0 sr.0 sq.1 left right)
  where
    back : (t : Sign) → opposite_of t ≡ Plus → t ≡ Minus
    back t e = sym (opposite-opposite t) ∙ ap opposite_of e

pub smaller_set : SmallerSet
smaller_set s set part p within st i = (i, bare_in_part s set part p within st.1)

pub best_point_proved : BestPoint
best_point_proved s set chain i j q real u left k = let b = (chain_of s real u).best (along (here s real) (places s real) i j (left_is (here s real) (places s real) s (shown s real) left)) q k in (b.0, b.1, high b.0 b.2)
  where
    high : (c : ℕ) → AtMost (here s real) (height (here s real) (places s real) (step (here s real) (places s real) i j)) q c → IsAsHigh s i j c q
    high c m e = never_minus m.is (sym ((shown s real).slopes i j c q) ∙ e)

-- ---- end points
module _ (s : Scene) (real : IsReal s) where
  module _ {set : List ℕ} {p : ℕ} {ps : List ℕ} (u : IsUpperChain s set (p ∷ ps)) where
    abbrev pub ends : Outer (here s real) (places s real) set
    ends = outer (here s real) (places s real) set

    pub inside : (c : ℕ) → IsIn c (p ∷ ps) → IsIn c set
    inside = (chain_of s real u).inside

    pub first_highest : (q : ℕ) → IsIn q set → AtMost (here s real) (up (here s real) (places s real) ends.left) q p
    first_highest q i = let b = (chain_of s real u).best ends.left q i in most_most (here s real) b.2 (at b.0 (inside b.0 b.1) (first_left (here s real) (places s real) s (shown s real) p ps u.rising b.0 b.1))
      where
        at : (c : ℕ) → IsIn c set → (c ≡ p) ⊎ Below (here s real) (places s real).x p c → AtMost (here s real) (up (here s real) (places s real) ends.left) c p
        at c k (inl e) = subst (λ n. AtMost (here s real) (up (here s real) (places s real) ends.left) n p) (sym e) (own_most (here s real) (up (here s real) (places s real) ends.left) p)
        at c k (inr b) = below_most (here s real) (ends.by_left p c (inside p (in_head p ps)) k b)

    pub last_highest : (q : ℕ) → IsIn q set → AtMost (here s real) (up (here s real) (places s real) ends.right) q (last_of p ps)
    last_highest q i = let b = (chain_of s real u).best ends.right q i in most_most (here s real) b.2 (at b.0 (inside b.0 b.1) (last_right (here s real) (places s real) s (shown s real) p ps u.rising b.0 b.1))
      where
        at : (c : ℕ) → IsIn c set → (c ≡ last_of p ps) ⊎ Below (here s real) (places s real).x c (last_of p ps) → AtMost (here s real) (up (here s real) (places s real) ends.right) c (last_of p ps)
        at c k (inl e) = subst (λ n. AtMost (here s real) (up (here s real) (places s real) ends.right) n (last_of p ps)) (sym e) (own_most (here s real) (up (here s real) (places s real) ends.right) (last_of p ps))
        at c k (inr b) = below_most (here s real) (ends.by_right c (last_of p ps) k (inside (last_of p ps) (last_in p ps)) b)

pub end_points : EndPoints
end_points s set p ps q real u i = (
  λ e. never_minus (first_highest s real u q i).is (sym (left_sign (here s real) (places s real) s (shown s real) (ends s real u) p q (inside s real u p (in_head p ps)) i) ∙ e),
  λ e. never_minus (last_highest s real u q i).is (sym (right_sign (here s real) (places s real) s (shown s real) (ends s real u) (last_of p ps) q (inside s real u (last_of p ps) (last_in p ps)) i) ∙ e),
)
