-- The determination law of a kinetic farthest pair.
use Rattle.std.proofs.Common.{◌≡◌, sym, ap₂, ◌∙◌, subst, List, [], ◌∷◌, ◌++◌, ℕ, ◌+◌, ◌^◌, ◌<◌, map, reverse}
use Rattle.std.specs.Prelude.{Contains}
use Rattle.std.proofs.lemmas.List.Elements.{All-head, All-tail, All-cons, All-nil}
use Rattle.kin_algebra.proofs.Members.{contains_head, contains_tail}
use Rattle.kin_motion.specs.declared.fact.Placed.{Placed}
use Rattle.kin_motion.specs.declared.form.Form.{Form}
use Rattle.kin_motion.specs.declared.keep.Keep.{Keep}
use Rattle.kin_motion.specs.Contents.{IsSettledDiameter, IsSettledTournament}
use Rattle.kin_motion.specs.DiameterFacts.{IsDiameterFact}
use Rattle.kin_motion.specs.Farthest.{farness_key}
use Rattle.kin_motion.specs.Kinetics.{HaveSameLive, AllHold}
use Rattle.kin_motion.specs.Live.{IsKeepFact}
use Rattle.kin_motion.specs.Merges.{slopes_from}
use Rattle.kin_motion.specs.Numbers.{IsIn}
use Rattle.kin_motion.specs.Parts.{moved_by}
use Rattle.kin_motion.specs.Scene.{Scene, IsReal, Holds, placed_at}
use Rattle.kin_motion.specs.Sets.{ListsExactly}
use Rattle.kin_motion.specs.Sweeps.{IsSwept, cell_pairs, AreCellSlots}
use Rattle.kin_tourney.specs.Determined.{determined_law}
use Rattle.kin_tourney.specs.Tournament.{IsSettled, winner_at}
use Rattle.kin_pairs.specs.PairKeys.{pair_names, farness_total, farness_transitive}
use Rattle.kin_far.proofs.DeterminedSweeps.{held_signs, sweep_is_determined}
use Rattle.kin_far.proofs.SettledDiameters.{diameter_is_settled}
use Rattle.kin_diameter.specs.Diameter.{Diameter, facts_of, pair_told, IsSettledKinDiameter, IsDiameterAtRest, IsDiameterFor, IsGrounded}

-- what holds of all facts holds of the first ones, and of those after them
first_hold : (s : Scene) (xs ys : List Placed) → AllHold s (xs ++ ys) → AllHold s xs
first_hold s [] ys h = All-nil (λ p. Holds s p.fact)
first_hold s (x ∷ xs) ys h =
    All-cons (λ p. Holds s p.fact) x xs (All-head (λ p. Holds s p.fact) x (xs ++ ys) h)
    (first_hold s xs ys (All-tail (λ p. Holds s p.fact) x (xs ++ ys) h))

moved_hold : (s : Scene) (xs ys : List Placed) → AllHold s (xs ++ map (moved_by 1) ys) → AllHold s ys
moved_hold s (x ∷ xs) ys h = moved_hold s xs ys (All-tail (λ p. Holds s p.fact) x (xs ++ map (moved_by 1) ys) h)
moved_hold s [] [] h = All-nil (λ p. Holds s p.fact)
moved_hold s [] (y ∷ ys) h =
    All-cons (λ p. Holds s p.fact) y ys (All-head (λ p. Holds s p.fact) (moved_by 1 y) (map (moved_by 1) ys) h)
    (moved_hold s [] ys (All-tail (λ p. Holds s p.fact) (moved_by 1 y) (map (moved_by 1) ys) h))

-- equal signs, equal facts
same_facts : (f g : Form → Placed) (xs : List Form) → ((x : Form) → Contains xs x → f x ≡ g x) → map f xs ≡ map g xs
same_facts f g [] same = λ t. []
same_facts f g (x ∷ xs) same =
    ap₂ (λ (p : Placed) (ps : List Placed). p ∷ ps) (same x (contains_head x xs))
    (same_facts f g xs (λ y c. same y (contains_tail x y xs c)))

-- the pair and the facts follow from the rest
pub farthest_settled : (k : Diameter) (s : Scene) → IsReal s → (fits : (i : ℕ) → IsIn i s.live → i < 2 ^ k.size) → IsSwept s k.upper k.lower k.breakpoints
    → k.slopes ≡ map (placed_at s 0) (slopes_from k.breakpoints) → k.cells.size ≡ k.size + 1
    → AreCellSlots k.size (cell_pairs k.upper (reverse k.lower) k.breakpoints) k.cells.slots → IsSettled pair_names farness_key k.cells s
    → IsSettledDiameter s k.size (pair_told k) (facts_of k)
farthest_settled k s real fits swept slopes size filled cells =
    subst (λ (fs : List Placed). IsSettledDiameter s k.size (pair_told k) (fs ++ map (moved_by 1) k.cells.facts)) (sym slopes)
    (diameter_is_settled k.size s k.upper k.lower k.breakpoints k.cells.slots (winner_at k.cells) k.cells.facts real fits swept filled
    (subst (λ n. IsSettledTournament s farness_key n k.cells.slots (winner_at k.cells) k.cells.facts) size cells.tournament))

-- where the chains are the same, the facts determine the farthest pair
pub determined_lem : (k : Diameter) (v w : Scene) → IsDiameterAtRest k → IsReal v → IsSettledKinDiameter k v → HaveSameLive v w → IsReal w → IsGrounded k w
    → AllHold w (facts_of k) → IsSettledKinDiameter k w
determined_lem k v w rest real before same real' chains hold = record {
  farthest = farthest_settled k w real' fits swept slopes before.size before.filled cells;
  fits = fits;
  swept = swept;
  slopes = slopes;
  size = before.size;
  filled = before.filled;
  cells = cells;
}
  where
    fits : (i : ℕ) → IsIn i w.live → i < 2 ^ k.size
    fits i live = before.fits i (subst (λ xs. IsIn i xs) (sym same) live)

    slopes_hold : AllHold w (map (placed_at v 0) (slopes_from k.breakpoints))
    slopes_hold = subst (λ (fs : List Placed). AllHold w fs) before.slopes (first_hold w k.slopes (map (moved_by 1) k.cells.facts) hold)

    swept : IsSwept w k.upper k.lower k.breakpoints
    swept = sweep_is_determined v w k.upper k.lower k.breakpoints real' before.swept chains slopes_hold

    slopes : k.slopes ≡ map (placed_at w 0) (slopes_from k.breakpoints)
    slopes =
        before.slopes
        ∙ same_facts (placed_at v 0) (placed_at w 0) (slopes_from k.breakpoints)
        (λ form c.
        let e = sym (held_signs v w (slopes_from k.breakpoints) slopes_hold form c) in
        λ t. record { part = 0; fact = record { form = form; sign = e t } })

    cells : IsSettled pair_names farness_key k.cells w
    cells =
        determined_law pair_names farness_key farness_total farness_transitive k.cells v w real before.cells same real'
        (moved_hold w k.slopes k.cells.facts hold)

-- ---- as the structure of a keep
pub diameter_exact : (k : Diameter) (size : ℕ) (keep : Keep) (s : Scene) → IsDiameterFor k size keep → IsSettledKinDiameter k s → ListsExactly (facts_of k) (IsKeepFact size s keep)
diameter_exact k size keep s kind settled =
    subst (λ (q : Keep). ListsExactly (facts_of k) (IsKeepFact size s q)) (sym kind.0)
    (subst (λ n. ListsExactly (facts_of k) (IsDiameterFact n s)) kind.1 settled.farthest.exact)
