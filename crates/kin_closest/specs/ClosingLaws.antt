-- The laws of a kinetic closest pair.
use Rattle.std.proofs.Common.{◌≡◌, sym, ap, ◌∙◌, subst, List, [], ◌∷◌, ◌++◌, ℕ, ◌+◌, ◌^◌, ◌<◌, false, map, arith}
use Rattle.std.proofs.lemmas.List.Elements.{All-head, All-tail, All-cons, All-nil}
use Rattle.kin_motion.specs.declared.fact.Placed.{Placed}
use Rattle.kin_motion.specs.declared.keep.Keep.{Keep}
use Rattle.kin_motion.specs.Contents.{IsSettledClosest, IsSettledTournament}
use Rattle.kin_motion.specs.ClosestFacts.{IsClosestFact}
use Rattle.kin_motion.specs.Kinetics.{HaveSameLive, AllHold}
use Rattle.kin_motion.specs.Live.{IsKeepFact}
use Rattle.kin_motion.specs.Numbers.{IsIn}
use Rattle.kin_motion.specs.Scene.{Scene, IsReal, Holds}
use Rattle.kin_motion.specs.Sets.{ListsExactly}
use Rattle.kin_motion.specs.ClosestPairs.{distance_key}
use Rattle.kin_motion.specs.Parts.{moved_by}
use Rattle.kin_list.specs.declared.mark.Mark.{Mark}
use Rattle.kin_list.specs.Listing.{HasMarked, names_leaving}
use Rattle.kin_tourney.specs.Determined.{determined_law}
use Rattle.kin_tourney.specs.Tournament.{IsSettled, winner_at}
use Rattle.kin_wedge.specs.Wedging.{IsSettledWedging, candidate_told, members_of}
use Rattle.kin_wedge.specs.WedgingLaws.{determined_lem as wedges_determined}
use Rattle.kin_near.specs.BestPairs.{HoldCandidates}
use Rattle.kin_pairs.specs.PairKeys.{pair_names, distance_total, distance_transitive}
use Rattle.kin_closest.specs.Closing.{Closing, facts_of, pair_told, IsSettledClosing, IsClosingAtRest, IsReadyClosing, IsClosingFor, HasMembers, StaysClosing}
use Rattle.kin_near.proofs.SettledPairs.{closest_is_settled}

-- what holds of all facts holds of the first ones, and of those after them
first_hold : (s : Scene) (xs ys : List Placed) → AllHold s (xs ++ ys) → AllHold s xs
first_hold s [] ys h = All-nil (λ p. Holds s p.fact)
first_hold s (x ∷ xs) ys h = All-cons (λ p. Holds s p.fact) x xs (All-head (λ p. Holds s p.fact) x (xs ++ ys) h) (first_hold s xs ys (All-tail (λ p. Holds s p.fact) x (xs ++ ys) h))

moved_hold : (s : Scene) (xs ys : List Placed) → AllHold s (xs ++ map (moved_by 8) ys) → AllHold s ys
moved_hold s (x ∷ xs) ys h = moved_hold s xs ys (All-tail (λ p. Holds s p.fact) x (xs ++ map (moved_by 8) ys) h)
moved_hold s [] [] h = All-nil (λ p. Holds s p.fact)
moved_hold s [] (y ∷ ys) h = All-cons (λ p. Holds s p.fact) y ys (All-head (λ p. Holds s p.fact) (moved_by 8 y) (map (moved_by 8) ys) h) (moved_hold s [] ys (All-tail (λ p. Holds s p.fact) (moved_by 8 y) (map (moved_by 8) ys) h))

-- the pair and the facts follow from the rest
pub closest_settled : (k : Closing) (s : Scene) → IsReal s → IsSettledWedging k.wedges s → (fits : (i : ℕ) → IsIn i s.live → i < 2 ^ k.wedges.size) → k.pairs.size ≡ k.wedges.size + 3
    → HoldCandidates k.wedges.size (candidate_told k.wedges) k.pairs.slots → IsSettled pair_names distance_key k.pairs s
    → IsSettledClosest s k.wedges.size (pair_told k) (facts_of k)
closest_settled k s real octants fits size held pairs =
    closest_is_settled k.wedges.size s (candidate_told k.wedges) k.pairs.slots (winner_at k.pairs) k.wedges.facts k.pairs.facts real fits octants.wedges held
    (subst (λ n. IsSettledTournament s distance_key n k.pairs.slots (winner_at k.pairs) k.pairs.facts) size pairs.tournament)

-- the facts determine the closest pair
pub determined_lem : (k : Closing) (v w : Scene) → IsClosingAtRest k → IsReal v → IsSettledClosing k v → HaveSameLive v w → IsReal w → Unit {0} → AllHold w (facts_of k) → IsSettledClosing k w
determined_lem k v w rest real before same real' grounded hold = record {
  closest = closest_settled k w real' octants fits before.size before.held pairs;
  fits = fits;
  octants = octants;
  size = before.size;
  held = before.held;
  pairs = pairs;
}
  where
    octants : IsSettledWedging k.wedges w
    octants = wedges_determined k.wedges v w rest.rest real before.octants same real' tt (first_hold w k.wedges.facts (map (moved_by 8) k.pairs.facts) hold)

    pairs : IsSettled pair_names distance_key k.pairs w
    pairs = determined_law pair_names distance_key distance_total distance_transitive k.pairs v w real before.pairs same real' (moved_hold w k.wedges.facts k.pairs.facts hold)

    fits : (i : ℕ) → IsIn i w.live → i < 2 ^ k.wedges.size
    fits i live = before.fits i (subst (λ xs. IsIn i xs) (sym same) live)

zero_below : 0 < 8
zero_below = omega arith

-- ---- as the structure of a keep
pub closing_ready : (k : Closing) (s : Scene) → HasMembers k s.live → IsReadyClosing k s
closing_ready k s h = record { members = h.members; whole = h.whole }

pub closing_spares_none : (k : Closing) (p : Placed) → IsClosingAtRest k → names_leaving k.wedges.mark p ≡ false
closing_spares_none k p rest = ap (λ (mark : Mark). names_leaving mark p) rest.rest

pub closing_kind_stays : (old new : Closing) (size : ℕ) (keep : Keep) → StaysClosing old new → IsClosingFor old size keep → IsClosingFor new size keep
closing_kind_stays old new size keep same kind = (kind.0, same ∙ kind.1)

pub closing_members_stay : (old new : Closing) (s : Scene) → HasMembers old s.live → StaysClosing old new → IsClosingAtRest new → IsSettledClosing new s → HasMembers new s.live
closing_members_stay old new s members same rest settled = record { members = subst (λ (mark : Mark). HasMarked mark (members_of new.wedges) s.live) (sym rest.rest) (settled.octants.ordered.order 0 zero_below).all; whole = rest.whole }

pub closing_exact : (k : Closing) (size : ℕ) (keep : Keep) (s : Scene) → IsClosingFor k size keep → HasMembers k s.live → IsSettledClosing k s → ListsExactly (facts_of k) (IsKeepFact size s keep)
closing_exact k size keep s kind members settled =
    subst (λ (q : Keep). ListsExactly (facts_of k) (IsKeepFact size s q)) (sym kind.0)
    (subst (λ n. ListsExactly (facts_of k) (IsClosestFact n s)) kind.1 settled.closest.exact)
