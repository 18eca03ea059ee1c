-- The facts of a closest pair determine it.
use Rattle.std.proofs.Common.{◌≡◌, refl, inl, inr, sym, ap, ◌∙◌, subst, List, ◌++◌, map, get_or, ℕ, ◌+◌, ◌*◌}
use Rattle.std.specs.Prelude.{◌↔◌, Option, Some, None, slice_get}
use Rattle.std.proofs.lemmas.List.Elements.{All-contains, Contains-get_or}
use Rattle.kin_motion.specs.declared.fact.Placed.{Placed}
use Rattle.kin_motion.specs.Agreements.{FitsSize}
use Rattle.kin_motion.specs.ClosestFacts.{HoldsNear, AreNearSlots, near_slots, IsWedgeFact, IsClosestFact, wedge_facts_from}
use Rattle.kin_motion.specs.ClosestPairs.{Near, distance_key, pair_in, IsClosest}
use Rattle.kin_motion.specs.Contents.{IsSettledTournament, IsSettledClosest}
use Rattle.kin_motion.specs.Kinetics.{AllHold, HaveSameLive}
use Rattle.kin_motion.specs.Numbers.{is_in, IsIn}
use Rattle.kin_motion.specs.Octants.{Octant, octants, eight_directions}
use Rattle.kin_motion.specs.Parts.{moved_by}
use Rattle.kin_motion.specs.Scene.{Scene, IsReal, Holds}
use Rattle.kin_motion.specs.Sets.{ListsExactly}
use Rattle.kin_motion.specs.Tournaments.{best_of, item_in, items_under, tournament_facts}
use Rattle.kin_motion.proofs.ClosestFactLaws.{nearer-never, nodes_exact, wedge_exact}
use Rattle.kin_motion.proofs.ClosestLaws.{nearer-otherwise}
use Rattle.kin_motion.proofs.DeterminedWedges.{fact_goes, fact_comes, same_orders}
use Rattle.kin_motion.proofs.DistanceLaws.{nearer_total, nearer_transitive, real_distance_laws}
use Rattle.kin_motion.proofs.FairKeys.{IsFair}
use Rattle.kin_motion.proofs.NearLaws.{near_agrees, own-slot}
use Rattle.kin_motion.proofs.NodeLaws.{held_slot}
use Rattle.kin_motion.proofs.OneLaws.{one_closest}
use Rattle.kin_motion.proofs.PlayedTournaments.{tournament_is_determined}
use Rattle.kin_motion.proofs.RealLaws.{real_line_laws}
use Rattle.kin_motion.proofs.SameOctants.{candidate_goes, candidate_comes}
use Rattle.kin_motion.proofs.SetLaws.{exactly_in_words}
use Rattle.kin_motion.proofs.Winners.{winner_agrees}
use Rattle.kin_near.specs.BestPairs.{ClosestIsDetermined}
use Rattle.kin_near.proofs.SettledPairs.{pairs_settle}

-- ---- the tournament of pairs
abbrev pair_winner : ℕ → Scene → ℕ → Option Near
pair_winner size s n = best_of s distance_key (items_under (size + 3) n (near_slots size s))

abbrev pair_facts : ℕ → Scene → List Placed
pair_facts size s = tournament_facts s distance_key (size + 3) (near_slots size s)

module _ (size : ℕ) (s : Scene) (real : IsReal s) where
  -- a pair is in the slot that it names
  names_slot : (i : ℕ) (n : Near) → item_in (near_slots size s) i ≡ Some n → n.slot ≡ i
  names_slot i n e = own-slot s real size i (near_slots size s) n (near_agrees s real size) (held_slot (near_slots size s) i n e)

  pairs_settled : IsSettledTournament s distance_key (size + 3) (near_slots size s) (pair_winner size s) (pair_facts size s)
  pairs_settled =
      let laws = real_distance_laws s real in
      record {
        winners = λ n some inside. winner_agrees s distance_key (nearer-otherwise s laws) (nearer_transitive s laws) (nearer-never s laws) (size + 3) (near_slots size s) (λ i j a e f. sym (names_slot i a e) ∙ names_slot j a f) n;
        exact = nodes_exact size s real;
      }

  -- of two pairs in different slots exactly one is nearer, in every real scene
  fair_pairs : (w : Scene) → IsReal w → IsFair w distance_key (near_slots size s)
  fair_pairs w real' = record {
    total = λ i j a b n here there. nearer_total w (real_distance_laws w real') a b (λ e. n (sym (names_slot i a here) ∙ ap (λ (x : Near). x.slot) e ∙ names_slot j b there));
    through = λ i j k a b c p q r. nearer_transitive w (real_distance_laws w real') a b c;
  }

-- ---- in another scene
module _ (size : ℕ) (v w : Scene) (real : IsReal v) (real' : IsReal w) (fits : FitsSize size v) (same : HaveSameLive v w) (hold : (p : Placed) → IsClosestFact size v p → Holds w p.fact) where
  wedge_holds : (p : Placed) → IsWedgeFact v p → Holds w p.fact
  wedge_holds p f = hold p (inl f)

  -- a slot holds the pair of the same two points
  same_held : (o : Octant) (n p slot : ℕ) (held : Option Near) → slice_get octants n ≡ Some o → HoldsNear v o p slot held → HoldsNear w o p slot held
  same_held o n p slot None known h = λ c l k.
      let here = ap (is_in p) same ∙ l in
      h c here (candidate_comes v w (real_line_laws v real) (real_line_laws w real') same (same_orders v w real real' same wedge_holds) o n known p c here k)
  same_held o n p slot (Some m) known (c, l, k, e) =
      (c, ap (is_in p) (sym same) ∙ l, candidate_goes v w (real_line_laws v real) (real_line_laws w real') same (same_orders v w real real' same wedge_holds) o n known p c l k, e)

  same_slots : AreNearSlots size w (near_slots size v)
  same_slots =
      let filled = near_agrees v real size in
      record { count = filled.count; each = λ p n o held known e. same_held o n p (8 * p + n) held known (filled.each p n o held known e) }

  orders : List Placed
  orders = wedge_facts_from v 0 eight_directions

  orders_there : ListsExactly orders (IsWedgeFact w)
  unfolding orders
  orders_there = exactly_in_words (wedge_facts_from v 0 eight_directions) (IsWedgeFact v) (IsWedgeFact w) (λ p. (fact_goes v w real real' same wedge_holds p, fact_comes v w real real' same wedge_holds p)) (wedge_exact v real)

  orders_here : ListsExactly orders (IsWedgeFact v)
  unfolding orders
  orders_here = wedge_exact v real

  pairs_hold : AllHold w (pair_facts size v)
  pairs_hold n d l =
      let q = ((nodes_exact size v real).each _).0 (Contains-get_or (pair_facts size v) n d l) in
      hold (moved_by 8 (get_or (pair_facts size v) n d)) (inr (record { slots = near_slots size v; filled = near_agrees v real size; node = get_or (pair_facts size v) n d; fact = q; placed = refl }))

  settled_here : IsSettledClosest v size (pair_in (pair_winner size v 1)) (orders ++ map (moved_by 8) (pair_facts size v))
  settled_here = pairs_settle size v (near_slots size v) (pair_winner size v) orders (pair_facts size v) real fits orders_here (near_agrees v real size) (pairs_settled size v real)

  settled_there : IsSettledClosest w size (pair_in (pair_winner size v 1)) (orders ++ map (moved_by 8) (pair_facts size v))
  settled_there =
      pairs_settle size w (near_slots size v) (pair_winner size v) orders (pair_facts size v) real' (λ i h. fits i (subst (IsIn i) (sym same) h)) orders_there same_slots
      (tournament_is_determined v w distance_key (size + 3) (near_slots size v) (near_agrees v real size).count (fair_pairs size v real v real) (fair_pairs size v real w real')
      (pair_winner size v) (pair_facts size v) (pairs_settled size v real) pairs_hold)

  same_closest : (pair : Option (ℕ × ℕ)) → IsClosest v pair → IsClosest w pair
  same_closest pair h = subst (IsClosest w) (one_closest v (pair_in (pair_winner size v 1)) pair real settled_here.pair h) settled_there.pair

  same_facts : (p : Placed) → IsClosestFact size v p ↔ IsClosestFact size w p
  same_facts p = (λ f. (settled_there.exact.each p).0 ((settled_here.exact.each p).1 f), λ f. (settled_here.exact.each p).0 ((settled_there.exact.each p).1 f))

pub closest_is_determined : ClosestIsDetermined
closest_is_determined size v w pair facts real real' fits same is_pair exact hold = (
  same_closest size v w real real' fits same held pair is_pair,
  exactly_in_words facts (IsClosestFact size v) (IsClosestFact size w) (same_facts size v w real real' fits same held) exact,
)
  where
    held : (p : Placed) → IsClosestFact size v p → Holds w p.fact
    held p f = All-contains (λ (q : Placed). Holds w q.fact) facts p hold ((exact.each p).1 f)
