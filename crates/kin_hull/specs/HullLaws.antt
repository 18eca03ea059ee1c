-- The laws of a kinetic hull.
use Rattle.std.proofs.Common.{get_or, ◌≡◌, sym, ap, ◌∙◌, subst, List, ℕ, map, Bool, false}
use Rattle.std.specs.Prelude.{Contains}
use Rattle.std.proofs.lemmas.List.Elements.{All-contains, Contains-append_left, Contains-append_right, Contains-get_or}
use Rattle.kin_motion.specs.declared.fact.Placed.{Placed}
use Rattle.kin_motion.specs.declared.keep.Keep.{Keep}
use Rattle.kin_motion.specs.Kinetics.{HaveSameLive, AllHold}
use Rattle.kin_motion.specs.Live.{IsKeepFact}
use Rattle.kin_motion.specs.Merges.{IsTreeFact, IsHullFact}
use Rattle.kin_motion.specs.Scene.{Scene, IsReal, Holds, reflected}
use Rattle.kin_motion.specs.Sets.{ListsExactly}
use Rattle.kin_motion.specs.ReflectedFacts.{IsUpright}
use Rattle.kin_motion.proofs.SetLaws.{contains_map}
use Rattle.kin_motion.proofs.ReflectedLaws.{reflected-real}
use Rattle.kin_env.specs.Trees.{Envelope, IsSettledEnvelope, top_of, names_leaving}
use Rattle.kin_env.specs.MarkLaws.{spares_none}
use Rattle.kin_env.specs.TreeLaws.{determined_law}
use Rattle.kin_env.specs.Walks.{slot_in}
use Rattle.kin_hull.specs.declared.side.Side.{Side}
use Rattle.kin_hull.specs.declared.side.Side.TheVariants.{Upper, Lower}
use Rattle.kin_hull.specs.HullFacts.{both_exact}
use Rattle.kin_hull.specs.Hulls.{Hull, facts_of, cycle_told, IsSettledKinHull, IsHullAtRest, HasMembers, IsHullFor, StaysHull}
use Rattle.kin_hull.specs.SideLaws.{holds_outward}
use Rattle.kin_hull.specs.Sides.{outward, seen_from}
use Rattle.kin_chain.proofs.Upright.{tree_upright}

-- where the facts of the hull hold, those of a tree hold in its scene
tree_holds : (side : Side) (s : Scene) (fs all : List Placed) → IsReal s → ((p : Placed) → Contains fs p → IsUpright p.fact.form) → ((p : Placed) → Contains fs p → Contains all (outward side p)) → AllHold s all → AllHold (seen_from side s) fs
tree_holds side s fs all real upright out hold =
    λ k d l.
    let c = Contains-get_or fs k d l in
    (holds_outward side s (get_or fs k d) real (upright (get_or fs k d) c)).1 (All-contains (λ p. Holds s p.fact) all (outward side (get_or fs k d)) hold (out (get_or fs k d) c))

pub settled_upright : (t : Envelope) (s : Scene) → IsSettledEnvelope t s → (p : Placed) → Contains t.facts p → IsUpright p.fact.form
settled_upright t s settled p c = tree_upright t.size s p ((settled.tree.exact.each p).0 c)

-- the cycle and the facts follow from both trees
pub hull_settled : (k : Hull) (s : Scene) → IsReal s → IsSettledEnvelope k.upper s → IsSettledEnvelope k.lower (reflected s) → k.lower.size ≡ k.upper.size → IsSettledKinHull k s
hull_settled k s real upper lower size = record {
  hull = record {
    is_cycle = record { lower = top_of k.lower; upper = top_of k.upper; lower_chain = lower.tree.chain; upper_chain = upper.tree.chain; joined = λ t. cycle_told k };
    exact = both_exact k.upper.size s real k.upper.facts k.lower.facts upper.tree.exact (subst (λ n. ListsExactly k.lower.facts (IsTreeFact n (reflected s))) size lower.tree.exact);
  };
  upper = upper;
  lower = lower;
  size = size;
}

-- the facts determine the hull
pub determined_lem : (k : Hull) (v w : Scene) → IsHullAtRest k → IsReal v → IsSettledKinHull k v → HaveSameLive v w → IsReal w → Unit {0} → AllHold w (facts_of k) → IsSettledKinHull k w
determined_lem k v w rest real before same real' grounded hold = hull_settled k w real' upper lower before.size
  where
    upper : IsSettledEnvelope k.upper w
    upper = determined_law k.upper v w rest.upper real before.upper same real' tt (tree_holds Upper w k.upper.facts (facts_of k) real' (settled_upright k.upper v before.upper)
        (λ p c. Contains-append_left (map (outward Upper) k.upper.facts) (map (outward Lower) k.lower.facts) (outward Upper p) (contains_map (outward Upper) k.upper.facts p c)) hold)

    lower : IsSettledEnvelope k.lower (reflected w)
    lower = determined_law k.lower (reflected v) (reflected w) rest.lower (reflected-real v real) before.lower same (reflected-real w real') tt (tree_holds Lower w k.lower.facts (facts_of k) real' (settled_upright k.lower (reflected v) before.lower)
        (λ p c. Contains-append_right (map (outward Upper) k.upper.facts) (map (outward Lower) k.lower.facts) (outward Lower p) (contains_map (outward Lower) k.lower.facts p c)) hold)

-- ---- as the structure of a keep
pub hull_spares_none : (k : Hull) (p : Placed) → IsHullAtRest k → names_leaving k.upper p ≡ false
hull_spares_none k p rest = spares_none k.upper rest.upper p

pub hull_kind_stays : (old new : Hull) (size : ℕ) (keep : Keep) → StaysHull old new → IsHullFor old size keep → IsHullFor new size keep
hull_kind_stays old new size keep same kind = (kind.0, same.0 ∙ kind.1)

pub hull_members_stay : (old new : Hull) (s : Scene) → HasMembers old s.live → StaysHull old new → IsHullAtRest new → IsSettledKinHull new s → HasMembers new s.live
hull_members_stay old new s members same rest settled = record { members = λ i. members.members i ∙ ap (λ (xs : List Bool). slot_in xs i) (sym same.1); whole = rest.whole }

pub hull_exact : (k : Hull) (size : ℕ) (keep : Keep) (s : Scene) → IsHullFor k size keep → HasMembers k s.live → IsSettledKinHull k s → ListsExactly (facts_of k) (IsKeepFact size s keep)
hull_exact k size keep s kind members settled =
    subst (λ (q : Keep). ListsExactly (facts_of k) (IsKeepFact size s q)) (sym kind.0)
    (subst (λ n. ListsExactly (facts_of k) (IsHullFact n s)) kind.1 settled.hull.exact)
