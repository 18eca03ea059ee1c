-- A list of which no fact has failed is settled as it stands.
use Rattle.std.proofs.Common.{◌≡◌, refl, ap, ◌∙◌, arith, List, [], ℕ, length, Option}
use Rattle.kin_algebra.proofs.Members.{contains_none}
use Rattle.kin_algebra.specs.declared.sign.Sign.{Sign}
use Rattle.kin_motion.specs.Kinetics.{ListsFailing}
use Rattle.kin_motion.specs.Numbers.{is_in, IsOnce}
use Rattle.kin_motion.specs.Scene.{Scene}
use Rattle.kin_motion.specs.Sets.{ListsExactly}
use Rattle.kin_motion.proofs.SetLaws.{apart_from_once}
use Rattle.kin_sorted.specs.declared.link.Link.{Link}
use Rattle.kin_motion.specs.Rankings.{IsStrict, IsRanking}
use Rattle.kin_sorted.specs.Links.{facts_from}
use Rattle.kin_sorted.specs.Marks.{marked, names_gone}
use Rattle.kin_motion.specs.Ranks.{Ranks, AreLive, IsOrder, IsOrderFact}
use Rattle.kin_sorted.specs.Repairs.{IsHeld, IsKnown, AreCovered}
use Rattle.kin_sorted.specs.Sorting.{unmarked}
use Rattle.kin_sorted.proofs.ArrangeLaws.{known_chain}
use Rattle.kin_sorted.proofs.HeldLaws.{known_from_held, listed_failing}
use Rattle.kin_sorted.proofs.ListLaws.{without_none}
use Rattle.kin_sorted.proofs.SettleLaws.{exact_after}

module _ (s : Scene) (r : Ranks) (law : IsRanking r) (laws : IsStrict s r) (links : List (Option Link)) (items : List ℕ) (signs : List Sign) (held : IsHeld r links items signs [] [])
    (failing : ListsFailing (facts_from r 0 links) (names_gone r unmarked items) s []) where
  none_covered : AreCovered r items [] [] []
  none_covered = record {
    covered = λ f i j p c. absurd (contains_none f c);
    keeps = λ q h. h;
    few = omega arith;
  }

  known : IsKnown s r links items signs [] []
  known = known_from_held s r links items signs [] [] [] [] held (listed_failing s r links law unmarked items items [] (λ i h. ap (is_in i) (without_none items) ∙ h) failing) none_covered

  still_order : IsOnce items → IsOrder s r items items
  still_order once = record { all = record { once = once; same = λ i. refl }; chain = known_chain s r laws links items signs [] known }

  pub settled_still : AreLive s r (marked unmarked items) → IsOnce items → length links ≡ length signs
      → AreLive s r items × IsOrder s r items items × ListsExactly (facts_from r 0 links) (IsOrderFact s r items)
  settled_still ready once fits =
      let live : AreLive s r items = λ i h. ready i (ap (is_in i) (without_none items) ∙ h) in (
        live,
        still_order once,
        exact_after s r items signs [] (apart_from_once items once) links links refl fits known (λ i l t. absurd cc) (λ i o. refl) law laws live (still_order once),
      )
