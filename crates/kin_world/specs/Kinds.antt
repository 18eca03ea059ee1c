-- The kinds of structures: what each of them is to a world, and the laws that it obeys.
use Rattle.std.specs.Prelude.{ℕ, List}
use Rattle.kin_motion.specs.declared.fact.Placed.{Placed}
use Rattle.kin_motion.specs.declared.keep.Keep.{Keep}
use Rattle.kin_motion.specs.Kinetics.{AllHold, HaveSameLive}
use Rattle.kin_motion.specs.Live.{IsKeepFact}
use Rattle.kin_motion.specs.Scene.{Scene, IsReal}
use Rattle.kin_motion.specs.Sets.{ListsExactly}
use Rattle.kin_list.specs.Keeping as list
use Rattle.kin_list.specs.KeepingLaws.{list_exact}
use Rattle.kin_list.specs.Listing as listing
use Rattle.kin_list.specs.ListingLaws as listing_laws
use Rattle.kin_tourney.specs.PointLaws.{points_exact, points_determined}
use Rattle.kin_tourney.specs.Points as points
use Rattle.kin_tourney.specs.Tournament as tournament
use Rattle.kin_boxes.specs.Boxing as boxing
use Rattle.kin_boxes.specs.BoxingLaws as boxing_laws
use Rattle.kin_boxes.specs.BoxingLaws.{boxing_exact}
use Rattle.kin_closest.specs.Closing as closing
use Rattle.kin_closest.specs.ClosingLaws as closing_laws
use Rattle.kin_closest.specs.ClosingLaws.{closing_exact}
use Rattle.kin_diameter.specs.Diameter as diameter
use Rattle.kin_diameter.specs.DiameterLaws as diameter_laws
use Rattle.kin_diameter.specs.DiameterLaws.{diameter_exact}
use Rattle.kin_hull.specs.HullLaws as hull_laws
use Rattle.kin_hull.specs.HullLaws.{hull_exact}
use Rattle.kin_hull.specs.Hulls as hull
use Rattle.kin_nearest.specs.Nearing as nearing
use Rattle.kin_nearest.specs.NearingLaws.{nearing_exact}
use Rattle.kin_range.specs.Ranging as ranging
use Rattle.kin_range.specs.RangingLaws as ranging_laws
use Rattle.kin_range.specs.RangingLaws.{range_exact}
use Rattle.kin_wedge.specs.Wedging as wedging
use Rattle.kin_wedge.specs.WedgingLaws as wedging_laws
use Rattle.kin_world.specs.declared.structure.Structure.{Structure}
use Rattle.kin_world.specs.declared.structure.Structure.TheVariants.{Order, Extreme, Hull, Closest, Range, Nearest, Diameter, Boxes}

-- its live facts, each in its part
abbrev pub placed_facts : Structure → List Placed
placed_facts (Order k) = k.facts
placed_facts (Extreme t) = t.facts
placed_facts (Hull k) = hull.facts_of k
placed_facts (Closest k) = closing.facts_of k
placed_facts (Range r) = ranging.facts_of r
placed_facts (Nearest k) = k.facts
placed_facts (Diameter k) = diameter.facts_of k
placed_facts (Boxes b) = boxing.facts_of b

-- it is of the kind, the direction and the size of a keep, and its boxes are those of the keep
abbrev pub IsFor : ℕ → Keep → Structure → Type 0
IsFor size keep (Order k) = list.IsListFor k size keep
IsFor size keep (Extreme t) = points.IsTournamentFor t size keep
IsFor size keep (Hull k) = hull.IsHullFor k size keep
IsFor size keep (Closest k) = closing.IsClosingFor k size keep
IsFor size keep (Range r) = ranging.IsRangingFor r size keep
IsFor size keep (Nearest k) = nearing.IsNearingFor k size keep
IsFor size keep (Diameter k) = diameter.IsDiameterFor k size keep
IsFor size keep (Boxes b) = boxing.IsBoxingFor b size keep

-- no mark waits
abbrev pub IsAtRest : Structure → Type 0
IsAtRest (Order k) = listing.IsAtRest k
IsAtRest (Extreme t) = tournament.IsAtRest t
IsAtRest (Hull k) = hull.IsHullAtRest k
IsAtRest (Closest k) = closing.IsClosingAtRest k
IsAtRest (Range r) = ranging.IsRangingAtRest r
IsAtRest (Nearest k) = wedging.IsWedgingAtRest k
IsAtRest (Diameter k) = diameter.IsDiameterAtRest k
IsAtRest (Boxes b) = boxing.IsBoxingAtRest b

-- its members are these numbers, once its mark is carried out; a farthest pair has none but those of its hull
abbrev pub HasMembers : List ℕ → Structure → Type 0
HasMembers live (Order k) = list.HasMembers k live
HasMembers live (Extreme t) = points.HasPoints t live
HasMembers live (Hull k) = hull.HasMembers k live
HasMembers live (Closest k) = closing.HasMembers k live
HasMembers live (Range r) = ranging.HasMembers r live
HasMembers live (Nearest k) = nearing.HasMembers k live
HasMembers live (Diameter k) = Unit {0}
HasMembers live (Boxes b) = boxing.HasMembers b live

-- its content and its facts are the definition's in the scene
abbrev pub IsSettledIn : Scene → Structure → Type 0
IsSettledIn s (Order k) = listing.IsSettledListing k s
IsSettledIn s (Extreme t) = points.IsSettledAlong t s
IsSettledIn s (Hull k) = hull.IsSettledKinHull k s
IsSettledIn s (Closest k) = closing.IsSettledClosing k s
IsSettledIn s (Range r) = ranging.IsSettledRanging r s
IsSettledIn s (Nearest k) = wedging.IsSettledWedging k s
IsSettledIn s (Diameter k) = diameter.IsSettledKinDiameter k s
IsSettledIn s (Boxes b) = boxing.IsSettledBoxing b s

-- what it is made of is that of the scene: of a farthest pair both chains are, and the others are made of nothing
abbrev pub IsGroundedIn : Scene → Structure → Type 0
IsGroundedIn s (Order k) = Unit {0}
IsGroundedIn s (Extreme t) = Unit {0}
IsGroundedIn s (Hull k) = Unit {0}
IsGroundedIn s (Closest k) = Unit {0}
IsGroundedIn s (Range r) = Unit {0}
IsGroundedIn s (Nearest k) = Unit {0}
IsGroundedIn s (Diameter k) = diameter.IsGrounded k s
IsGroundedIn s (Boxes b) = Unit {0}

-- settled over the live numbers it has the facts of its keep, and these determine it, with what it is made of
pub record IsKinetic (st : Structure) : Type 0 where
  pub exact : (size : ℕ) (keep : Keep) (s : Scene) → IsFor size keep st → HasMembers s.live st → IsSettledIn s st → ListsExactly (placed_facts st) (IsKeepFact size s keep)
  pub determined : (v w : Scene) → IsAtRest st → IsReal v → IsSettledIn v st → HaveSameLive v w → IsReal w → IsGroundedIn w st → AllHold w (placed_facts st) → IsSettledIn w st

-- each kind obeys these laws
pub kinetic : (st : Structure) → IsKinetic st
kinetic (Order k) = record { exact = list_exact k; determined = λ v w rest real settled same real' ground. listing_laws.determined_lem k v w rest real settled same real' tt }
kinetic (Extreme t) = record { exact = points_exact t; determined = λ v w rest real settled same real' ground. points_determined t v w real settled same real' }
kinetic (Hull k) = record { exact = hull_exact k; determined = λ v w rest real settled same real' ground. hull_laws.determined_lem k v w rest real settled same real' tt }
kinetic (Closest k) = record { exact = closing_exact k; determined = λ v w rest real settled same real' ground. closing_laws.determined_lem k v w rest real settled same real' tt }
kinetic (Range r) = record { exact = range_exact r; determined = λ v w rest real settled same real' ground. ranging_laws.determined_lem r v w rest real settled same real' tt }
kinetic (Nearest k) = record { exact = nearing_exact k; determined = λ v w rest real settled same real' ground. wedging_laws.determined_lem k v w rest real settled same real' tt }
kinetic (Diameter k) = record { exact = λ size keep s kind members. diameter_exact k size keep s kind; determined = diameter_laws.determined_lem k }
kinetic (Boxes b) = record { exact = boxing_exact b; determined = λ v w rest real settled same real' ground. boxing_laws.determined_lem b v w rest real settled same real' tt }
