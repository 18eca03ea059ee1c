-- Live facts hold where they are live.
use Rattle.std.proofs.Common.{inl, inr, sym, ap, ◌∙◌, List, Option, ℕ, ℤ, pos}
use Rattle.kin_motion.specs.declared.fact.Placed.{Placed}
use Rattle.kin_motion.specs.declared.keep.Keep.{Keep}
use Rattle.kin_motion.specs.declared.keep.Keep.TheVariants.{Order, Extreme, Hull, Closest, Range, Nearest, Diameter, Boxes}
use Rattle.kin_motion.specs.Scene.{Scene, Holds, placed_at}
use Rattle.kin_motion.specs.Orders.{neighbour_forms, IsOrderFact}
use Rattle.kin_motion.specs.Extremes.{along_key, point_slots}
use Rattle.kin_motion.specs.Tournaments.{Key, IsNodeFact}
use Rattle.kin_motion.specs.ClosestPairs.{distance_key}
use Rattle.kin_motion.specs.ClosestFacts.{IsWedgeFact, IsClosestFact}
use Rattle.kin_motion.specs.DiameterFacts.{IsDiameterFact}
use Rattle.kin_motion.specs.Farthest.{farness_key}
use Rattle.kin_motion.specs.Merges.{IsHullFact}
use Rattle.kin_motion.specs.Live.{Certificate, IsKeepFact, IsLiveFact}
use Rattle.kin_motion.proofs.BoxFactLaws.{box_fact_holds}
use Rattle.kin_motion.proofs.FactLaws.{placed_holds}
use Rattle.kin_motion.proofs.SetLaws.{contains_mapped}

pub order_fact_holds : (s : Scene) (dx dy : ℤ) (part : ℕ) (p : Placed) → IsOrderFact s dx dy part p → Holds s p.fact
order_fact_holds s dx dy part p f =
    let m = contains_mapped (placed_at s part) (neighbour_forms dx dy f.order) p f.listed in
    placed_holds s part m.0 p m.2

pub node_fact_holds : {Item : Type 0} (s : Scene) (key : Key Item) (size : ℕ) (slots : List (Option Item)) (p : Placed) → IsNodeFact s key size slots p → Holds s p.fact
node_fact_holds {Item} s key size slots p f = placed_holds s p.part (key.form f.left f.right) p f.fact

hull_fact_holds : (size : ℕ) (s : Scene) (p : Placed) → IsHullFact size s p → Holds s p.fact
hull_fact_holds size s p (inl f) = placed_holds s _ f.form p f.fact
hull_fact_holds size s p (inr f) = placed_holds s _ f.form p f.fact

wedge_fact_holds : (s : Scene) (p : Placed) → IsWedgeFact s p → Holds s p.fact
wedge_fact_holds s p w = order_fact_holds s w.way.dx w.way.dy p.part p w.fact

closest_fact_holds : (size : ℕ) (s : Scene) (p : Placed) → IsClosestFact size s p → Holds s p.fact
closest_fact_holds size s p (inl w) = wedge_fact_holds s p w
closest_fact_holds size s p (inr f) =
    let node = node_fact_holds s distance_key _ f.slots f.node f.fact in
    ap (λ (q : Placed). s.sign q.fact.form) f.placed ∙ node ∙ sym (ap (λ (q : Placed). q.fact.sign) f.placed)

diameter_fact_holds : (size : ℕ) (s : Scene) (p : Placed) → IsDiameterFact size s p → Holds s p.fact
diameter_fact_holds size s p (inl f) = placed_holds s 0 f.form p f.fact
diameter_fact_holds size s p (inr f) =
    let node = node_fact_holds s farness_key _ f.slots f.node f.fact in
    ap (λ (q : Placed). s.sign q.fact.form) f.placed ∙ node ∙ sym (ap (λ (q : Placed). q.fact.sign) f.placed)

pub keep_fact_holds : (size : ℕ) (s : Scene) (k : Keep) (p : Placed) → IsKeepFact size s k p → Holds s p.fact
keep_fact_holds size s (Order dx dy) p f = order_fact_holds s dx dy 0 p f
keep_fact_holds size s (Extreme dx dy) p f = node_fact_holds s (along_key dx dy) size (point_slots size s.live) p f
keep_fact_holds size s Hull p f = hull_fact_holds size s p f
keep_fact_holds size s Closest p f = closest_fact_holds size s p f
keep_fact_holds size s Range p (inl f) = order_fact_holds s (pos 1) (pos 0) 0 p f
keep_fact_holds size s Range p (inr f) = order_fact_holds s (pos 0) (pos 1) 1 p f
keep_fact_holds size s Nearest p f = wedge_fact_holds s p f
keep_fact_holds size s Diameter p f = diameter_fact_holds size s p f
keep_fact_holds size s (Boxes width height) p f = box_fact_holds s width height p f

pub live_fact_holds : (size : ℕ) (keeps : List Keep) (s : Scene) (c : Certificate) → IsLiveFact size keeps s c → Holds s c.placed.fact
live_fact_holds size keeps s c f = keep_fact_holds size s f.keep c.placed f.fact
