-- A fact goes out to the hull and back into its tree, and holds there as it holds here.
use Rattle.std.proofs.Common.{◌≡◌, ◌≢◌, refl, sym, ap, ◌∙◌, subst, arith, ◌+◌, ◌*◌, ◌/◌, ◌%◌, ℕ, true, false, not, nat_eq}
use Rattle.std.specs.Prelude.{◌↔◌}
use Rattle.std.proofs.lemmas.Bool.Decides.{nat_tests}
use Rattle.kin_motion.specs.declared.fact.Fact.{Fact}
use Rattle.kin_motion.specs.declared.fact.Placed.{Placed}
use Rattle.kin_motion.specs.Scene.{Scene, IsReal, Holds, reflected}
use Rattle.kin_motion.specs.ReflectedFacts.{reflected_fact, IsUpright}
use Rattle.kin_motion.proofs.ReflectedFactLaws.{reflected_facts_hold, reflected_twice}
use Rattle.kin_hull.specs.declared.side.Side.{Side}
use Rattle.kin_hull.specs.declared.side.Side.TheVariants.{Upper, Lower}
use Rattle.kin_hull.specs.Sides.{outward, inward, is_of, seen_from}

pub out_and_in : (side : Side) (p : Placed) → inward side (outward side p) ≡ p
out_and_in Upper p = let e : 2 * p.part / 2 ≡ p.part = omega arith in λ t. record { part = e t; fact = p.fact }
out_and_in Lower p = let e : (2 * p.part + 1) / 2 ≡ p.part = omega arith in let f = reflected_twice p.fact in λ t. record { part = e t; fact = f t }

is_even : (n : ℕ) → nat_eq (n % 2) 0 ≡ true → 2 * (n / 2) ≡ n
is_even n e = let f : n % 2 ≡ 0 = grind (arith, nat_tests, e) in omega (arith, f)

is_odd : (n : ℕ) → not (nat_eq (n % 2) 0) ≡ true → 2 * (n / 2) + 1 ≡ n
is_odd n e = let f : n % 2 ≢ 0 = grind (arith, nat_tests, e) in omega (arith, f)

pub in_and_out : (side : Side) (p : Placed) → is_of side p ≡ true → outward side (inward side p) ≡ p
in_and_out Upper p h = let e = is_even p.part h in λ t. record { part = e t; fact = p.fact }
in_and_out Lower p h = let e = is_odd p.part h in let f = reflected_twice p.fact in λ t. record { part = e t; fact = f t }

pub one_outward : (side : Side) (p q : Placed) → outward side p ≡ outward side q → p ≡ q
one_outward side p q e = sym (out_and_in side p) ∙ ap (inward side) e ∙ out_and_in side q

pub outward_of : (side : Side) (p : Placed) → is_of side (outward side p) ≡ true
outward_of Upper p = let e : 2 * p.part % 2 ≡ 0 = omega arith in ap (λ n. nat_eq n 0) e
outward_of Lower p = let e : (2 * p.part + 1) % 2 ≡ 1 = omega arith in ap (λ n. not (nat_eq n 0)) e

-- no fact of the hull is of both trees
pub not_of_both : (p : Placed) → is_of Upper p ≡ true → is_of Lower p ≡ true → ⊥
not_of_both p e f = let clash : false ≡ true = ap not (sym e) ∙ f in cc

-- it names the same points
pub same_form : (side : Side) (p : Placed) → (outward side p).fact.form ≡ p.fact.form
same_form Upper p = refl
same_form Lower p = refl

-- and it holds here where it holds in the scene of its tree
pub holds_outward : (side : Side) (s : Scene) (p : Placed) → IsReal s → IsUpright p.fact.form → Holds (seen_from side s) p.fact ↔ Holds s (outward side p).fact
holds_outward Upper s p real upright = (λ h. h, λ h. h)
holds_outward Lower s p real upright =
    let same = reflected_facts_hold s (reflected_fact p.fact) real upright in
    let twice = reflected_twice p.fact in
    (λ h. same.1 (subst (λ (f : Fact). Holds (reflected s) f) (sym twice) h), λ h. subst (λ (f : Fact). Holds (reflected s) f) twice (same.0 h))
