-- The facts of both trees together are those of the hull.
use Rattle.std.proofs.Common.{◌≡◌, ◌⊎◌, inl, inr, refl, sym, ap, ◌∙◌, List, ◌++◌, ◌+◌, ◌*◌, ℕ, map, true}
use Rattle.std.specs.Prelude.{◌↔◌}
use Rattle.kin_motion.specs.declared.fact.Fact.{Fact}
use Rattle.kin_motion.specs.declared.fact.Placed.{Placed}
use Rattle.kin_motion.specs.Merges.{IsTreeFact, IsUpperFact, IsLowerFact, IsHullFact}
use Rattle.kin_motion.specs.Scene.{Scene, IsReal, placed_at, reflected}
use Rattle.kin_motion.specs.Sets.{ListsExactly}
use Rattle.kin_motion.proofs.SetLaws.{exactly_both, exactly_in_words, exactly_mapped}
use Rattle.kin_hull.specs.declared.side.Side.{Side}
use Rattle.kin_hull.specs.declared.side.Side.TheVariants.{Upper, Lower}
use Rattle.kin_hull.specs.Sides.{outward, is_of}
use Rattle.kin_hull.specs.SideLaws.{one_outward, outward_of, not_of_both}
use Rattle.kin_chain.proofs.Upright.{reflected_back}

-- what is a fact of the tree, out in the hull
abbrev pub IsOut : Side → (Placed → Type 0) → Placed → Type 0
IsOut side which z = (x : Placed) × which x × (z ≡ outward side x)

-- a fact in a part
abbrev placed_in : ℕ → Fact → Placed
placed_in n f = record { part = n; fact = f }

module _ (size : ℕ) (s : Scene) (real : IsReal s) where
  upper_words : (z : Placed) → IsOut Upper (IsTreeFact size s) z ↔ IsUpperFact size s z
  upper_words z = (
    λ h. record { node = h.0.part; form = h.1.form; merge = h.1.merge; fact = h.2 ∙ ap (outward Upper) h.1.fact },
    λ u. (placed_at s u.node u.form, record { form = u.form; merge = u.merge; fact = refl }, u.fact),
  )

  lower_words : (z : Placed) → IsOut Lower (IsTreeFact size (reflected s)) z ↔ IsLowerFact size s z
  lower_words z = (
    λ h.
        let back = reflected_back s h.1.form real _ _ h.1.merge in
        record { node = h.0.part; form = h.1.form; merge = h.1.merge; fact = h.2 ∙ ap (outward Lower) h.1.fact ∙ ap (placed_in (2 * h.0.part + 1)) back },
    λ u.
        let back = reflected_back s u.form real _ _ u.merge in
        (placed_at (reflected s) u.node u.form, record { form = u.form; merge = u.merge; fact = refl }, u.fact ∙ sym (ap (placed_in (2 * u.node + 1)) back)),
  )

  pub hull_facts_are_out : (z : Placed) → (IsOut Upper (IsTreeFact size s) z ⊎ IsOut Lower (IsTreeFact size (reflected s)) z) ↔ IsHullFact size s z
  hull_facts_are_out z = (to, from)
    where
      to : IsOut Upper (IsTreeFact size s) z ⊎ IsOut Lower (IsTreeFact size (reflected s)) z → IsHullFact size s z
      to (inl h) = inl ((upper_words z).0 h)
      to (inr h) = inr ((lower_words z).0 h)

      from : IsHullFact size s z → IsOut Upper (IsTreeFact size s) z ⊎ IsOut Lower (IsTreeFact size (reflected s)) z
      from (inl u) = inl ((upper_words z).1 u)
      from (inr u) = inr ((lower_words z).1 u)

  pub side_of : (side : Side) (which : Placed → Type 0) (z : Placed) → IsOut side which z → is_of side z ≡ true
  side_of side which z h = ap (is_of side) h.2 ∙ outward_of side h.0

  pub both_exact : (upper lower : List Placed) → ListsExactly upper (IsTreeFact size s) → ListsExactly lower (IsTreeFact size (reflected s)) → ListsExactly (map (outward Upper) upper ++ map (outward Lower) lower) (IsHullFact size s)
  both_exact upper lower u l =
      exactly_in_words (map (outward Upper) upper ++ map (outward Lower) lower) _ _ hull_facts_are_out
      (exactly_both (map (outward Upper) upper) (map (outward Lower) lower) (IsOut Upper (IsTreeFact size s)) (IsOut Lower (IsTreeFact size (reflected s)))
      (exactly_mapped (outward Upper) upper (IsTreeFact size s) (one_outward Upper) u)
      (exactly_mapped (outward Lower) lower (IsTreeFact size (reflected s)) (one_outward Lower) l)
      (λ z a b. not_of_both z (side_of Upper _ z a) (side_of Lower _ z b)))
