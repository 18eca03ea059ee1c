-- The facts of a merge are listed exactly, from its two upper chains and their breakpoint list.
use Rattle.std.proofs.Common.{◌≡◌, refl, ap, arith, List, [], ◌∷◌, ℕ, ◌<◌, Bool, true, false, map, pos}
use Rattle.std.specs.Prelude.{Contains, ◌↔◌}
use Rattle.kin_motion.specs.declared.form.Form.{Form}
use Rattle.kin_motion.specs.declared.fact.Placed.{Placed}
use Rattle.kin_motion.specs.Numbers.{is_in, IsOnce, IsChain}
use Rattle.kin_motion.specs.Sets.{ListsExactly}
use Rattle.kin_motion.specs.Scene.{Scene, IsReal, x_sign, placed_at}
use Rattle.kin_motion.specs.Chains.{is_left}
use Rattle.kin_motion.specs.Merges.{Breakpoint, IsBreakpointList, forms_of_merge, IsMergeForm, IsMergeFact}
use Rattle.kin_motion.specs.Laws.{HasLineLaws}
use Rattle.kin_motion.proofs.ChainLaws.{never_left, left_through, chain_within}
use Rattle.kin_motion.proofs.HullFactLaws.{AreDisjoint, forms_exact}
use Rattle.kin_motion.proofs.RealLaws.{real_line_laws}
use Rattle.kin_motion.proofs.SetLaws.{exactly_in_words, exactly_mapped}
use Rattle.kin_motion.proofs.Members.{contains_from_in}
use Rattle.kin_motion.proofs.ListChains.{chain_tail, chain_first}
use Rattle.kin_chain.specs.Merging.{AreTold}

module _ (s : Scene) where
  -- no number stands twice in a list that rises by x
  pub rising_once : HasLineLaws s → (xs : List ℕ) → IsChain (is_left s) xs → IsOnce xs
  rising_once lines [] c = tt
  rising_once lines (x ∷ xs) c = (not_again (is_in x xs) (contains_from_in xs x), rising_once lines xs (chain_tail (is_left s) x xs c))
    where
      never : (i : ℕ) → is_left s i i ≡ true → ⊥
      never i = never_left (x_sign s i i) (lines.opposite (pos 1) (pos 0) i i)

      through : (i j k : ℕ) → is_left s i j ≡ true → is_left s j k ≡ true → is_left s i k ≡ true
      through i j k = left_through _ _ _ (lines.chain (pos 1) (pos 0) i j k)

      not_again : (b : Bool) → (b ≡ true → Contains xs x) → b ≡ false
      not_again true f = absurd (never x (chain_first (is_left s) through x xs c x (f refl)))
      not_again false f = refl

  told_apart : (left right a b : List ℕ) → AreTold s left right a b → AreDisjoint a b
  unfolding AreDisjoint
  told_apart left right a b told i h k = let less : i < i = told.less i i (chain_within s left a told.a_chain i h) (chain_within s right b told.b_chain i k) in omega (arith, less)

  pub facts_exact : IsReal s → (left right a b : List ℕ) (es : List Breakpoint) (part : ℕ) → AreTold s left right a b → IsBreakpointList s a b es
      → ListsExactly (map (placed_at s part) (forms_of_merge s a b es)) (IsMergeFact s left right part)
  facts_exact real left right a b es part told list =
      exactly_in_words (map (placed_at s part) (forms_of_merge s a b es)) _ (IsMergeFact s left right part) words
      (exactly_mapped (placed_at s part) (forms_of_merge s a b es) (IsMergeForm s left right) (λ f g q. ap (λ (p : Placed). p.fact.form) q) exact)
    where
      lines : HasLineLaws s
      lines = real_line_laws s real

      exact : ListsExactly (forms_of_merge s a b es) (IsMergeForm s left right)
      exact = forms_exact s real left right a b es told.a_chain told.b_chain (rising_once lines a told.a_chain.rising) (rising_once lines b told.b_chain.rising) (told_apart left right a b told) list

      words : (p : Placed) → ((f : Form) × IsMergeForm s left right f × (p ≡ placed_at s part f)) ↔ IsMergeFact s left right part p
      words p = (λ w. record { form = w.0; merge = w.1; fact = w.2 }, λ m. (m.form, m.merge, m.fact))
