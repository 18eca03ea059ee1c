-- Opposite octants.
use Rattle.std.proofs.Common.{◌≡◌, refl, subst, ℕ, zero, suc, ◌+◌, ◌%◌, Some}
use Rattle.std.specs.Prelude.{slice_get}
use Rattle.kin_motion.specs.Scene.{Scene}
use Rattle.kin_motion.specs.Octants.{Octant, octants, is_in_octant}
use Rattle.kin_motion.specs.Theorems.{OctantsAreOpposite}

same_octant : (o here : Octant) → Some o ≡ Some here → o ≡ here
same_octant o here e = cc

module _ (s : Scene) where
  AreOpposite : Octant → Octant → Type 0
  AreOpposite here there = (p q : ℕ) → is_in_octant s here p q ≡ is_in_octant s there q p

  told : (a b here there : Octant) → AreOpposite a b → Some a ≡ Some here → Some b ≡ Some there → AreOpposite here there
  told a b here there h e f = subst (λ o. AreOpposite o there) (same_octant a here e) (subst (AreOpposite a) (same_octant b there f) h)

  opposite : (w : ℕ) (here there : Octant) → slice_get octants w ≡ Some here → slice_get octants ((w + 4) % 8) ≡ Some there → AreOpposite here there
  unfolding AreOpposite
  opposite zero here there e f = told _ _ here there (λ p q. refl) e f
  opposite (suc zero) here there e f = told _ _ here there (λ p q. refl) e f
  opposite (suc (suc zero)) here there e f = told _ _ here there (λ p q. refl) e f
  opposite (suc (suc (suc zero))) here there e f = told _ _ here there (λ p q. refl) e f
  opposite (suc (suc (suc (suc zero)))) here there e f = told _ _ here there (λ p q. refl) e f
  opposite (suc (suc (suc (suc (suc zero))))) here there e f = told _ _ here there (λ p q. refl) e f
  opposite (suc (suc (suc (suc (suc (suc zero)))))) here there e f = told _ _ here there (λ p q. refl) e f
  opposite (suc (suc (suc (suc (suc (suc (suc zero))))))) here there e f = told _ _ here there (λ p q. refl) e f
  opposite (suc (suc (suc (suc (suc (suc (suc (suc n)))))))) here there e f = absurd cc

pub octants_are_opposite : OctantsAreOpposite
unfolding AreOpposite
octants_are_opposite s w here there p q e f = opposite s w here there e f p q
