use Rattle.std.proofs.Common.{◌≡◌, ◌≢◌, refl, sym, ◌∙◌, arith, ℕ, zero, suc, ◌<◌, List, [], ◌∷◌, Bool, true, false, ◌||◌, nat_eq, Some}
use Rattle.std.specs.Prelude.{slice_get}
use Rattle.std.proofs.lemmas.Option.{same_Some}
use Rattle.kin_rank.specs.Ranking.{AreDistinct}
use Rattle.kin_part_cases.proofs.ranks.made_at_once.Goals as goal

-- three different numbers
apart : (a b c : ℕ) → a ≢ b → a ≢ c → b ≢ c → AreDistinct (a ∷ b ∷ c ∷ [])
apart a b c l m n zero zero x e f = refl
apart a b c l m n zero (suc zero) x e f = absurd (l (same_Some a x e ∙ sym (same_Some b x f)))
apart a b c l m n zero (suc (suc zero)) x e f = absurd (m (same_Some a x e ∙ sym (same_Some c x f)))
apart a b c l m n (suc zero) zero x e f = absurd (l (same_Some a x f ∙ sym (same_Some b x e)))
apart a b c l m n (suc zero) (suc zero) x e f = refl
apart a b c l m n (suc zero) (suc (suc zero)) x e f = absurd (n (same_Some b x e ∙ sym (same_Some c x f)))
apart a b c l m n (suc (suc zero)) zero x e f = absurd (m (same_Some a x f ∙ sym (same_Some c x e)))
apart a b c l m n (suc (suc zero)) (suc zero) x e f = absurd (n (same_Some b x f ∙ sym (same_Some c x e)))
apart a b c l m n (suc (suc zero)) (suc (suc zero)) x e f = refl
apart a b c l m n (suc (suc (suc i))) j x e f = absurd cc
apart a b c l m n zero (suc (suc (suc j))) x e f = absurd cc
apart a b c l m n (suc zero) (suc (suc (suc j))) x e f = absurd cc
apart a b c l m n (suc (suc zero)) (suc (suc (suc j))) x e f = absurd cc

below : (p x : ℕ) → slice_get (0 ∷ 1 ∷ 2 ∷ []) p ≡ Some x → x < 4
below zero x e = let s = same_Some 0 x e in omega (arith, s)
below (suc zero) x e = let s = same_Some 1 x e in omega (arith, s)
below (suc (suc zero)) x e = let s = same_Some 2 x e in omega (arith, s)
below (suc (suc (suc p))) x e = absurd cc

last_first : (a b c : Bool) → a || (b || (c || false)) ≡ c || (a || (b || false))
last_first true true true = refl
last_first true true false = refl
last_first true false true = refl
last_first true false false = refl
last_first false true true = refl
last_first false true false = refl
last_first false false true = refl
last_first false false false = refl

pub with_tree-requires : goal.with_tree-requires
with_tree-requires c = record {
  few = omega arith;
  within = below;
  f_apart = apart 0 1 2 (λ e. absurd (omega (arith, e))) (λ e. absurd (omega (arith, e))) (λ e. absurd (omega (arith, e)));
  g_apart = apart 2 0 1 (λ e. absurd (omega (arith, e))) (λ e. absurd (omega (arith, e))) (λ e. absurd (omega (arith, e)));
  t_apart = apart 1 2 0 (λ e. absurd (omega (arith, e))) (λ e. absurd (omega (arith, e))) (λ e. absurd (omega (arith, e)));
  same_g = λ x. last_first (nat_eq x 0) (nat_eq x 1) (nat_eq x 2);
  same_t = λ x. last_first (nat_eq x 0) (nat_eq x 1) (nat_eq x 2) ∙ last_first (nat_eq x 2) (nat_eq x 0) (nat_eq x 1);
}
