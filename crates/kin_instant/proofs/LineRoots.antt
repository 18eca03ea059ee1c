-- Whether the root of a line is still to come, by two signs.
use Rattle.std.proofs.Common.{◌≡◌, ◌≢◌, inl, inr, Option, Some, None, refl, ap, ap₂, sym, ◌∙◌, subst, ℕ}
use Rattle.std.specs.Prelude.{pos}
use Rattle.kin_algebra.specs.declared.sign.Sign.{Sign}
use Rattle.kin_algebra.specs.declared.sign.Sign.TheVariants.{Minus, Zero, Plus}
use Rattle.kin_algebra.specs.Signs.{sign_of, product_of, first_of}
use Rattle.kin_algebra.proofs.Signs.{code}
use Rattle.kin_num.specs.declared.instant.Shape.{Shape}
use Rattle.kin_num.specs.declared.instant.Moment.{Moment}
use Rattle.kin_num.specs.Quadratic.{Quadratic, IsSmall}
use Rattle.kin_num.specs.Canonical.{IsCanonicalForm, discriminant}
use Rattle.kin_num.specs.Instants.{sign_at}
use Rattle.kin_num.specs.Order.{IsLess}
use Rattle.kin_num.proofs.LowerFractions.{not_less_itself, less_asym}
use Rattle.kin_instant.specs.declared.roots.Roots.{Roots}
use Rattle.kin_instant.specs.declared.roots.Roots.TheVariants.{Nowhere, One, Two, All}
use Rattle.kin_instant.specs.Roots.{AreRootsOf, count_by_signs}
use Rattle.kin_instant.specs.Places.{IsNextRoot, KeepsSign}
use Rattle.kin_instant.proofs.SignTable.{IsPlace, by_degree}
use Rattle.kin_instant.proofs.Kept.{sign_table, keeps}
use Rattle.kin_instant.proofs.Nexts.{IsEmpty, nowhere, everywhere, one_next, one_none}
use Rattle.kin_instant.proofs.Existence.{roots_exist}

-- the place of the root, by the sign t of the line and the sign b of its slope
behind : (t b c s : Sign) → t ≡ product_of (first_of b c) s → product_of t b ≡ Plus → b ≢ Zero → s ≡ Plus
behind t Zero c s e h n = absurd (n refl)
behind t Plus c Plus e h n = refl
behind t Plus c Zero e h n = absurd (code (sym (ap (λ (x : Sign). product_of x Plus) e) ∙ h))
behind t Plus c Minus e h n = absurd (code (sym (ap (λ (x : Sign). product_of x Plus) e) ∙ h))
behind t Minus c Plus e h n = refl
behind t Minus c Zero e h n = absurd (code (sym (ap (λ (x : Sign). product_of x Minus) e) ∙ h))
behind t Minus c Minus e h n = absurd (code (sym (ap (λ (x : Sign). product_of x Minus) e) ∙ h))

ahead : (t b c s : Sign) → t ≡ product_of (first_of b c) s → product_of t b ≢ Plus → t ≢ Zero → b ≢ Zero → s ≡ Minus
ahead t Zero c s e h m n = absurd (n refl)
ahead t Plus c Plus e h m n = absurd (h (ap (λ (x : Sign). product_of x Plus) e))
ahead t Plus c Zero e h m n = absurd (m e)
ahead t Plus c Minus e h m n = refl
ahead t Minus c Plus e h m n = absurd (h (ap (λ (x : Sign). product_of x Minus) e))
ahead t Minus c Zero e h m n = absurd (m e)
ahead t Minus c Minus e h m n = refl

-- a line has one root exactly where it has a slope, and never two
sloped : (b c d : Sign) → Some 1 ≡ count_by_signs Zero b c d → b ≢ Zero
sloped Zero Zero d e n = cc
sloped Zero Minus d e n = cc
sloped Zero Plus d e n = cc
sloped Minus c d e n = code n
sloped Plus c d e n = code n

not_two : (b c d : Sign) → Some 2 ≡ count_by_signs Zero b c d → ⊥
not_two Zero Zero d e = cc
not_two Zero Minus d e = cc
not_two Zero Plus d e = cc
not_two Minus c d e = cc
not_two Plus c d e = cc

module _ (p : Quadratic) (m : Moment) (fm : IsCanonicalForm m.at) (flat : p.a ≡ pos 0) where
  abbrev by_flat : Sign → Sign → Sign → Option ℕ
  by_flat s t u = count_by_signs s t u (sign_of (discriminant p.a p.b p.c))

  flat_sign : sign_of p.a ≡ Zero
  flat_sign = ap sign_of flat

  slope : (r : Shape) → AreRootsOf p (One r) → sign_of p.b ≢ Zero
  slope r k = sloped (sign_of p.b) (sign_of p.c) (sign_of (discriminant p.a p.b p.c)) (k.number ∙ ap (λ (s : Sign). by_flat s (sign_of p.b) (sign_of p.c)) flat_sign)

  never_two : (r s : Shape) → AreRootsOf p (Two r s) → ⊥
  never_two r s k = not_two (sign_of p.b) (sign_of p.c) (sign_of (discriminant p.a p.b p.c)) (k.number ∙ ap (λ (x : Sign). by_flat x (sign_of p.b) (sign_of p.c)) flat_sign)

  -- the place of the one root, as the two signs see it
  table : (r : Shape) → AreRootsOf p (One r) → (s : Sign) × (IsPlace m r s × (sign_at p m ≡ product_of (first_of (sign_of p.b) (sign_of p.c)) s))
  table r k =
      let t = sign_table m.at fm m.phase p (One r) k in
      (t.0, (t.1.0, t.1.1 ∙ ap₂ (λ (x y : Sign). product_of (first_of x (first_of (sign_of p.b) (sign_of p.c))) (by_degree y t.0)) flat_sign flat_sign))

  not_later : (r : Shape) → IsCanonicalForm r → IsPlace m r Plus → ¬ (IsLess m.at r)
  not_later r fr (inl l) h = less_asym r m.at fr fm l h
  not_later r fr (inr e) h = not_less_itself r (subst (λ (x : Shape). IsLess x r) e.0 h)

  -- a line that moves away from 0 has no root to come
  none_comes : (answer : Roots) → AreRootsOf p answer → product_of (sign_at p m) (sign_of p.b) ≡ Plus → IsEmpty p m.at
  none_comes Nowhere k h = nowhere p m.at k
  none_comes All k h = everywhere p m.at k
  none_comes (Two r s) k h = absurd (never_two r s k)
  none_comes (One r) k h =
      let t = table r k in
      one_none p m.at r k (not_later r k.canonical.form (subst (IsPlace m r) (behind (sign_at p m) (sign_of p.b) (sign_of p.c) t.0 t.1.1 h (slope r k)) t.1.0))

  pub away : IsSmall p → product_of (sign_at p m) (sign_of p.b) ≡ Plus → IsEmpty p m.at × KeepsSign p m.at None
  away small h =
      let answer = roots_exist p small in
      let empty = none_comes answer.0 answer.1 h in
      (empty, keeps p m.at answer.0 answer.1 None tt (λ e. empty))

  -- any other line with a root has it still to come
  pub comes : (r : Shape) → AreRootsOf p (One r) → sign_at p m ≢ Zero → product_of (sign_at p m) (sign_of p.b) ≢ Plus → IsNextRoot p m.at r × KeepsSign p m.at (Some r)
  comes r k some h =
      let t = table r k in
      let next = one_next p m.at r k (subst (IsPlace m r) (ahead (sign_at p m) (sign_of p.b) (sign_of p.c) t.0 t.1.1 h some (slope r k)) t.1.0) in
      (next, keeps p m.at (One r) k (Some r) next (λ e. absurd cc))

  pub no_root : (answer : Roots) → AreRootsOf p answer → ((r : Shape) → answer ≢ One r) → IsEmpty p m.at × KeepsSign p m.at None
  no_root Nowhere k n = (nowhere p m.at k, keeps p m.at Nowhere k None tt (λ e. nowhere p m.at k))
  no_root All k n = (everywhere p m.at k, keeps p m.at All k None tt (λ e. everywhere p m.at k))
  no_root (One r) k n = absurd (n r refl)
  no_root (Two r s) k n = absurd (never_two r s k)
