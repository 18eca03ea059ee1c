use Rattle.std.proofs.Common.{◌≡◌, ◌≢◌, ◌≤◌, ◌^◌, ℤ, pos, ◌-ℤ◌, ◌*ℤ◌, unsigned_abs, to_z, of_z, w32, w64, arith, sym, ap, subst, ◌∙◌, refl, MatchOption, Option}
use Rattle.std.proofs.lemmas.Int.{ints}
use Rattle.kin_num.specs.declared.instant.Shape.TheVariants.{Ratio, Root}
use Rattle.kin_num.specs.Canonical.{IsCanonical}
use Rattle.kin_instant.proofs.Widths.{clean}
use Rattle.kin_motion.specs.Course.{motion_limit}
use Rattle.kin_motion.specs.Turning.{IsNewStart}
use Rattle.kin_turn.proofs.Starts.{same_speed, found_at_ratio, at_root}
use Rattle.kin_turn.proofs.turned.new_start.Goals as goal

same_numbers : (x s n d x' s' n' d' : ℤ) (found : Option ℤ) → x' ≡ x → s' ≡ s → n' ≡ n → d' ≡ d
    → MatchOption found ((k : ℤ) → n' *ℤ s' ≢ (k -ℤ x') *ℤ d') (λ k. n' *ℤ s' ≡ (k -ℤ x') *ℤ d')
    → MatchOption found ((k : ℤ) → n *ℤ s ≢ (k -ℤ x) *ℤ d) (λ k. n *ℤ s ≡ (k -ℤ x) *ℤ d)
same_numbers x s n d x' s' n' d' found a b e f h = rw (sym a, sym b, sym e, sym f) h

slower : (u v r : ℤ) → unsigned_abs u ≤ motion_limit → unsigned_abs v ≤ motion_limit → r ≡ to_z w32 (of_z w32 (to_z w32 (of_z w32 u) -ℤ to_z w32 (of_z w32 v))) → to_z w64 (of_z w64 r) ≡ u -ℤ v
slower u v r h k e = omega (arith, ints, e)

start : (x r : ℤ) → unsigned_abs x ≤ motion_limit → r ≡ to_z w32 (of_z w32 x) → to_z w64 (of_z w64 r) ≡ x
start x r h e = omega (arith, ints, e)

nothing : (z : ℤ) → of_z w64 z ≡ 0 → to_z w64 (of_z w64 z) ≡ pos 0
nothing z e = rw (e) refl

small_number : (z : ℤ) → unsigned_abs z ≤ 2 ^ 31 → to_z w64 (of_z w64 z) ≡ z
small_number z h = omega (arith, ints)

pub returns-in-Ratio : goal.returns-in-Ratio
returns-in-Ratio c =
    let x = c.args.start in
    let u = c.args.speed in
    let v = c.args.new_speed in
    let n = c.in-Ratio.n in
    let d = c.in-Ratio.d in
    let is = c.in-Ratio.ensures in
    let ratio : IsCanonical (Ratio n d) = subst IsCanonical (sym is.value) is.canonical in
    found_at_ratio x u v n d c.args.at.now is.value ratio.form.positive c.start_at_ratio.result
    (same_numbers x (u -ℤ v) n d _ _ _ _ c.start_at_ratio.result (start x c.from.result c.requires.start c.from.ensures) (slower u v c.from-slower.result c.requires.speed c.requires.new_speed c.from-slower.ensures)
    (small_number n ratio.small.n_small) (small_number d ratio.small.d_small) c.start_at_ratio.ensures)

pub returns-in-Root : goal.returns-in-Root
returns-in-Root c =
    let x = c.args.start in
    let u = c.args.speed in
    let v = c.args.new_speed in
    let level : u -ℤ v ≡ pos 0 = sym (slower u v c.from-slower.result c.requires.speed c.requires.new_speed c.from-slower.ensures) ∙ nothing c.from-slower.result c.if-slower-eq0.true in
    subst (λ k. IsNewStart x u v c.args.at.now k) (sym (start x c.from-in-Root.result c.requires.start c.from-in-Root.ensures)) (same_speed x u v c.args.at.now c.in-Root.ensures.canonical.form level)

pub returns-in-Root-2 : goal.returns-in-Root-2
returns-in-Root-2 c k new =
    let x = c.args.start in
    let u = c.args.speed in
    let v = c.args.new_speed in
    let is = c.in-Root.ensures in
    let root : IsCanonical (Root c.in-Root.a c.in-Root.b c.in-Root.c c.in-Root.upper) = subst IsCanonical (sym is.value) is.canonical in
    let level = at_root x u v k c.in-Root.a c.in-Root.b c.in-Root.c c.in-Root.upper root.form (subst (λ w. IsNewStart x u v w k) (sym is.value) new) in
    c.if-slower-eq0.false (ap (of_z w64) (sym (clean w64 c.from-slower.result c.from-slower.type_inv) ∙ slower u v c.from-slower.result c.requires.speed c.requires.new_speed c.from-slower.ensures ∙ level))
