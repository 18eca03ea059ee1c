use Rattle.std.proofs.Common.{◌≡◌, ◌≤◌, ◌<◌, ◌^◌, ◌*◌, ℤ, pos, ◌+ℤ◌, ◌-ℤ◌, ◌*ℤ◌, unsigned_abs, FitsSigned, to_z, of_z, w64, arith, sym, ap, ap₂, ◌∙◌, subst, ℕ, [], ◌∷◌, refl}
use Rattle.std.proofs.lemmas.Int.{ints, fits_signed_from_abs}
use Rattle.std.specs.Prelude.{◌<ℤ◌}
use Rattle.kin_algebra.proofs.Magnitudes.{size-sum}
use Rattle.kin_algebra.proofs.Ring.{by_ring, quotes}
use Rattle.kin_instant.proofs.Widths.{clean, clean-abs, read_within}
use Rattle.kin_motion.specs.Course.{motion_limit}
use Rattle.kin_motion.specs.Sizes.{step_limit}
use Rattle.kin_turn.proofs.turned.start_at_ratio.Goals as goal

at_most : (m n : ℕ) → m ≤ n → n ≤ 2 ^ 31 * step_limit → m ≤ 2 ^ 31 * step_limit
at_most m n h k = omega arith

small_enough : (m k : ℕ) → m ≤ k → k ≤ 2 ^ 31 * step_limit → m < 2 ^ 63
small_enough m k h l = omega arith

sum_fits : (x g : ℤ) → unsigned_abs x ≤ motion_limit → unsigned_abs g ≤ 2 ^ 31 * step_limit → FitsSigned w64 (to_z w64 (of_z w64 x) +ℤ to_z w64 (of_z w64 g))
sum_fits x g h k =
    rw (clean-abs w64 x (small_enough _ _ h (omega arith)), clean-abs w64 g (small_enough _ _ k (omega arith))) (fits_signed_from_abs w64 (x +ℤ g) (omega (arith, size-sum x g motion_limit (2 ^ 31 * step_limit) h k)))

sum : (x g : ℤ) → unsigned_abs x ≤ motion_limit → unsigned_abs g ≤ 2 ^ 31 * step_limit → to_z w64 (of_z w64 (to_z w64 (of_z w64 x) +ℤ to_z w64 (of_z w64 g))) ≡ x +ℤ g
sum x g h k = omega (arith, ints)

gained : (x g : ℤ) → (x +ℤ g) -ℤ x ≡ g
gained x g = by_ring (x ∷ g ∷ []) _ _ (search quotes depth 20) (search quotes depth 20) refl

pub returns : goal.returns
returns c =
    let x = c.args.start in
    let g = c.in_ok-gain.gain in
    let e = c.in_ok-gain.ensures in
    let loss = clean w64 c.loss_until.result c.loss_until.type_inv in
    let small : unsigned_abs g ≤ 2 ^ 31 * step_limit = at_most (unsigned_abs g) _ e.1 (subst (λ z. unsigned_abs z ≤ 2 ^ 31 * step_limit) (sym loss) c.loss_until.ensures.small) in
    ap₂ ◌*ℤ◌ (sym (clean w64 c.args.n c.ranges.n.sfits)) (sym (clean w64 c.args.slower c.ranges.slower.sfits)) ∙ sym c.loss_until.ensures.value ∙ sym loss ∙ e.0 ∙ ap₂ ◌*ℤ◌ (sym (gained x g) ∙ ap (λ z. z -ℤ x) (sym (sum x g c.requires.start small))) (clean w64 c.args.d c.ranges.d.sfits)

pub overflow_add-result : goal.overflow_add-result
overflow_add-result c =
    let loss = clean w64 c.loss_until.result c.loss_until.type_inv in
    sum_fits c.args.start c.in_ok-gain.gain c.requires.start (at_most (unsigned_abs c.in_ok-gain.gain) _ c.in_ok-gain.ensures.1 (subst (λ z. unsigned_abs z ≤ 2 ^ 31 * step_limit) (sym loss) c.loss_until.ensures.small))

pub loss_until-requires-clause-slower : goal.loss_until-requires-clause-slower
loss_until-requires-clause-slower c = read_within w64 c.args.slower step_limit c.requires.slower (omega arith)

pub loss_until-requires-clause-n_small : goal.loss_until-requires-clause-n_small
loss_until-requires-clause-n_small c = read_within w64 c.args.n (2 ^ 31) c.requires.n_small (omega arith)

pub whole_quotient-requires : goal.whole_quotient-requires
whole_quotient-requires c = record { positive = subst (λ z. pos 0 <ℤ z) (sym (clean w64 c.args.d c.ranges.d.sfits)) c.requires.d_positive }

pub returns-in_err-gain : goal.returns-in_err-gain
returns-in_err-gain c =
    let loss = clean w64 c.loss_until.result c.loss_until.type_inv ∙ c.loss_until.ensures.value ∙ ap₂ ◌*ℤ◌ (clean w64 c.args.n c.ranges.n.sfits) (clean w64 c.args.slower c.ranges.slower.sfits) in
    rw c.from_residual.ensures (λ k e. c.in_err-gain.ensures (k -ℤ c.args.start) (loss ∙ e ∙ ap (λ z. (k -ℤ c.args.start) *ℤ z) (sym (clean w64 c.args.d c.ranges.d.sfits))))
