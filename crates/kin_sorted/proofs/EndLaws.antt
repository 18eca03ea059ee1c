-- An end and its slot.
use Rattle.std.proofs.Common.{◌≡◌, ap, ap₂, sym, ◌∙◌, arith, ℕ, ◌+◌, ◌*◌}
use Rattle.std.specs.Prelude.{ℤ, pos, ◌*ℤ◌, ◌-ℤ◌}
use Rattle.kin_motion.specs.declared.form.Form.TheVariants.{Line}
use Rattle.kin_sorted.specs.declared.ends.End.{End}
use Rattle.kin_sorted.specs.declared.ends.Side.{Side}
use Rattle.kin_sorted.specs.declared.ends.Side.TheVariants.{Low, High}
use Rattle.kin_motion.specs.BoxFacts.{kind, point, offset}
use Rattle.kin_sorted.specs.EndSlots.{kind_of, end_slot}

kind_again : (i : ℕ) (side : Side) → kind (2 * i + kind_of side) ≡ kind_of side
kind_again i Low = omega arith
kind_again i High = omega arith

point_again : (i : ℕ) (side : Side) → point (2 * i + kind_of side) ≡ i
point_again i Low = omega arith
point_again i High = omega arith

pub end_kind : (e : End) → kind (end_slot e) ≡ kind_of e.side
end_kind e = kind_again e.point e.side

pub end_point : (e : End) → point (end_slot e) ≡ e.point
end_point e = point_again e.point e.side

-- the form of two ends
pub end_form : (dx dx' dy dy' off width : ℤ) (l r : End) → dx' ≡ dx → dy' ≡ dy → off ≡ (pos (kind_of r.side) -ℤ pos (kind_of l.side)) *ℤ width
    → Line dx' dy' off l.point r.point ≡ Line dx dy (offset width (end_slot l) (end_slot r)) (point (end_slot l)) (point (end_slot r))
end_form dx dx' dy dy' off width l r e f g =
    let shift : off ≡ offset width (end_slot l) (end_slot r) = g ∙ ap₂ (λ (a b : ℕ). (pos a -ℤ pos b) *ℤ width) (sym (end_kind r)) (sym (end_kind l)) in
    ap₂ (λ (a b : ℤ). Line a b off l.point r.point) e f ∙ ap (λ (o : ℤ). Line dx dy o l.point r.point) shift
    ∙ ap₂ (λ (i j : ℕ). Line dx dy (offset width (end_slot l) (end_slot r)) i j) (sym (end_point l)) (sym (end_point r))
