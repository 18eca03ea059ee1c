-- A number lies in an octant of another exactly where the other lies in the opposite octant of it.
use Rattle.std.proofs.Common.{◌≡◌, refl, ◌∙◌, subst, List, ℕ, zero, suc, ◌+◌, ◌%◌, Some, inl, inr}
use Rattle.std.specs.Prelude.{slice_get}
use Rattle.kin_motion.specs.Octants.{Octant, octants}
use Rattle.kin_wedge.specs.Rows.{is_in_wedge}
use Rattle.kin_wedge.specs.Touched.{IsBoundedBy}

-- two octants that face each other
pub record AreFacing (o r : Octant) : Type 0 where
  pub within : (rows : List (List ℕ)) (p q : ℕ) → is_in_wedge rows r q p ≡ is_in_wedge rows o p q
  pub first : r.first.part ≡ o.first.part
  pub second : r.second.part ≡ o.second.part

same_facing : (a b o r : Octant) → AreFacing a b → Some a ≡ Some o → Some b ≡ Some r → AreFacing o r
same_facing a b o r h e f =
    let there : a ≡ o = cc in
    let across : b ≡ r = cc in
    subst (λ (x : Octant). AreFacing x r) there (subst (AreFacing a) across h)

pub facing : (w : ℕ) (o r : Octant) → slice_get octants w ≡ Some o → slice_get octants ((w + 4) % 8) ≡ Some r → AreFacing o r
facing zero o r e f = same_facing _ _ o r (record { within = λ rows p q. refl; first = refl; second = refl }) e f
facing (suc zero) o r e f = same_facing _ _ o r (record { within = λ rows p q. refl; first = refl; second = refl }) e f
facing (suc (suc zero)) o r e f = same_facing _ _ o r (record { within = λ rows p q. refl; first = refl; second = refl }) e f
facing (suc (suc (suc zero))) o r e f = same_facing _ _ o r (record { within = λ rows p q. refl; first = refl; second = refl }) e f
facing (suc (suc (suc (suc zero)))) o r e f = same_facing _ _ o r (record { within = λ rows p q. refl; first = refl; second = refl }) e f
facing (suc (suc (suc (suc (suc zero))))) o r e f = same_facing _ _ o r (record { within = λ rows p q. refl; first = refl; second = refl }) e f
facing (suc (suc (suc (suc (suc (suc zero)))))) o r e f = same_facing _ _ o r (record { within = λ rows p q. refl; first = refl; second = refl }) e f
facing (suc (suc (suc (suc (suc (suc (suc zero))))))) o r e f = same_facing _ _ o r (record { within = λ rows p q. refl; first = refl; second = refl }) e f
facing (suc (suc (suc (suc (suc (suc (suc (suc w)))))))) o r e f = absurd cc

pub bounded_across : (o r : Octant) (part : ℕ) → AreFacing o r → IsBoundedBy o part → IsBoundedBy r part
bounded_across o r part h (inl e) = inl (h.first ∙ e)
bounded_across o r part h (inr e) = inr (h.second ∙ e)
