-- A number that enters is offered to each octant that it is in.
use Rattle.std.proofs.Common.{◌≡◌, ◌≢◌, sym, ap, ◌∙◌, subst, arith, List, ℕ, ◌+◌, ◌*◌, ◌<◌, ◌≤◌, Bool, true, false, cond, length, Some, Option, inl, inr, ◌⊎◌}
use Rattle.std.specs.Prelude.{slice_get}
use Rattle.std.proofs.lemmas.Bool.{cases_eq, cases_order, and_parts}
use Rattle.std.proofs.lemmas.Option.{same_Some, slice_get_within}
use Rattle.kin_motion.specs.Records.{stands_before}
use Rattle.kin_motion.specs.Numbers.{is_in}
use Rattle.kin_motion.specs.Octants.{Octant, octants}
use Rattle.kin_list.proofs.RowLaws.{get_from_is_in}
use Rattle.kin_wedge.specs.declared.touch.Touch.{Touch}
use Rattle.kin_wedge.specs.Passages.{IsOfferedAround, IsOfferedFrom}
use Rattle.kin_wedge.specs.EightLaws.{of_eight}
use Rattle.kin_wedge.specs.Rows.{row_of, is_in_wedge, AreAlike}
use Rattle.kin_wedge.specs.Touched.{ComesFirst, IsOffered, HasTouched}
use Rattle.kin_wedge.proofs.Places.{first_is_in, second_is_in}
use Rattle.kin_wedge.proofs.Touching.{touched_none, touched_through}

-- a number is offered to the one octant of an apex that it can be in
pub only_there : (rows : List (List ℕ)) (candidates : List (Option ℕ)) (apex who v : ℕ) (wanted : Bool) (next : List Touch)
    → ((w : ℕ) (o : Octant) → slice_get octants w ≡ Some o → is_in_wedge rows o apex who ≡ true → v ≡ w)
    → ((o : Octant) → slice_get octants v ≡ Some o → ComesFirst rows candidates o apex v who → wanted ≡ true) → (wanted ≡ true → IsOffered next (8 * apex + v) (Some who))
    → (w : ℕ) (o : Octant) → slice_get octants w ≡ Some o → ComesFirst rows candidates o apex w who → IsOffered next (8 * apex + w) (Some who)
only_there rows candidates apex who v wanted next told leads offered w o e k =
    let same = told w o e k.0 in
    subst (λ (n : ℕ). IsOffered next (8 * apex + n) (Some who)) same
    (offered (leads o (ap (slice_get octants) same ∙ e) (subst (λ (n : ℕ). ComesFirst rows candidates o apex n who) (sym same) k)))

-- a number is offered to each octant that it is in of the apexes from a place to before the i-th
pub record AreOfferedTo (rows : List (List ℕ)) (candidates : List (Option ℕ)) (no : ℕ) (first now : List Touch) (from i : ℕ) : Type 0 where
  pub offered : IsOfferedFrom rows candidates no from i now
  pub touched : HasTouched candidates first now

module _ (rows : List (List ℕ)) (candidates : List (Option ℕ)) (no : ℕ) (first : List Touch) (from : ℕ) where
  pub to_none : AreOfferedTo rows candidates no first first from from
  to_none = record { offered = λ k p v o l h. absurd (omega (arith, l, h)); touched = touched_none candidates first }

  pub to_more : (now next : List Touch) (i apex : ℕ) → AreOfferedTo rows candidates no first now from i → slice_get (row_of rows 0) i ≡ Some apex
      → ((v : ℕ) (o : Octant) → slice_get octants v ≡ Some o → ComesFirst rows candidates o apex v no → IsOffered next (8 * apex + v) (Some no)) → HasTouched candidates now next → AreOfferedTo rows candidates no first next from (i + 1)
  to_more now next i apex a here f t = record { offered = λ k p v o l h g m n. at k p v o (cases_eq k i) l h g m n; touched = touched_through candidates first now next a.touched t }
    where
      at : (k p v : ℕ) (o : Octant) → (k ≡ i) ⊎ (k ≢ i) → from ≤ k → k < i + 1 → slice_get (row_of rows 0) k ≡ Some p → slice_get octants v ≡ Some o → ComesFirst rows candidates o p v no → IsOffered next (8 * p + v) (Some no)
      at k p v o (inl s) l h g m n =
          let same : p ≡ apex = same_Some p apex (sym g ∙ ap (slice_get (row_of rows 0)) s ∙ here) in
          subst (λ (x : ℕ). IsOffered next (8 * x + v) (Some no)) (sym same) (f v o m (subst (λ (x : ℕ). ComesFirst rows candidates o x v no) same n))
      at k p v o (inr d) l h g m n = t.keeps (8 * p + v) (Some no) (a.offered k p v o l (omega (arith, h, d)) g m n)

-- who is the apex of an octant with a member is in the row of the octant's first order
pub apex_in : (rows : List (List ℕ)) (o : Octant) (p q : ℕ) → is_in_wedge rows o p q ≡ true → is_in p (row_of rows o.first.part) ≡ true
apex_in rows o p q h = at o.first.from_end (and_parts _ _ h).0
  where
    at : (e : Bool) → cond e (stands_before (row_of rows o.first.part) q p) (stands_before (row_of rows o.first.part) p q) ≡ true → is_in p (row_of rows o.first.part) ≡ true
    at true k = second_is_in _ q p k
    at false k = first_is_in _ p q k

-- and so is the member
member_in : (rows : List (List ℕ)) (o : Octant) (p q : ℕ) → is_in_wedge rows o p q ≡ true → is_in q (row_of rows o.first.part) ≡ true
member_in rows o p q h = at o.first.from_end (and_parts _ _ h).0
  where
    at : (e : Bool) → cond e (stands_before (row_of rows o.first.part) q p) (stands_before (row_of rows o.first.part) p q) ≡ true → is_in q (row_of rows o.first.part) ≡ true
    at true k = first_is_in _ q p k
    at false k = second_is_in _ p q k

-- who is no member is offered to none
pub to_nobody : (rows : List (List ℕ)) (candidates : List (Option ℕ)) (who : ℕ) (ts : List Touch) → AreAlike rows → is_in who (row_of rows 0) ≡ false → IsOfferedAround rows candidates who ts
to_nobody rows candidates who ts alike out = λ p w o k m. absurd (
    let c : true ≡ false = sym (member_in rows o p who m.0) ∙ alike o.first.part who (of_eight w o k).first ∙ out in cc)

-- all members are among the apexes
pub to_all : (rows : List (List ℕ)) (candidates : List (Option ℕ)) (who : ℕ) (ts us : List Touch) (place end : ℕ) → AreAlike rows → end ≡ length (row_of rows 0)
    → IsOfferedFrom rows candidates who 0 place ts → HasTouched candidates ts us → IsOfferedFrom rows candidates who place end us → IsOfferedAround rows candidates who us
to_all rows candidates who ts us place end alike whole before t after p w o k m =
    let g = get_from_is_in (row_of rows 0) p (sym (alike o.first.part p (of_eight w o k).first) ∙ apex_in rows o p who m.0) in
    let b = slice_get_within (row_of rows 0) g.0 p g.1 in
    at g.0 g.1 (omega (arith, b, whole)) (cases_order g.0 place)
  where
    at : (i : ℕ) → slice_get (row_of rows 0) i ≡ Some p → i < end → (i ≡ place) ⊎ ((i < place) ⊎ (place < i)) → IsOffered us (8 * p + w) (Some who)
    at i g b (inl e) = after i p w o (omega (arith, e)) b g k m
    at i g b (inr (inl l)) = t.keeps (8 * p + w) (Some who) (before i p w o (omega arith) l g k m)
    at i g b (inr (inr l)) = after i p w o (omega (arith, l)) b g k m
