-- The chain that is read off a list is its merged chain, and how it splits.
use Rattle.std.proofs.Common.{◌≡◌, refl, sym, ap, ap₂, ◌∙◌, subst, arith, List, [], ◌∷◌, ◌++◌, ℕ, ◌+◌, ◌<◌, Bool, true, false, cond, length, Option, Some, None, append_assoc}
use Rattle.std.specs.Prelude.{unwrap_or}
use Rattle.std.proofs.lemmas.List.{append-nil}
use Rattle.kin_algebra.specs.declared.sign.Sign.{Sign}
use Rattle.kin_algebra.specs.declared.sign.Sign.TheVariants.{Minus, Zero, Plus}
use Rattle.kin_motion.specs.Scene.{Scene}
use Rattle.kin_motion.specs.Merges.{Half.{A, B}, Half, Breakpoint, is_of, own_of, breakpoints_of, other_current, current_after, last_of}
use Rattle.kin_motion.specs.Cells.{above_of, given_by, is_last, changes_of, merged_chain}
use Rattle.kin_overlay.specs.declared.record.Record.{Record}
use Rattle.kin_overlay.specs.declared.end.End.{End}
use Rattle.kin_overlay.specs.declared.walk.Cell.{Cell as Step}
use Rattle.kin_overlay.specs.Fingers.{IsMerged, end_at}
use Rattle.kin_overlay.specs.Lists.{first_of, front, behind}
use Rattle.kin_overlay.specs.Remembered.{Remembered, place_of, breakpoints}
use Rattle.kin_overlay.specs.Walks.{above_by, right_above, last_item, seen_cell, cell_behind, first_cell, gifts_before, cell_after, last_gifts, gifts, chain_from, chain_read, a_before, b_before, cell_by, IsThreaded}
use Rattle.kin_overlay.proofs.FingerLaws.{first-shape}
use Rattle.kin_overlay.proofs.WalkLaws.{IsWalking, walking, walk-on, walked-all, right-of, changes-append, given-more, last_item-push}

-- ---- it is the merged chain
module _ (s : Scene) (total : List ℕ) (la lb : ℕ) where
  read-on : (c : Step) (chain : List ℕ) (rs : List Record) (end : End) → end ≡ end_at s la lb → IsWalking s total la lb c chain rs → chain ++ changes_of (last_item chain) (gifts c rs (right_above end)) ≡ total
  read-on c chain [] end is w = walked-all s total la lb c chain (chain ++ changes_of (last_item chain) (last_gifts c (right_above end))) end is refl w
  read-on c chain (r ∷ rs) end is w =
      let here = given_by (seen_cell (record c { right = above_by r })) in
      let next = chain ++ changes_of (last_item chain) here in
      ap (λ (l : List ℕ). chain ++ changes_of (last_item chain) l) (append_assoc here (gifts_before (cell_behind c r) rs) (last_gifts (cell_after (cell_behind c r) rs) (right_above end)))
      ∙ given-more chain next here (gifts (cell_behind c r) rs (right_above end)) refl
      ∙ read-on (cell_behind c r) next rs end is (walk-on s total la lb c chain next r rs refl w)

  -- each record has the current points
  threaded-on : (c : Step) (chain : List ℕ) (rs : List Record) → IsWalking s total la lb c chain rs → IsThreaded c rs
  threaded-on c chain [] w = tt
  threaded-on c chain (r ∷ rs) w =
      let next = chain ++ changes_of (last_item chain) (given_by (seen_cell (record c { right = above_by r }))) in (
        (at (place_of r).half refl).0,
        (at (place_of r).half refl).1,
        threaded-on (cell_behind c r) next rs (walk-on s total la lb c chain next r rs refl w),
      )
    where
      own : (h : Half) (xs : List ℕ) (x : ℕ) → own_of h (breakpoints (r ∷ rs)) ≡ breakpoints_of h xs → front xs ≡ x → is_of h (place_of r).half ≡ true → x ≡ r.at.left
      own h xs x of is q =
          let is-first : place_of r ∷ own_of h (breakpoints rs) ≡ breakpoints_of h xs = sym (ap (λ (b : Bool). cond b (place_of r ∷ own_of h (breakpoints rs)) (own_of h (breakpoints rs))) q) ∙ of in
          let shape = first-shape h xs (place_of r) (sym (ap (λ (es : List Breakpoint). first_of es) is-first)) in
          sym is ∙ ap front shape.1

      at : (h : Half) → (place_of r).half ≡ h → (c.a ≡ a_before r) × (c.b ≡ b_before r)
      at A q = (
        own A w.xa c.a w.interleaved.of_a w.a_is (ap (λ (h : Half). is_of A h) q) ∙ sym (ap (λ (h : Half). cond (is_of A h) r.at.left r.across) q),
        sym (ap (λ (h : Half). other_current h c.a c.b) q) ∙ sym w.noted.0.across ∙ sym (ap (λ (h : Half). cond (is_of A h) r.across r.at.left) q),
      )
      at B q = (
        sym (ap (λ (h : Half). other_current h c.a c.b) q) ∙ sym w.noted.0.across ∙ sym (ap (λ (h : Half). cond (is_of A h) r.at.left r.across) q),
        own B w.xb c.b w.interleaved.of_b w.b_is (ap (λ (h : Half). is_of B h) q) ∙ sym (ap (λ (h : Half). cond (is_of A h) r.across r.at.left) q),
      )

module _ (s : Scene) (a b : List ℕ) (m : Remembered) (e : End) (a_some : 0 < length a) (b_some : 0 < length b) (w : IsMerged s a b m) (left : m.left ≡ Some e) where
  pub read-merged : chain_read m ≡ merged_chain s a b (breakpoints m.records)
  read-merged =
      ap (λ (o : Option End). chain_from o m) left
      ∙ read-on s (merged_chain s a b (breakpoints m.records)) (last_of (front a) (behind a)) (last_of (front b) (behind b)) (first_cell e) [] m.records (unwrap_or m.right e) (right-of s a b m e w left m.right refl) (walking s a b m e a_some b_some w left)

  pub threaded : IsThreaded (first_cell e) m.records
  threaded = threaded-on s (merged_chain s a b (breakpoints m.records)) (last_of (front a) (behind a)) (last_of (front b) (behind b)) (first_cell e) [] m.records (walking s a b m e a_some b_some w left)
