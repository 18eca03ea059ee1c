-- The slots of points, and their facts.
use Rattle.std.proofs.Common.{◌≡◌, refl, sym, subst, ap, ◌∙◌, arith, List, [], ◌∷◌, ◌++◌, ℕ, zero, suc, ◌+◌, ◌^◌, ℤ, Bool, true, false, cond, map, length}
use Rattle.std.specs.Prelude.{Option, Some, None, IfSome}
use Rattle.std.specs.List.{All}
use Rattle.std.proofs.lemmas.List.Elements.{All-nil, All-cons}
use Rattle.kin_motion.specs.declared.fact.Placed.{Placed}
use Rattle.kin_motion.specs.Extremes.{along_key, slot_of_point, point_slots, extreme_facts}
use Rattle.kin_motion.specs.Live.{IsSmallDirection}
use Rattle.kin_motion.specs.Numbers.{is_in, IsIn, numbers_from}
use Rattle.kin_motion.specs.Parts.{moved_by}
use Rattle.kin_motion.specs.Scene.{Scene}
use Rattle.kin_motion.specs.Tournaments.{tournament_facts}
use Rattle.kin_plain.specs.Comparing.{MayLieAlong}
use Rattle.kin_motion.proofs.ExtremeFactLaws.{slot_count}

-- moved by no parts, facts stay
pub moved_by_none : (ps : List Placed) → map (moved_by 0) ps ≡ ps
moved_by_none [] = refl
moved_by_none (p ∷ ps) =
    let e : 0 + p.part ≡ p.part = omega arith in
    ap (λ (n : ℕ). record { part = n; fact = p.fact } ∷ map (moved_by 0) ps) e ∙ ap (λ (l : List Placed). p ∷ l) (moved_by_none ps)

-- what is true of all live numbers is true of what the slots of points hold
pub point_slots_pass : (P : ℕ → Type 0) (live : List ℕ) → ((i : ℕ) → IsIn i live → P i) → (n k : ℕ) → All (λ held. IfSome held P) (map (slot_of_point live) (numbers_from n k))
point_slots_pass P live all n zero = All-nil (λ held. IfSome held P)
point_slots_pass P live all n (suc k) =
    All-cons (λ held. IfSome held P) (slot_of_point live n) (map (slot_of_point live) (numbers_from (n + 1) k)) (at (is_in n live) refl) (point_slots_pass P live all (n + 1) k)
  where
    at : (b : Bool) → is_in n live ≡ b → IfSome (cond b (Some n) None) P
    at true e = all n e
    at false e = tt

-- slots have their count
pub point_slots_count : (size : ℕ) (live : List ℕ) (slots : List (Option ℕ)) → slots ≡ point_slots size live → length slots ≡ 2 ^ size
point_slots_count size live slots e = ap length e ∙ slot_count live 0 (2 ^ size)

-- the facts of points are not moved
pub extreme_put : (s : Scene) (dx dy x y : ℤ) (size : ℕ) (live : List ℕ) (slots : List (Option ℕ)) (old new : List Placed) → x ≡ dx → y ≡ dy → live ≡ s.live → slots ≡ point_slots size live
    → new ≡ old ++ map (moved_by 0) (tournament_facts s (along_key x y) size slots) → new ≡ old ++ extreme_facts size s dx dy
extreme_put s dx dy x y size live slots old new same_x same_y same_live filled put =
    put ∙ ap (λ (l : List Placed). old ++ l) (moved_by_none (tournament_facts s (along_key x y) size slots)) ∙ ap (λ (d : ℤ). old ++ tournament_facts s (along_key d y) size slots) same_x
    ∙ ap (λ (d : ℤ). old ++ tournament_facts s (along_key dx d) size slots) same_y
    ∙ ap (λ (l : List (Option ℕ)). old ++ tournament_facts s (along_key dx dy) size l) (filled ∙ ap (point_slots size) same_live)

-- and may be compared along a small direction
pub points_may : (s : Scene) (dx dy x y : ℤ) (size : ℕ) (live : List ℕ) (slots : List (Option ℕ)) → x ≡ dx → y ≡ dy → IsSmallDirection dx dy → live ≡ s.live → slots ≡ point_slots size live
    → All (λ held. IfSome held (MayLieAlong x y s.live)) slots
points_may s dx dy x y size live slots same_x same_y small same_live filled =
    subst (λ (l : List (Option ℕ)). All (λ held. IfSome held (MayLieAlong x y s.live)) l) (sym (filled ∙ ap (point_slots size) same_live))
    (point_slots_pass (MayLieAlong x y s.live) s.live (λ i h. record {
      small = subst (λ (d : ℤ). IsSmallDirection d y) (sym same_x) (subst (λ (d : ℤ). IsSmallDirection dx d) (sym same_y) small);
      is_live = h;
    }) 0 (2 ^ size))
