-- A fact that names a point that leaves stands above its slot.
use Rattle.std.proofs.Common.{◌≡◌, ◌≢◌, sym, ap, ◌∙◌, subst, arith, List, [], ◌∷◌, ℕ, zero, suc, ◌+◌, ◌*◌, ◌^◌, ◌<◌, ◌≤◌, Bool, true, false, ◌&&◌, ◌||◌, nat_eq, length, slice_set}
use Rattle.std.specs.Prelude.{Contains}
use Rattle.std.proofs.lemmas.Bool.Decides.{nat_tests}
use Rattle.std.proofs.lemmas.Bool.{or_right}
use Rattle.kin_motion.specs.declared.fact.Placed.{Placed}
use Rattle.kin_motion.specs.Extremes.{along_key}
use Rattle.kin_motion.specs.Forms.{names}
use Rattle.kin_motion.specs.Scene.{Scene}
use Rattle.kin_motion.specs.Tournaments.{IsBest, IsNodeFact, is_under, item_in}
use Rattle.kin_motion.proofs.PointSlots.{slot_holds}
use Rattle.kin_tourney.specs.declared.along.Along.{Along}
use Rattle.kin_tourney.specs.Points.{HasPoints, IsSettledAlong}
use Rattle.kin_tourney.specs.Tournament.{Tournament, is_above_mark, is_above_mark_from}
use Rattle.kin_motion.proofs.UnderNodes.{is_under-left, is_under-right, is_under-le, is_under-none}

-- a node over a marked slot is above a mark
above_marked : (size v i k : ℕ) (marked : List Bool) → k < length marked → is_under size v (i + k) ≡ true → is_above_mark_from size v i (slice_set marked k true) ≡ true
above_marked size v i k [] low e = absurd (omega (arith, low))
above_marked size v i zero (m ∷ ms) low e =
    let same : i + 0 ≡ i = omega arith in
    ap (λ b. (true && b) || is_above_mark_from size v (i + 1) ms) (subst (λ j. is_under size v j ≡ true) same e)
above_marked size v i (suc k) (m ∷ ms) low e =
    let same : i + suc k ≡ i + 1 + k = omega arith in
    or_right (m && is_under size v i) _ (above_marked size v (i + 1) k ms (omega (arith, low)) (subst (λ j. is_under size v j ≡ true) same e))

-- a node whose left half is over a slot isn't node 0
pub some_node : (size v j : ℕ) → is_under size (2 * v) j ≡ true → 0 < v
some_node size zero j e = absurd (is_under-none size j e)
some_node size (suc v) j e = omega arith

module _ (a : ℕ) (t : Tournament Along ℕ) (s : Scene) (has : HasPoints t s.live) (settled : IsSettledAlong t s) (low : a < 2 ^ t.size) where
  -- the best of some slots is the point of its slot
  own_slot : (among : ℕ → Bool) (i : ℕ) → IsBest s (along_key t.key.dx t.key.dy) t.slots among i → among i ≡ true
  own_slot among i best =
      let held = slot_holds t.size s.live best.slot i (sym (ap (λ slots. item_in slots best.slot) has.slots) ∙ best.held) in
      subst (λ j. among j ≡ true) held.0 best.among

  above : (v : ℕ) → is_under t.size v a ≡ true → is_above_mark t.size (slice_set t.marked a true) v ≡ true
  above v e = above_marked t.size v 0 a t.marked (subst (λ n. a < n) (sym has.room) low) (let same : a ≡ 0 + a = omega arith in subst (λ j. is_under t.size v j ≡ true) same e)

  module _ (p : Placed) (free : is_above_mark t.size (slice_set t.marked a true) p.part ≡ false) (f : IsNodeFact s (along_key t.key.dx t.key.dy) t.size t.slots p) where
    some : 0 < p.part
    some = some_node t.size p.part f.left_best.slot f.left_best.among

    not_over : is_under t.size p.part a ≡ true → ⊥
    not_over e = let clash : true ≡ false = sym (above p.part e) ∙ free in cc

    not_left : a ≢ f.left
    not_left e =
        let under : is_under t.size (2 * p.part) a ≡ true = subst (λ j. is_under t.size (2 * p.part) j ≡ true) (sym e) (own_slot (is_under t.size (2 * p.part)) f.left f.left_best) in
        let le : 2 * p.part ≤ 2 ^ t.size + a = is_under-le t.size (2 * p.part) a under in
        not_over (is_under-left t.size p.part a some (omega (arith, le, low)) low under)

    not_right : a ≢ f.right
    not_right e =
        let under : is_under t.size (2 * p.part + 1) a ≡ true = subst (λ j. is_under t.size (2 * p.part + 1) j ≡ true) (sym e) (own_slot (is_under t.size (2 * p.part + 1)) f.right f.right_best) in
        let le : 2 * p.part + 1 ≤ 2 ^ t.size + a = is_under-le t.size (2 * p.part + 1) a under in
        not_over (is_under-right t.size p.part a some (omega (arith, le, low)) low under)

    not_named : names p.fact.form a ≡ false
    not_named =
        let left : nat_eq a f.left ≡ false = grind (arith, nat_tests, not_left) in
        let right : nat_eq a f.right ≡ false = grind (arith, nat_tests, not_right) in
        ap (λ (q : Placed). names q.fact.form a) f.fact ∙ ap (λ b. b || (nat_eq a f.right || false)) left ∙ ap (λ b. b || false) right

  -- a fact that isn't spared doesn't name it
  pub spares_named : (p : Placed) → Contains t.facts p → is_above_mark t.size (slice_set t.marked a true) p.part ≡ false → names p.fact.form a ≡ false
  spares_named p there free = not_named p free ((settled.tournament.exact.each p).0 there)
