-- A point enters its slot, or leaves it.
use Rattle.std.proofs.Common.{◌≡◌, ◌≢◌, sym, ap, ap₂, ◌∙◌, ℤ, subst, arith, List, [], ℕ, ◌^◌, ◌<◌, true, false, nat_eq, ◌||◌, replicate, length}
use Rattle.std.specs.Prelude.{Option, Some, None, slice_set}
use Rattle.std.proofs.lemmas.Bool.Decides.{nat_tests}
use Rattle.std.proofs.lemmas.List.{length-set, length-replicate}
use Rattle.kin_motion.specs.declared.keep.Keep.{Keep}
use Rattle.kin_motion.specs.declared.keep.Keep.TheVariants as keep
use Rattle.kin_motion.specs.Extremes.{point_slots}
use Rattle.kin_motion.specs.Numbers.{is_in, HasEntered}
use Rattle.kin_motion.proofs.PointSlots.{slots_with, slots_without, empty_slots}
use Rattle.kin_tourney.specs.declared.along.Along.{Along}
use Rattle.kin_tourney.specs.Points.{IsTournamentFor, HasPoints}
use Rattle.kin_tourney.specs.Tournament.{Tournament, IsAtRest}

-- the slots after a number has entered
slots_entered : (size : ℕ) (before after : List ℕ) (a : ℕ) → a < 2 ^ size → HasEntered a before after → slice_set (point_slots size before) a (Some a) ≡ point_slots size after
slots_entered size before after a low entered = slots_with size before after a low others own
  where
    others : (j : ℕ) → j ≢ a → is_in j before ≡ is_in j after
    others j other = let first : nat_eq j a ≡ false = grind (arith, nat_tests, other) in sym (ap (λ b. b || is_in j before) first) ∙ entered.lists.same j

    own : is_in a after ≡ true
    own = let first : nat_eq a a ≡ true = grind (arith, nat_tests) in sym (entered.lists.same a) ∙ ap (λ b. b || is_in a before) first

-- the size is that of the keep
pub point_low : (t : Tournament Along ℕ) (a : ℕ) → ((size : ℕ) × (kept : Keep) × IsTournamentFor t size kept × (a < 2 ^ size)) → a < 2 ^ t.size
point_low t a (size, kept, kind, low) = subst (λ (n : ℕ). a < 2 ^ n) (sym kind.1) low

pub points_entered : (a : ℕ) (t new : Tournament Along ℕ) (before after : List ℕ) → a < 2 ^ t.size
    → new ≡ record t { slots = slice_set t.slots a (Some a); marked = slice_set t.marked a true; winners = new.winners }
    → HasPoints t before → HasEntered a before after → HasPoints new after
points_entered a t new before after low set has entered = record {
  whole = ap (λ (x : Tournament Along ℕ). x.whole) set ∙ has.whole;
  slots = ap (λ (x : Tournament Along ℕ). x.slots) set ∙ ap (λ (xs : List (Option ℕ)). slice_set xs a (Some a)) has.slots
      ∙ slots_entered t.size before after a low entered ∙ ap (λ n. point_slots n after) (sym (ap (λ (x : Tournament Along ℕ). x.size) set));
  room = ap (λ (x : Tournament Along ℕ). length x.marked) set ∙ length-set t.marked a true ∙ has.room ∙ ap (λ n. 2 ^ n) (sym (ap (λ (x : Tournament Along ℕ). x.size) set));
}

-- no point stands in empty slots
pub no_points : (t : Tournament Along ℕ) (size : ℕ) → t.size ≡ size → t.slots ≡ replicate (2 ^ size) None → t.marked ≡ replicate (2 ^ size) false → IsAtRest t → HasPoints t []
no_points t size same slots marked rest = record {
  whole = rest.whole;
  slots = slots ∙ sym (empty_slots size) ∙ ap (λ n. point_slots n []) (sym same);
  room = ap length marked ∙ length-replicate (2 ^ size) false ∙ ap (λ n. 2 ^ n) (sym same);
}

-- the slots after a number has left
slots_left : (size : ℕ) (before after : List ℕ) (a : ℕ) → HasEntered a after before → slice_set (point_slots size before) a None ≡ point_slots size after
slots_left size before after a left = slots_without size before after a others left.absent
  where
    others : (j : ℕ) → j ≢ a → is_in j before ≡ is_in j after
    others j other = let first : nat_eq j a ≡ false = grind (arith, nat_tests, other) in sym (left.lists.same j) ∙ ap (λ b. b || is_in j after) first

pub points_left : (a : ℕ) (t new : Tournament Along ℕ) (before after : List ℕ)
    → new ≡ record t { slots = slice_set t.slots a None; marked = slice_set t.marked a true; winners = new.winners }
    → HasPoints t before → HasEntered a after before → HasPoints new after
points_left a t new before after cleared has left = record {
  whole = ap (λ (x : Tournament Along ℕ). x.whole) cleared ∙ has.whole;
  slots = ap (λ (x : Tournament Along ℕ). x.slots) cleared ∙ ap (λ (xs : List (Option ℕ)). slice_set xs a None) has.slots
      ∙ slots_left t.size before after a left ∙ ap (λ n. point_slots n after) (sym (ap (λ (x : Tournament Along ℕ). x.size) cleared));
  room = ap (λ (x : Tournament Along ℕ). length x.marked) cleared ∙ length-set t.marked a true ∙ has.room ∙ ap (λ n. 2 ^ n) (sym (ap (λ (x : Tournament Along ℕ). x.size) cleared));
}

-- a new tournament is that of the keep whose direction it was given
pub points_for : (dx dy : ℤ) (key : Along) (size : ℕ) (kept : Keep) (t : Tournament Along ℕ) → kept ≡ keep.Extreme dx dy → key.dx ≡ dx → key.dy ≡ dy → t.key ≡ key → t.size ≡ size → IsTournamentFor t size kept
points_for dx dy key size kept t is same same' made sized =
    (is ∙ ap₂ (λ (a b : ℤ). keep.Extreme a b) (sym (ap (λ (k : Along). k.dx) made ∙ same)) (sym (ap (λ (k : Along). k.dy) made ∙ same')), sized)
