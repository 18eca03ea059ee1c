-- The generated script is in its ranges.
use Rattle.std.proofs.Common.{ℕ, zero, suc, ◌+◌, ◌*◌, ◌%◌, ◌<◌, ◌≤◌, ◌^◌, List, [], ◌∷◌, ◌++◌, refl, sym, subst, pos, unsigned_abs, arith}
use Rattle.std.specs.Prelude.{IsTrue, All, Result, Ok, Err, IfOk}
use Rattle.std.proofs.Math.Nat.{mod-lt}
use Rattle.std.proofs.lemmas.Int.{ints}
use Rattle.std.proofs.lemmas.List.Elements.{All-nil, All-cons, All-append, All-weaker}
use lib.IntN.{neg_ℤ}
use Rattle.kin_motion.specs.declared.keep.Keep.{Keep}
use Rattle.kin_motion.specs.Boxes.{IsRectInRange}
use Rattle.kin_motion.specs.declared.keep.Keep.TheVariants as keep
use Rattle.kin_motion.specs.Course.{IsSlow}
use Rattle.kin_motion.specs.Keeps.{may_keep}
use Rattle.kin_script.specs.declared.command.Command.{Command}
use Rattle.kin_script.specs.declared.command.Command.TheVariants.{AtRatio, Extreme, Hull, Closest, Inside, Live}
use Rattle.kin_script.specs.declared.script.Script.{Script}
use Rattle.kin_script.specs.Generated.{state_after, drawn, picked, course_behind, insertion, insertions, questions, generated_keeps, IsGenerated}
use Rattle.kin_script.specs.Questions.{IsDirection, IsKeepInRange}
use Rattle.kin_script.specs.Ranges.{IsRatioInRange, IsCommandInRange, IsWithin, IsInRange}
use Rattle.kin_script.proofs.NumberedLaws.{Rises, wider, lows, highs, pairs}

-- ---- the numbers of a point
small_pick : (reach draw : ℕ) → unsigned_abs (picked reach draw) ≤ reach
unfolding picked
small_pick reach draw =
    let least : draw % (2 * reach + 1) < 2 * reach + 1 = mod-lt draw (omega arith) in
    omega (arith, ints, least)

slow_course : (z : ℕ) → IsSlow (course_behind z)
unfolding course_behind
slow_course z = record {
  x_small = omega (arith, small_pick 1000 (drawn (state_after 1 z)));
  y_small = omega (arith, small_pick 1000 (drawn (state_after 2 z)));
  u_small = omega (arith, small_pick 10 (drawn (state_after 3 z)));
  v_small = omega (arith, small_pick 10 (drawn (state_after 4 z)));
}

-- ---- the commands
abbrev InRange : ℕ → ℕ × Command → Type 0
InRange size l = IsCommandInRange size l.1

inserted_in_range : (size seed n : ℕ) → n ≤ 2 ^ size → All (InRange size) (insertions seed n)
inserted_in_range size seed zero room = All-nil (InRange size)
inserted_in_range size seed (suc n) room =
    let before = inserted_in_range size seed n (omega (arith, room)) in
    All-append (InRange size) (insertions seed n) (insertion seed n ∷ []) before
    (All-cons (InRange size) (insertion seed n) [] (omega (arith, room), slow_course _) (All-nil (InRange size)))

asked_in_range : (size line : ℕ) → All (InRange size) (questions line)
asked_in_range size line =
    let twenty : IsRatioInRange (pos 20) (pos 1) = record { n_low = omega (arith, ints); n_small = omega (arith, ints); d_low = omega (arith, ints); d_small = omega (arith, ints) } in
    let first : 1 ≤ 31 = omega arith in
    let near : unsigned_abs (pos 100) ≤ 2 ^ 24 = omega (arith, ints) in
    let far : unsigned_abs (neg_ℤ (pos 100)) ≤ 2 ^ 24 = omega (arith, ints) in
    let around : IsRectInRange (record { x1 = neg_ℤ (pos 100); x2 = pos 100; y1 = neg_ℤ (pos 100); y2 = pos 100 }) = record { x1_small = far; x2_small = near; y1_small = far; y2_small = near } in
    let fifth : List (ℕ × Command) = (line + 5, Live) ∷ [] in
    let fourth : List (ℕ × Command) = (line + 4, Inside (record { x1 = neg_ℤ (pos 100); x2 = pos 100; y1 = neg_ℤ (pos 100); y2 = pos 100 })) ∷ fifth in
    let third : List (ℕ × Command) = (line + 3, Closest) ∷ fourth in
    let second : List (ℕ × Command) = (line + 2, Hull) ∷ third in
    All-cons (InRange size) (line, AtRatio (pos 20) (pos 1)) ((line + 1, Extreme 1) ∷ second) twenty
    (All-cons (InRange size) (line + 1, Extreme 1) second first
    (All-cons (InRange size) (line + 2, Hull) third tt
    (All-cons (InRange size) (line + 3, Closest) fourth tt
    (All-cons (InRange size) (line + 4, Inside (record { x1 = neg_ℤ (pos 100); x2 = pos 100; y1 = neg_ℤ (pos 100); y2 = pos 100 })) fifth around
    (All-cons (InRange size) (line + 5, Live) [] tt (All-nil (InRange size)))))))

-- ---- the line numbers
rises_on : {A : Type 0} (low middle high : ℕ) (xs ys : List (ℕ × A)) → low ≤ middle → middle ≤ high → Rises low middle xs → Rises middle high ys → Rises low high (xs ++ ys)
rises_on low middle high [] ys le more r s = wider middle low high ys le s
rises_on low middle high (x ∷ xs) ys le more r s = (r.0, omega (arith, r.1, more), rises_on (x.0 + 1) middle high xs ys (omega (arith, r.1)) more r.2 s)

insertions_rise : (seed n : ℕ) → Rises 8 (8 + n) (insertions seed n)
insertions_rise seed zero = tt
insertions_rise seed (suc n) =
    rises_on 8 (8 + n) (8 + suc n) (insertions seed n) (insertion seed n ∷ []) (omega arith) (omega arith) (insertions_rise seed n) (omega arith, omega arith, tt)

questions_rise : (line : ℕ) → Rises line (line + 6) (questions line)
questions_rise line = (
  omega arith,
  omega arith,
  (
    omega arith,
    omega arith,
    (
      omega arith,
      omega arith,
      (
        omega arith,
        omega arith,
        (
          omega arith,
          omega arith,
          (omega arith, omega arith, tt),
        ),
      ),
    ),
  ),
)

-- ---- the script
kept_in_range : All IsKeepInRange generated_keeps
kept_in_range =
    let right : IsDirection (pos 1) (pos 0) = record { dx_small = omega (arith, ints); dy_small = omega (arith, ints); not_still = omega (arith, ints) } in
    let up_right : IsDirection (pos 1) (pos 1) = record { dx_small = omega (arith, ints); dy_small = omega (arith, ints); not_still = omega (arith, ints) } in
    All-cons IsKeepInRange (keep.Order (pos 1) (pos 0)) (keep.Extreme (pos 1) (pos 1) ∷ keep.Hull ∷ keep.Closest ∷ keep.Range ∷ []) right
    (All-cons IsKeepInRange (keep.Extreme (pos 1) (pos 1)) (keep.Hull ∷ keep.Closest ∷ keep.Range ∷ []) up_right
    (All-cons IsKeepInRange keep.Hull (keep.Closest ∷ keep.Range ∷ []) tt
    (All-cons IsKeepInRange keep.Closest (keep.Range ∷ []) tt
    (All-cons IsKeepInRange keep.Range [] tt (All-nil IsKeepInRange)))))

within : (seed count : ℕ) (s : Script) → count ≤ 2 ^ 10 → IsGenerated seed count s → IsWithin s
within seed count s few g = record {
  size_low = g.size.low;
  size_high = omega (arith, g.size.least 10 (omega arith) few);
  keepable = subst (λ (keeps : List Keep). IsTrue (may_keep keeps)) (sym g.keeps) refl;
  keeps = subst (All IsKeepInRange) (sym g.keeps) kept_in_range;
  commands = subst (All (InRange s.size)) (sym g.lines)
      (All-append (InRange s.size) (insertions seed count) (questions (8 + count)) (inserted_in_range s.size seed count g.size.room) (asked_in_range s.size (8 + count)));
}

pub generated_in_range : (seed count : ℕ) (s : Script) → count ≤ 2 ^ 10 → IsGenerated seed count s → IsInRange s
generated_in_range seed count s few g =
    let high = 8 + count + 6 in
    let rise : Rises 8 high s.lines = subst (Rises 8 high) (sym g.lines)
    (rises_on 8 (8 + count) high (insertions seed count) (questions (8 + count)) (omega arith) (omega arith) (insertions_rise seed count) (questions_rise (8 + count))) in
    record {
      within = within seed count s few g;
      low = All-weaker (λ (l : ℕ × Command). 8 ≤ l.0) (λ (l : ℕ × Command). 2 ≤ l.0) (λ l h. omega (arith, h)) s.lines (lows 8 high s.lines rise);
      high = All-weaker (λ (l : ℕ × Command). l.0 < high) (λ (l : ℕ × Command). l.0 ≤ 2 ^ 20) (λ l h. omega (arith, h, few)) s.lines (highs 8 high s.lines rise);
      rising = pairs 8 high s.lines rise;
    }

pub result_in_range : {E : Type 0} (seed count : ℕ) (r : Result Script E) → count ≤ 2 ^ 10 → IfOk r (IsGenerated seed count) → IfOk r IsInRange
result_in_range seed count (Ok s) few g = generated_in_range seed count s few g
result_in_range seed count (Err e) few g = tt
