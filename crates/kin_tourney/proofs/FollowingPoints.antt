-- A tournament of points that has been marked follows the scene in which it was settled.
use Rattle.std.proofs.Common.{◌≡◌, ◌⊎◌, inl, inr, sym, ap, ◌∙◌, subst, arith, List, ℕ, ◌^◌, ◌<◌, Bool, true, false, length}
use Rattle.std.specs.Prelude.{Some, None, slice_set, IsTrue}
use Rattle.std.proofs.lemmas.Bool.{both_ways}
use Rattle.kin_motion.specs.Forms.{names}
use Rattle.kin_motion.specs.declared.form.Form.{Form}
use Rattle.kin_motion.specs.Numbers.{IsIn, HasEntered}
use Rattle.kin_motion.specs.Scene.{Scene}
use Rattle.kin_motion.proofs.Members.{in_tail, in_cases}
use Rattle.kin_tourney.specs.declared.along.Along.{Along}
use Rattle.kin_tourney.specs.PointLaws.{mark_none, points_facts}
use Rattle.kin_tourney.specs.Points.{HasPoints, IsSettledAlong, FollowsPoints}
use Rattle.kin_tourney.specs.Tournament.{Tournament, IsAtRest, mark_in, mark_count}
use Rattle.kin_tourney.proofs.LeavingPoints.{spares_named}
use Rattle.kin_tourney.proofs.Marks.{mark_more}

-- one mark is counted
one_marked : (marked : List Bool) (a : ℕ) → a < length marked → ((i : ℕ) → mark_in marked i ≡ false) → mark_count (slice_set marked a true) ≡ 1
one_marked marked a low none = let more = mark_more marked a low (none a) in let zero = mark_none marked none in omega (arith, more, zero)

module _ (a : ℕ) (t new : Tournament Along ℕ) (s : Scene) (after : List ℕ) (low : a < 2 ^ t.size) (rest : IsAtRest t) (has : HasPoints t s.live) (settled : IsSettledAlong t s) where
  count : mark_count (slice_set t.marked a true) ≡ 1
  count = one_marked t.marked a (subst (λ n. a < n) (sym has.room) low) rest.unmarked

  pub follows_entered : new ≡ record t { slots = slice_set t.slots a (Some a); marked = slice_set t.marked a true; winners = new.winners } → HasEntered a s.live after → FollowsPoints new s after
  follows_entered set entered = subst (λ (x : Tournament Along ℕ). FollowsPoints x s after) (sym set) (record {
    exact = points_facts t s has settled;
    marked = inr (count, (a, inl entered));
    stays = λ p i there free named member. sym (entered.lists.same i) ∙ in_tail i a s.live member;
  })

  pub follows_left : new ≡ record t { slots = slice_set t.slots a None; marked = slice_set t.marked a true; winners = new.winners } → HasEntered a after s.live → FollowsPoints new s after
  follows_left cleared left = subst (λ (x : Tournament Along ℕ). FollowsPoints x s after) (sym cleared) (record {
    exact = points_facts t s has settled;
    marked = inr (count, (a, inr left));
    stays = λ p i there free named member. other p.fact.form i (spares_named a t s has settled low p there free) named (in_cases i a after (left.lists.same i ∙ member));
  })
    where
      other : (form : Form) (i : ℕ) → names form a ≡ false → IsTrue (names form i) → (i ≡ a) ⊎ IsIn i after → IsIn i after
      other form i free named (inl e) = absurd (both_ways (names form a) free (sym (ap (names form) e) ∙ named))
      other form i free named (inr there) = there
