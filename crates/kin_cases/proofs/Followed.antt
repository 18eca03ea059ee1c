-- Octants whose points enter, leave and move.
use Rattle.std.proofs.Common.{◌≡◌, ◌≢◌, ◌⊎◌, inl, inr, refl, sym, ap, ◌∙◌, subst, List, ℕ, ◌^◌, ◌<◌, length, true, false, arith}
use Rattle.std.specs.Prelude.{Option, Some, None, is_some, slice_set}
use Rattle.std.proofs.lemmas.Bool.{cases_eq}
use Rattle.std.proofs.lemmas.List.{get_or-set_same, get_or-set_other, length-set}
use Rattle.kin_num.specs.declared.instant.Moment.{Moment}
use Rattle.kin_motion.specs.Course.{Course, live_of, motion_of, is_live}
use Rattle.kin_motion.specs.Numbers.{Lists, is_in}
use Rattle.kin_motion.specs.Scene.{scene_at}
use Rattle.kin_motion.proofs.LiveLaws.{live-members}
use Rattle.kin_list.specs.declared.mark.Mark.{Mark}
use Rattle.kin_list.specs.declared.mark.Mark.TheVariants.{Rest, Enters, Leaves}
use Rattle.kin_list.specs.Listing.{HasMarked, without}
use Rattle.kin_list.proofs.ListLaws.{is_in-without, not_in-without}
use Rattle.kin_list.proofs.LeavingLaws.{without_once}
use Rattle.kin_wedge.specs.Wedging.{Wedging, members_of, IsReadyWedging, IsSettledWedging, IsWedgingAtRest}
use Rattle.kin_cases.specs.Octants.{AreFollowed}
use Rattle.kin_cases.proofs.Members.{entered, no_member}

-- without a number that has lost its motion
left : (ms : List (Option Course)) (members : List ℕ) (n : ℕ) → n < length ms → Lists members (live_of ms) → Lists (without n members) (live_of (slice_set ms n None))
left ms members n within lists = record { once = without_once n members lists.once; same = λ i. at i (cases_eq i n) }
  where
    at : (i : ℕ) → (i ≡ n) ⊎ (i ≢ n) → is_in i (without n members) ≡ is_in i (live_of (slice_set ms n None))
    at i (inl e) =
        ap (λ (x : ℕ). is_in x (without n members)) e ∙ not_in-without n members
        ∙ sym (live-members (slice_set ms n None) i ∙ ap (λ j. is_some (motion_of (slice_set ms n None) j)) e ∙ ap is_some (get_or-set_same ms n None None within))
    at i (inr d) =
        is_in-without i n members d ∙ lists.same i ∙ live-members ms i
        ∙ sym (live-members (slice_set ms n None) i ∙ ap is_some (get_or-set_other ms n i None None d))

-- octants where no mark stands
module _ (size : ℕ) (ms : List (Option Course)) (mark : Mark) (k : Wedging) (f : AreFollowed size ms mark k) (rest : mark ≡ Rest) where
  pub at_rest : k.mark ≡ Rest
  at_rest = f.marked ∙ rest

  members : Lists (members_of k) (live_of ms)
  members = subst (λ (x : Mark). HasMarked x (members_of k) (live_of ms)) rest f.members

  pub is_new : (n : ℕ) → is_live ms n ≡ false → is_in n (members_of k) ≡ false
  is_new n free = no_member ms (members_of k) n free members

  pub is_member : (n : ℕ) → is_in n (live_of ms) ≡ true → is_in n (members_of k) ≡ true
  is_member n there = members.same n ∙ there

  -- one number is marked, and its motion changes
  marked : (n : ℕ) (course : Option Course) (now : Mark) (ms' : List (Option Course)) (k' : Wedging) → ms' ≡ slice_set ms n course → k' ≡ record k { mark = now }
      → HasMarked now (members_of k) (live_of (slice_set ms n course)) → AreFollowed size ms' now k'
  marked n course now ms' k' moved set h =
      subst (λ (x : Wedging). AreFollowed size ms' now x) (sym set) (subst (λ (l : List (Option Course)). AreFollowed size l now (record k { mark = now })) (sym moved)
      (record { small = f.small; slots = length-set ms n course ∙ f.slots; sized = f.sized; marked = refl; members = h }))

  pub followed_entering : (n : ℕ) (c : Course) (ms' : List (Option Course)) (k' : Wedging) → n < 2 ^ size → is_live ms n ≡ false
      → ms' ≡ slice_set ms n (Some c) → k' ≡ record k { mark = Enters n } → AreFollowed size ms' (Enters n) k'
  followed_entering n c ms' k' low free moved set = marked n (Some c) (Enters n) ms' k' moved set (entered ms (members_of k) n c (subst (λ x. n < x) (sym f.slots) low) free members)

  pub followed_leaving : (n : ℕ) (ms' : List (Option Course)) (k' : Wedging) → n < 2 ^ size
      → ms' ≡ slice_set ms n None → k' ≡ record k { mark = Leaves n } → AreFollowed size ms' (Leaves n) k'
  followed_leaving n ms' k' low moved set = marked n None (Leaves n) ms' k' moved set (left ms (members_of k) n (subst (λ x. n < x) (sym f.slots) low) members)

-- before and after a settle
pub ready_followed : (size : ℕ) (ms : List (Option Course)) (m : Moment) (mark : Mark) (k : Wedging) → AreFollowed size ms mark k → IsReadyWedging k (scene_at ms m)
ready_followed size ms m mark k f = subst (λ (x : Mark). HasMarked x (members_of k) (live_of ms)) (sym f.marked) f.members

pub followed_settled : (size : ℕ) (ms : List (Option Course)) (m : Moment) (mark : Mark) (k k' : Wedging) → AreFollowed size ms mark k → k'.size ≡ k.size → IsWedgingAtRest k' → IsSettledWedging k' (scene_at ms m) → AreFollowed size ms Rest k'
followed_settled size ms m mark k k' f same rest settled = record { small = f.small; slots = f.slots; sized = same ∙ f.sized; marked = rest; members = (settled.ordered.order 0 (omega arith)).all }
