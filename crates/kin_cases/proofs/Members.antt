-- Members and the live numbers.
use Rattle.std.proofs.Common.{◌≡◌, ◌≢◌, refl, sym, ap, ◌∙◌, arith, List, [], ◌∷◌, ℕ, ◌<◌, length, Bool, true, false, ◌||◌, nat_eq}
use Rattle.std.specs.Prelude.{Option, Some, None, is_some, slice_set}
use Rattle.std.proofs.lemmas.Bool.Decides.{nat_tests}
use Rattle.std.proofs.lemmas.List.{get_or-set_same, get_or-set_other}
use Rattle.kin_motion.specs.Course.{Course, live_of, motion_of, is_live}
use Rattle.kin_motion.specs.Numbers.{Lists, is_in}
use Rattle.kin_motion.proofs.LiveLaws.{live-members}

-- a number without a motion is no member
pub no_member : (ms : List (Option Course)) (items : List ℕ) (n : ℕ) → is_live ms n ≡ false → Lists items (live_of ms) → is_in n items ≡ false
no_member ms items n none members = members.same n ∙ live-members ms n ∙ none

-- a new number with its motion
pub entered : (ms : List (Option Course)) (items : List ℕ) (n : ℕ) (c : Course) → n < length ms → is_live ms n ≡ false → Lists items (live_of ms) → Lists (n ∷ items) (live_of (slice_set ms n (Some c)))
entered ms items n c within none members = record {
  once = (no_member ms items n none members, members.once);
  same = λ i. at i (nat_eq i n) refl;
}
  where
    new : List (Option Course)
    new = slice_set ms n (Some c)

    at : (i : ℕ) (b : Bool) → nat_eq i n ≡ b → is_in i (n ∷ items) ≡ is_in i (live_of new)
    at i true e =
        let same : i ≡ n = grind (arith, nat_tests, e) in
        ap (λ t. t || is_in i items) e ∙ sym (live-members new i ∙ ap (λ j. is_some (motion_of new j)) same ∙ ap is_some (get_or-set_same ms n (Some c) None within))
    at i false e =
        let other : i ≢ n = grind (arith, nat_tests, e) in
        ap (λ t. t || is_in i items) e ∙ members.same i ∙ live-members ms i ∙ sym (live-members new i ∙ ap is_some (get_or-set_other ms n i (Some c) None other))

-- where nothing has a motion, nothing is live
pub none_live : (ms : List (Option Course)) → ((i : ℕ) → motion_of ms i ≡ None) → Lists [] (live_of ms)
none_live ms none = record { once = tt; same = λ i. sym (live-members ms i ∙ ap is_some (none i)) }
