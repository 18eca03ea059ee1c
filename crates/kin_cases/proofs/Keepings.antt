-- Structures that a world keeps, as points enter.
use Rattle.std.proofs.Common.{◌≡◌, ◌≢◌, ◌⊎◌, inl, inr, refl, sym, ap, ◌∙◌, subst, List, [], ◌∷◌, ℕ, ◌<◌, length, Bool, true, false, ◌||◌, nat_eq, arith}
use Rattle.std.specs.Prelude.{Option, Some, None, Contains, is_some, slice_set}
use Rattle.std.proofs.lemmas.Bool.Decides.{nat_tests}
use Rattle.std.proofs.lemmas.List.{get_or-set_same, get_or-set_other}
use Rattle.std.proofs.lemmas.List.Elements.{All-nil, All-cons}
use Rattle.kin_algebra.proofs.Members.{contains_none, contains_head, contains_tail}
use Rattle.kin_algebra.proofs.Signs.{equal_or_not}
use Rattle.kin_motion.specs.declared.fact.Placed.{Placed}
use Rattle.kin_motion.specs.Course.{Course, live_of, motion_of, is_live}
use Rattle.kin_motion.specs.Kinetics.{ListsFailing, AllHold}
use Rattle.kin_motion.specs.Numbers.{Lists, is_in, HasEntered}
use Rattle.kin_motion.specs.Scene.{Scene, Holds}
use Rattle.kin_motion.proofs.LiveLaws.{filled-once, live-members}
use Rattle.kin_motion.proofs.Members.{in_head}
use Rattle.kin_cases.proofs.Members.{entered, none_live}

-- where none has failed, all facts that aren't spared hold
pub unspared_hold : (s : Scene) (facts failed : List Placed) (spared : Placed → Bool) → length failed ≡ 0 → ListsFailing facts spared s failed → (p : Placed) → Contains facts p → spared p ≡ false → Holds s p.fact
unspared_hold s facts (f ∷ fs) spared e lists p c out = absurd (omega (arith, e))
unspared_hold s facts [] spared e lists p c out = at (equal_or_not (s.sign p.fact.form) p.fact.sign)
  where
    at : (s.sign p.fact.form ≡ p.fact.sign) ⊎ (s.sign p.fact.form ≢ p.fact.sign) → Holds s p.fact
    at (inl holds) = holds
    at (inr n) = absurd (contains_none p ((lists.each p).1 (c, out, n)))

-- and all hold where nothing is spared
pub all_hold : (s : Scene) (facts failed : List Placed) → length failed ≡ 0 → ListsFailing facts (λ p. false) s failed → AllHold s facts
all_hold s facts failed e lists = from facts (λ p c. unspared_hold s facts failed (λ q. false) e lists p c refl)
  where
    from : (fs : List Placed) → ((p : Placed) → Contains fs p → Holds s p.fact) → AllHold s fs
    from [] h = All-nil (λ (p : Placed). Holds s p.fact)
    from (p ∷ fs) h = All-cons (λ (p : Placed). Holds s p.fact) p fs (h p (contains_head p fs)) (from fs (λ q c. h q (contains_tail p q fs c)))

-- a new number with its motion is live with the others
pub has_entered : (ms new : List (Option Course)) (n : ℕ) (c : Course) → n < length ms → is_live ms n ≡ false → new ≡ slice_set ms n (Some c) → HasEntered n (live_of ms) (live_of new)
has_entered ms new n c within free moved = subst (λ (l : List (Option Course)). HasEntered n (live_of ms) (live_of l)) (sym moved) (record {
  absent = live-members ms n ∙ free;
  lists = entered ms (live_of ms) n c within free (record { once = filled-once 0 ms; same = λ i. refl });
})

-- a live number whose motion is gone has been live with the others
pub has_left : (ms new : List (Option Course)) (n : ℕ) → n < length ms → is_in n (live_of ms) ≡ true → new ≡ slice_set ms n None → HasEntered n (live_of new) (live_of ms)
has_left ms new n within there moved = subst (λ (l : List (Option Course)). HasEntered n (live_of l) (live_of ms)) (sym moved) (record {
  absent = gone;
  lists = record { once = (gone, filled-once 0 left); same = λ i. at i (nat_eq i n) refl };
})
  where
    left : List (Option Course)
    left = slice_set ms n None

    gone : is_in n (live_of left) ≡ false
    gone = live-members left n ∙ ap is_some (get_or-set_same ms n None None within)

    at : (i : ℕ) (b : Bool) → nat_eq i n ≡ b → is_in i (n ∷ live_of left) ≡ is_in i (live_of ms)
    at i true e =
        let same : i ≡ n = grind (arith, nat_tests, e) in
        ap (λ t. t || is_in i (live_of left)) e ∙ sym (ap (λ j. is_in j (live_of ms)) same ∙ there)
    at i false e =
        let other : i ≢ n = grind (arith, nat_tests, e) in
        ap (λ t. t || is_in i (live_of left)) e ∙ live-members left i ∙ ap is_some (get_or-set_other ms n i None None other) ∙ sym (live-members ms i)

-- where nothing has a motion, no number is live
pub nothing_live : (ms : List (Option Course)) → ((i : ℕ) → motion_of ms i ≡ None) → live_of ms ≡ []
nothing_live ms none = at (live_of ms) (none_live ms none)
  where
    at : (xs : List ℕ) → Lists [] xs → xs ≡ []
    at [] lists = refl
    at (x ∷ xs) lists = let e : false ≡ true = lists.same x ∙ in_head x xs in absurd cc
