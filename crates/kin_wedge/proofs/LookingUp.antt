-- All slots of all members are looked up.
use Rattle.std.proofs.Common.{◌≡◌, ◌≢◌, ◌+◌, ◌*◌, ◌<◌, ◌≤◌, length, get_or, None, sym, ap, ◌∙◌, subst, true, List, [], ◌∷◌, ℕ, suc, Some, Option, inl, inr, ◌⊎◌, arith}
use Rattle.std.specs.Prelude.{slice_get}
use Rattle.std.proofs.lemmas.Bool.{cases_eq}
use Rattle.std.proofs.lemmas.Option.{same_Some, slice_get-get_or, slice_get_within}
use Rattle.kin_motion.specs.Numbers.{is_in}
use Rattle.kin_list.specs.declared.mark.Mark.{Mark}
use Rattle.kin_list.specs.Listing.{staying, lasting}
use Rattle.kin_list.specs.Rows.{exchange, exchanged}
use Rattle.kin_list.proofs.RowLaws.{is_in_from_get, get_from_is_in, is_in-exchange}
use Rattle.kin_wedge.specs.declared.touch.Touch.{Touch}
use Rattle.kin_wedge.specs.Passages.{IsLookedUp, AreAllLookedUp}
use Rattle.kin_wedge.specs.Rows.{row_of, AreAlike, WereExchanged}
use Rattle.kin_wedge.specs.Touched.{HasOffered, HasOfferedBoth, HasTouched}
use Rattle.kin_wedge.proofs.Departing.{still_in}
use Rattle.kin_wedge.proofs.Entering.{apex_in}
use Rattle.kin_wedge.proofs.Halves.{bounds_low}
use Rattle.kin_wedge.proofs.Slots.{below_eight}
use Rattle.kin_wedge.proofs.Touching.{touched_none, touched_through}

-- the slots of the first i numbers are looked up
pub record AreLookedUpTo (candidates : List (Option ℕ)) (numbers : List ℕ) (first now : List Touch) (i : ℕ) : Type 0 where
  pub each : (k x : ℕ) → k < i → slice_get numbers k ≡ Some x → IsLookedUp x now
  pub touched : HasTouched candidates first now

module _ (candidates : List (Option ℕ)) (numbers : List ℕ) (first : List Touch) where
  pub up_to_none : AreLookedUpTo candidates numbers first first 0
  up_to_none = record { each = λ k x l. absurd (omega (arith, l)); touched = touched_none candidates first }

  pub up_to_more : (now next : List Touch) (i x : ℕ) → slice_get numbers i ≡ Some x → AreLookedUpTo candidates numbers first now i → IsLookedUp x next → HasTouched candidates now next → AreLookedUpTo candidates numbers first next (i + 1)
  up_to_more now next i x here a own t = record {
    each = λ k y l h. at k y l h (cases_eq k i);
    touched = touched_through candidates first now next a.touched t;
  }
    where
      at : (k y : ℕ) → k < i + 1 → slice_get numbers k ≡ Some y → (k ≡ i) ⊎ (k ≢ i) → IsLookedUp y next
      at k y l h (inl e) = subst (λ (z : ℕ). IsLookedUp z next) (same_Some x y (sym here ∙ ap (slice_get numbers) (sym e) ∙ h)) own
      at k y l h (inr n) = λ w m. t.keeps (8 * y + w) None (a.each k y (omega (arith, l, n)) h w m)

  -- and so are those of all
  pub up_to_end : (now : List Touch) (i : ℕ) → length numbers ≤ i → AreLookedUpTo candidates numbers first now i → (x : ℕ) → is_in x numbers ≡ true → IsLookedUp x now
  up_to_end now i past a x there =
      let at = get_from_is_in numbers x there in
      let within = slice_get_within numbers at.0 x at.1 in
      a.each at.0 x (omega (arith, within, past)) at.1

-- a number that is read is in the list
pub read_up : (xs numbers : List ℕ) (i : ℕ) → xs ≡ numbers → i < length xs → slice_get numbers i ≡ Some (get_or xs i 0)
read_up xs numbers i e l = ap (λ (ys : List ℕ). slice_get ys i) (sym e) ∙ slice_get-get_or xs i 0 l

-- an exchange is of two numbers of the list
pub exchanged_in : (ps xs : List ℕ) (a b : ℕ) → WereExchanged ps xs a b → (is_in a xs ≡ true) × (is_in b xs ≡ true)
exchanged_in [] xs a b x = absurd x
exchanged_in (p ∷ ps) xs a b (inl x) = (is_in_from_get xs p a x.0, is_in_from_get xs (suc p) b x.1)
exchanged_in (p ∷ ps) xs a b (inr x) =
    let r = exchanged_in ps (exchange p xs) a b x in
    (sym (is_in-exchange p a xs) ∙ r.0, sym (is_in-exchange p b xs) ∙ r.1)

-- where all slots of all members are looked up, all that an exchange may change is
pub looked_up_offered : (rows : List (List ℕ)) (candidates : List (Option ℕ)) (ts : List Touch) → AreAllLookedUp rows ts → AreAlike rows
    → (part a b : ℕ) → is_in a (row_of rows 0) ≡ true → is_in b (row_of rows 0) ≡ true → HasOfferedBoth rows candidates part a b ts
looked_up_offered rows candidates ts all alike part a b there also = (one a b there, one b a also)
  where
    one : (x y : ℕ) → is_in x (row_of rows 0) ≡ true → HasOffered rows candidates part x y ts
    one x y here = record {
      comes = λ w o e k m. inr (all x here w (below_eight w o e));
      goes = λ w o e k m. all x here w (below_eight w o e);
      ranked = λ apex w o e r k m.
          let low = (bounds_low w o e).0 in
          inr (all apex (sym (alike o.first.part apex (omega (arith, low))) ∙ apex_in rows o apex y m.0) w (below_eight w o e));
    }

-- so it is of the exchanges of a list
pub exchanges_looked_up : (rows : List (List ℕ)) (candidates : List (Option ℕ)) (ts : List Touch) → AreAllLookedUp rows ts → AreAlike rows
    → (part : ℕ) → part < 8 → (mark : Mark) (swaps old : List ℕ) → exchanged swaps (staying mark old) ≡ lasting mark (row_of rows part)
    → (a b : ℕ) → WereExchanged swaps (staying mark old) a b → HasOfferedBoth rows candidates part a b ts
exchanges_looked_up rows candidates ts all alike part l mark swaps old e a b x =
    let both = exchanged_in swaps (staying mark old) a b x in
    let there : (i : ℕ) → is_in i (staying mark old) ≡ true → is_in i (row_of rows 0) ≡ true = λ i h. sym (alike part i l) ∙ still_in mark swaps old (row_of rows part) i e h in
    looked_up_offered rows candidates ts all alike part a b (there a both.0) (there b both.1)
