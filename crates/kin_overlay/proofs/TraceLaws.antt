-- What exactly is drawn.
use Rattle.std.proofs.Common.{◌≡◌, ◌⊎◌, inl, inr, refl, sym, ap, ◌∙◌, subst, arith, List, [], ◌∷◌, ◌++◌, ℕ, ◌+◌, ◌≤◌, Bool, true, false, cond, nat_eq, length, get_or, drop, append_assoc, Some}
use Rattle.std.specs.Prelude.{slice_get}
use Rattle.std.specs.List.{list_any}
use Rattle.std.proofs.Math.ListN.{drop_of_length-le}
use Rattle.std.proofs.lemmas.List.{append-nil, drop_more}
use Rattle.std.proofs.lemmas.Option.{slice_get_within, get_or_from_slice_get}
use Rattle.kin_motion.specs.Numbers.{is_in}
use Rattle.kin_overlay.specs.declared.draft.Draft.{Draft}
use Rattle.kin_overlay.specs.declared.half.Half.{Half as Side}
use Rattle.kin_overlay.specs.declared.half.Half.TheVariants.{A as SideA, B as SideB}
use Rattle.kin_overlay.specs.declared.record.Record.{Record}
use Rattle.kin_overlay.specs.declared.standing.Standing.{Standing}
use Rattle.kin_overlay.specs.Sketching.{blank, blanks, put_blanks, after_put, IsStepAt, IsTrace, IsSketchOf}
use Rattle.kin_overlay.proofs.ListLaws.{is_in-any}

pub blanks-more : (h : Side) (xs : List ℕ) → 2 ≤ length xs → blanks h xs ≡ blank h (get_or xs 0 0) (get_or xs 1 0) ∷ blanks h (drop 1 xs)
blanks-more h [] l = absurd (omega arith)
blanks-more h (x ∷ []) l = absurd (omega arith)
blanks-more h (x ∷ y ∷ ys) l = refl

pub blanks-none : (h : Side) (xs : List ℕ) → length xs ≤ 1 → blanks h xs ≡ []
blanks-none h [] l = refl
blanks-none h (x ∷ []) l = refl
blanks-none h (x ∷ y ∷ ys) l = absurd (omega arith)

-- the first one was put
pub put-more : (h : Side) (put xs : List ℕ) → 2 ≤ length xs → is_in (get_or xs 0 0) put ≡ true → put_blanks h put xs ≡ blank h (get_or xs 0 0) (get_or xs 1 0) ∷ put_blanks h put (drop 1 xs)
put-more h put [] l i = absurd (omega arith)
put-more h put (x ∷ []) l i = absurd (omega arith)
put-more h put (x ∷ y ∷ ys) l i = ap (λ (b : Bool). cond b (blank h x y ∷ put_blanks h put (y ∷ ys)) []) i

pub after-more : (put xs : List ℕ) → 2 ≤ length xs → is_in (get_or xs 0 0) put ≡ true → after_put put xs ≡ after_put put (drop 1 xs)
after-more put [] l i = absurd (omega arith)
after-more put (x ∷ []) l i = absurd (omega arith)
after-more put (x ∷ y ∷ ys) l i = ap (λ (b : Bool). cond b (after_put put (y ∷ ys)) (x ∷ y ∷ ys)) i

-- the first one wasn't put, or it is the only one
pub put-none : (h : Side) (put xs : List ℕ) → (length xs ≤ 1) ⊎ (is_in (get_or xs 0 0) put ≡ false) → put_blanks h put xs ≡ []
put-none h put [] k = refl
put-none h put (x ∷ []) k = refl
put-none h put (x ∷ y ∷ ys) (inl l) = absurd (omega arith)
put-none h put (x ∷ y ∷ ys) (inr i) = ap (λ (b : Bool). cond b (blank h x y ∷ put_blanks h put (y ∷ ys)) []) i

pub after-none : (put xs : List ℕ) → (length xs ≤ 1) ⊎ (is_in (get_or xs 0 0) put ≡ false) → after_put put xs ≡ xs
after-none put [] k = refl
after-none put (x ∷ []) k = refl
after-none put (x ∷ y ∷ ys) (inl l) = absurd (omega arith)
after-none put (x ∷ y ∷ ys) (inr i) = ap (λ (b : Bool). cond b (after_put put (y ∷ ys)) (x ∷ y ∷ ys)) i

-- what a search found
pub found : (x : ℕ) (ys : List ℕ) (r b : Bool) → r ≡ list_any (λ y. nat_eq y x) ys → r ≡ b → is_in x ys ≡ b
found x ys r b p q = sym (is_in-any x ys) ∙ sym p ∙ q

-- one more is drawn of those that are still to come
pub pushed-more : (start now new rest tail : List Draft) (d e : Draft) → now ++ rest ≡ start → new ≡ now ++ d ∷ [] → d ≡ e → rest ≡ e ∷ tail → new ++ tail ≡ start
pushed-more start now new rest tail d e p q r s =
    ap (λ (l : List Draft). l ++ tail) q ∙ append_assoc now (d ∷ []) tail ∙ ap (λ (x : Draft). now ++ x ∷ tail) r ∙ ap (λ (l : List Draft). now ++ l) (sym s) ∙ p

-- none is still to come
pub pushed-all : (start now rest : List Draft) → now ++ rest ≡ start → rest ≡ [] → now ≡ start
pushed-all start now rest p q = sym (append-nil now) ∙ ap (λ (l : List Draft). now ++ l) (sym q) ∙ p

-- ---- all that is drawn
pub drop-at : (rs : List Record) (k : ℕ) (r : Record) → slice_get rs k ≡ Some r → drop k rs ≡ r ∷ drop (k + 1) rs
drop-at rs k r at = drop_more rs k r (slice_get_within rs k r at) ∙ ap (λ (q : Record). q ∷ drop (k + 1) rs) (get_or_from_slice_get rs k r r at)

module _ (w : Standing) (put_a put_b a b : List ℕ) where
  -- whatever is drawn of these records from here on completes it
  abbrev pub IsBegun : List Record → List ℕ → List ℕ → List Draft → Type 0
  IsBegun rs first second out = (rest : List Draft) → IsTrace w put_a put_b rs first second rest → IsSketchOf w put_a put_b a b (out ++ rest)

  pub begun-none : (first second : List ℕ) (out0 out1 out2 : List Draft) → out0 ≡ [] → out1 ≡ out0 ++ put_blanks SideA put_a a → first ≡ after_put put_a a → out2 ≡ out1 ++ put_blanks SideB put_b b → second ≡ after_put put_b b
      → IsBegun w.list.now.records first second out2
  begun-none first second out0 out1 out2 e0 e1 first_is e2 second_is rest t = record {
    rest = rest;
    drawn =
        ap (λ (l : List Draft). l ++ rest) (e2 ∙ ap (λ (l : List Draft). l ++ put_blanks SideB put_b b) (e1 ∙ ap (λ (l : List Draft). l ++ put_blanks SideA put_a a) e0))
        ∙ append_assoc (put_blanks SideA put_a a) (put_blanks SideB put_b b) rest;
    traced = subst (λ (l : List ℕ). IsTrace w put_a put_b w.list.now.records (after_put put_a a) l rest) second_is (subst (λ (l : List ℕ). IsTrace w put_a put_b w.list.now.records l second rest) first_is t);
  }

  pub begun-more : (rs : List Record) (k : ℕ) (r : Record) (first second first' second' : List ℕ) (out new part : List Draft) → slice_get rs k ≡ Some r → IsBegun (drop k rs) first second out → new ≡ out ++ part
      → IsStepAt r.at.half w r put_a put_b first second first' second' part → IsBegun (drop (k + 1) rs) first' second' new
  begun-more rs k r first second first' second' out new part at before pushed step rest t =
      subst (IsSketchOf w put_a put_b a b) (sym (ap (λ (l : List Draft). l ++ rest) pushed ∙ append_assoc out part rest))
      (before (part ++ rest) (subst (λ (l : List Record). IsTrace w put_a put_b l first second (part ++ rest)) (sym (drop-at rs k r at)) (first', second', part, rest, refl, step, t)))

  pub begun-all : (rs : List Record) (k : ℕ) (first second : List ℕ) (out mid new : List Draft) → length rs ≤ k → IsBegun (drop k rs) first second out → mid ≡ out ++ blanks SideA first → new ≡ mid ++ blanks SideB second → IsSketchOf w put_a put_b a b new
  begun-all rs k first second out mid new done before e f =
      subst (IsSketchOf w put_a put_b a b) (sym (f ∙ ap (λ (l : List Draft). l ++ blanks SideB second) e ∙ append_assoc out (blanks SideA first) (blanks SideB second)))
      (before (blanks SideA first ++ blanks SideB second) (subst (λ (l : List Record). IsTrace w put_a put_b l first second (blanks SideA first ++ blanks SideB second)) (sym (drop_of_length-le rs done)) refl))
