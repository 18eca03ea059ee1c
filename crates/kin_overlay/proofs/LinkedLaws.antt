-- The records of a merge are followed as they remember.
use Rattle.std.proofs.Common.{◌≡◌, refl, sym, ap, ◌∙◌, subst, arith, List, [], ◌∷◌, ℕ, zero, suc, ◌+◌, Bool, true, false, cond, ◌||◌, Option, Some, None, option_map}
use Rattle.std.specs.Prelude.{slice_get}
use Rattle.std.proofs.lemmas.Option.{same_Some}
use Rattle.kin_algebra.specs.declared.sign.Sign.{Sign}
use Rattle.kin_motion.specs.Merges.{Half.{A, B}, Breakpoint, is_of, slope_form, goes_first, current_after}
use Rattle.kin_motion.specs.Numbers.{IsChain}
use Rattle.kin_motion.specs.Scene.{Scene}
use Rattle.kin_chain.specs.Merging.{is_in_place}
use Rattle.kin_overlay.specs.declared.breakpoint.Breakpoint.{Breakpoint as Pair}
use Rattle.kin_overlay.specs.declared.half.Half.{Half as Side}
use Rattle.kin_overlay.specs.declared.half.Half.TheVariants.{A as SideA, B as SideB}
use Rattle.kin_overlay.specs.declared.record.Record.{Record}
use Rattle.kin_overlay.specs.declared.record.Next.{Next}
use Rattle.kin_overlay.specs.Fingers.{seen_next, next_for, AreNoted}
use Rattle.kin_overlay.specs.Passing.{IsFollowed, IsLinkedAt}
use Rattle.kin_overlay.specs.Remembered.{place_of, breakpoints}
use Rattle.kin_overlay.specs.Seen.{half_of, seen}
use Rattle.kin_overlay.specs.Spans.{IsNextOf}

none-some : {T : Type 0} (x : T) → None ≡ Some x → ⊥
none-some x e = cc

some-none : {T : Type 0} (x : T) → Some x ≡ None → ⊥
some-none x e = cc

-- what is seen as one breakpoint is one
same-side : (x y : Side) → half_of x ≡ half_of y → x ≡ y
same-side SideA SideA e = refl
same-side SideA SideB e = absurd cc
same-side SideB SideA e = absurd cc
same-side SideB SideB e = refl

same-pair : (p q : Pair) → seen p ≡ seen q → p ≡ q
same-pair p q e =
    let half = same-side p.half q.half (ap (λ (b : Breakpoint). b.half) e) in
    let left = ap (λ (b : Breakpoint). b.left) e in
    let right = ap (λ (b : Breakpoint). b.right) e in
    subst (λ (h : Side). p ≡ record { half = h; left = q.left; right = q.right }) half
    (subst (λ (l : ℕ). p ≡ record { half = p.half; left = l; right = q.right }) left (subst (λ (r : ℕ). p ≡ record { half = p.half; left = p.left; right = r }) right refl))

-- a record that notes a next one in its place is followed by it
next-noted : (s : Scene) (r e : Record) → option_map seen_next r.next ≡ next_for s (place_of r) (Some (place_of e)) → is_in_place s (place_of r) (place_of e) ≡ true → IsNextOf r.next r e
next-noted s r e noted place = at r.next (is_of (half_of r.at.half) (half_of e.at.half)) refl noted place
  where
    sign : Sign
    sign = s.sign (slope_form (place_of r) (place_of e))

    at : (o : Option Next) (t : Bool) → is_of (half_of r.at.half) (half_of e.at.half) ≡ t → option_map seen_next o ≡ cond (is_of (half_of r.at.half) (half_of e.at.half)) None (Some (place_of e, sign))
        → (is_of (half_of r.at.half) (half_of e.at.half) || goes_first sign (half_of r.at.half) (half_of e.at.half)) ≡ true → IsNextOf o r e
    at None true is same first = is
    at None false is same first = absurd (none-some _ (same ∙ ap (λ (b : Bool). cond b None (Some (place_of e, sign))) is))
    at (Some n) true is same first = absurd (some-none _ (same ∙ ap (λ (b : Bool). cond b None (Some (place_of e, sign))) is))
    at (Some n) false is same first =
        let there = same_Some _ _ (same ∙ ap (λ (b : Bool). cond b None (Some (place_of e, sign))) is) in
        let slope = ap (λ (p : Breakpoint × Sign). p.1) there in (
          same-pair n.at e.at (ap (λ (p : Breakpoint × Sign). p.0) there),
          is,
          ap (λ (t : Sign). goes_first t (half_of r.at.half) (half_of e.at.half)) slope ∙ sym (ap (λ (b : Bool). b || goes_first sign (half_of r.at.half) (half_of e.at.half)) is) ∙ first,
        )

-- a record that notes none is the last
none-noted : (o : Option Next) → option_map seen_next o ≡ None → o ≡ None
none-noted None e = refl
none-noted (Some n) e = absurd (some-none _ e)

linked-more : (x : Record) (xs : List Record) (k : ℕ) → IsLinkedAt xs k → IsLinkedAt (x ∷ xs) (suc k)
linked-more x xs k linked = λ r at. let same : suc (k + 1) ≡ suc k + 1 = omega arith in subst (λ (n : ℕ). IsFollowed r (slice_get (x ∷ xs) n)) same (linked r at)

-- each is followed as it remembers
pub linked-noted : (s : Scene) (a b : ℕ) (rs : List Record) → AreNoted s a b rs → IsChain (is_in_place s) (breakpoints rs) → (k : ℕ) → IsLinkedAt rs k
linked-noted s a b [] noted places k = λ r at. absurd (none-some r at)
linked-noted s a b (x ∷ []) noted places zero = λ r at. subst (λ (q : Record). q.next ≡ None) (same_Some x r at) (none-noted x.next noted.0.next)
linked-noted s a b (x ∷ y ∷ ys) noted places zero = λ r at. subst (λ (q : Record). IsNextOf q.next q y) (same_Some x r at) (next-noted s x y noted.0.next places.0)
linked-noted s a b (x ∷ []) noted places (suc k) = linked-more x [] k (λ r at. absurd (none-some r at))
linked-noted s a b (x ∷ y ∷ ys) noted places (suc k) = linked-more x (y ∷ ys) k (linked-noted s (current_after A (place_of x) a) (current_after B (place_of x) b) (y ∷ ys) noted.1 places.1 k)
