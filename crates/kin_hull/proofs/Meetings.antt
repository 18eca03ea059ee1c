-- A point inside a lower chain is below the segment of its neighbours there, and so in no upper chain.
use Rattle.std.proofs.Common.{◌≡◌, ◌⊎◌, inl, inr, sym, ap, ◌∙◌, subst, arith, List, [], ◌∷◌, ℕ, zero, suc, ◌-◌, ◌<◌, length, Bool, true}
use Rattle.std.specs.Prelude.{slice_get, Some}
use Rattle.std.proofs.lemmas.Option.{same_Some, none-some, slice_get_within}
use Rattle.kin_algebra.specs.declared.sign.Sign.{Sign}
use Rattle.kin_algebra.specs.declared.sign.Sign.TheVariants.{Plus}
use Rattle.kin_algebra.specs.Signs.{opposite_of}
use Rattle.kin_algebra.proofs.Members.{contains_from_get, get_from_contains}
use Rattle.kin_algebra.proofs.Places.{get_within}
use Rattle.kin_motion.specs.declared.form.Form.TheVariants.{Turn}
use Rattle.kin_motion.specs.Chains.{is_left, IsUpperChain, IsLowerChain}
use Rattle.kin_motion.specs.Numbers.{IsIn, IsChain}
use Rattle.kin_motion.specs.Scene.{Scene, x_sign, reflected}
use Rattle.kin_motion.proofs.ChainLaws.{chain_within, plus_from}
use Rattle.kin_motion.proofs.ClaimLaws.{chain_is_strict}
use Rattle.kin_motion.proofs.Members.{in_from_contains, contains_from_in}
use Rattle.kin_hull.specs.Meetings.{IsEnd, MeetAtEnds}

neighbours : {A : Type 0} (lt : A → A → Bool) (xs : List A) (k : ℕ) (x y : A) → IsChain lt xs → slice_get xs k ≡ Some x → slice_get xs (suc k) ≡ Some y → lt x y ≡ true
neighbours {A} lt [] k x y c e f = absurd (none-some x e)
neighbours {A} lt (z ∷ []) k x y c e f = absurd (none-some y f)
neighbours {A} lt (z ∷ w ∷ ws) zero x y c e f = subst (λ u. lt u y ≡ true) (same_Some z x e) (subst (λ u. lt z u ≡ true) (same_Some w y f) c.0)
neighbours {A} lt (z ∷ w ∷ ws) (suc k) x y c e f = neighbours lt (w ∷ ws) k x y c.1 e f

not_both : (t : Sign) → t ≡ Plus → opposite_of t ≡ Plus → ⊥
not_both t e f = let clash : opposite_of Plus ≡ Plus = ap opposite_of (sym e) ∙ f in cc

pub meet_at_ends : (s : Scene) (set lower upper : List ℕ) → IsLowerChain s set lower → IsUpperChain s set upper → MeetAtEnds lower upper
meet_at_ends s set lower upper low up p above below = at place.0 place.1
  where
    place : (k : ℕ) × (slice_get lower k ≡ Some p)
    place = get_from_contains lower p (contains_from_in lower p below)

    among : (k q : ℕ) → slice_get lower k ≡ Some q → IsIn q set
    among k q e = chain_within (reflected s) set lower low q (in_from_contains lower q (contains_from_get lower k q e))

    inside : (k a c : ℕ) → slice_get lower k ≡ Some a → slice_get lower (suc k) ≡ Some p → slice_get lower (suc (suc k)) ≡ Some c → ⊥
    inside k a c e f g =
        let left : x_sign s a p ≡ Plus = plus_from (neighbours (is_left (reflected s)) lower k a p low.rising e f) in
        let right : x_sign s p c ≡ Plus = plus_from (neighbours (is_left (reflected s)) lower (suc k) p c low.rising f g) in
        not_both (s.sign (Turn a c p))
        (chain_is_strict s set upper p a c up above (among k a e) (among (suc (suc k)) c g) left right)
        (chain_is_strict (reflected s) set lower p a c low below (among k a e) (among (suc (suc k)) c g) left right)

    last_or_not : (k : ℕ) → slice_get lower (suc k) ≡ Some p → (suc k ≡ length lower - 1) ⊎ (suc (suc k) < length lower)
    last_or_not k e = let h = slice_get_within lower (suc k) p e in grind (arith, h)

    at : (k : ℕ) → slice_get lower k ≡ Some p → IsEnd lower p
    at zero e = inl e
    at (suc k) e = last (last_or_not k e)
      where
        last : (suc k ≡ length lower - 1) ⊎ (suc (suc k) < length lower) → IsEnd lower p
        last (inl f) = inr (ap (slice_get lower) (sym f) ∙ e)
        last (inr h) =
            let before = get_within lower k (omega (arith, h)) in
            let behind = get_within lower (suc (suc k)) h in
            absurd (inside k before.0 behind.0 before.1 e behind.1)
