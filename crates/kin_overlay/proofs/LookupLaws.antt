-- The records of a list, found by their left points.
use Rattle.std.proofs.Common.{◌≡◌, ◌⊎◌, inl, inr, refl, sym, ap, ◌∙◌, subst, List, [], ◌∷◌, ◌++◌, ℕ, true, false, Contains}
use Rattle.std.proofs.lemmas.Bool.{both_ways, false_from_ne_true}
use Rattle.kin_algebra.proofs.Members.{contains_none, contains_cases}
use Rattle.kin_motion.specs.Numbers.{is_in, IsOnce}
use Rattle.kin_motion.proofs.Members.{in_head, in_tail, not_in_tail}
use Rattle.kin_overlay.specs.declared.record.Record.{Record}
use Rattle.kin_overlay.specs.Remembered.{left_points}
use Rattle.kin_overlay.proofs.FingerLaws.{lefts-push}

-- the left point of a record is one of those of the list
pub in-lefts : (rs : List Record) (r : Record) → Contains rs r → is_in r.at.left (left_points rs) ≡ true
in-lefts [] r c = absurd (contains_none r c)
in-lefts (q ∷ rs) r c = at (contains_cases q r rs c) (λ d. in-lefts rs r d)
  where
    at : (q ≡ r) ⊎ Contains rs r → (Contains rs r → is_in r.at.left (left_points rs) ≡ true) → is_in r.at.left (left_points (q ∷ rs)) ≡ true
    at (inl e) rest = subst (λ (z : Record). is_in z.at.left (left_points (q ∷ rs)) ≡ true) e (in_head q.at.left (left_points rs))
    at (inr d) rest = in_tail r.at.left q.at.left (left_points rs) (rest d)

-- two records with one left point are one
pub same-record : (rs : List Record) (r q : Record) → IsOnce (left_points rs) → Contains rs r → Contains rs q → r.at.left ≡ q.at.left → r ≡ q
same-record [] r q once c d e = absurd (contains_none r c)
same-record (p ∷ rs) r q once c d e = at (contains_cases p r rs c) (contains_cases p q rs d) (λ g h. same-record rs r q once.1 g h e)
  where
    only : (x y : Record) → p ≡ x → Contains rs y → x.at.left ≡ y.at.left → ⊥
    only x y same there lefts =
        absurd (both_ways (is_in p.at.left (left_points rs)) once.0 (ap (λ (n : ℕ). is_in n (left_points rs)) (ap (λ (z : Record). z.at.left) same ∙ lefts) ∙ in-lefts rs y there))

    at : (p ≡ r) ⊎ Contains rs r → (p ≡ q) ⊎ Contains rs q → (Contains rs r → Contains rs q → r ≡ q) → r ≡ q
    at (inl a) (inl b) rest = sym a ∙ b
    at (inl a) (inr h) rest = absurd (only r q a h e)
    at (inr g) (inl b) rest = absurd (only q r b g (sym e))
    at (inr g) (inr h) rest = rest g h

-- a further record with a left point of its own
pub once-push : (rs : List Record) (r : Record) → IsOnce (left_points rs) → is_in r.at.left (left_points rs) ≡ false → IsOnce (left_points (rs ++ r ∷ []))
once-push [] r once new = (refl, tt)
once-push (q ∷ rs) r once new = (
  false_from_ne_true (is_in q.at.left (left_points (rs ++ r ∷ []))) (λ h. at (lefts-push q.at.left rs r h)),
  once-push rs r once.1 (not_in_tail r.at.left q.at.left (left_points rs) new),
)
  where
    at : (is_in q.at.left (left_points rs) ≡ true) ⊎ (q.at.left ≡ r.at.left) → ⊥
    at (inl h) = absurd (both_ways (is_in q.at.left (left_points rs)) once.0 h)
    at (inr e) = absurd (both_ways (is_in r.at.left (q.at.left ∷ left_points rs)) new (ap (λ (n : ℕ). is_in n (q.at.left ∷ left_points rs)) (sym e) ∙ in_head q.at.left (left_points rs)))
