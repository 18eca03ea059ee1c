-- The order of canonical moments.
use Rattle.std.proofs.Common.{◌≡◌, ◌⊎◌, inl, inr, sym, refl, ap₂, ◌∙◌, subst}
use Rattle.kin_num.specs.declared.instant.Phase.{Phase}
use Rattle.kin_num.specs.declared.instant.Phase.TheVariants.{At, After}
use Rattle.kin_num.specs.declared.instant.Moment.{Moment}
use Rattle.kin_num.specs.Canonical.{IsCanonicalForm}
use Rattle.kin_num.specs.Order.{IsLess, IsEarlier}
use Rattle.kin_num.proofs.LowerFractions.{not_less_itself, less_trans}
use Rattle.kin_num.proofs.InstantOrder.{total, level_same, same_level}

-- what an equation of phases says
abbrev Code : Phase → Phase → Type 0
Code At At = Unit {0}
Code At After = ⊥
Code After At = ⊥
Code After After = Unit {0}

own_code : (f : Phase) → Code f f
own_code At = tt
own_code After = tt

code : {f g : Phase} → f ≡ g → Code f g
code {f} {g} e = subst (Code f) e (own_code f)

pub not_earlier_itself : (m : Moment) → ¬ (IsEarlier m m)
not_earlier_itself m (inl l) = not_less_itself m.at l
not_earlier_itself m (inr k) = code (sym k.1 ∙ k.2)

pub earlier_trans : (l m n : Moment) → IsCanonicalForm l.at → IsCanonicalForm m.at → IsCanonicalForm n.at → IsEarlier l m → IsEarlier m n → IsEarlier l n
earlier_trans l m n fl fm fn (inl p) (inl q) = inl (less_trans l.at m.at n.at fm fn p q)
earlier_trans l m n fl fm fn (inl p) (inr k) = inl (subst (IsLess l.at) (level_same m.at n.at fm fn k.0) p)
earlier_trans l m n fl fm fn (inr k) (inl q) = inl (subst (λ w. IsLess w n.at) (sym (level_same l.at m.at fl fm k.0)) q)
earlier_trans l m n fl fm fn (inr j) (inr k) = absurd (code (sym k.1 ∙ j.2))

same_moment : (m n : Moment) → m.at ≡ n.at → m.phase ≡ n.phase → m ≡ n
same_moment m n e f = ap₂ (λ w p. record { at = w; phase = p }) e f

pub earlier_total : (m n : Moment) → IsCanonicalForm m.at → IsCanonicalForm n.at → IsEarlier m n ⊎ (IsEarlier n m ⊎ (m ≡ n))
earlier_total m n fm fn = at (total m.at n.at fm fn)
  where
    phases : m.at ≡ n.at → (f g : Phase) → m.phase ≡ f → n.phase ≡ g → IsEarlier m n ⊎ (IsEarlier n m ⊎ (m ≡ n))
    phases e At At p q = inr (inr (same_moment m n e (p ∙ sym q)))
    phases e At After p q = inl (inr (same_level m.at n.at e, p, q))
    phases e After At p q = inr (inl (inr (same_level n.at m.at (sym e), q, p)))
    phases e After After p q = inr (inr (same_moment m n e (p ∙ sym q)))

    at : IsLess m.at n.at ⊎ (IsLess n.at m.at ⊎ (m.at ≡ n.at)) → IsEarlier m n ⊎ (IsEarlier n m ⊎ (m ≡ n))
    at (inl l) = inl (inl l)
    at (inr (inl l)) = inr (inl (inl l))
    at (inr (inr e)) = phases e m.phase n.phase refl refl

-- "not earlier" goes through
pub not_earlier_trans : (l m n : Moment) → IsCanonicalForm l.at → IsCanonicalForm m.at → IsCanonicalForm n.at → ¬ (IsEarlier m l) → ¬ (IsEarlier n m) → ¬ (IsEarlier n l)
not_earlier_trans l m n fl fm fn h k p = at (earlier_total m n fm fn)
  where
    at : IsEarlier m n ⊎ (IsEarlier n m ⊎ (m ≡ n)) → ⊥
    at (inl q) = h (earlier_trans m n l fm fn fl q p)
    at (inr (inl q)) = k q
    at (inr (inr e)) = h (subst (λ x. IsEarlier x l) (sym e) p)
