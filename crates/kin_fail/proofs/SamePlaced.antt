-- Two facts are the same or not, and a list has a fact or not.
use Rattle.std.proofs.Common.{◌≡◌, ◌≢◌, ◌⊎◌, inl, inr, refl, sym, ap, ◌∙◌, subst, List, [], ◌∷◌, ℤ, Bool, true, false}
use Rattle.std.specs.Prelude.{Contains}
use Rattle.kin_algebra.proofs.Signs.{equal_or_not}
use Rattle.kin_motion.specs.declared.fact.Placed.{Placed}
use Rattle.kin_motion.proofs.SetLaws.{contains_none, contains_head, contains_tail, contains_cases}
use Rattle.kin_fail.specs.Rank.{padded_rank, is_rank}
use Rattle.kin_fail.proofs.Ranks.{rank_same, rank_itself, rank_names}

-- the rank of a fact's form and part
abbrev rank_in : Placed → List ℤ
rank_in p = padded_rank 0 p.part p.fact.form

-- part, form and sign make the fact
pub same_placed : (p q : Placed) → p.part ≡ q.part → p.fact.form ≡ q.fact.form → p.fact.sign ≡ q.fact.sign → p ≡ q
same_placed p q e f g = λ t. record { part = e t; fact = record { form = f t; sign = g t } }

same_fact : (p q : Placed) → (p ≡ q) ⊎ (p ≢ q)
same_fact p q = at (is_rank (rank_in p) (rank_in q)) refl (equal_or_not p.fact.sign q.fact.sign)
  where
    at : (b : Bool) → is_rank (rank_in p) (rank_in q) ≡ b → (p.fact.sign ≡ q.fact.sign) ⊎ (p.fact.sign ≢ q.fact.sign) → (p ≡ q) ⊎ (p ≢ q)
    at true e (inl s) =
        let n = rank_names 0 p.part p.fact.form 0 q.part q.fact.form (rank_same _ _ e) in
        inl (same_placed p q n.part n.form s)
    at true e (inr d) = inr (λ h. d (ap (λ (x : Placed). x.fact.sign) h))
    at false e s = inr (λ h. let k : false ≡ true = sym e ∙ ap (λ (x : Placed). is_rank (rank_in p) (rank_in x)) (sym h) ∙ rank_itself (rank_in p) in cc)

pub there_or_not : (fs : List Placed) (p : Placed) → Contains fs p ⊎ (¬ (Contains fs p))
there_or_not [] p = inr (contains_none p)
there_or_not (f ∷ fs) p = at (same_fact f p) (there_or_not fs p)
  where
    at : (f ≡ p) ⊎ (f ≢ p) → Contains fs p ⊎ (¬ (Contains fs p)) → Contains (f ∷ fs) p ⊎ (¬ (Contains (f ∷ fs) p))
    at (inl e) r = inl (subst (λ (x : Placed). Contains (f ∷ fs) x) e (contains_head f fs))
    at (inr n) (inl h) = inl (contains_tail f p fs h)
    at (inr n) (inr m) = inr (λ h. none (contains_cases f p fs h))
      where
        none : (f ≡ p) ⊎ Contains fs p → ⊥
        none (inl e) = n e
        none (inr h) = m h
