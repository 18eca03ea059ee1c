-- An offer to the slots of an octant whose candidate a number is.
use Rattle.std.proofs.Common.{◌≡◌, ◌≢◌, sym, ap, ◌∙◌, subst, arith, List, [], ◌∷◌, ℕ, ◌+◌, ◌*◌, ◌/◌, ◌%◌, ◌<◌, ◌≤◌, length, Some, None, Option, inl, inr, ◌⊎◌}
use Rattle.std.specs.Prelude.{slice_get, Contains}
use Rattle.std.proofs.lemmas.Bool.{cases_eq}
use Rattle.std.proofs.lemmas.Option.{slice_get_within}
use Rattle.std.proofs.Math.Nat.{div-add-mod}
use Rattle.std.proofs.lemmas.Nat.{mod_below}
use Rattle.kin_algebra.proofs.Members.{contains_head, contains_tail, contains_cases, contains_none}
use Rattle.kin_motion.specs.Sets.{ListsExactly}
use Rattle.kin_wedge.specs.declared.touch.Touch.{Touch}
use Rattle.kin_wedge.specs.Touched.{IsOffered, HasTouched}
use Rattle.kin_wedge.proofs.Touching.{touched_none, touched_through}

-- the apex has the candidate c in octant w
abbrev pub IsHitBy : List (Option ℕ) → ℕ → ℕ → ℕ → Type 0
IsHitBy candidates w c apex = slice_get candidates (8 * apex + w) ≡ Some (Some c)

-- x is offered to the slot in octant w of each wanted apex that has the candidate c there, but for those that are left
pub record AreOfferedBut (candidates : List (Option ℕ)) (w c : ℕ) (Wanted : ℕ → Type 0) (x : Option ℕ) (first now : List Touch) (left : List ℕ) : Type 0 where
  pub done : (apex : ℕ) → Wanted apex → IsHitBy candidates w c apex → Contains left apex ⊎ IsOffered now (8 * apex + w) x
  pub hits : (apex : ℕ) → Contains left apex → IsHitBy candidates w c apex
  pub touched : HasTouched candidates first now

module _ (candidates : List (Option ℕ)) (w c : ℕ) (Wanted : ℕ → Type 0) (x : Option ℕ) (first : List Touch) where
  pub offered_first : (hits left : List ℕ) → left ≡ hits → ListsExactly hits (IsHitBy candidates w c) → AreOfferedBut candidates w c Wanted x first first left
  offered_first hits left e h = subst (AreOfferedBut candidates w c Wanted x first first) (sym e) (record {
    done = λ apex k hit. inl ((h.each apex).1 hit);
    hits = λ apex. (h.each apex).0;
    touched = touched_none candidates first;
  })

  module _ (now : List Touch) (left rest : List ℕ) (apex : ℕ) (e : left ≡ apex ∷ rest) (a : AreOfferedBut candidates w c Wanted x first now left) where
    pub hit_within : 8 * apex + w < length candidates
    hit_within = slice_get_within candidates (8 * apex + w) _ (a.hits apex (subst (λ (xs : List ℕ). Contains xs apex) (sym e) (contains_head apex rest)))

    pub offered_more : (next : List Touch) → (Wanted apex → IsOffered next (8 * apex + w) x) → HasTouched candidates now next → AreOfferedBut candidates w c Wanted x first next rest
    offered_more next o t = record {
      done = λ z k hit. at z k (a.done z k hit);
      hits = λ z k. a.hits z (subst (λ (xs : List ℕ). Contains xs z) (sym e) (contains_tail apex z rest k));
      touched = touched_through candidates first now next a.touched t;
    }
      where
        here : (z : ℕ) → Wanted z → (apex ≡ z) ⊎ Contains rest z → Contains rest z ⊎ IsOffered next (8 * z + w) x
        here z k (inl s) = inr (subst (λ (n : ℕ). IsOffered next (8 * n + w) x) s (o (subst Wanted (sym s) k)))
        here z k (inr m) = inl m

        at : (z : ℕ) → Wanted z → Contains left z ⊎ IsOffered now (8 * z + w) x → Contains rest z ⊎ IsOffered next (8 * z + w) x
        at z k (inl m) = here z k (contains_cases apex z rest (subst (λ (xs : List ℕ). Contains xs z) e m))
        at z k (inr m) = inr (t.keeps (8 * z + w) x m)

  pub offered_done : (now : List Touch) (left : List ℕ) → left ≡ [] → AreOfferedBut candidates w c Wanted x first now left → (apex : ℕ) → Wanted apex → IsHitBy candidates w c apex → IsOffered now (8 * apex + w) x
  offered_done now left e a apex k hit = at (a.done apex k hit)
    where
      at : Contains left apex ⊎ IsOffered now (8 * apex + w) x → IsOffered now (8 * apex + w) x
      at (inl h) = absurd (contains_none apex (subst (λ (xs : List ℕ). Contains xs apex) e h))
      at (inr h) = h

-- the slots whose candidate a number is are looked up in the octants below one
pub record AreLost (candidates : List (Option ℕ)) (first now : List Touch) (c w : ℕ) : Type 0 where
  pub offered : (v apex : ℕ) → v < w → IsHitBy candidates v c apex → IsOffered now (8 * apex + v) None
  pub touched : HasTouched candidates first now

module _ (candidates : List (Option ℕ)) (first now : List Touch) (c : ℕ) where
  pub lost_none : AreLost candidates first first c 0
  lost_none = record { offered = λ v apex h. absurd (omega (arith, h)); touched = touched_none candidates first }

  pub lost_more : (next : List Touch) (w : ℕ) → AreLost candidates first now c w → ((apex : ℕ) → IsHitBy candidates w c apex → IsOffered next (8 * apex + w) None) → HasTouched candidates now next → AreLost candidates first next c (w + 1)
  lost_more next w a o t = record {
    offered = λ v apex h hit. at v apex (cases_eq v w) h hit;
    touched = touched_through candidates first now next a.touched t;
  }
    where
      at : (v apex : ℕ) → (v ≡ w) ⊎ (v ≢ w) → v < w + 1 → IsHitBy candidates v c apex → IsOffered next (8 * apex + v) None
      at v apex (inl e) h hit = subst (λ (n : ℕ). IsOffered next (8 * apex + n) None) (sym e) (o apex (subst (λ (n : ℕ). IsHitBy candidates n c apex) e hit))
      at v apex (inr n) h hit = t.keeps (8 * apex + v) None (a.offered v apex (omega (arith, h, n)) hit)

  pub lost_all : (w : ℕ) → 8 ≤ w → AreLost candidates first now c w → (slot : ℕ) → slice_get candidates slot ≡ Some (Some c) → IsOffered now slot None
  lost_all w h a slot e =
      let again = div-add-mod slot 8 in
      let low = mod_below slot 8 (omega arith) in
      subst (λ (n : ℕ). IsOffered now n None) again (a.offered (slot % 8) (slot / 8) (omega (arith, low, h)) (ap (slice_get candidates) again ∙ e))
