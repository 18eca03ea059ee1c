-- What is reported where the fact of one place changes, in lists with at most one fact for each place.
use Rattle.std.proofs.Common.{◌≡◌, ◌⊎◌, inl, inr, refl, sym, List, ◌++◌, Option, Some, None}
use Rattle.std.specs.Prelude.{Contains, ◌↔◌}
use Rattle.std.specs.Option.{option_to_list}
use Rattle.std.proofs.lemmas.Option.{same_Some, none-some}
use Rattle.kin_motion.specs.declared.fact.Placed.{Placed}
use Rattle.kin_motion.specs.Deltas.{Change}
use Rattle.kin_motion.specs.Sets.{ListsExactly}
use Rattle.kin_motion.specs.Kinetics.{HasGained, HasChanged}
use Rattle.kin_motion.proofs.Gains.{gained_in_words, gained_both, lost_more}
use Rattle.kin_motion.proofs.SetLaws.{exactly_none, exactly_one}
use Rattle.kin_motion.proofs.ChangeLaws.{IsLost}

exactly_option : (o : Option Placed) → ListsExactly (option_to_list o) (λ p. o ≡ Some p)
exactly_option None = exactly_none _ (λ p e. none-some p e)
exactly_option (Some q) = exactly_one q _ refl (λ p e. sym (same_Some q p e))

-- a list that gains one fact more, or none
gained_more : (before after : List Placed) (was is : Placed → Type 0) (o : Option Placed) → ((p : Placed) → was p → o ≡ Some p → ⊥) → ((p : Placed) → (was p ⊎ (o ≡ Some p)) ↔ is p) → HasGained before after was
    → HasGained before (after ++ option_to_list o) is
gained_more before after was is o apart grown h =
    gained_both before after (after ++ option_to_list o) was (λ p. o ≡ Some p) is apart grown h (record { more = option_to_list o; joined = refl; exactly = exactly_option o })

-- where the facts stay as they are, nothing more is reported
pub changed_alike : (first now next : List Placed) (start middle : Change) → ((p : Placed) → Contains now p ↔ Contains next p) → HasChanged first now start middle → HasChanged first next start middle
changed_alike first now next start middle same h = record {
  dropped = gained_in_words start.dropped middle.dropped (IsLost first now) (IsLost first next) (λ p. ((λ w. (w.0, λ c. w.1 ((same p).1 c))), (λ w. (w.0, λ c. w.1 ((same p).0 c))))) h.dropped;
  born = gained_in_words start.born middle.born (IsLost now first) (IsLost next first) (λ p. ((λ w. ((same p).0 w.0, w.1)), (λ w. ((same p).1 w.0, w.1)))) h.born;
}

-- the facts now and next differ at one place alone, which had one fact at first and now, and has another one next
pub record DifferThere (first now next : List Placed) (IsThere : Placed → Type 0) (old new : Option Placed) : Type 0 where
  pub decided : (p : Placed) → IsThere p ⊎ ¬ (IsThere p)
  pub elsewhere : (p : Placed) → ¬ (IsThere p) → Contains now p ↔ Contains next p
  pub there : (p : Placed) → (old ≡ Some p) ⊎ (new ≡ Some p) → IsThere p
  pub at_first : (p : Placed) → IsThere p → Contains first p ↔ (old ≡ Some p)
  pub at_now : (p : Placed) → IsThere p → Contains now p ↔ (old ≡ Some p)
  pub at_next : (p : Placed) → IsThere p → Contains next p ↔ (new ≡ Some p)
  pub another : (p : Placed) → old ≡ Some p → new ≡ Some p → ⊥

module _ (first now next : List Placed) (IsThere : Placed → Type 0) (old new : Option Placed) (d : DifferThere first now next IsThere old new) where
  dropped_more : (p : Placed) → (IsLost first now p ⊎ (old ≡ Some p)) ↔ IsLost first next p
  dropped_more p =
      lost_more (d.decided p) (λ t w. w.1 ((d.at_now p t).1 ((d.at_first p t).0 w.0)))
      (λ n. ((λ w. (w.0, λ c. w.1 ((d.elsewhere p n).1 c))), (λ w. (w.0, λ c. w.1 ((d.elsewhere p n).0 c)))))
      (λ t w. (d.at_first p t).0 w.0)
      (λ e. let t = d.there p (inl e) in ((d.at_first p t).1 e, λ c. d.another p e ((d.at_next p t).0 c)))

  born_more : (p : Placed) → (IsLost now first p ⊎ (new ≡ Some p)) ↔ IsLost next first p
  born_more p =
      lost_more (d.decided p) (λ t w. w.1 ((d.at_first p t).1 ((d.at_now p t).0 w.0)))
      (λ n. ((λ w. ((d.elsewhere p n).0 w.0, w.1)), (λ w. ((d.elsewhere p n).1 w.0, w.1))))
      (λ t w. (d.at_next p t).0 w.0)
      (λ e. let t = d.there p (inr e) in ((d.at_next p t).1 e, λ c. d.another p ((d.at_first p t).0 c) e))

  -- its old fact is dropped and its new one born
  pub changed_there : (start middle : Change) → HasChanged first now start middle → HasChanged first next start (record { dropped = middle.dropped ++ option_to_list old; born = middle.born ++ option_to_list new })
  changed_there start middle h = record {
    dropped = gained_more start.dropped middle.dropped (IsLost first now) (IsLost first next) old (λ p w e. w.1 ((d.at_now p (d.there p (inl e))).1 e)) dropped_more h.dropped;
    born = gained_more start.born middle.born (IsLost now first) (IsLost next first) new (λ p w e. let t = d.there p (inr e) in w.1 ((d.at_first p t).1 ((d.at_now p t).0 w.0))) born_more h.born;
  }
