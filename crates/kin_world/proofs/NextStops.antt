-- Where the next leg begins, or the limit.
use Rattle.std.specs.Prelude.{option_to_list}
use Rattle.kin_world.proofs.Vocabulary.{◌≡◌, inl, inr, refl, sym, ap, ◌∙◌, subst, List, [], ◌∷◌, ◌++◌, Option, Some, Contains, IsCanonical, IsEarlier, Moment, never, through, Leg, begins_at, piece_of, IsNextStop}
use Rattle.kin_algebra.proofs.Members.{contains_head, contains_none}
use Rattle.kin_legs.specs.Paths.{IsFair}
use Rattle.kin_legs.specs.Planning.{IsRising}
use Rattle.kin_legs.proofs.BeginLaws.{own_canonical}
use Rattle.kin_legs.proofs.FollowedLaws.{first_is_earliest}

-- the first leg
pub as_first : (legs : List Leg) (r : Option Leg) (l : Leg) (rest : List Leg) → legs ≡ option_to_list r ++ rest → r ≡ Some l → legs ≡ l ∷ rest
as_first legs r l rest is some = is ∙ ap (λ (o : Option Leg). option_to_list o ++ rest) some

pub first_in : (legs : List Leg) (r : Option Leg) (l : Leg) (rest : List Leg) → legs ≡ option_to_list r ++ rest → r ≡ Some l → Contains legs l
first_in legs r l rest is some = subst (λ (ls : List Leg). Contains ls l) (sym (as_first legs r l rest is some)) (contains_head l rest)

pub without_legs : (limit : Moment) (legs : List Leg) → legs ≡ [] → IsCanonical limit.at → IsNextStop limit legs limit
without_legs limit legs none canonical = record {
  canonical = canonical;
  within = never limit canonical;
  none_before = λ l there. absurd (contains_none l (subst (λ (ls : List Leg). Contains ls l) none there));
  is = inl refl;
}

module _ (limit : Moment) (legs : List Leg) (l : Leg) (rest : List Leg) (first : legs ≡ l ∷ rest) (canonical : IsCanonical limit.at) (fair : (k : Leg) → Contains legs k → IsFair (piece_of k)) (rising : IsRising legs) where
  in_legs : Contains legs l
  in_legs = subst (λ (ls : List Leg). Contains ls l) (sym first) (contains_head l rest)

  pub at_limit : IsEarlier limit (begins_at l) → IsNextStop limit legs limit
  at_limit later = record {
    canonical = canonical;
    within = never limit canonical;
    none_before = λ k there early. first_is_earliest legs rising fair l rest first k there
        (through (begins_at k) limit (begins_at l) (own_canonical (piece_of k) (fair k there)) canonical (own_canonical (piece_of l) (fair l in_legs)) early later);
    is = inl refl;
  }

  pub at_leg : ¬ (IsEarlier limit (begins_at l)) → IsNextStop limit legs (begins_at l)
  at_leg within = record { canonical = own_canonical (piece_of l) (fair l in_legs); within = within; none_before = first_is_earliest legs rising fair l rest first; is = inr (l, in_legs, refl) }
