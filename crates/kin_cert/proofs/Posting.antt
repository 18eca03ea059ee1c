-- Facts are given out, and each is told to its structure.
use Rattle.std.proofs.Common.{◌≡◌, refl, sym, ap, ◌∙◌, arith, ℕ, ◌+◌, ◌<◌, ◌≤◌, Bool, true, false, cond, List, [], ◌∷◌, ◌++◌, length, length-append, filter, map, Contains}
use Rattle.std.proofs.lemmas.List.{append-nil, map-append}
use Rattle.std.proofs.lemmas.List.Elements.{filter-append}
use Rattle.kin_num.specs.declared.instant.Moment.{Moment}
use Rattle.kin_motion.specs.declared.fact.Placed.{Placed}
use Rattle.kin_fail.specs.declared.owned.Owned.{Owned}
use Rattle.kin_fail.specs.Blocks.{certificate_of}
use Rattle.kin_cert.specs.Facts.{LiveFact, NoneAlike}
use Rattle.kin_cert.specs.Layout.{HasGiven, IsDue, IsDueAt}
use Rattle.kin_cert.specs.Mails.{HasPosted, IsPostedUpTo, gathered, is_of, placed_of, told_to}
use Rattle.kin_cert.specs.Taken.{IsLeastFailure, NoneWaits}
use Rattle.kin_cert.proofs.Giving.{given-more, given-none}
use Rattle.kin_cert.proofs.Taking.{has-given_out}

-- one fact more is told to its structure
gathered_more : (k : ℕ) (given : List Owned) (o : Owned) → gathered k (given ++ o ∷ []) ≡ cond (is_of k o) (gathered k given ++ placed_of o ∷ []) (gathered k given)
gathered_more k given o =
    ap (map placed_of) (filter-append (is_of k) given (o ∷ [])) ∙ map-append placed_of (filter (is_of k) given) (filter (is_of k) (o ∷ [])) ∙ at (is_of k o) refl
  where
    at : (b : Bool) → is_of k o ≡ b → gathered k given ++ map placed_of (filter (is_of k) (o ∷ [])) ≡ cond (is_of k o) (gathered k given ++ placed_of o ∷ []) (gathered k given)
    at true t = rw t refl
    at false t = rw t (append-nil (gathered k given))

pub posted_none : (m : Moment) (old : List LiveFact) (boxes : List (List Placed)) → ((k : ℕ) → told_to boxes k ≡ []) → NoneWaits old → IsDue old m → IsPostedUpTo m old old boxes 0
posted_none m old boxes empty none due = record { given = []; up_to = given-none m old [] refl none due; all = refl; told = λ k low. empty k }

pub posted_more : (m : Moment) (old cur new : List LiveFact) (boxes boxes' : List (List Placed)) (n : ℕ) (o : Owned) (l : LiveFact) → IsPostedUpTo m old cur boxes n → NoneAlike cur → HasGiven cur new l m → l.certificate ≡ certificate_of o
    → length boxes' ≡ length boxes → ((k : ℕ) → k < length boxes → told_to boxes' k ≡ cond (is_of k o) (told_to boxes k ++ placed_of o ∷ []) (told_to boxes k)) → IsPostedUpTo m old new boxes' (n + 1)
posted_more m old cur new boxes boxes' n o l h once given is same told = record {
  given = h.given ++ o ∷ [];
  up_to = given-more m old cur new h.given o l h.up_to once given is;
  all = let more = length-append h.given (o ∷ []) in omega (arith, h.all, more);
  told = λ k low.
      let within : k < length boxes = rw (← same) low in
      told k within ∙ ap (λ (v : List Placed). cond (is_of k o) (v ++ placed_of o ∷ []) v) (h.told k within) ∙ sym (gathered_more k h.given o);
}

pub has_posted : (m : Moment) (count : ℕ) (old new : List LiveFact) (boxes : List (List Placed)) (n : ℕ) → IsLeastFailure old m → IsPostedUpTo m old new boxes n → ((l : LiveFact) → Contains new l → ¬ (IsDueAt l m)) → length new ≡ length old → count ≤ length boxes
    → HasPosted count old new boxes n
has_posted m count old new boxes n failing h all same reached = record {
  given = h.given;
  out = has-given_out m old new h.given failing h.up_to all same;
  all = h.all;
  told = λ k low. h.told k (omega (arith, low, reached));
  reached = reached;
}
