-- A new list is ready once its marked items name points that were set.
use Rattle.std.proofs.Common.{◌≡◌, ◌≢◌, sym, ap, ap₂, ◌∙◌, subst, arith, List, [], ◌∷◌, ℕ, zero, suc, ◌<◌, true, length, set, Option, Some, None}
use Rattle.std.specs.Prelude.{is_some}
use Rattle.std.specs.List.{All}
use Rattle.std.proofs.lemmas.List.{append-nil, get_or-set_same, get_or-set_other}
use Rattle.kin_motion.specs.Course.{Course, live_of}
use Rattle.kin_motion.specs.Numbers.{is_in, IsIn}
use Rattle.kin_motion.specs.Scene.{Scene}
use Rattle.kin_motion.proofs.LiveLaws.{live-members}
use Rattle.kin_sorted.specs.Marks.{Marks, marked}
use Rattle.kin_motion.specs.Ranks.{Ranks, IsLive}
use Rattle.kin_sorted.specs.Sorting.{Sorting, IsReady, IsSettled, unmarked}
use Rattle.kin_sorted.proofs.ListLaws.{without_none}

-- a number is live once it is set, and stays so when another one is
pub set_live : (ms : List (Option Course)) (i : ℕ) (c : Course) → i < length ms → IsIn i (live_of (set ms i (Some c)))
set_live ms i c l = live-members (set ms i (Some c)) i ∙ ap is_some (get_or-set_same ms i (Some c) None l)

pub still_live : (ms : List (Option Course)) (i j : ℕ) (c : Course) → j ≢ i → IsIn j (live_of ms) → IsIn j (live_of (set ms i (Some c)))
still_live ms i j c n h = live-members (set ms i (Some c)) j ∙ ap is_some (get_or-set_other ms i j (Some c) None n) ∙ sym (live-members ms j) ∙ h

pub one_live : (live : List ℕ) (i : ℕ) → IsIn i live → All (λ n. IsIn n live) (i ∷ [])
one_live live i h zero d l = h
one_live live i h (suc k) d l = absurd (omega arith)

module _ {R : Type 0} where
  -- a mark changes the marks alone
  pub kept : (k k' : Sorting R) (m : Marks) → k' ≡ record k { marks = m } → (k'.whole ≡ k.whole) × (k'.items ≡ k.items) × (k'.facts ≡ k.facts) × (k'.marks ≡ m)
  kept k k' m e = (ap (λ (l : Sorting R). l.whole) e, ap (λ (l : Sorting R). l.items) e, ap (λ (l : Sorting R). l.facts) e, ap (λ (l : Sorting R). l.marks) e)

  -- a settled list is ready wherever the same numbers are live
  pub ready_again : (r : Ranks) (k : Sorting R) (v w : Scene) → k.whole ≡ true → k.marks ≡ unmarked → v.live ≡ w.live → IsSettled r k v → IsReady r k w
  ready_again r k v w whole rest same settled = record {
    whole = whole;
    live = λ i h. subst (λ (ns : List ℕ). All (λ n. IsIn n ns) (r.names i)) same
        (settled.live i (sym (ap (is_in i) (without_none k.items)) ∙ sym (ap (λ (m : Marks). is_in i (marked m k.items)) rest) ∙ h));
  }

  pub ready_from : (r : Ranks) (k : Sorting R) (s : Scene) (es : List ℕ) → k.whole ≡ true → k.items ≡ [] → k.marks ≡ record { entering = es; leaving = [] }
      → ((i : ℕ) → is_in i es ≡ true → IsLive s r i) → IsReady r k s
  ready_from r k s es whole items marks live = record {
    whole = whole;
    live = λ i h. live i (sym (ap (is_in i) (append-nil es)) ∙ sym (ap₂ (λ (m : Marks) (xs : List ℕ). is_in i (marked m xs)) marks items) ∙ h);
  }
