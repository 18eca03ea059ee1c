-- Slots that point at slots, as their callers see them.
use Rattle.std.proofs.Common.{◌≡◌, refl, sym, ap, ◌∙◌, subst, arith, List, ◌∷◌, ℕ, zero, suc, ◌<◌, ◌≤◌, ◌^◌, replicate, get_or, length, Some, None, Option, option_map}
use Rattle.std.specs.Prelude.{slice_get, MatchOption}
use Rattle.std.proofs.lemmas.List.{length-replicate, length-set}
use Rattle.std.proofs.lemmas.Option.{slice_get-map, slice_get-get_or, same_Some}
use Rattle.kin_wedge.specs.declared.thread.Thread.{Thread}
use Rattle.kin_motion.specs.Sets.{ListsExactly}
use Rattle.kin_wedge.specs.Threads.{Web, PointsAt, IsReached, IsThreaded, AreThreads, linked, named, next_in, unlinked, vacant_thread, walk, web, word_of}
use Rattle.kin_wedge.proofs.Linking.{room}
use Rattle.kin_wedge.proofs.Reaching.{walk_lists, walk_on, walk_reached}
use Rattle.kin_wedge.proofs.Threading.{linked_threaded, unlinked_threaded}

-- slots that point at none
pub vacant_targets : (n : ℕ) (ts : List Thread) → (web (replicate n 65535) ts).targets ≡ replicate n None
vacant_targets zero ts = refl
vacant_targets (suc n) ts = ap (λ (xs : List (Option ℕ)). None ∷ xs) (vacant_targets n ts)

no_word : (f : Thread → ℕ) → named (f vacant_thread) ≡ None → (n x : ℕ) → word_of f (slice_get (replicate n vacant_thread) x) ≡ None
no_word f e zero x = refl
no_word f e (suc n) zero = e
no_word f e (suc n) (suc x) = no_word f e n x

pub none_points : (n s q : ℕ) {A : Type 0} → slice_get (replicate {A = Option ℕ} n None) s ≡ Some (Some q) → A
none_points zero s q e = absurd cc
none_points (suc n) zero q e = absurd (let f : None ≡ Some q = same_Some _ _ e in cc)
none_points (suc n) (suc s) q e = none_points n s q e

pub vacant_threads : (n : ℕ) → n ≤ 2 ^ 15 → AreThreads (replicate n 65535) (replicate n vacant_thread)
vacant_threads n small = record {
  small = subst (λ (m : ℕ). m ≤ 2 ^ 15) (sym (length-replicate n 65535)) small;
  even = length-replicate n vacant_thread ∙ sym (length-replicate n 65535);
  threaded = record {
    began = λ s. 0;
    now = 1;
    past = λ s. omega arith;
    within = λ s q p. none s q p;
    first = λ s q e. absurd (let c : None ≡ Some s = sym (no_word (λ t. t.first) refl n q) ∙ e in cc);
    next = λ s m q p e. none s q p;
    previous = λ s m q p e. none s q p;
    front = λ s q p e. none s q p;
  };
}
  where
    none : (s q : ℕ) {A : Type 0} → PointsAt (web (replicate n 65535) (replicate n vacant_thread)) s q → A
    none s q p = none_points n s q (ap (λ (xs : List (Option ℕ)). slice_get xs s) (sym (vacant_targets n (replicate n vacant_thread))) ∙ p)

module _ (ws : List ℕ) (ts : List Thread) where
  -- what a slot points at is its word
  pub target_there : (s word : ℕ) → s < length ws → word ≡ get_or ws s word → slice_get (web ws ts).targets s ≡ Some (named word)
  target_there s word low read = slice_get-map named ws s ∙ ap (option_map named) (slice_get-get_or ws s word low ∙ ap (λ (x : ℕ). Some x) (sym read))

  -- a slot that callers see is there
  pub slot_room : (s : ℕ) (targets : List (Option ℕ)) → (web ws ts).targets ≡ targets → s < length targets → s < length ws
  slot_room s targets e l = let m = room ws ts in let n = ap (λ (xs : List (Option ℕ)). length xs) e in omega (arith, l, m, n)

  -- a slot that points at another points at one of the slots
  pub target_within : IsThreaded (web ws ts) → (slot word : ℕ) (answer : Option ℕ) → slot < length (web ws ts).targets → word ≡ get_or ws slot word → answer ≡ named word
      → MatchOption answer (Unit {0}) (λ target. target < length (web ws ts).targets)
  target_within threaded slot word answer low read told = at answer seen
    where
      seen : slice_get (web ws ts).targets slot ≡ Some answer
      seen = target_there slot word (let e = room ws ts in omega (arith, e, low)) read ∙ ap (λ (a : Option ℕ). Some a) (sym told)

      at : (a : Option ℕ) → slice_get (web ws ts).targets slot ≡ Some a → MatchOption a (Unit {0}) (λ target. target < length (web ws ts).targets)
      at None e = tt
      at (Some target) e = threaded.within slot target e

  -- the words after a slot ends to point, or begins to
  module _ (vs : List ℕ) (us : List Thread) (even : length us ≡ length vs) (s q : ℕ) (t : AreThreads ws ts) where
    still_small : length (web vs us).targets ≡ length (web ws ts).targets → length vs ≤ 2 ^ 15
    still_small e = subst (λ (n : ℕ). n ≤ 2 ^ 15) (sym (sym (room vs us) ∙ e ∙ room ws ts)) t.small

    pub threads_unlinked : PointsAt (web ws ts) s q → web vs us ≡ unlinked (web ws ts) s q → AreThreads vs us
    threads_unlinked p e = record {
      small = still_small (ap (λ (w : Web). length w.targets) e ∙ length-set (web ws ts).targets s None);
      even = even;
      threaded = subst IsThreaded (sym e) (unlinked_threaded (web ws ts) t.threaded s q p);
    }

    pub threads_linked : slice_get (web ws ts).targets s ≡ Some None → q < length (web ws ts).targets → web vs us ≡ linked (web ws ts) s q → AreThreads vs us
    threads_linked vacant high e = record {
      small = still_small (ap (λ (w : Web). length w.targets) e ∙ length-set (web ws ts).targets s (Some q));
      even = even;
      threaded = subst IsThreaded (sym e) (linked_threaded (web ws ts) t.threaded s q vacant high);
    }

-- one step of a walk over threads
module _ (ts : List Thread) (at slot : ℕ) (here : named at ≡ Some slot) (reached : IsReached (length ts) (next_in ts) (named at) (walk (length ts) (next_in ts) (named at))) (d : Thread) where
  on : (slot < length ts) × (walk (length ts) (next_in ts) (Some slot) ≡ slot ∷ walk (length ts) (next_in ts) (next_in ts slot)) × IsReached (length ts) (next_in ts) (next_in ts slot) (walk (length ts) (next_in ts) (next_in ts slot))
  on = walk_on (length ts) (next_in ts) (length ts) slot (subst (λ (o : Option ℕ). IsReached (length ts) (next_in ts) o (walk (length ts) (next_in ts) o)) here reached)

  next_is : next_in ts slot ≡ named (get_or ts slot d).next
  next_is = ap (word_of (λ t. t.next)) (slice_get-get_or ts slot d on.0)

  pub step_reaches : IsReached (length ts) (next_in ts) (named (get_or ts slot d).next) (walk (length ts) (next_in ts) (named (get_or ts slot d).next))
  step_reaches = subst (λ (o : Option ℕ). IsReached (length ts) (next_in ts) o (walk (length ts) (next_in ts) o)) next_is on.2

  pub step_gives : walk (length ts) (next_in ts) (named at) ≡ slot ∷ walk (length ts) (next_in ts) (named (get_or ts slot d).next)
  step_gives = ap (walk (length ts) (next_in ts)) here ∙ on.1 ∙ ap (λ (o : Option ℕ). slot ∷ walk (length ts) (next_in ts) o) next_is

-- the slots that point at a slot, from the word of the first one
module _ (ws : List ℕ) (ts : List Thread) (t : AreThreads ws ts) (q word : ℕ) (first : named word ≡ (web ws ts).first q) where
  all : length (web ws ts).targets ≡ length ts
  all = room ws ts ∙ sym t.even

  pub walk_there : IsReached (length ts) (next_in ts) (named word) (walk (length ts) (next_in ts) (named word))
  walk_there = subst (λ (o : Option ℕ). IsReached (length ts) (next_in ts) o (walk (length ts) (next_in ts) o)) (sym first)
      (subst (λ (n : ℕ). IsReached n (next_in ts) ((web ws ts).first q) (walk (length ts) (next_in ts) ((web ws ts).first q))) all
      (walk_reached (web ws ts) t.threaded q (length ts) (let m = all in omega (arith, m))))

  pub walk_exact : ListsExactly (walk (length ts) (next_in ts) (named word)) (λ s. PointsAt (web ws ts) s q)
  walk_exact = subst (λ (o : Option ℕ). ListsExactly (walk (length ts) (next_in ts) o) (λ s. PointsAt (web ws ts) s q)) (sym first)
      (walk_lists (web ws ts) t.threaded q (length ts) (let m = all in omega (arith, m)))
