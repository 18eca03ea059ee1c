-- The writes of a link and of an unlink make what they are to make.
use Rattle.std.proofs.Common.{◌≡◌, sym, ap, ap₂, ◌∙◌, subst, arith, List, ℕ, ◌<◌, ◌≤◌, ◌^◌, Bool, cond, set, get_or, length, Some, None, Option}
use Rattle.std.specs.Prelude.{slice_get}
use Rattle.std.proofs.lemmas.Bool.{lt-ltb}
use Rattle.std.proofs.lemmas.List.{length-map}
use Rattle.std.proofs.lemmas.Option.{slice_get-get_or, slice_get_within}
use Rattle.kin_wedge.specs.declared.thread.Thread.{Thread}
use Rattle.kin_wedge.specs.Threads.{Web, PointsAt, IsThreaded, changed, led_from, linked, named, unlinked, web, word_of}

-- there are as many targets as words
pub room : (ws : List ℕ) (ts : List Thread) → length (web ws ts).targets ≡ length ws
room ws ts = length-map ws named

pub named_small : (x : ℕ) → x < 65535 → named x ≡ Some x
named_small x l = ap (λ (b : Bool). cond b (Some x) None) (lt-ltb x 65535 l)

-- a slot that points at one has its thread, and so have its neighbours
module _ (ws : List ℕ) (ts : List Thread) (even : length ts ≡ length ws) where
  pub slot_below : (s q : ℕ) → PointsAt (web ws ts) s q → s < length ts
  slot_below s q p = subst (λ (n : ℕ). s < n) (room ws ts ∙ sym even) (slice_get_within (web ws ts).targets s _ p)

  module _ (s : ℕ) (thread : Thread) (low : s < length ts) (read : thread ≡ get_or ts s thread) where
    here : slice_get ts s ≡ Some thread
    here = slice_get-get_or ts s thread low ∙ ap (λ (t : Thread). Some t) (sym read)

    pub word_is : (f : Thread → ℕ) → word_of f (slice_get ts s) ≡ named (f thread)
    word_is f = ap (word_of f) here

    pub first_below : IsThreaded (web ws ts) → (n : ℕ) → named thread.first ≡ Some n → n < length ts
    first_below t n e = slot_below n s (t.first n s (word_is (λ x. x.first) ∙ e)).0

    module _ (t : IsThreaded (web ws ts)) (q : ℕ) (points : PointsAt (web ws ts) s q) where
      pub target_below : q < length ts
      target_below = subst (λ (n : ℕ). q < n) (room ws ts ∙ sym even) (t.within s q points)

      pub next_below : (n : ℕ) → named thread.next ≡ Some n → n < length ts
      next_below n e = slot_below n q (t.next s n q points (word_is (λ x. x.next) ∙ e)).0

      pub previous_below : (p : ℕ) → named thread.previous ≡ Some p → p < length ts
      previous_below p e = slot_below p q (t.previous s p q points (word_is (λ x. x.previous) ∙ e)).0

    pub unlinked_so : (q : ℕ) (a b c : Web)
        → a ≡ record (web ws ts) { next = changed (web ws ts).next (named thread.previous) (named thread.next); first = changed (web ws ts).first (led_from (named thread.previous) q) (named thread.next) }
        → b ≡ record a { previous = changed a.previous (named thread.next) (named thread.previous) } → c ≡ record b { targets = set b.targets s None } → c ≡ unlinked (web ws ts) s q
    unlinked_so q a b c e f g =
        g ∙ ap (λ (w : Web). record w { targets = set w.targets s None }) (f ∙ ap (λ (w : Web). record w { previous = changed w.previous (named thread.next) (named thread.previous) }) e)
        ∙ ap₂ (λ (p n : Option ℕ). record {
          targets = set (web ws ts).targets s None;
          next = changed (web ws ts).next p n;
          previous = changed (web ws ts).previous n p;
          first = changed (web ws ts).first (led_from p q) n;
        }) (sym (word_is (λ x. x.previous))) (sym (word_is (λ x. x.next)))

  -- the first of those that point at q was read
  pub linked_so : (s q : ℕ) (thread : Thread) → length ws ≤ 2 ^ 15 → s < length ws → q < length ws → thread ≡ get_or ts q thread → (a b c d e : Web)
      → a ≡ record (web ws ts) { targets = set (web ws ts).targets s (named q) } → b ≡ record a { next = changed a.next (Some s) (named thread.first) } → c ≡ record b { previous = changed b.previous (Some s) None }
      → d ≡ record c { previous = changed c.previous (named thread.first) (named s) } → e ≡ record d { first = changed d.first (Some q) (named s) } → e ≡ linked (web ws ts) s q
  linked_so s q thread small low high read a b c d e f g h i j =
      let self : named s ≡ Some s = named_small s (omega (arith, low, small)) in
      let to : named q ≡ Some q = named_small q (omega (arith, high, small)) in
      let first : named thread.first ≡ (web ws ts).first q = sym (word_is q thread (subst (λ (n : ℕ). q < n) (sym even) high) read (λ x. x.first)) in
      j ∙ ap (λ (w : Web). record w { first = changed w.first (Some q) (named s) })
      (i ∙ ap (λ (w : Web). record w { previous = changed w.previous (named thread.first) (named s) })
      (h ∙ ap (λ (w : Web). record w { previous = changed w.previous (Some s) None }) (g ∙ ap (λ (w : Web). record w { next = changed w.next (Some s) (named thread.first) }) f)))
      ∙ (λ t. record {
        targets = set (web ws ts).targets s (to t);
        next = changed (web ws ts).next (Some s) (first t);
        previous = changed (changed (web ws ts).previous (Some s) None) (first t) (self t);
        first = changed (web ws ts).first (Some q) (self t);
      })
