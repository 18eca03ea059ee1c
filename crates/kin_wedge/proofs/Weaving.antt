-- What a write of one word makes of a web.
use Rattle.std.proofs.Common.{◌≡◌, ◌≢◌, ◌⊎◌, inl, inr, refl, sym, ap, ◌∙◌, List, ℕ, ◌<◌, set, get_or, length, Option, Some}
use Rattle.std.specs.Prelude.{slice_get}
use Rattle.std.proofs.lemmas.Bool.{cases_eq}
use Rattle.std.proofs.lemmas.List.{map-set}
use Rattle.std.proofs.lemmas.Option.{slice_get-get_or, same_Some}
use Rattle.kin_algebra.proofs.Places.{get-set_same, get-set_other}
use Rattle.kin_wedge.specs.declared.thread.Thread.{Thread}
use Rattle.kin_wedge.specs.Threads.{changed, named, web, word_of}
use Rattle.kin_wedge.proofs.Threading.{changed_there, changed_elsewhere}

module _ (ts : List Thread) (s : ℕ) (low : s < length ts) (old new : Thread) (read : old ≡ get_or ts s old) where
  here : slice_get ts s ≡ Some old
  here = slice_get-get_or ts s old low ∙ ap (λ (t : Thread). Some t) (sym read)

  -- a word that stays
  kept : (f : Thread → ℕ) → f new ≡ f old → (x : ℕ) → word_of f (slice_get (set ts s new) x) ≡ word_of f (slice_get ts x)
  kept f e x = at (cases_eq x s)
    where
      at : (x ≡ s) ⊎ (x ≢ s) → word_of f (slice_get (set ts s new) x) ≡ word_of f (slice_get ts x)
      at (inl k) =
          ap (λ (y : ℕ). word_of f (slice_get (set ts s new) y)) k ∙ ap (word_of f) (get-set_same ts s new low) ∙ ap named e ∙ ap (word_of f) (sym here) ∙ ap (λ (y : ℕ). word_of f (slice_get ts y)) (sym k)
      at (inr n) = ap (word_of f) (get-set_other ts s x new n)

  -- a word that is written
  written : (f : Thread → ℕ) (x : ℕ) → word_of f (slice_get (set ts s new) x) ≡ changed (λ y. word_of f (slice_get ts y)) (Some s) (named (f new)) x
  written f x = at (cases_eq x s)
    where
      at : (x ≡ s) ⊎ (x ≢ s) → word_of f (slice_get (set ts s new) x) ≡ changed (λ y. word_of f (slice_get ts y)) (Some s) (named (f new)) x
      at (inl k) =
          ap (λ (y : ℕ). word_of f (slice_get (set ts s new) y)) k ∙ ap (word_of f) (get-set_same ts s new low)
          ∙ sym (changed_there (λ y. word_of f (slice_get ts y)) (named (f new)) x (Some s) (ap (λ (y : ℕ). Some y) (sym k)))
      at (inr n) = ap (word_of f) (get-set_other ts s x new n) ∙ sym (changed_elsewhere (λ y. word_of f (slice_get ts y)) (named (f new)) x (Some s) (λ z. n (sym (same_Some s x z))))

-- a word of what a slot points at
pub target_written : (ws : List ℕ) (s word : ℕ) (ts : List Thread) → web (set ws s word) ts ≡ record (web ws ts) { targets = set (web ws ts).targets s (named word) }
target_written ws s word ts = ap (λ (l : List (Option ℕ)). record (web ws ts) { targets = l }) (map-set named ws s word)

module _ (ts : List Thread) (s word : ℕ) (low : s < length ts) (old : Thread) (read : old ≡ get_or ts s old) (ws : List ℕ) where
  pub next_written : web ws (set ts s (record old { next = word })) ≡ record (web ws ts) { next = changed (web ws ts).next (Some s) (named word) }
  next_written = λ i. record {
    targets = (web ws ts).targets;
    next = λ x. written ts s low old (record old { next = word }) read (λ t. t.next) x i;
    previous = λ x. kept ts s low old (record old { next = word }) read (λ t. t.previous) refl x i;
    first = λ x. kept ts s low old (record old { next = word }) read (λ t. t.first) refl x i;
  }

  pub previous_written : web ws (set ts s (record old { previous = word })) ≡ record (web ws ts) { previous = changed (web ws ts).previous (Some s) (named word) }
  previous_written = λ i. record {
    targets = (web ws ts).targets;
    next = λ x. kept ts s low old (record old { previous = word }) read (λ t. t.next) refl x i;
    previous = λ x. written ts s low old (record old { previous = word }) read (λ t. t.previous) x i;
    first = λ x. kept ts s low old (record old { previous = word }) read (λ t. t.first) refl x i;
  }

  pub first_written : web ws (set ts s (record old { first = word })) ≡ record (web ws ts) { first = changed (web ws ts).first (Some s) (named word) }
  first_written = λ i. record {
    targets = (web ws ts).targets;
    next = λ x. kept ts s low old (record old { first = word }) read (λ t. t.next) refl x i;
    previous = λ x. kept ts s low old (record old { first = word }) read (λ t. t.previous) refl x i;
    first = λ x. written ts s low old (record old { first = word }) read (λ t. t.first) x i;
  }
