-- The lists are changed one after another.
use Rattle.std.proofs.Common.{◌≡◌, ◌≢◌, refl, sym, ap, ◌∙◌, subst, arith, List, ℕ, ◌+◌, ◌<◌, ◌≤◌, length, set, Some, inl, inr, ◌⊎◌}
use Rattle.std.specs.Prelude.{slice_get}
use Rattle.std.proofs.lemmas.Bool.{cases_eq}
use Rattle.std.proofs.lemmas.List.{length-set}
use Rattle.std.proofs.lemmas.Option.{same_Some, slice_get_within}
use Rattle.kin_algebra.proofs.Places.{get-set_same, get-set_other}
use Rattle.kin_list.specs.Listing.{Listing}
use Rattle.kin_wedge.specs.Parts.{EachTo}

-- the first i lists are changed, and the others are as they were
pub record AreMade (R : Listing → Listing → Type 0) (first now : List Listing) (i : ℕ) : Type 0 where
  pub count : length now ≡ length first
  pub done : (part : ℕ) (l m : Listing) → part < i → slice_get first part ≡ Some l → slice_get now part ≡ Some m → R l m
  pub left : (part : ℕ) → i ≤ part → slice_get now part ≡ slice_get first part

module _ (R : Listing → Listing → Type 0) (first : List Listing) where
  pub made_none : AreMade R first first 0
  made_none = record { count = refl; done = λ part l m h. absurd (omega (arith, h)); left = λ part h. refl }

  pub made_more : (now : List Listing) (i : ℕ) (l m : Listing) → AreMade R first now i → slice_get now i ≡ Some l → R l m → AreMade R first (set now i m) (i + 1)
  made_more now i l m a here r = record {
    count = length-set now i m ∙ a.count;
    done = λ part k n h e f. at part k n (cases_eq part i) h e f;
    left = λ part h. get-set_other now i part m (λ e. omega (arith, h, e)) ∙ a.left part (omega (arith, h));
  }
    where
      at : (part : ℕ) (k n : Listing) → (part ≡ i) ⊎ (part ≢ i) → part < i + 1 → slice_get first part ≡ Some k → slice_get (set now i m) part ≡ Some n → R k n
      at part k n (inl s) h e f =
          let old : k ≡ l = same_Some k l (sym e ∙ ap (slice_get first) s ∙ sym (a.left i (omega arith)) ∙ here) in
          let new : m ≡ n = same_Some m n (sym (get-set_same now i m (slice_get_within now i l here)) ∙ ap (slice_get (set now i m)) (sym s) ∙ f) in
          subst (λ (x : Listing). R k x) new (subst (λ (x : Listing). R x m) (sym old) r)
      at part k n (inr d) h e f = a.done part k n (omega (arith, h, d)) e (sym (get-set_other now i part m d) ∙ f)

  pub made_all : (now : List Listing) (i : ℕ) → length first ≤ i → AreMade R first now i → EachTo R first now
  made_all now i h a = record { count = a.count; each = λ part l m e f. a.done part l m (let w = slice_get_within first part l e in omega (arith, w, h)) e f }
