-- Where an input is parted.
use Rattle.std.proofs.Common.{◌≡◌, ◌≢◌, refl, sym, ap, ◌∙◌, subst, arith, inl, inr, List, [], ◌∷◌, ◌++◌, ℕ, zero, suc, ◌+◌, ◌-◌, ◌<◌, ◌≤◌, length, get_or, take, drop, codes, length-append, take-append-drop}
use Rattle.std.proofs.lemmas.List.{append_cancel_left, drop_at, length-take-le, same_from_push, take_at, take_more}
use Rattle.kin_script.specs.Inputs.{IsInputText}
use Rattle.kin_check.specs.Splits.{HasNoMark, IsBeforePiece, IsMark, IsParted, IsSplit, IsTrueClaim, IsUnsplit}

-- ---- where a piece begins
pub at_start : (input : List ℕ) (at : ℕ) → at ≡ 0 → IsBeforePiece (take at input)
at_start input at e = inl (ap (λ n. take n input) e)

pub after_feed : (input : List ℕ) (at : ℕ) → 0 < at → at ≤ length input → get_or input (at - 1) 0 ≡ 10 → IsBeforePiece (take at input)
after_feed input zero some within feed = absurd (omega arith)
after_feed input (suc k) some within feed =
    let before : suc k - 1 ≡ k = omega arith in
    let next : suc k ≡ k + 1 = omega arith in
    inr (take k input, ap (λ n. take n input) next ∙ take_more input k 0 (omega arith) ∙ ap (λ b. take k input ++ b ∷ []) (ap (λ n. get_or input n 0) (sym before) ∙ feed))

pub feed_before : (input : List ℕ) (at : ℕ) → 0 < at → at ≤ length input → IsBeforePiece (take at input) → get_or input (at - 1) 0 ≡ 10
feed_before input zero some within begins = absurd (omega arith)
feed_before input (suc k) some within (inl none) = absurd (let count = length-take-le (suc k) input within in let zero_count = ap length none in omega (arith, count, zero_count))
feed_before input (suc k) some within (inr (more, e)) =
    let before : suc k - 1 ≡ k = omega arith in
    let next : k + 1 ≡ suc k = omega arith in
    ap (λ n. get_or input n 0) before ∙ (same_from_push (take k input) more (get_or input k 0) 10 (sym (take_more input k 0 (omega arith)) ∙ ap (λ n. take n input) next ∙ e)).1

-- ---- one mark
pub one_mark : (bytes after other : List ℕ) → IsMark bytes after → IsMark bytes other → after ≡ other
one_mark bytes after other (inl e) (inl f) = append_cancel_left (codes "=\n") after other (sym e ∙ f)
one_mark bytes after other (inl e) (inr f) = absurd (let same : codes "=\n" ++ after ≡ codes "=" = sym e ∙ f.0 in let count = ap length same in omega (arith, count))
one_mark bytes after other (inr e) (inl f) = absurd (let same : codes "=\n" ++ other ≡ codes "=" = sym f ∙ e.0 in let count = ap length same in omega (arith, count))
one_mark bytes after other (inr e) (inr f) = e.1 ∙ sym f.1

some_marked : (bytes after : List ℕ) → IsMark bytes after → 0 < length bytes
some_marked bytes after (inl e) = let count = ap length e in omega (arith, count)
some_marked bytes after (inr e) = let count = ap length e.0 in omega (arith, count)

module _ (input : List ℕ) where
  -- what is before a part is a front of the input, and the rest is after it
  module _ {before after : List ℕ} (p : IsParted input before after) where
    pub front : take (length before) input ≡ before
    front = ap (take (length before)) p.joined ∙ take_at before p.rest (length before) refl

    pub rest_is : drop (length before) input ≡ p.rest
    rest_is = ap (drop (length before)) p.joined ∙ drop_at before p.rest (length before) refl

    pub within : length before < length input
    within =
        let count = ap length p.joined ∙ length-append before p.rest in
        let some = some_marked p.rest after p.mark in
        omega (arith, count, some)

  pub parted_at : (at : ℕ) (after : List ℕ) → at ≤ length input → IsBeforePiece (take at input) → IsMark (drop at input) after → IsParted input (take at input) after
  parted_at at after low begins mark = record { rest = drop at input; joined = sym (take-append-drop at input); begins = begins; mark = mark }

  -- ---- no part is before this place
  pub NoneBefore : ℕ → Type 0
  NoneBefore at = (before after : List ℕ) → IsParted input before after → at ≤ length before

  pub split_at : (at : ℕ) (after : List ℕ) → at ≤ length input → NoneBefore at → IsBeforePiece (take at input) → IsMark (drop at input) after → IsSplit input (take at input) after
  unfolding NoneBefore
  split_at at after low none begins mark = record {
    parted = parted_at at after low begins mark;
    first = λ before other p. let count = length-take-le at input low in let le = none before other p in omega (arith, count, le);
  }

  -- and none is at it
  none_here : (at : ℕ) → NoneBefore at → ((before after : List ℕ) → IsParted input before after → at ≢ length before) → NoneBefore (at + 1)
  unfolding NoneBefore
  none_here at none other before after p = let le = none before after p in let ne = other before after p in omega (arith, le, ne)

  pub no_piece : (at : ℕ) → NoneBefore at → ¬ (IsBeforePiece (take at input)) → NoneBefore (at + 1)
  no_piece at none out = none_here at none (λ before after p same. out (subst IsBeforePiece (sym (ap (λ n. take n input) same ∙ front p)) p.begins))

  pub no_mark : (at : ℕ) → NoneBefore at → HasNoMark (drop at input) → NoneBefore (at + 1)
  no_mark at none out = none_here at none (λ before after p same. out after (subst (λ (w : List ℕ). IsMark w after) (sym (ap (λ n. drop n input) same ∙ rest_is p)) p.mark))

  pub none_yet : NoneBefore 0
  unfolding NoneBefore
  none_yet before after p = omega arith

  pub unsplit : (at : ℕ) → length input ≤ at → NoneBefore at → IsUnsplit input
  unfolding NoneBefore
  unsplit at high none before after p = let le = none before after p in let less = within p in omega (arith, high, le, less)

  -- ---- one split
  pub one_split : (s c t d : List ℕ) → IsSplit input s c → IsSplit input t d → (s ≡ t) × (c ≡ d)
  one_split s c t d x y =
      let le = x.first t d y.parted in
      let ge = y.first s c x.parted in
      let same : length s ≡ length t = omega (arith, le, ge) in
      let script : s ≡ t = sym (front x.parted) ∙ ap (λ n. take n input) same ∙ front y.parted in
      let rest : y.parted.rest ≡ x.parted.rest = sym (rest_is y.parted) ∙ ap (λ n. drop n input) (sym same) ∙ rest_is x.parted in
      (script, one_mark x.parted.rest c d x.parted.mark (subst (λ (w : List ℕ). IsMark w d) rest y.parted.mark))

  -- a claim at the only split that isn't the text of its script isn't true
  pub wrong_claim : (script claim : List ℕ) → IsSplit input script claim → ¬ (IsInputText script claim) → ¬ (IsTrueClaim input)
  wrong_claim script claim split other h =
      let same = one_split h.0 h.1 script claim h.2 split in
      other (subst (λ (w : List ℕ). IsInputText w claim) same.0 (subst (IsInputText h.0) same.1 h.3))
