-- What edits put and drop, and what stays.
use Rattle.std.proofs.Common.{◌≡◌, refl, sym, ap, ap₂, ◌∙◌, arith, List, [], ◌∷◌, ◌++◌, ℕ, ◌+◌, Bool, true, false, not, ◌||◌, cond, nat_eq, take, drop}
use Rattle.std.proofs.lemmas.List.{append_assoc, append-nil, take-append-drop, drop-drop}
use Rattle.kin_motion.specs.Edits.{Edit, edited, dropped_by_one, all_edited, dropped_by, put_by}
use Rattle.kin_motion.specs.Numbers.{is_in}
use Rattle.kin_overlay.specs.Repairing.{without, times, IsEdited}
use Rattle.kin_motion.proofs.Members.{in_head, in_tail, in_left, in_right, is_in-append}
use Rattle.kin_algebra.proofs.Tests.{or_swapped}

pub without-append : (gone xs ys : List ℕ) → without gone (xs ++ ys) ≡ without gone xs ++ without gone ys
without-append gone [] ys = refl
without-append gone (x ∷ xs) ys = at (not (is_in x gone)) (without-append gone xs ys)
  where
    at : (b : Bool) → without gone (xs ++ ys) ≡ without gone xs ++ without gone ys → cond b (x ∷ without gone (xs ++ ys)) (without gone (xs ++ ys)) ≡ cond b (x ∷ without gone xs) (without gone xs) ++ without gone ys
    at true e = ap (λ (l : List ℕ). x ∷ l) e
    at false e = e

-- nothing is left of what is gone
pub without-none : (gone xs : List ℕ) → ((x : ℕ) → is_in x xs ≡ true → is_in x gone ≡ true) → without gone xs ≡ []
without-none gone [] k = refl
without-none gone (x ∷ xs) k =
    ap (λ (b : Bool). cond (not b) (x ∷ without gone xs) (without gone xs)) (k x (in_head x xs)) ∙ without-none gone xs (λ y h. k y (in_tail y x xs h))

-- the numbers that were neither put nor dropped
abbrev pub staying : List ℕ → List ℕ → List ℕ → List ℕ
staying put gone xs = without put (without gone xs)

staying-append : (put gone xs ys : List ℕ) → staying put gone (xs ++ ys) ≡ staying put gone xs ++ staying put gone ys
staying-append put gone xs ys = ap (without put) (without-append gone xs ys) ∙ without-append put (without gone xs) (without gone ys)

staying-gone : (put gone xs : List ℕ) → ((x : ℕ) → is_in x xs ≡ true → is_in x gone ≡ true) → staying put gone xs ≡ []
staying-gone put gone xs k = ap (without put) (without-none gone xs k)

within : (gone xs : List ℕ) (x : ℕ) → is_in x (without gone xs) ≡ true → is_in x xs ≡ true
within gone [] x h = h
within gone (y ∷ xs) x h = at (not (is_in y gone)) h (within gone xs x)
  where
    at : (b : Bool) → is_in x (cond b (y ∷ without gone xs) (without gone xs)) ≡ true → (is_in x (without gone xs) ≡ true → is_in x xs ≡ true) → nat_eq x y || is_in x xs ≡ true
    at false k rest = in_tail x y xs (rest k)
    at true k rest = here (nat_eq x y) k rest
      where
        here : (c : Bool) → c || is_in x (without gone xs) ≡ true → (is_in x (without gone xs) ≡ true → is_in x xs ≡ true) → c || is_in x xs ≡ true
        here true k rest = refl
        here false k rest = rest k

staying-put : (put gone xs : List ℕ) → ((x : ℕ) → is_in x xs ≡ true → is_in x put ≡ true) → staying put gone xs ≡ []
staying-put put gone xs k = without-none put (without gone xs) (λ x h. k x (within gone xs x h))

-- a list, cut where an edit cuts it
cut : (e : Edit) (xs : List ℕ) → (take e.place xs ++ dropped_by_one e xs) ++ drop (e.place + e.drop) xs ≡ xs
cut e xs =
    append_assoc (take e.place xs) (dropped_by_one e xs) (drop (e.place + e.drop) xs)
    ∙ ap (λ (l : List ℕ). take e.place xs ++ l) (ap (λ (l : List ℕ). dropped_by_one e xs ++ l) (sym (drop-drop e.drop e.place xs)) ∙ take-append-drop e.drop (drop e.place xs)) ∙ take-append-drop e.place xs

-- one edit
staying-one : (put gone : List ℕ) (e : Edit) (xs : List ℕ) → ((x : ℕ) → is_in x e.put ≡ true → is_in x put ≡ true) → ((x : ℕ) → is_in x (dropped_by_one e xs) ≡ true → is_in x gone ≡ true) → staying put gone (edited e xs) ≡ staying put gone xs
staying-one put gone e xs puts drops =
    let front = take e.place xs in
    let back = drop (e.place + e.drop) xs in
    let middle = dropped_by_one e xs in
    let new : staying put gone ((front ++ e.put) ++ back) ≡ staying put gone front ++ staying put gone back =
    staying-append put gone (front ++ e.put) back
    ∙ ap (λ (l : List ℕ). l ++ staying put gone back) (staying-append put gone front e.put ∙ ap (λ (l : List ℕ). staying put gone front ++ l) (staying-put put gone e.put puts) ∙ append-nil (staying put gone front)) in
    let old : staying put gone ((front ++ middle) ++ back) ≡ staying put gone front ++ staying put gone back =
    staying-append put gone (front ++ middle) back
    ∙ ap (λ (l : List ℕ). l ++ staying put gone back) (staying-append put gone front middle ∙ ap (λ (l : List ℕ). staying put gone front ++ l) (staying-gone put gone middle drops) ∙ append-nil (staying put gone front)) in
    new ∙ sym old ∙ ap (staying put gone) (cut e xs)

-- the numbers that are neither put nor dropped stay in their order
pub edits-keep : (put gone : List ℕ) (es : List Edit) (xs : List ℕ) → ((x : ℕ) → is_in x (put_by es) ≡ true → is_in x put ≡ true) → ((x : ℕ) → is_in x (dropped_by es xs) ≡ true → is_in x gone ≡ true)
    → staying put gone (all_edited es xs) ≡ staying put gone xs
edits-keep put gone [] xs puts drops = refl
edits-keep put gone (e ∷ es) xs puts drops =
    edits-keep put gone es (edited e xs) (λ x h. puts x (in_right x e.put (put_by es) h)) (λ x h. drops x (in_right x (dropped_by_one e xs) (dropped_by es (edited e xs)) h))
    ∙ staying-one put gone e xs (λ x h. puts x (in_left x e.put (put_by es) h)) (λ x h. drops x (in_left x (dropped_by_one e xs) (dropped_by es (edited e xs)) h))

-- ---- how often a number is there
times-append : (x : ℕ) (xs ys : List ℕ) → times x (xs ++ ys) ≡ times x xs + times x ys
times-append x [] ys = omega arith
times-append x (y ∷ xs) ys = let e = times-append x xs ys in omega (arith, e)

balanced-one : (x : ℕ) (e : Edit) (xs : List ℕ) → times x (edited e xs) + times x (dropped_by_one e xs) ≡ times x xs + times x e.put
balanced-one x e xs =
    let front = take e.place xs in
    let back = drop (e.place + e.drop) xs in
    let middle = dropped_by_one e xs in
    let a = times-append x (front ++ e.put) back in
    let b = times-append x front e.put in
    let c = times-append x (front ++ middle) back in
    let d = times-append x front middle in
    let f = ap (times x) (cut e xs) in
    omega (arith, a, b, c, d, f)

-- what is there and what was dropped is what was there and what was put
pub balanced : (x : ℕ) (es : List Edit) (xs : List ℕ) → times x (all_edited es xs) + times x (dropped_by es xs) ≡ times x xs + times x (put_by es)
balanced x [] xs = omega arith
balanced x (e ∷ es) xs =
    let a = balanced x es (edited e xs) in
    let b = balanced-one x e xs in
    let c = times-append x (dropped_by_one e xs) (dropped_by es (edited e xs)) in
    let d = times-append x e.put (put_by es) in
    omega (arith, a, b, c, d)

-- ---- edits after edits
-- only what is in the list counts
without-same : (g h xs : List ℕ) → ((x : ℕ) → is_in x g ≡ is_in x h) → without g xs ≡ without h xs
without-same g h [] same = refl
without-same g h (x ∷ xs) same = ap₂ (λ (b : Bool) (l : List ℕ). cond (not b) (x ∷ l) l) (same x) (without-same g h xs same)

-- what one list and then another takes away
pub without-both : (g h xs : List ℕ) → without (g ++ h) xs ≡ without h (without g xs)
without-both g h [] = refl
without-both g h (x ∷ xs) = ap (λ (b : Bool). cond (not b) (x ∷ without (g ++ h) xs) (without (g ++ h) xs)) (is_in-append x g h) ∙ at (is_in x g) (without-both g h xs)
  where
    at : (b : Bool) → without (g ++ h) xs ≡ without h (without g xs) → cond (not (b || is_in x h)) (x ∷ without (g ++ h) xs) (without (g ++ h) xs) ≡ without h (cond (not b) (x ∷ without g xs) (without g xs))
    at true e = e
    at false e = ap (λ (l : List ℕ). cond (not (is_in x h)) (x ∷ l) l) e

pub without-swapped : (g h xs : List ℕ) → without g (without h xs) ≡ without h (without g xs)
without-swapped g h xs =
    sym (without-both h g xs) ∙ without-same (h ++ g) (g ++ h) xs (λ x. is_in-append x h g ∙ or_swapped (is_in x h) (is_in x g) ∙ sym (is_in-append x g h)) ∙ without-both g h xs

-- more numbers are taken away
staying-more : (put gone more_put more_gone xs : List ℕ) → staying (put ++ more_put) (gone ++ more_gone) xs ≡ staying more_put more_gone (staying put gone xs)
staying-more put gone more_put more_gone xs =
    without-both put more_put (without (gone ++ more_gone) xs)
    ∙ ap (λ (l : List ℕ). without more_put (without put l)) (without-both gone more_gone xs)
    ∙ ap (without more_put) (without-swapped put more_gone (without gone xs))

-- nothing was put or dropped
pub not-edited : (xs : List ℕ) → IsEdited [] [] xs xs
not-edited xs = record { keeps = refl; balanced = λ x. refl }

-- edits go on
pub edited-more : (put gone old mid : List ℕ) (es : List Edit) → IsEdited put gone old mid → IsEdited (put ++ put_by es) (gone ++ dropped_by es mid) old (all_edited es mid)
edited-more put gone old mid es w =
    let more_put = put_by es in
    let more_gone = dropped_by es mid in
    record {
      keeps =
          edits-keep (put ++ more_put) (gone ++ more_gone) es mid (λ x h. in_right x put more_put h) (λ x h. in_right x gone more_gone h)
          ∙ staying-more put gone more_put more_gone mid
          ∙ ap (staying more_put more_gone) w.keeps
          ∙ sym (staying-more put gone more_put more_gone old);
      balanced = λ x.
          let a = balanced x es mid in
          let b = w.balanced x in
          let c = times-append x gone more_gone in
          let d = times-append x put more_put in
          omega (arith, a, b, c, d);
    }
