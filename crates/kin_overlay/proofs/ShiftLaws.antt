-- Edits of the middle of a list.
use Rattle.std.proofs.Common.{◌≡◌, ◌⊎◌, inl, inr, refl, sym, ap, ap₂, ◌∙◌, subst, arith, List, [], ◌∷◌, ◌++◌, ℕ, zero, suc, ◌+◌, ◌-◌, ◌<◌, ◌≤◌, Bool, true, false, ◌||◌, cond, map, length, take, drop, append_assoc}
use Rattle.std.specs.Prelude.{filter}
use Rattle.std.proofs.lemmas.Bool.{both_ways, false_from_ne_true}
use Rattle.std.proofs.lemmas.List.{append-nil, length-append, take-append-le, drop-append-le, drop-drop, length-drop, length-take-le, take-append-drop, append_cancel_left, append_cancel_right}
use Rattle.std.proofs.lemmas.List.Elements.{filter-append}
use Rattle.std.proofs.Math.Seq.{take-append-add, drop-append-add}
use Rattle.kin_motion.specs.Edits.{Edit, edited, dropped_by_one, all_edited, dropped_by, put_by, AreFitting}
use Rattle.kin_motion.specs.Numbers.{is_in, IsIn, IsOnce}
use Rattle.kin_algebra.proofs.Tests.{or_none}
use Rattle.kin_motion.proofs.Members.{is_in-append, in_head, in_tail, in_cases, in_left, in_right}
use Rattle.kin_overlay.specs.Diffs.{KeepOrder, ArePutApart, later, IsDiff}
use Rattle.kin_overlay.specs.Reading.{IsReadAgain}

-- ---- one edit, and all
module _ (h b : List ℕ) where
  edited-later : (e : Edit) (xs : List ℕ) → e.place + e.drop ≤ length xs → edited (later (length h) e) (h ++ (xs ++ b)) ≡ h ++ (edited e xs ++ b)
  edited-later e xs fit =
      let front : take (length h + e.place) (h ++ (xs ++ b)) ≡ h ++ take e.place xs = take-append-add h (xs ++ b) e.place ∙ ap (λ (l : List ℕ). h ++ l) (take-append-le e.place xs b (omega (arith, fit))) in
      let place : length h + e.place + e.drop ≡ length h + (e.place + e.drop) = omega arith in
      let rest : drop (length h + e.place + e.drop) (h ++ (xs ++ b)) ≡ drop (e.place + e.drop) xs ++ b = ap (λ (n : ℕ). drop n (h ++ (xs ++ b))) place ∙ drop-append-add h (xs ++ b) (e.place + e.drop) ∙ drop-append-le (e.place + e.drop) xs b fit in
      ap₂ (λ (x y : List ℕ). (x ++ e.put) ++ y) front rest ∙ ap (λ (l : List ℕ). l ++ (drop (e.place + e.drop) xs ++ b)) (append_assoc h (take e.place xs) e.put)
      ∙ append_assoc h (take e.place xs ++ e.put) (drop (e.place + e.drop) xs ++ b) ∙ ap (λ (l : List ℕ). h ++ l) (sym (append_assoc (take e.place xs ++ e.put) (drop (e.place + e.drop) xs) b))

  dropped-later : (e : Edit) (xs : List ℕ) → e.place + e.drop ≤ length xs → dropped_by_one (later (length h) e) (h ++ (xs ++ b)) ≡ dropped_by_one e xs
  dropped-later e xs fit =
      ap (take e.drop) (drop-append-add h (xs ++ b) e.place ∙ drop-append-le e.place xs b (omega (arith, fit)))
      ∙ take-append-le e.drop (drop e.place xs) b (let l = length-drop e.place xs in omega (arith, l, fit))

  pub all-later : (es : List Edit) (xs : List ℕ) → AreFitting es xs → all_edited (map (later (length h)) es) (h ++ (xs ++ b)) ≡ h ++ (all_edited es xs ++ b)
  all-later [] xs fit = refl
  all-later (e ∷ es) xs fit = ap (all_edited (map (later (length h)) es)) (edited-later e xs fit.0) ∙ all-later es (edited e xs) fit.1

  pub fit-later : (es : List Edit) (xs : List ℕ) → AreFitting es xs → AreFitting (map (later (length h)) es) (h ++ (xs ++ b))
  fit-later [] xs fit = tt
  fit-later (e ∷ es) xs fit =
      let long = length-append h (xs ++ b) in
      let longer = length-append xs b in
      let here = fit.0 in (
        omega (arith, long, longer, here),
        subst (AreFitting (map (later (length h)) es)) (sym (edited-later e xs fit.0)) (fit-later es (edited e xs) fit.1),
      )

  pub gone-later : (es : List Edit) (xs : List ℕ) → AreFitting es xs → dropped_by (map (later (length h)) es) (h ++ (xs ++ b)) ≡ dropped_by es xs
  gone-later [] xs fit = refl
  gone-later (e ∷ es) xs fit =
      ap₂ (λ (x y : List ℕ). x ++ y) (dropped-later e xs fit.0) (ap (dropped_by (map (later (length h)) es)) (edited-later e xs fit.0) ∙ gone-later es (edited e xs) fit.1)

pub put-later : (n : ℕ) (es : List Edit) → put_by (map (later n) es) ≡ put_by es
put-later n [] = refl
put-later n (e ∷ es) = ap (λ (l : List ℕ). e.put ++ l) (put-later n es)

-- ---- the order of the middle
once-left : (xs ys : List ℕ) → IsOnce (xs ++ ys) → IsOnce xs
once-left [] ys o = tt
once-left (x ∷ xs) ys o = (false_from_ne_true (is_in x xs) (λ k. absurd (both_ways (is_in x (xs ++ ys)) o.0 (in_left x xs ys k))), once-left xs ys o.1)

once-right : (xs ys : List ℕ) → IsOnce (xs ++ ys) → IsOnce ys
once-right [] ys o = o
once-right (x ∷ xs) ys o = once-right xs ys o.1

apart : (xs ys : List ℕ) (x : ℕ) → IsOnce (xs ++ ys) → IsIn x xs → is_in x ys ≡ false
apart [] ys x o k = absurd cc
apart (z ∷ zs) ys x o k = false_from_ne_true (is_in x ys) (λ l. at (apart zs ys x o.1) l (in_cases x z zs k))
  where
    at : (IsIn x zs → is_in x ys ≡ false) → IsIn x ys → (x ≡ z) ⊎ IsIn x zs → ⊥
    at rest l (inl e) = absurd (both_ways (is_in z (zs ++ ys)) o.0 (in_right z zs ys (subst (λ (y : ℕ). IsIn y ys) e l)))
    at rest l (inr m) = absurd (both_ways (is_in x ys) (rest m) l)

filter-same : (f g : ℕ → Bool) (xs : List ℕ) → ((x : ℕ) → IsIn x xs → f x ≡ g x) → filter f xs ≡ filter g xs
filter-same f g [] e = refl
filter-same f g (x ∷ xs) e = ap₂ (λ (b : Bool) (l : List ℕ). cond b (x ∷ l) l) (e x (in_head x xs)) (filter-same f g xs (λ y h. e y (in_tail y x xs h)))

filter-all : (f : ℕ → Bool) (xs : List ℕ) → ((x : ℕ) → IsIn x xs → f x ≡ true) → filter f xs ≡ xs
filter-all f [] e = refl
filter-all f (x ∷ xs) e = ap₂ (λ (b : Bool) (l : List ℕ). cond b (x ∷ l) l) (e x (in_head x xs)) (filter-all f xs (λ y h. e y (in_tail y x xs h)))

module _ (h b xs ys : List ℕ) (k : KeepOrder (h ++ (xs ++ b)) (h ++ (ys ++ b))) where
  -- the numbers of a middle that the other whole has are those that its middle has
  kept : (us vs : List ℕ) → IsOnce (h ++ (us ++ b)) → filter (λ x. is_in x (h ++ (vs ++ b))) (h ++ (us ++ b)) ≡ h ++ (filter (λ x. is_in x vs) us ++ b)
  kept us vs o =
      filter-append (λ x. is_in x (h ++ (vs ++ b))) h (us ++ b)
      ∙ ap₂ (λ (l m : List ℕ). l ++ m) (filter-all (λ x. is_in x (h ++ (vs ++ b))) h (λ x m. in_left x h (vs ++ b) m))
      (filter-append (λ x. is_in x (h ++ (vs ++ b))) us b
      ∙ ap₂ (λ (l m : List ℕ). l ++ m) (filter-same (λ x. is_in x (h ++ (vs ++ b))) (λ x. is_in x vs) us middle) (filter-all (λ x. is_in x (h ++ (vs ++ b))) b (λ x m. in_right x h (vs ++ b) (in_right x vs b m))))
    where
      middle : (x : ℕ) → IsIn x us → is_in x (h ++ (vs ++ b)) ≡ is_in x vs
      middle x m =
          let not-front : is_in x h ≡ false = false_from_ne_true (is_in x h) (λ l. absurd (both_ways (is_in x (us ++ b)) (apart h (us ++ b) x o l) (in_left x us b m))) in
          let not-behind : is_in x b ≡ false = apart us b x (once-right h (us ++ b) o) m in
          is_in-append x h (vs ++ b) ∙ ap (λ (c : Bool). c || is_in x (vs ++ b)) not-front ∙ is_in-append x vs b ∙ ap (λ (c : Bool). is_in x vs || c) not-behind ∙ or_none (is_in x vs)

  pub middle-order : KeepOrder xs ys
  middle-order = record {
    old_once = once-left xs b (once-right h (xs ++ b) k.old_once);
    new_once = once-left ys b (once-right h (ys ++ b) k.new_once);
    same = append_cancel_right (filter (λ x. is_in x ys) xs) (filter (λ x. is_in x xs) ys) b (append_cancel_left h (filter (λ x. is_in x ys) xs ++ b) (filter (λ x. is_in x xs) ys ++ b) (sym (kept xs ys k.old_once) ∙ k.same ∙ kept ys xs k.new_once));
  }

-- ---- from the middle to the whole
module _ (h b old new : List ℕ) (es : List Edit) (d : IsDiff es old new) where
  pub lead-later : all_edited (map (later (length h)) es) (h ++ (old ++ b)) ≡ h ++ (new ++ b)
  lead-later = all-later h b es old d.fit ∙ ap (λ (l : List ℕ). h ++ (l ++ b)) d.lead

  pub apart-later : KeepOrder (h ++ (old ++ b)) (h ++ (new ++ b)) → ArePutApart (map (later (length h)) es) (h ++ (old ++ b))
  apart-later k = λ x put.
      ap (is_in x) (gone-later h b es old d.fit) ∙ d.apart (middle-order h b old new k) x (subst (λ (l : List ℕ). IsIn x l) (put-later (length h) es) put)

-- the new list is the old one after the edits of its middle
pub renewed : (start end : ℕ) (old new given mid : List ℕ) (es edits : List Edit) → IsReadAgain old new given start end → mid ≡ take (end - start) (drop start old) → edits ≡ map (later start) es → IsDiff es mid given
    → (all_edited edits old ≡ new) × AreFitting edits old × (KeepOrder old new → ArePutApart edits old)
renewed start end old new given mid es edits k cut is d =
    let h = take start old in
    let b = drop end old in
    let ordered = k.ordered in
    let within = k.within in
    let counted : length h ≡ start = length-take-le start old (omega (arith, ordered, within)) in
    let behind : drop (end - start) (drop start old) ≡ b = drop-drop (end - start) start old ∙ ap (λ (n : ℕ). drop n old) (omega (arith, ordered)) in
    let whole : old ≡ h ++ (mid ++ b) =
    sym (take-append-drop start old) ∙ ap (λ (l : List ℕ). h ++ l) (sym (take-append-drop (end - start) (drop start old)) ∙ ap₂ (λ (x y : List ℕ). x ++ y) (sym cut) behind) in
    let moved : edits ≡ map (later (length h)) es = is ∙ ap (λ (n : ℕ). map (later n) es) (sym counted) in (
      ap₂ all_edited moved whole ∙ lead-later h b mid given es d ∙ sym k.new_is,
      subst (λ (fs : List Edit). AreFitting fs old) (sym moved) (subst (AreFitting (map (later (length h)) es)) (sym whole) (fit-later h b es mid d.fit)),
      λ order. subst (λ (fs : List Edit). ArePutApart fs old) (sym moved) (subst (ArePutApart (map (later (length h)) es)) (sym whole) (apart-later h b mid given es d (subst (λ (l : List ℕ). KeepOrder l (h ++ (given ++ b))) whole (subst (KeepOrder old) k.new_is order)))),
    )

-- the same of lists as they are lent
pub renewed-lent : (start end : ℕ) (old new given seen lent : List ℕ) (es edits : List Edit) → IsReadAgain old new given start end → seen ≡ old → lent ≡ given → edits ≡ map (later start) es → IsDiff es (take (end - start) (drop start seen)) lent
    → (all_edited edits old ≡ new) × AreFitting edits old × (KeepOrder old new → ArePutApart edits old)
renewed-lent start end old new given seen lent es edits k is same moved d =
    let mid = take (end - start) (drop start seen) in
    renewed start end old new given mid es edits k (ap (λ (l : List ℕ). take (end - start) (drop start l)) is) moved (subst (IsDiff es mid) same d)

-- no place later, they are the same
pub not-later : (es edits : List Edit) (old new : List ℕ) → edits ≡ map (later 0) es → IsDiff es old new → IsDiff edits old new
not-later es edits old new is d = subst (λ (fs : List Edit). IsDiff fs old new) (sym (is ∙ same es)) d
  where
    same : (fs : List Edit) → map (later 0) fs ≡ fs
    same [] = refl
    same (f ∷ fs) =
        let here : 0 + f.place ≡ f.place = omega arith in
        ap₂ (λ (e : Edit) (l : List Edit). e ∷ l) (ap (λ (n : ℕ). record { place = n; drop = f.drop; put = f.put }) here) (same fs)
