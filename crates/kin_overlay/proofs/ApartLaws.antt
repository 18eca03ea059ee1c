-- Where the common numbers stand in one order, no number is put that is dropped.
use Rattle.std.proofs.Common.{◌≡◌, ◌≢◌, ◌⊎◌, inl, inr, refl, sym, ap, ap₂, ◌∙◌, subst, arith, List, [], ◌∷◌, ◌++◌, ℕ, zero, suc, ◌<◌, ◌≤◌, Bool, true, false, cond, ◌||◌, nat_eq, length, take, drop, Some}
use Rattle.std.specs.Prelude.{slice_get, filter}
use Rattle.std.proofs.lemmas.List.{append-nil, append_assoc, take-append-drop}
use Rattle.std.proofs.Math.Seq.{drop-append_seam}
use Rattle.std.proofs.lemmas.Option.{same_Some}
use Rattle.std.proofs.lemmas.Bool.{or_cases, eqb-true, false_from_ne_true, both_ways}
use Rattle.std.proofs.lemmas.List.Elements.{filter-append}
use Rattle.kin_motion.specs.Edits.{Edit, edited, all_edited, dropped_by_one, dropped_by, put_by}
use Rattle.kin_motion.specs.Numbers.{is_in, IsOnce}
use Rattle.kin_motion.proofs.Members.{in_head, in_tail, in_either, in_left, in_right}
use Rattle.kin_overlay.specs.Diffs.{KeepOrder}

-- ---- membership
once-right : (xs ys : List ℕ) → IsOnce (xs ++ ys) → IsOnce ys
once-right [] ys o = o
once-right (x ∷ xs) ys o = once-right xs ys o.1

-- ---- filters
filter-same : (f g : ℕ → Bool) (xs : List ℕ) → ((x : ℕ) → is_in x xs ≡ true → f x ≡ g x) → filter f xs ≡ filter g xs
filter-same f g [] e = refl
filter-same f g (x ∷ xs) e = ap₂ (λ (b : Bool) (l : List ℕ). cond b (x ∷ l) l) (e x (in_head x xs)) (filter-same f g xs (λ y h. e y (in_tail y x xs h)))

filter-none : (f : ℕ → Bool) (xs : List ℕ) → ((x : ℕ) → is_in x xs ≡ true → f x ≡ false) → filter f xs ≡ []
filter-none f [] e = refl
filter-none f (x ∷ xs) e = ap (λ (b : Bool). cond b (x ∷ filter f xs) (filter f xs)) (e x (in_head x xs)) ∙ filter-none f xs (λ y h. e y (in_tail y x xs h))

-- a member that passes is the first one, or something stands before it
filter-some : (f : ℕ → Bool) (xs : List ℕ) (x : ℕ) → is_in x xs ≡ true → f x ≡ true → (y : ℕ) × (ys : List ℕ) × (filter f xs ≡ y ∷ ys) × (is_in y xs ≡ true)
filter-some f [] x h t = absurd cc
filter-some f (z ∷ zs) x h t = at (f z) refl (or_cases (nat_eq x z) (is_in x zs) h) (λ k. filter-some f zs x k t)
  where
    at : (b : Bool) → f z ≡ b → (nat_eq x z ≡ true) ⊎ (is_in x zs ≡ true) → (is_in x zs ≡ true → (y : ℕ) × (ys : List ℕ) × (filter f zs ≡ y ∷ ys) × (is_in y zs ≡ true))
        → (y : ℕ) × (ys : List ℕ) × (filter f (z ∷ zs) ≡ y ∷ ys) × (is_in y (z ∷ zs) ≡ true)
    at true q w rest = (z, filter f zs, ap (λ (b : Bool). cond b (z ∷ filter f zs) (filter f zs)) q, in_head z zs)
    at false q (inl e) rest = absurd (both_ways (f z) q (ap f (sym (eqb-true x z e)) ∙ t))
    at false q (inr k) rest =
        let r = rest k in
        (r.0, r.1, ap (λ (b : Bool). cond b (z ∷ filter f zs) (filter f zs)) q ∙ r.2, in_tail r.0 z zs r.3)

-- ---- at the front of a list
pub not-in-front : (xs : List ℕ) (n x : ℕ) → ((k y : ℕ) → k < n → slice_get xs k ≡ Some y → x ≢ y) → is_in x (take n xs) ≡ false
not-in-front [] zero x f = refl
not-in-front [] (suc n) x f = refl
not-in-front (z ∷ zs) zero x f = refl
not-in-front (z ∷ zs) (suc n) x f =
    false_from_ne_true (is_in x (z ∷ take n zs)) (λ h. at (or_cases (nat_eq x z) (is_in x (take n zs)) h) (not-in-front zs n x (λ m y l e. f (suc m) y (omega arith) e)))
  where
    at : (nat_eq x z ≡ true) ⊎ (is_in x (take n zs) ≡ true) → is_in x (take n zs) ≡ false → ⊥
    at (inl e) out = f zero z (omega arith) refl (eqb-true x z e)
    at (inr k) out = absurd (both_ways (is_in x (take n zs)) out k)

strange-front : (xs others : List ℕ) (n : ℕ) → ((k y : ℕ) → k < n → slice_get xs k ≡ Some y → is_in y others ≡ false) → (x : ℕ) → is_in x (take n xs) ≡ true → is_in x others ≡ false
strange-front [] others zero f x h = absurd cc
strange-front [] others (suc n) f x h = absurd cc
strange-front (z ∷ zs) others zero f x h = absurd cc
strange-front (z ∷ zs) others (suc n) f x h = at (or_cases (nat_eq x z) (is_in x (take n zs)) h) (strange-front zs others n (λ m y l e. f (suc m) y (omega arith) e) x)
  where
    at : (nat_eq x z ≡ true) ⊎ (is_in x (take n zs) ≡ true) → (is_in x (take n zs) ≡ true → is_in x others ≡ false) → is_in x others ≡ false
    at (inl e) rest = ap (λ (y : ℕ). is_in y others) (eqb-true x z e) ∙ f zero z (omega arith) refl
    at (inr k) rest = rest k

pub front-strange : (xs others : List ℕ) (n gone : ℕ) → gone ≡ n → ((k y : ℕ) → k < n → slice_get xs k ≡ Some y → is_in y others ≡ false) → (x : ℕ) → is_in x (take gone xs) ≡ true → is_in x others ≡ false
front-strange xs others n gone e f x h = strange-front xs others n f x (ap (λ (m : ℕ). is_in x (take m xs)) (sym e) ∙ h)

first-get : (xs : List ℕ) (n x : ℕ) (ys : List ℕ) → drop n xs ≡ x ∷ ys → slice_get xs n ≡ Some x
first-get [] zero x ys e = absurd cc
first-get [] (suc n) x ys e = absurd cc
first-get (z ∷ zs) zero x ys e = (let same : z ≡ x = cc in ap (λ (y : ℕ). Some y) same)
first-get (z ∷ zs) (suc n) x ys e = first-get zs n x ys e

pub next-in : (xs others rest : List ℕ) (n x : ℕ) (ys : List ℕ) → rest ≡ drop n xs → rest ≡ x ∷ ys → ((y : ℕ) → slice_get xs n ≡ Some y → is_in y others ≡ true) → is_in x others ≡ true
next-in xs others rest n x ys q e f = f x (first-get xs n x ys (sym q ∙ e))

-- ---- what was put and dropped, and what is left
pub record IsApart (es : List Edit) (start old new : List ℕ) : Type 0 where
  pub order : KeepOrder old new
  pub put : (x : ℕ) → is_in x (put_by es) ≡ true → is_in x old ≡ false
  pub gone : (x : ℕ) → is_in x (dropped_by es start) ≡ true → is_in x new ≡ false
  pub apart : (x : ℕ) → is_in x (put_by es) ≡ true → is_in x (dropped_by es start) ≡ false

put-push : (es : List Edit) (e : Edit) → put_by (es ++ e ∷ []) ≡ put_by es ++ e.put
put-push [] e = append-nil e.put
put-push (d ∷ es) e = ap (λ (l : List ℕ). d.put ++ l) (put-push es e) ∙ sym (append_assoc d.put (put_by es) e.put)

dropped-push : (es : List Edit) (e : Edit) (xs : List ℕ) → dropped_by (es ++ e ∷ []) xs ≡ dropped_by es xs ++ dropped_by_one e (all_edited es xs)
dropped-push [] e xs = append-nil (dropped_by_one e xs)
dropped-push (d ∷ es) e xs = ap (λ (l : List ℕ). dropped_by_one d xs ++ l) (dropped-push es e (edited d xs)) ∙ sym (append_assoc (dropped_by_one d xs) (dropped_by es (edited d xs)) (dropped_by_one e (all_edited es (edited d xs))))

-- without a number that both begin with
order-tail : (x : ℕ) (xs ys : List ℕ) → KeepOrder (x ∷ xs) (x ∷ ys) → KeepOrder xs ys
order-tail x xs ys k = record {
  old_once = k.old_once.1;
  new_once = k.new_once.1;
  same = sym (without xs ys k.old_once.0) ∙ tails ∙ without ys xs k.new_once.0;
}
  where
    without : (us vs : List ℕ) → is_in x us ≡ false → filter (λ z. is_in z (x ∷ vs)) us ≡ filter (λ z. is_in z vs) us
    without us vs out = filter-same (λ z. is_in z (x ∷ vs)) (λ z. is_in z vs) us (λ z h. at z h (nat_eq z x) refl)
      where
        at : (z : ℕ) → is_in z us ≡ true → (b : Bool) → nat_eq z x ≡ b → nat_eq z x || is_in z vs ≡ is_in z vs
        at z h true e = absurd (both_ways (is_in z us) (ap (λ (y : ℕ). is_in y us) (eqb-true z x e) ∙ out) h)
        at z h false e = ap (λ (b : Bool). b || is_in z vs) e

    first : (us vs : List ℕ) → filter (λ z. is_in z (x ∷ vs)) (x ∷ us) ≡ x ∷ filter (λ z. is_in z (x ∷ vs)) us
    first us vs = ap (λ (b : Bool). cond b (x ∷ filter (λ z. is_in z (x ∷ vs)) us) (filter (λ z. is_in z (x ∷ vs)) us)) (in_head x vs)

    tails : filter (λ z. is_in z (x ∷ ys)) xs ≡ filter (λ z. is_in z (x ∷ xs)) ys
    tails = let both : x ∷ filter (λ z. is_in z (x ∷ ys)) xs ≡ x ∷ filter (λ z. is_in z (x ∷ xs)) ys = sym (first xs ys) ∙ k.same ∙ first ys xs in cc

pub apart-alike : (es : List Edit) (start old new old' new' : List ℕ) (x : ℕ) (xs ys : List ℕ) → old ≡ x ∷ xs → new ≡ x ∷ ys → old' ≡ drop 1 old → new' ≡ drop 1 new → IsApart es start old new → IsApart es start old' new'
apart-alike es start old new old' new' x xs ys e f p q w =
    let a = subst (λ (l : List ℕ). IsApart es start l (x ∷ ys)) e (subst (λ (l : List ℕ). IsApart es start old l) f w) in
    let to : old' ≡ xs = p ∙ ap (λ (l : List ℕ). drop 1 l) e in
    let to' : new' ≡ ys = q ∙ ap (λ (l : List ℕ). drop 1 l) f in
    subst (λ (l : List ℕ). IsApart es start l new') (sym to) (subst (λ (l : List ℕ). IsApart es start xs l) (sym to') (record {
      order = order-tail x xs ys a.order;
      put = λ z h. false_from_ne_true (is_in z xs) (λ k. absurd (both_ways (is_in z (x ∷ xs)) (a.put z h) (in_tail z x xs k)));
      gone = λ z h. false_from_ne_true (is_in z ys) (λ k. absurd (both_ways (is_in z (x ∷ ys)) (a.gone z h) (in_tail z x ys k)));
      apart = a.apart;
    }))

-- without numbers that both begin with
pub apart-front : (es : List Edit) (start old new : List ℕ) (n : ℕ) → n ≤ length old → n ≤ length new → ((k : ℕ) → k < n → slice_get old k ≡ slice_get new k) → IsApart es start old new → IsApart es start (drop n old) (drop n new)
apart-front es start old new zero p q same w = w
apart-front es start [] new (suc n) p q same w = absurd (omega arith)
apart-front es start (x ∷ xs) [] (suc n) p q same w = absurd (omega arith)
apart-front es start (x ∷ xs) (y ∷ ys) (suc n) p q same w =
    let e : x ≡ y = same_Some x y (same zero (omega arith)) in
    apart-front es start xs ys n (omega arith) (omega arith) (λ k l. same (suc k) (omega arith))
    (apart-alike es start (x ∷ xs) (y ∷ ys) xs ys x xs ys refl (ap (λ (z : ℕ). z ∷ ys) (sym e)) refl refl w)

-- a stretch of numbers that aren't in both
module _ (es : List Edit) (start old new front rest tail put : List ℕ) (place gone added : ℕ) (counted : length front ≡ place) (led : all_edited es start ≡ front ++ old)
    (rest-is : rest ≡ drop gone old) (put-is : put ≡ take added new) (tail-is : tail ≡ drop added new)
    (strange : (x : ℕ) → is_in x (take gone old) ≡ true → is_in x new ≡ false)
    (next : (x : ℕ) (xs : List ℕ) → rest ≡ x ∷ xs → is_in x new ≡ true)
    (others : (x : ℕ) (xs : List ℕ) → rest ≡ x ∷ xs → is_in x (take added new) ≡ false) where
  old-is : old ≡ take gone old ++ rest
  old-is = sym (take-append-drop gone old) ∙ ap (λ (l : List ℕ). take gone old ++ l) (sym rest-is)

  new-is : new ≡ put ++ tail
  new-is = sym (take-append-drop added new) ∙ ap₂ (λ (f t : List ℕ). f ++ t) (sym put-is) (sym tail-is)

  -- the common numbers of the rests
  same-rest : KeepOrder old new → filter (λ x. is_in x new) rest ≡ filter (λ x. is_in x old) put ++ filter (λ x. is_in x old) tail
  same-rest k =
      sym (ap (λ (l : List ℕ). l ++ filter (λ x. is_in x new) rest) (filter-none (λ x. is_in x new) (take gone old) strange)) ∙ sym (filter-append (λ x. is_in x new) (take gone old) rest)
      ∙ ap (λ (l : List ℕ). filter (λ x. is_in x new) l) (sym old-is) ∙ k.same ∙ ap (λ (l : List ℕ). filter (λ x. is_in x old) l) new-is ∙ filter-append (λ x. is_in x old) put tail

  -- no number that is put stands in the old list
  put-new : KeepOrder old new → (x : ℕ) → is_in x put ≡ true → is_in x old ≡ false
  put-new k x h = false_from_ne_true (is_in x old) (λ there. at rest refl (filter-some (λ z. is_in z old) put x h there))
    where
      at : (r : List ℕ) → rest ≡ r → (y : ℕ) × (ys : List ℕ) × (filter (λ z. is_in z old) put ≡ y ∷ ys) × (is_in y put ≡ true) → ⊥
      at [] e (y, ys, q, inside) =
          let none : [] ≡ (y ∷ ys) ++ filter (λ z. is_in z old) tail = sym (ap (λ (l : List ℕ). filter (λ z. is_in z new) l) e) ∙ same-rest k ∙ ap (λ (l : List ℕ). l ++ filter (λ z. is_in z old) tail) q in
          cc
      at (c ∷ cs) e (y, ys, q, inside) =
          let both : filter (λ z. is_in z new) (c ∷ cs) ≡ (y ∷ ys) ++ filter (λ z. is_in z old) tail = sym (ap (λ (l : List ℕ). filter (λ z. is_in z new) l) e) ∙ same-rest k ∙ ap (λ (l : List ℕ). l ++ filter (λ z. is_in z old) tail) q in
          let first : c ∷ filter (λ z. is_in z new) cs ≡ y ∷ (ys ++ filter (λ z. is_in z old) tail) = sym (ap (λ (b : Bool). cond b (c ∷ filter (λ z. is_in z new) cs) (filter (λ z. is_in z new) cs)) (next c cs e)) ∙ both in
          let same : c ≡ y = cc in
          absurd (both_ways (is_in y put) (ap₂ (λ (z : ℕ) (l : List ℕ). is_in z l) (sym same) put-is ∙ others c cs e) inside)

  order-rest : KeepOrder old new → KeepOrder rest tail
  order-rest k = record {
    old_once = once-right (take gone old) rest (subst IsOnce old-is k.old_once);
    new_once = once-right put tail (subst IsOnce new-is k.new_once);
    same =
        filter-same (λ x. is_in x tail) (λ x. is_in x new) rest (λ x h. in-tail x h (is_in x new) refl)
        ∙ same-rest k ∙ ap (λ (l : List ℕ). l ++ filter (λ x. is_in x old) tail) (filter-none (λ x. is_in x old) put (put-new k))
        ∙ filter-same (λ x. is_in x old) (λ x. is_in x rest) tail (λ x h. in-rest x h (is_in x old) refl);
  }
    where
      in-tail : (x : ℕ) → is_in x rest ≡ true → (b : Bool) → is_in x new ≡ b → is_in x tail ≡ is_in x new
      in-tail x h true q = at (in_either x put tail (ap (λ (l : List ℕ). is_in x l) (sym new-is) ∙ q))
        where
          at : (is_in x put ≡ true) ⊎ (is_in x tail ≡ true) → is_in x tail ≡ is_in x new
          at (inl p) = absurd (both_ways (is_in x old) (put-new k x p) (ap (λ (l : List ℕ). is_in x l) old-is ∙ in_right x (take gone old) rest h))
          at (inr t) = t ∙ sym q
      in-tail x h false q = false_from_ne_true (is_in x tail) (λ t. absurd (both_ways (is_in x new) q (ap (λ (l : List ℕ). is_in x l) new-is ∙ in_right x put tail t))) ∙ sym q

      in-rest : (x : ℕ) → is_in x tail ≡ true → (b : Bool) → is_in x old ≡ b → is_in x old ≡ is_in x rest
      in-rest x h true q = at (in_either x (take gone old) rest (ap (λ (l : List ℕ). is_in x l) (sym old-is) ∙ q))
        where
          at : (is_in x (take gone old) ≡ true) ⊎ (is_in x rest ≡ true) → is_in x old ≡ is_in x rest
          at (inl g) = absurd (both_ways (is_in x new) (strange x g) (ap (λ (l : List ℕ). is_in x l) new-is ∙ in_right x put tail h))
          at (inr r) = q ∙ sym r
      in-rest x h false q = q ∙ sym (false_from_ne_true (is_in x rest) (λ r. absurd (both_ways (is_in x old) q (ap (λ (l : List ℕ). is_in x l) old-is ∙ in_right x (take gone old) rest r))))

  abbrev stretch : Edit
  stretch = record { place = place; drop = gone; put = put }

  -- what the stretch drops
  gone-is : dropped_by (es ++ stretch ∷ []) start ≡ dropped_by es start ++ take gone old
  gone-is =
      dropped-push es stretch start
      ∙ ap (λ (l : List ℕ). dropped_by es start ++ take gone l) (ap (λ (l : List ℕ). drop place l) led ∙ ap (λ (n : ℕ). drop n (front ++ old)) (sym counted) ∙ drop-append_seam front old)

  pub apart-stretch : IsApart es start old new → IsApart (es ++ stretch ∷ []) start rest tail
  apart-stretch w =
      let new-put = put-new w.order in
      record {
        order = order-rest w.order;
        put = λ x h. put-rest x (in_either x (put_by es) put (ap (λ (l : List ℕ). is_in x l) (sym (put-push es stretch)) ∙ h)) new-put;
        gone = λ x h. gone-tail x (in_either x (dropped_by es start) (take gone old) (ap (λ (l : List ℕ). is_in x l) (sym gone-is) ∙ h));
        apart = λ x h. false_from_ne_true (is_in x (dropped_by (es ++ stretch ∷ []) start)) (λ d.
            never x (in_either x (put_by es) put (ap (λ (l : List ℕ). is_in x l) (sym (put-push es stretch)) ∙ h)) (in_either x (dropped_by es start) (take gone old) (ap (λ (l : List ℕ). is_in x l) (sym gone-is) ∙ d)) new-put);
      }
    where
      in-old : (x : ℕ) → is_in x (take gone old) ≡ true → is_in x old ≡ true
      in-old x h = ap (λ (l : List ℕ). is_in x l) old-is ∙ in_left x (take gone old) rest h

      put-rest : (x : ℕ) → (is_in x (put_by es) ≡ true) ⊎ (is_in x put ≡ true) → ((y : ℕ) → is_in y put ≡ true → is_in y old ≡ false) → is_in x rest ≡ false
      put-rest x (inl h) f = false_from_ne_true (is_in x rest) (λ r. absurd (both_ways (is_in x old) (w.put x h) (ap (λ (l : List ℕ). is_in x l) old-is ∙ in_right x (take gone old) rest r)))
      put-rest x (inr h) f = false_from_ne_true (is_in x rest) (λ r. absurd (both_ways (is_in x old) (f x h) (ap (λ (l : List ℕ). is_in x l) old-is ∙ in_right x (take gone old) rest r)))

      gone-tail : (x : ℕ) → (is_in x (dropped_by es start) ≡ true) ⊎ (is_in x (take gone old) ≡ true) → is_in x tail ≡ false
      gone-tail x (inl h) = false_from_ne_true (is_in x tail) (λ t. absurd (both_ways (is_in x new) (w.gone x h) (ap (λ (l : List ℕ). is_in x l) new-is ∙ in_right x put tail t)))
      gone-tail x (inr h) = false_from_ne_true (is_in x tail) (λ t. absurd (both_ways (is_in x new) (strange x h) (ap (λ (l : List ℕ). is_in x l) new-is ∙ in_right x put tail t)))

      never : (x : ℕ) → (is_in x (put_by es) ≡ true) ⊎ (is_in x put ≡ true) → (is_in x (dropped_by es start) ≡ true) ⊎ (is_in x (take gone old) ≡ true) → ((y : ℕ) → is_in y put ≡ true → is_in y old ≡ false) → ⊥
      never x (inl p) (inl d) f = absurd (both_ways (is_in x (dropped_by es start)) (w.apart x p) d)
      never x (inl p) (inr g) f = absurd (both_ways (is_in x old) (w.put x p) (in-old x g))
      never x (inr p) (inl d) f = absurd (both_ways (is_in x new) (w.gone x d) (ap (λ (l : List ℕ). is_in x l) new-is ∙ in_left x put tail p))
      never x (inr p) (inr g) f = absurd (both_ways (is_in x old) (f x p) (in-old x g))
