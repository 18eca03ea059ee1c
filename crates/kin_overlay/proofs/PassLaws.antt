-- Records that are passed at both ends of a list.
use Rattle.std.proofs.Common.{◌≡◌, ◌⊎◌, inl, inr, refl, sym, ap, ◌∙◌, subst, arith, List, [], ◌∷◌, ◌++◌, ℕ, zero, suc, ◌+◌, ◌-◌, ◌<◌, ◌≤◌, Bool, true, false, not, nat_eq, length, get_or, take, drop, Option, Some, None, Contains}
use Rattle.std.specs.Prelude.{slice_get}
use Rattle.std.proofs.lemmas.Bool.{both_ways}
use Rattle.std.proofs.lemmas.Bool.Decides.{nat_tests}
use Rattle.std.proofs.lemmas.List.{drop-drop, drop_all, drop_more, length-drop, take_more}
use Rattle.std.proofs.lemmas.List.Elements.{Contains-append_cases}
use Rattle.std.proofs.lemmas.Option.{slice_get_within, get_or_from_slice_get}
use Rattle.kin_algebra.proofs.Members.{contains_none, contains_cases}
use Rattle.kin_motion.specs.declared.fact.Fact.{Fact}
use Rattle.kin_motion.specs.declared.fact.Placed.{Placed}
use Rattle.kin_motion.specs.Merges.{slope_form}
use Rattle.kin_motion.specs.Numbers.{is_in}
use Rattle.kin_overlay.specs.declared.record.Record.{Record}
use Rattle.kin_overlay.specs.declared.record.Next.{Next}
use Rattle.kin_overlay.specs.declared.standing.Standing.{Standing}
use Rattle.kin_overlay.specs.Overlays.{names_any}
use Rattle.kin_overlay.specs.Passing.{begins_with, put_of, IsUntouched, IsFollowed, IsLinkedAt, AreUntouched, IsEndOf}
use Rattle.kin_overlay.specs.Remembered.{place_of, turn_fact, slope_facts_of, slope_facts}
use Rattle.kin_overlay.specs.Seen.{seen}
use Rattle.kin_overlay.specs.Spans.{IsTaken, IsPassed, AreLinked, IsClosed}
use Rattle.kin_overlay.specs.Standings.{IsUnfailed}
use Rattle.kin_overlay.proofs.TraceLaws.{drop-at}

-- ---- no fact of the record has failed
begins-itself : (x : ℕ) → nat_eq x x ≡ true
begins-itself x = grind (arith, nat_tests)

pub not-doubted : (failed : List Placed) (gone : List ℕ) (f : Fact) (x : ℕ) → begins_with f.form x ≡ true → ((p : Placed) → Contains failed p → begins_with p.fact.form x ≡ false) → names_any f.form gone ≡ false → IsUnfailed failed gone f
not-doubted failed gone f x begins none free = record {
  not_failed = λ p c e. absurd (both_ways (begins_with f.form x) (ap (λ (g : Fact). begins_with g.form x) (sym e) ∙ none p c) begins);
  not_named = free;
}

slope-begins : (r : Record) (o : Option Next) (f : Fact) → Contains (slope_facts_of (place_of r) o) f → begins_with f.form r.at.left ≡ true
slope-begins r None f c = absurd (contains_none f c)
slope-begins r (Some n) f c = at (contains_cases _ f [] c)
  where
    at : (record { form = slope_form (place_of r) (seen n.at); sign = n.slope } ≡ f) ⊎ Contains [] f → begins_with f.form r.at.left ≡ true
    at (inl e) = ap (λ (g : Fact). begins_with g.form r.at.left) (sym e) ∙ begins-itself r.at.left
    at (inr d) = absurd (contains_none f d)

pub not-so : (b : Bool) → not b ≡ true → b ≡ false
not-so true e = absurd cc
not-so false e = refl

pub untouched : (w : Standing) (put_a put_b : List ℕ) (r : Record) → ((p : Placed) → Contains w.failed.now p → begins_with p.fact.form r.at.left ≡ false) → names_any (turn_fact r).form w.gone.now ≡ false
    → ((f : Fact) → Contains (slope_facts r) f → names_any f.form w.gone.now ≡ false) → is_in r.at.right (put_of r.at.half put_a put_b) ≡ false → IsUntouched w put_a put_b r
untouched w put_a put_b r none turn slope unput = record {
  turn = not-doubted w.failed.now w.gone.now (turn_fact r) r.at.left (begins-itself r.at.left) none turn;
  slope = λ f c. not-doubted w.failed.now w.gone.now f r.at.left (slope-begins r r.next f c) none (slope f c);
  unput = unput;
}

-- ---- each is followed as it remembers
linked-behind : (x : Record) (xs : List Record) (k : ℕ) → IsLinkedAt (x ∷ xs) (suc k) → IsLinkedAt xs k
linked-behind x xs k linked = λ r at. let same : suc k + 1 ≡ suc (k + 1) = omega arith in subst (λ (n : ℕ). IsFollowed r (slice_get (x ∷ xs) n)) same (linked r at)

linked-all : (rs : List Record) → ((k : ℕ) → IsLinkedAt rs k) → AreLinked rs
linked-all [] all = tt
linked-all (x ∷ []) all = tt
linked-all (x ∷ y ∷ ys) all = (all 0 x refl, linked-all (y ∷ ys) (λ k. linked-behind x (y ∷ ys) k (all (suc k))))

pub linked-front : (rs : List Record) (n : ℕ) → ((k : ℕ) → k < n → IsLinkedAt rs k) → AreLinked (take n rs)
linked-front rs zero all = tt
linked-front [] (suc n) all = tt
linked-front (x ∷ xs) (suc zero) all = tt
linked-front (x ∷ []) (suc (suc n)) all = tt
linked-front (x ∷ y ∷ ys) (suc (suc n)) all = (all 0 (omega arith) x refl, linked-front (y ∷ ys) (suc n) (λ k l. linked-behind x (y ∷ ys) k (all (suc k) (omega (arith, l)))))

pub linked-back : (rs : List Record) (n : ℕ) → ((k : ℕ) → n ≤ k → IsLinkedAt rs k) → AreLinked (drop n rs)
linked-back rs zero all = linked-all rs (λ k. all k (omega arith))
linked-back [] (suc n) all = tt
linked-back (x ∷ xs) (suc n) all = linked-back xs n (λ k l. linked-behind x xs k (all (suc k) (omega (arith, l))))

pub linked-none : (rs : List Record) (n : ℕ) → length rs ≤ n → (k : ℕ) → n ≤ k → IsLinkedAt rs k
linked-none rs n l k m r at = absurd (let i = slice_get_within rs k r at in omega (arith, l, m, i))

closed-all : (rs : List Record) → ((k : ℕ) → IsLinkedAt rs k) → IsClosed rs
closed-all [] all = tt
closed-all (x ∷ []) all = all 0 x refl
closed-all (x ∷ y ∷ ys) all = closed-all (y ∷ ys) (λ k. linked-behind x (y ∷ ys) k (all (suc k)))

pub closed-back : (rs : List Record) (n : ℕ) → ((k : ℕ) → n ≤ k → IsLinkedAt rs k) → IsClosed (drop n rs)
closed-back rs zero all = closed-all rs (λ k. all k (omega arith))
closed-back [] (suc n) all = tt
closed-back (x ∷ xs) (suc n) all = closed-back xs n (λ k l. linked-behind x xs k (all (suc k) (omega (arith, l))))

-- ---- one more is passed
passed-more : (rs : List Record) (r : Record) (a b first second first' second' : List ℕ) → IsPassed rs a b first second → IsTaken r.at.half r first second first' second' → IsPassed (rs ++ r ∷ []) a b first' second'
passed-more [] r a b first second first' second' p t =
    (first', second', subst (λ (l : List ℕ). IsTaken r.at.half r a l first' second') p.1 (subst (λ (l : List ℕ). IsTaken r.at.half r l second first' second') p.0 t), (refl, refl))
passed-more (q ∷ rs) r a b first second first' second' p t = (p.0, p.1, p.2, passed-more rs r p.0 p.1 first second first' second' p.3 t)

each-more : (P : Record → Type 0) (xs : List Record) (r : Record) → ((q : Record) → Contains xs q → P q) → P r → (q : Record) → Contains (xs ++ r ∷ []) q → P q
each-more P xs r before this q c = at (Contains-append_cases xs (r ∷ []) q c)
  where
    is : (r ≡ q) ⊎ Contains [] q → P q
    is (inl e) = subst P e this
    is (inr n) = absurd (contains_none q n)

    at : Contains xs q ⊎ Contains (r ∷ []) q → P q
    at (inl d) = before q d
    at (inr d) = is (contains_cases r q [] d)

each-before : (P : Record → Type 0) (r : Record) (xs : List Record) → P r → ((q : Record) → Contains xs q → P q) → (q : Record) → Contains (r ∷ xs) q → P q
each-before P r xs this behind q c = at (contains_cases r q xs c)
  where
    at : (r ≡ q) ⊎ Contains xs q → P q
    at (inl e) = subst P e this
    at (inr d) = behind q d

module _ (w : Standing) (put_a put_b : List ℕ) where
  pub untouched-none : (first second : List ℕ) → AreUntouched w put_a put_b [] first second first second
  untouched-none first second = record { passed = (refl, refl); each = λ r c. absurd (contains_none r c) }

  pub untouched-more : (rs : List Record) (k : ℕ) (r : Record) (a b first second first' second' : List ℕ) → slice_get rs k ≡ Some r → AreUntouched w put_a put_b (take k rs) a b first second → IsUntouched w put_a put_b r
      → IsTaken r.at.half r first second first' second' → AreUntouched w put_a put_b (take (k + 1) rs) a b first' second'
  untouched-more rs k r a b first second first' second' at u this taken =
      subst (λ (l : List Record). AreUntouched w put_a put_b l a b first' second') (sym (take_more rs k r (slice_get_within rs k r at) ∙ ap (λ (q : Record). take k rs ++ q ∷ []) (get_or_from_slice_get rs k r r at)))
      (record { passed = passed-more (take k rs) r a b first second first' second' u.passed taken; each = each-more (IsUntouched w put_a put_b) (take k rs) r u.each this })

  pub untouched-before : (rs : List Record) (k : ℕ) (r : Record) (first second first' second' x y : List ℕ) → slice_get rs k ≡ Some r → AreUntouched w put_a put_b (drop (k + 1) rs) first' second' x y → IsUntouched w put_a put_b r
      → IsTaken r.at.half r first second first' second' → AreUntouched w put_a put_b (drop k rs) first second x y
  untouched-before rs k r first second first' second' x y at u this taken =
      subst (λ (l : List Record). AreUntouched w put_a put_b l first second x y) (sym (drop-at rs k r at)) (record { passed = (first', second', taken, u.passed); each = each-before (IsUntouched w put_a put_b) r (drop (k + 1) rs) this u.each })

-- ---- ends of chains
pub end-some : (left chain : List ℕ) → IsEndOf left chain → 0 < length left
end-some left chain e = let l = ap (λ (l : List ℕ). length l) e.2 ∙ length-drop e.0 chain in let m = e.1 in omega (arith, l, m)

some-left : (xs : List ℕ) (n : ℕ) → 0 < length (drop n xs) → n < length xs
some-left xs n l = let e = length-drop n xs in omega (arith, l, e)

pub end-of : (left chain : List ℕ) (n : ℕ) → left ≡ drop n chain → 0 < length left → IsEndOf left chain
end-of left chain n e l = (n, some-left chain n (subst (λ (z : List ℕ). 0 < length z) e l), e)

pub end-itself : (chain : List ℕ) → 0 < length chain → IsEndOf chain chain
end-itself chain l = (0, l, refl)

pub end-end : (left middle chain : List ℕ) → IsEndOf left middle → IsEndOf middle chain → IsEndOf left chain
end-end left middle chain p q = end-of left chain (q.0 + p.0) (p.2 ∙ ap (λ (l : List ℕ). drop p.0 l) q.2 ∙ drop-drop p.0 q.0 chain) (end-some left middle p)

-- two ends of one length are one
pub same-end : (xs ys chain : List ℕ) → IsEndOf xs chain → IsEndOf ys chain → length xs ≡ length ys → xs ≡ ys
same-end xs ys chain p q same =
    let l = ap (λ (l : List ℕ). length l) p.2 ∙ length-drop p.0 chain in
    let m = ap (λ (l : List ℕ). length l) q.2 ∙ length-drop q.0 chain in
    let i = p.1 in
    let j = q.1 in
    p.2 ∙ ap (λ (n : ℕ). drop n chain) (omega (arith, l, m, i, j, same)) ∙ sym q.2

-- the last point
pub last-one : (xs : List ℕ) → 0 < length xs → drop (length xs - 1) xs ≡ get_or xs (length xs - 1) 0 ∷ []
last-one xs l = drop_more xs (length xs - 1) 0 (omega (arith, l)) ∙ ap (λ (ys : List ℕ). get_or xs (length xs - 1) 0 ∷ ys) (drop_all (length xs - 1 + 1) xs (omega (arith, l)))

-- none is passed yet at the end
pub untouched-end : (w : Standing) (put_a put_b : List ℕ) (rs : List Record) (n : ℕ) (a b : List ℕ) → length rs ≤ n → 0 < length a → 0 < length b
    → (x y : ℕ) × AreUntouched w put_a put_b (drop n rs) (drop (length a - 1) a) (drop (length b - 1) b) (x ∷ []) (y ∷ [])
untouched-end w put_a put_b rs n a b l p q =
    let x = get_or a (length a - 1) 0 in
    let y = get_or b (length b - 1) 0 in (
      x,
      y,
      subst (λ (l : List Record). AreUntouched w put_a put_b l (drop (length a - 1) a) (drop (length b - 1) b) (x ∷ []) (y ∷ [])) (sym (drop_all n rs l)) (record { passed = (sym (last-one a p), sym (last-one b q)); each = λ r c. absurd (contains_none r c) }),
    )
