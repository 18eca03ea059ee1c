-- A sketch has each breakpoint whose turn is known at its seat.
use Rattle.std.proofs.Common.{◌≡◌, inl, inr, refl, sym, ap, ◌∙◌, subst, arith, List, [], ◌∷◌, ◌++◌, ℕ, zero, suc, ◌+◌, ◌<◌, Bool, true, false, cond, length, get_or, drop, append_assoc, Option, Some, None}
use Rattle.std.specs.Prelude.{slice_get}
use Rattle.std.proofs.lemmas.Bool.{both_ways}
use Rattle.std.proofs.lemmas.Bool.Decides.{nat_tests}
use Rattle.std.proofs.lemmas.List.{append-nil, drop-drop}
use Rattle.kin_algebra.proofs.Members.{contains_from_get}
use Rattle.kin_motion.specs.Merges.{Half.{A, B}, Half, is_of, other}
use Rattle.kin_motion.specs.Numbers.{is_in, IsOnce}
use Rattle.kin_motion.proofs.Members.{in_from_contains}
use Rattle.kin_chain.specs.Supports.{list_of}
use Rattle.kin_overlay.specs.declared.draft.Draft.{Draft}
use Rattle.kin_overlay.specs.declared.draft.Across.{Across}
use Rattle.kin_overlay.specs.declared.breakpoint.Breakpoint.{Breakpoint as Pair}
use Rattle.kin_overlay.specs.declared.half.Half.{Half as Side}
use Rattle.kin_overlay.specs.declared.half.Half.TheVariants.{A as SideA, B as SideB}
use Rattle.kin_overlay.specs.declared.record.Record.{Record}
use Rattle.kin_overlay.specs.declared.standing.Standing.{Standing}
use Rattle.kin_overlay.specs.Resorting.{AreOf, AreSeated, count}
use Rattle.kin_overlay.specs.Seats.{is_told_of, seat_in}
use Rattle.kin_overlay.specs.Seen.{half_of}
use Rattle.kin_overlay.specs.Sketches.{half_at, is_across}
use Rattle.kin_overlay.specs.Sketching.{blank, blanks, put_blanks, after_put, IsMissed, IsFound, IsStep, IsStepAt, IsTrace, IsSketchOf}
use Rattle.kin_overlay.proofs.HalfLaws.{itself, count-append, count-none, count-all}
use Rattle.kin_overlay.proofs.FollowLaws.{after-some}
use Rattle.kin_overlay.proofs.RetainLaws.{AreUntold, untold-append}
use Rattle.kin_overlay.proofs.SketchLaws.{one_behind}
use Rattle.kin_overlay.proofs.KeptLaws.{blanks-untold, put-untold}

-- a number of a list that has each once is at one place
one-place : (xs : List ℕ) (n m k : ℕ) → IsOnce xs → slice_get xs n ≡ Some k → slice_get xs m ≡ Some k → n ≡ m
one-place [] n m k once p q = absurd cc
one-place (x ∷ xs) zero zero k once p q = refl
one-place (x ∷ xs) zero (suc m) k once p q = absurd (let is : x ≡ k = cc in both_ways (is_in x xs) once.0 (subst (λ (n : ℕ). is_in n xs ≡ true) (sym is) (in_from_contains xs k (contains_from_get xs m k q))))
one-place (x ∷ xs) (suc n) zero k once p q = absurd (let is : x ≡ k = cc in both_ways (is_in x xs) once.0 (subst (λ (n : ℕ). is_in n xs ≡ true) (sym is) (in_from_contains xs k (contains_from_get xs n k p))))
one-place (x ∷ xs) (suc n) (suc m) k once p q = ap suc (one-place xs n m k once.1 p q)

first-left : (xs : List ℕ) (n : ℕ) → 0 < length (drop n xs) → slice_get xs n ≡ Some (get_or (drop n xs) 0 0)
first-left [] zero l = absurd (omega arith)
first-left [] (suc n) l = absurd (omega arith)
first-left (x ∷ xs) zero l = refl
first-left (x ∷ xs) (suc n) l = first-left xs n l

-- ---- what is drawn with no turn
blanks-own : (h : Side) (put xs : List ℕ) → AreOf (half_of h) (put_blanks h put xs)
blanks-own h put [] = tt
blanks-own h put (x ∷ []) = tt
blanks-own h put (x ∷ y ∷ xs) = at (is_in x put) (blanks-own h put (y ∷ xs))
  where
    at : (b : Bool) → AreOf (half_of h) (put_blanks h put (y ∷ xs)) → AreOf (half_of h) (cond b (blank h x y ∷ put_blanks h put (y ∷ xs)) [])
    at true k = (itself (half_of h), k)
    at false k = tt

pub after-drop : (h : Side) (put xs : List ℕ) → after_put put xs ≡ drop (length (put_blanks h put xs)) xs
after-drop h put [] = refl
after-drop h put (x ∷ []) = refl
after-drop h put (x ∷ y ∷ xs) = at (is_in x put) (after-drop h put (y ∷ xs))
  where
    at : (b : Bool) → after_put put (y ∷ xs) ≡ drop (length (put_blanks h put (y ∷ xs))) (y ∷ xs) → cond b (after_put put (y ∷ xs)) (x ∷ y ∷ xs) ≡ drop (length {A = Draft} (cond b (blank h x y ∷ put_blanks h put (y ∷ xs)) [])) (x ∷ y ∷ xs)
    at true e = e
    at false e = refl

module _ (a b : List ℕ) where
  no-seat : (d : Draft) (n : ℕ) → d.across ≡ None → seat_in a b d n ≡ false
  no-seat d n e = at (slice_get (list_of (other (half_at d)) a b) n)
    where
      at : (o : Option ℕ) → is_told_of o d ≡ false
      at None = refl
      at (Some k) = ap (λ (o : Option Across). is_across o k) e

  untold-seated : (front bs ds : List Draft) → AreUntold bs → AreSeated (seat_in a b) (front ++ bs) ds → AreSeated (seat_in a b) front (bs ++ ds)
  untold-seated front [] ds k s = subst (λ (l : List Draft). AreSeated (seat_in a b) l ds) (append-nil front) s
  untold-seated front (x ∷ bs) ds k s = (
    λ n t. absurd (both_ways (seat_in a b x n) (no-seat x n k.0) t),
    untold-seated (front ++ x ∷ []) bs ds k.1 (subst (λ (l : List Draft). AreSeated (seat_in a b) l ds) (sym (append_assoc front (x ∷ []) bs)) s),
  )

  -- the point of the turn is the first one left of the other chain
  told-seat : (d : Draft) (k m n : ℕ) (o : List ℕ) → IsOnce o → list_of (other (half_at d)) a b ≡ o → ((c : Across) → d.across ≡ Some c → c.to ≡ k) → slice_get o m ≡ Some k → seat_in a b d n ≡ true → n ≡ m
  told-seat d k m n o once is told there seat = at (slice_get o n) refl (ap (λ (l : List ℕ). is_told_of (slice_get l n) d) (sym is) ∙ seat)
    where
      by : (t : ℕ) (c : Option Across) → slice_get o n ≡ Some t → d.across ≡ c → is_across c t ≡ true → n ≡ m
      by t None p q h = absurd cc
      by t (Some c) p q h =
          let same : t ≡ c.to = grind (arith, nat_tests) in
          one-place o n m k once (p ∙ ap (λ (x : ℕ). Some x) (same ∙ told c q)) there

      at : (x : Option ℕ) → slice_get o n ≡ x → is_told_of x d ≡ true → n ≡ m
      at None p h = absurd cc
      at (Some t) p h = by t d.across p refl h

module _ (w : Standing) (put_a put_b a b : List ℕ) (a_once : IsOnce a) (b_once : IsOnce b) where
  abbrev Seated : List Draft → List Draft → Type 0
  Seated front ds = AreSeated (seat_in a b) front ds

  module _ (r : Record) (k : ℕ) (put ys left : List ℕ) (part front : List Draft) (f : IsFound w r put ys k left part) where
    abbrev own : Half
    own = half_of r.at.half

    abbrev more : List Draft
    more = put_blanks r.at.half put (drop 1 ys)

    half-is : half_at f.draft ≡ own
    half-is = ap (λ (p : Pair). half_of p.half) f.at

    part-own : AreOf own part
    part-own = subst (AreOf own) (sym f.part_is) (ap (λ (g : Half). is_of own g) half-is ∙ itself own, blanks-own r.at.half put (drop 1 ys))

    found-seated : (m : ℕ) (rest : List Draft) (o : List ℕ) → IsOnce o → list_of (other own) a b ≡ o → m ≡ count (other own) front → slice_get o m ≡ Some k → Seated (front ++ part) rest → Seated front (part ++ rest)
    found-seated m rest o once is counted there s = subst (λ (l : List Draft). Seated front (l ++ rest)) (sym f.part_is) (
      λ n t.
          told-seat a b f.draft k m n o once (ap (λ (h : Half). list_of (other h) a b) half-is ∙ is) (λ c q. (f.recalled.told c q).0) there t ∙ counted ∙ sym (ap (λ (h : Half). count (other h) front) half-is),
      untold-seated a b (front ++ f.draft ∷ []) more rest (put-untold r.at.half put (drop 1 ys))
          (subst (λ (l : List Draft). Seated l rest) (ap (λ (l : List Draft). front ++ l) f.part_is ∙ sym (append_assoc front (f.draft ∷ []) more)) s),
    )

    count-more : count own (front ++ part) ≡ count own front + length part
    count-more = count-append own front part ∙ ap (λ (n : ℕ). count own front + n) (count-all own part part-own)

    count-same : count (other own) (front ++ part) ≡ count (other own) front
    count-same = count-append (other own) front part ∙ (let z = count-none own part part-own in omega (arith, z))

    left-is : (xs : List ℕ) → ys ≡ drop (count own front) xs → left ≡ drop (count own (front ++ part)) xs
    left-is xs q =
        let long : length part ≡ 1 + length more = ap (λ (l : List Draft). length l) f.part_is ∙ omega arith in
        f.left_is ∙ after-drop r.at.half put (drop 1 ys) ∙ drop-drop (length more) 1 ys ∙ ap (λ (l : List ℕ). drop (1 + length more) l) q ∙ drop-drop (1 + length more) (count own front) xs
        ∙ ap (λ (n : ℕ). drop n xs) (let c = count-more in omega (arith, c, long))

    left-some : 0 < length left
    left-some = subst (λ (l : List ℕ). 0 < length l) (sym f.left_is) (after-some put (drop 1 ys) (let l = ap (λ (l : List ℕ). length l) (one_behind ys f.two) in omega (arith, l)))

  first-there : (xs ys : List ℕ) (n : ℕ) → ys ≡ drop n xs → 0 < length ys → slice_get xs n ≡ Some (get_or ys 0 0)
  first-there xs ys n q l = first-left xs n (subst (λ (z : List ℕ). 0 < length z) q l) ∙ ap (λ (z : List ℕ). Some (get_or z 0 0)) (sym q)

  seated-from : (rs : List Record) (ya yb : List ℕ) (front ds : List Draft) → ya ≡ drop (count A front) a → yb ≡ drop (count B front) b → 0 < length ya → 0 < length yb → IsTrace w put_a put_b rs ya yb ds → Seated front ds
  seated-from [] ya yb front ds p q l m t =
      let bs = blanks SideA ya ++ blanks SideB yb in
      subst (Seated front) (append-nil bs ∙ sym t) (untold-seated a b front bs [] (untold-append (blanks SideA ya) (blanks SideB yb) (blanks-untold SideA ya) (blanks-untold SideB yb)) tt)
  seated-from (r ∷ rs) ya yb front ds p q l m t = subst (Seated front) (sym t.4) (at r.at.half refl t.5 (λ front' p' q' l' m'. seated-from rs t.0 t.1 front' t.3 p' q' l' m' t.6))
    where
      missed : (left ys : List ℕ) → IsMissed r ys left t.2 → Seated front t.3 → Seated front (t.2 ++ t.3)
      missed left ys k s = subst (λ (l : List Draft). Seated front (l ++ t.3)) (sym k.part_is) s

      at : (h : Side) → r.at.half ≡ h → IsStepAt h w r put_a put_b ya yb t.0 t.1 t.2
          → ((front' : List Draft) → t.0 ≡ drop (count A front') a → t.1 ≡ drop (count B front') b → 0 < length t.0 → 0 < length t.1 → Seated front' t.3) → Seated front (t.2 ++ t.3)
      at SideA is step rest = by step.0
        where
          by : IsStep w r put_a ya (get_or yb 0 0) t.0 t.2 → Seated front (t.2 ++ t.3)
          by (inl k) = missed t.0 ya k (rest front (k.left_is ∙ p) (step.1 ∙ q) (subst (λ (z : List ℕ). 0 < length z) (sym k.left_is) l) (subst (λ (z : List ℕ). 0 < length z) (sym step.1) m))
          by (inr f) =
              let half : half_of r.at.half ≡ A = ap half_of is in
              let here = left-is r (get_or yb 0 0) put_a ya t.0 t.2 front f a (p ∙ ap (λ (h : Half). drop (count h front) a) (sym half)) ∙ ap (λ (h : Half). drop (count h (front ++ t.2)) a) half in
              let there = step.1 ∙ q ∙ ap (λ (n : ℕ). drop n b) (ap (λ (h : Half). count (other h) front) (sym half) ∙ sym (count-same r (get_or yb 0 0) put_a ya t.0 t.2 front f) ∙ ap (λ (h : Half). count (other h) (front ++ t.2)) half) in
              found-seated r (get_or yb 0 0) put_a ya t.0 t.2 front f (count B front) t.3 b b_once (ap (λ (h : Half). list_of (other h) a b) half) (ap (λ (h : Half). count (other h) front) (sym half)) (first-there b yb (count B front) q m)
              (rest (front ++ t.2) here there (left-some r (get_or yb 0 0) put_a ya t.0 t.2 front f) (subst (λ (z : List ℕ). 0 < length z) (sym step.1) m))
      at SideB is step rest = by step.0
        where
          by : IsStep w r put_b yb (get_or ya 0 0) t.1 t.2 → Seated front (t.2 ++ t.3)
          by (inl k) = missed t.1 yb k (rest front (step.1 ∙ p) (k.left_is ∙ q) (subst (λ (z : List ℕ). 0 < length z) (sym step.1) l) (subst (λ (z : List ℕ). 0 < length z) (sym k.left_is) m))
          by (inr f) =
              let half : half_of r.at.half ≡ B = ap half_of is in
              let here = left-is r (get_or ya 0 0) put_b yb t.1 t.2 front f b (q ∙ ap (λ (h : Half). drop (count h front) b) (sym half)) ∙ ap (λ (h : Half). drop (count h (front ++ t.2)) b) half in
              let there = step.1 ∙ p ∙ ap (λ (n : ℕ). drop n a) (ap (λ (h : Half). count (other h) front) (sym half) ∙ sym (count-same r (get_or ya 0 0) put_b yb t.1 t.2 front f) ∙ ap (λ (h : Half). count (other h) (front ++ t.2)) half) in
              found-seated r (get_or ya 0 0) put_b yb t.1 t.2 front f (count A front) t.3 a a_once (ap (λ (h : Half). list_of (other h) a b) half) (ap (λ (h : Half). count (other h) front) (sym half)) (first-there a ya (count A front) p l)
              (rest (front ++ t.2) there here (subst (λ (z : List ℕ). 0 < length z) (sym step.1) l) (left-some r (get_or ya 0 0) put_b yb t.1 t.2 front f))

  -- a sketch has each breakpoint whose turn is known at its seat
  pub seated : (out : List Draft) → 0 < length a → 0 < length b → IsSketchOf w put_a put_b a b out → Seated [] out
  seated out a_some b_some k =
      let start_a = put_blanks SideA put_a a in
      let start_b = put_blanks SideB put_b b in
      let own_a = blanks-own SideA put_a a in
      let own_b = blanks-own SideB put_b b in
      let counted_a : count A (start_a ++ start_b) ≡ length start_a = count-append A start_a start_b ∙ (let x = count-all A start_a own_a in let y = count-none B start_b own_b in omega (arith, x, y)) in
      let counted_b : count B (start_a ++ start_b) ≡ length start_b = count-append B start_a start_b ∙ (let x = count-none A start_a own_a in let y = count-all B start_b own_b in omega (arith, x, y)) in
      subst (Seated []) (append_assoc start_a start_b k.rest ∙ sym k.drawn)
      (untold-seated a b [] (start_a ++ start_b) k.rest (untold-append start_a start_b (put-untold SideA put_a a) (put-untold SideB put_b b))
      (seated-from w.list.now.records (after_put put_a a) (after_put put_b b) (start_a ++ start_b) k.rest (after-drop SideA put_a a ∙ ap (λ (n : ℕ). drop n a) (sym counted_a)) (after-drop SideB put_b b ∙ ap (λ (n : ℕ). drop n b) (sym counted_b))
      (after-some put_a a a_some) (after-some put_b b b_some) k.traced))
