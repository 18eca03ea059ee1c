-- The records that two lists share at both ends.
use Rattle.std.proofs.Common.{◌≡◌, refl, sym, ap, ap₂, ◌∙◌, subst, arith, List, [], ◌∷◌, ◌++◌, ℕ, zero, suc, ◌+◌, ◌-◌, ◌<◌, ◌≤◌, false, nat_eq, length, get_or, take, drop, Some, None, Contains}
use Rattle.std.specs.Prelude.{slice_get}
use Rattle.std.proofs.lemmas.Bool.{both_ways, false_from_ne_true, or_parts, or_from, eqb-true}
use Rattle.std.proofs.lemmas.List.{append_assoc, length-append, length-take, length-drop, take-append-drop, drop_all}
use Rattle.std.proofs.lemmas.List.Elements.{Contains-append_left, Contains-append_right}
use Rattle.std.proofs.lemmas.Option.{same_Some, slice_get-get_or}
use Rattle.kin_algebra.proofs.Members.{contains_from_get}
use Rattle.kin_algebra.specs.declared.sign.Sign.TheVariants.{Minus}
use Rattle.kin_motion.specs.declared.fact.Fact.{Fact}
use Rattle.kin_motion.specs.Numbers.{is_in, IsOnce}
use Rattle.kin_overlay.specs.declared.half.Half.TheVariants.{A as SideA}
use Rattle.kin_overlay.specs.declared.record.Record.{Record}
use Rattle.kin_overlay.specs.declared.shared.Shared.{Shared}
use Rattle.kin_overlay.specs.Filling.{AreTakenOver}
use Rattle.kin_overlay.specs.Remembered.{place_of, left_points, slope_facts}
use Rattle.kin_overlay.specs.Reports.{AreShared, IsLeftBetween, IsBetween}
use Rattle.kin_overlay.specs.Spans.{back_part}
use Rattle.kin_overlay.proofs.CleanLaws.{take-less}
use Rattle.kin_overlay.proofs.HasLaws.{slope-is}
use Rattle.kin_overlay.proofs.LookupLaws.{in-lefts}

-- ---- a left point stands once
is-new : (x : ℕ) (q : Record) (rs : List Record) (r : Record) (p : ℕ) → IsOnce (left_points (q ∷ rs)) → slice_get rs p ≡ Some r → x ≡ r.at.left → nat_eq x q.at.left ≡ false
is-new x q rs r p once e is =
    false_from_ne_true (nat_eq x q.at.left)
    (λ same. absurd (both_ways (is_in q.at.left (left_points rs)) once.0 (ap (λ (n : ℕ). is_in n (left_points rs)) (sym (eqb-true x q.at.left same) ∙ is) ∙ in-lefts rs r (contains_from_get rs p r e))))

not-before : (rs : List Record) (p : ℕ) (r : Record) (n : ℕ) → IsOnce (left_points rs) → slice_get rs p ≡ Some r → n ≤ p → is_in r.at.left (left_points (take n rs)) ≡ false
not-before rs p r zero once e l = refl
not-before [] p r (suc n) once e l = refl
not-before (q ∷ rs) zero r (suc n) once e l = absurd (omega (arith, l))
not-before (q ∷ rs) (suc p) r (suc n) once e l = or_from (nat_eq r.at.left q.at.left) (is_in r.at.left (left_points (take n rs))) (is-new r.at.left q rs r p once e refl) (not-before rs p r n once.1 e (omega (arith, l)))

not-in-drop : (x n : ℕ) (rs : List Record) → is_in x (left_points rs) ≡ false → is_in x (left_points (drop n rs)) ≡ false
not-in-drop x zero rs h = h
not-in-drop x (suc n) [] h = refl
not-in-drop x (suc n) (q ∷ rs) h = not-in-drop x n rs (or_parts (nat_eq x q.at.left) (is_in x (left_points rs)) h).1

not-after : (rs : List Record) (p : ℕ) (r : Record) (n : ℕ) → IsOnce (left_points rs) → slice_get rs p ≡ Some r → p < n → is_in r.at.left (left_points (drop n rs)) ≡ false
not-after rs p r zero once e l = absurd (omega (arith, l))
not-after [] p r (suc n) once e l = refl
not-after (q ∷ rs) zero r (suc n) once e l = ap (λ (z : Record). is_in z.at.left (left_points (drop n rs))) (sym (same_Some q r e)) ∙ not-in-drop q.at.left n rs once.0
not-after (q ∷ rs) (suc p) r (suc n) once e l = not-after rs p r n once.1 e (omega (arith, l))

-- what a read behind the last record would give
abbrev pub no_record : Record
no_record = record { at = record { half = SideA; left = 0; right = 0 }; across = 0; turn = Minus; next = None }

-- a record that is read at a place
pub is-at : (rs records : List Record) (p : ℕ) → rs ≡ records → p < length rs → slice_get records p ≡ Some (get_or rs p no_record)
is-at rs records p e l = ap (λ (l : List Record). slice_get l p) (sym e) ∙ slice_get-get_or rs p no_record l

-- that of a record between both ends isn't one at either end
pub left-between : (rs : List Record) (p : ℕ) (r : Record) (w : Shared) → IsOnce (left_points rs) → slice_get rs p ≡ Some r → w.front ≤ p → p + w.back < length rs → IsLeftBetween w rs r.at.left
left-between rs p r w once e low high = (not-before rs p r w.front once e low, not-after rs p r (length rs - w.back) once e (omega (arith, high)))

-- ---- both ends are the same records
pub same-takes : (xs ys : List Record) (n : ℕ) → n ≤ length xs → n ≤ length ys → ((k : ℕ) → k < n → slice_get xs k ≡ slice_get ys k) → take n xs ≡ take n ys
same-takes xs ys zero p q same = refl
same-takes [] ys (suc n) p q same = absurd (omega (arith, p))
same-takes (x ∷ xs) [] (suc n) p q same = absurd (omega (arith, q))
same-takes (x ∷ xs) (y ∷ ys) (suc n) p q same = ap₂ (λ (z : Record) (l : List Record). z ∷ l) (same_Some x y (same zero (omega arith))) (same-takes xs ys n (omega (arith, p)) (omega (arith, q)) (λ k l. same (suc k) (omega (arith, l))))

-- what begins at a place
pub drop-get : (xs : List Record) (i : ℕ) → i < length xs → (x : Record) × (slice_get xs i ≡ Some x) × (drop i xs ≡ x ∷ drop (suc i) xs)
drop-get [] i l = absurd (omega (arith, l))
drop-get (x ∷ xs) zero l = (x, refl, refl)
drop-get (x ∷ xs) (suc i) l = drop-get xs i (omega (arith, l))

pub same-drops : (xs ys : List Record) (n : ℕ) → n ≤ length xs → n ≤ length ys → ((k : ℕ) → k < n → slice_get xs (length xs - (k + 1)) ≡ slice_get ys (length ys - (k + 1))) → drop (length xs - n) xs ≡ drop (length ys - n) ys
same-drops xs ys zero p q same = drop_all (length xs - 0) xs (omega arith) ∙ sym (drop_all (length ys - 0) ys (omega arith))
same-drops xs ys (suc n) p q same =
    let one = drop-get xs (length xs - suc n) (omega (arith, p)) in
    let other = drop-get ys (length ys - suc n) (omega (arith, q)) in
    let here : suc (length xs - suc n) ≡ length xs - n = omega (arith, p) in
    let there : suc (length ys - suc n) ≡ length ys - n = omega (arith, q) in
    let rest = same-drops xs ys n (omega (arith, p)) (omega (arith, q)) (λ k l. same k (omega (arith, l))) in
    let left : length xs - (n + 1) ≡ length xs - suc n = omega arith in
    let right : length ys - (n + 1) ≡ length ys - suc n = omega arith in
    let both : slice_get xs (length xs - suc n) ≡ slice_get ys (length ys - suc n) = ap (slice_get xs) (sym left) ∙ same n (omega arith) ∙ ap (slice_get ys) right in
    one.2 ∙ ap₂ (λ (z : Record) (l : List Record). z ∷ l) (same_Some one.0 other.0 (sym one.1 ∙ both ∙ other.1)) (ap (λ (m : ℕ). drop m xs) here ∙ rest ∙ sym (ap (λ (m : ℕ). drop m ys) there)) ∙ sym other.2

-- what is between both ends of one list is between those of the other
pub shared-between : (w : Shared) (xs ys : List Record) (x : ℕ) → AreShared w xs ys → IsLeftBetween w xs x → IsLeftBetween w ys x
shared-between w xs ys x shared (front, back) =
    let one = shared.room in
    let other = shared.other_room in
    let fronts = same-takes xs ys w.front (omega (arith, one)) (omega (arith, other)) shared.front_is in
    let backs = same-drops xs ys w.back (omega (arith, one)) (omega (arith, other)) shared.back_is in
    (ap (λ (l : List Record). is_in x (left_points l)) (sym fronts) ∙ front, ap (λ (l : List Record). is_in x (left_points l)) (sym backs) ∙ back)

-- the slope of a record begins with its left point
pub slope-between : (w : Shared) (rs : List Record) (r : Record) (f : Fact) → IsLeftBetween w rs r.at.left → Contains (slope_facts r) f → IsBetween w rs f.form
slope-between w rs r f between own = let v = slope-is (place_of r) r.next f own in subst (IsBetween w rs) (sym v.2) between

-- ---- a search between both ends
parts : (rs : List Record) (m n : ℕ) → m ≤ n → rs ≡ take m rs ++ (drop m (take n rs) ++ drop n rs)
parts rs m n l = sym (take-append-drop n rs) ∙ ap (λ (l : List Record). l ++ drop n rs) (sym (take-append-drop m (take n rs)) ∙ ap (λ (l : List Record). l ++ drop m (take n rs)) (take-less m n rs l)) ∙ append_assoc (take m rs) (drop m (take n rs)) (drop n rs)

in-both : (x : ℕ) (ps qs : List Record) → is_in x (left_points ps) ≡ false → is_in x (left_points qs) ≡ false → is_in x (left_points (ps ++ qs)) ≡ false
in-both x [] qs p q = q
in-both x (r ∷ ps) qs p q = let h = or_parts (nat_eq x r.at.left) (is_in x (left_points ps)) p in or_from (nat_eq x r.at.left) (is_in x (left_points (ps ++ qs))) h.0 (in-both x ps qs h.1 q)

pub found-none : (w : Shared) (rs : List Record) (x : ℕ) → w.front + w.back ≤ length rs → IsLeftBetween w rs x → is_in x (left_points (drop w.front (take (length rs - w.back) rs))) ≡ false → is_in x (left_points rs) ≡ false
found-none w rs x room (front, back) none =
    ap (λ (l : List Record). is_in x (left_points l)) (parts rs w.front (length rs - w.back) (omega (arith, room)))
    ∙ in-both x (take w.front rs) (drop w.front (take (length rs - w.back) rs) ++ drop (length rs - w.back) rs) front (in-both x (drop w.front (take (length rs - w.back) rs)) (drop (length rs - w.back) rs) none back)

pub found-one : (w : Shared) (rs : List Record) (r : Record) → w.front + w.back ≤ length rs → Contains (drop w.front (take (length rs - w.back) rs)) r → Contains rs r
found-one w rs r room c =
    let between = drop w.front (take (length rs - w.back) rs) in
    subst (λ (l : List Record). Contains l r) (sym (parts rs w.front (length rs - w.back) (omega (arith, room))))
    (Contains-append_right (take w.front rs) (between ++ drop (length rs - w.back) rs) r (Contains-append_left between (drop (length rs - w.back) rs) r c))

-- ---- records that are taken over are shared
get-left : (xs ys : List Record) (k : ℕ) → k < length xs → slice_get (xs ++ ys) k ≡ slice_get xs k
get-left [] ys k l = absurd (omega (arith, l))
get-left (x ∷ xs) ys zero l = refl
get-left (x ∷ xs) ys (suc k) l = get-left xs ys k (omega (arith, l))

get-right : (xs ys : List Record) (k : ℕ) → slice_get (xs ++ ys) (length xs + k) ≡ slice_get ys k
get-right [] ys k = ap (slice_get ys) (omega arith)
get-right (x ∷ xs) ys k = let next : length (x ∷ xs) + k ≡ suc (length xs + k) = omega arith in ap (slice_get (x ∷ (xs ++ ys))) next ∙ get-right xs ys k

get-take : (n : ℕ) (xs : List Record) (k : ℕ) → k < n → slice_get (take n xs) k ≡ slice_get xs k
get-take zero xs k l = absurd (omega (arith, l))
get-take (suc n) [] k l = refl
get-take (suc n) (x ∷ xs) zero l = refl
get-take (suc n) (x ∷ xs) (suc k) l = get-take n xs k (omega (arith, l))

get-drop : (n : ℕ) (xs : List Record) (k : ℕ) → slice_get (drop n xs) k ≡ slice_get xs (n + k)
get-drop zero xs k = ap (slice_get xs) (omega arith)
get-drop (suc n) [] k = let next : suc n + k ≡ suc (n + k) = omega arith in ap (slice_get []) (sym next)
get-drop (suc n) (x ∷ xs) k = let next : suc (n + k) ≡ suc n + k = omega arith in get-drop n xs k ∙ ap (slice_get (x ∷ xs)) next

pub taken-shared : (w : Shared) (old new : List Record) → w.front + w.back ≤ length old → AreTakenOver w old new → AreShared (record { front = w.front - 1; back = w.back }) old new
taken-shared w old new room (between, is) =
    let begun = take (w.front - 1) old in
    let back = back_part w old in
    let l1 = length-take (w.front - 1) old in
    let l2 = length-drop (length old - w.back) old in
    let all : length new ≡ (w.front - 1) + (length between + w.back) = let k = ap length is in let m = length-append begun (between ++ back) in let n = length-append between back in omega (arith, k, m, n, l1, l2, room) in
    record {
      room = omega (arith, room);
      other_room = omega (arith, all);
      front_is = λ k l.
          sym (ap (λ (rs : List Record). slice_get rs k) is ∙ get-left begun (between ++ back) k (omega (arith, l, l1, room)) ∙ get-take (w.front - 1) old k l);
      back_is = λ k l.
          let i = w.back - (k + 1) in
          let here : length new - (k + 1) ≡ length begun + (length between + i) = omega (arith, all, l, l1, room) in
          let there : (length old - w.back) + i ≡ length old - (k + 1) = omega (arith, l, room) in
          sym (ap (λ (rs : List Record). slice_get rs (length new - (k + 1))) is ∙ ap (slice_get (begun ++ (between ++ back))) here ∙ get-right begun (between ++ back) (length between + i) ∙ get-right between back i ∙ get-drop (length old - w.back) old i ∙ ap (slice_get old) there);
    }
