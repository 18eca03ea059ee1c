-- Fewer clean records at both ends of a list are clean, too.
use Rattle.std.proofs.Common.{◌≡◌, refl, sym, ap, ◌∙◌, subst, arith, List, [], ◌∷◌, ℕ, zero, suc, ◌+◌, ◌-◌, ◌≤◌, length, take, drop}
use Rattle.std.proofs.lemmas.List.{drop_all}
use Rattle.kin_overlay.specs.declared.half.Half.{Half as Side}
use Rattle.kin_overlay.specs.declared.half.Half.TheVariants.{A as SideA, B as SideB}
use Rattle.kin_overlay.specs.declared.record.Record.{Record}
use Rattle.kin_overlay.specs.declared.shared.Shared.{Shared}
use Rattle.kin_overlay.specs.Spans.{front_part, back_part, IsTaken, IsPassed, AreLinked, IsClosed, AreClean}

drop-drop : {X : Type 0} (i j : ℕ) (xs : List X) → drop i (drop j xs) ≡ drop (i + j) xs
drop-drop i zero xs = ap (λ (n : ℕ). drop n xs) (omega arith)
drop-drop i (suc j) [] = drop_all i [] (omega arith) ∙ sym (drop_all (i + suc j) [] (omega arith))
drop-drop i (suc j) (x ∷ xs) =
    let next : suc (i + j) ≡ i + suc j = omega arith in
    drop-drop i j xs ∙ ap (λ (n : ℕ). drop n (x ∷ xs)) next

pub take-less : {X : Type 0} (i j : ℕ) (xs : List X) → i ≤ j → take i (take j xs) ≡ take i xs
take-less zero j xs l = refl
take-less (suc i) zero xs l = absurd (omega arith)
take-less (suc i) (suc j) [] l = refl
take-less (suc i) (suc j) (x ∷ xs) l = ap (λ (ys : List _). x ∷ ys) (take-less i j xs (omega arith))

-- ---- in front
passed-take : (k : ℕ) (rs : List Record) (a b first second : List ℕ) → IsPassed rs a b first second → (f g : List ℕ) × IsPassed (take k rs) a b f g
passed-take zero rs a b first second p = (a, b, (refl, refl))
passed-take (suc k) [] a b first second p = (first, second, p)
passed-take (suc k) (r ∷ rs) a b first second (f, g, taken, more) = let (f', g', p) = passed-take k rs f g first second more in (f', g', (f, g, taken, p))

linked-take : (k : ℕ) (rs : List Record) → AreLinked rs → AreLinked (take k rs)
linked-take zero rs l = tt
linked-take (suc k) [] l = tt
linked-take (suc zero) (r ∷ rs) l = tt
linked-take (suc (suc k)) (r ∷ []) l = tt
linked-take (suc (suc k)) (r ∷ e ∷ es) (n, l) = (n, linked-take (suc k) (e ∷ es) l)

-- ---- at the end
taken-drop : (r : Record) (h : Side) (a b f g : List ℕ) → IsTaken h r a b f g → (i j : ℕ) × (f ≡ drop i a) × (g ≡ drop j b)
taken-drop r SideA a b f g (more, other, ea, eb, ef, eg) = (1, 0, ef ∙ sym (ap (drop 1) ea), eg)
taken-drop r SideB a b f g (more, other, eb, ea, eg, ef) = (0, 1, ef, eg ∙ sym (ap (drop 1) eb))

passed-drop : (k : ℕ) (rs : List Record) (a b first second : List ℕ) → IsPassed rs a b first second → (i j : ℕ) × IsPassed (drop k rs) (drop i a) (drop j b) first second
passed-drop zero rs a b first second p = (0, 0, p)
passed-drop (suc k) [] a b first second p = (0, 0, p)
passed-drop (suc k) (r ∷ rs) a b first second (f, g, taken, more) =
    let (i, j, p) = passed-drop k rs f g first second more in
    let (u, v, ef, eg) = taken-drop r r.at.half a b f g taken in
    let left : drop i f ≡ drop (i + u) a = ap (drop i) ef ∙ drop-drop i u a in
    let right : drop j g ≡ drop (j + v) b = ap (drop j) eg ∙ drop-drop j v b in
    (i + u, j + v, subst (λ (l : List ℕ). IsPassed (drop k rs) l (drop (j + v) b) first second) left (subst (λ (l : List ℕ). IsPassed (drop k rs) (drop i f) l first second) right p))

linked-drop : (k : ℕ) (rs : List Record) → AreLinked rs → AreLinked (drop k rs)
linked-drop zero rs l = l
linked-drop (suc k) [] l = tt
linked-drop (suc k) (r ∷ []) l = linked-drop k [] tt
linked-drop (suc k) (r ∷ e ∷ es) (n, l) = linked-drop k (e ∷ es) l

closed-drop : (k : ℕ) (rs : List Record) → IsClosed rs → IsClosed (drop k rs)
closed-drop zero rs c = c
closed-drop (suc k) [] c = tt
closed-drop (suc k) (r ∷ []) c = closed-drop k [] tt
closed-drop (suc k) (r ∷ e ∷ es) c = closed-drop k (e ∷ es) c

-- ---- both
pub clean-less : (span w : Shared) (rs : List Record) (a b : List ℕ) → AreClean span rs a b → w.front ≤ span.front → w.back ≤ span.back → AreClean w rs a b
clean-less span w rs a b c lf lb =
    let room = c.within in
    let front : take w.front (front_part span rs) ≡ front_part w rs = take-less w.front span.front rs lf in
    let (f, g, p) = passed-take w.front (front_part span rs) a b c.first c.second c.in_front in
    let gone = span.back - w.back in
    let places : gone + (length rs - span.back) ≡ length rs - w.back = omega (arith, room, lb) in
    let back : drop gone (back_part span rs) ≡ back_part w rs = drop-drop gone (length rs - span.back) rs ∙ ap (λ (n : ℕ). drop n rs) places in
    let (i, j, q) = passed-drop gone (back_part span rs) (drop c.m a) (drop c.n b) (c.x ∷ []) (c.y ∷ []) c.at_end in
    let at_a : drop i (drop c.m a) ≡ drop (i + c.m) a = drop-drop i c.m a in
    let at_b : drop j (drop c.n b) ≡ drop (j + c.n) b = drop-drop j c.n b in
    record {
      within = omega (arith, room, lf, lb);
      first = f;
      second = g;
      in_front = subst (λ (l : List Record). IsPassed l a b f g) front p;
      front_linked = subst AreLinked front (linked-take w.front (front_part span rs) c.front_linked);
      m = i + c.m;
      n = j + c.n;
      x = c.x;
      y = c.y;
      at_end = subst (λ (l : List Record). IsPassed l (drop (i + c.m) a) (drop (j + c.n) b) (c.x ∷ []) (c.y ∷ [])) back
          (subst (λ (l : List ℕ). IsPassed (drop gone (back_part span rs)) l (drop (j + c.n) b) (c.x ∷ []) (c.y ∷ [])) at_a (subst (λ (l : List ℕ). IsPassed (drop gone (back_part span rs)) (drop i (drop c.m a)) l (c.x ∷ []) (c.y ∷ [])) at_b q));
      back_linked = subst AreLinked back (linked-drop gone (back_part span rs) c.back_linked);
      closed = subst IsClosed back (closed-drop gone (back_part span rs) c.closed);
    }
