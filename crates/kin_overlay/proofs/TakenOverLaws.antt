-- A list is filled in between the records that are taken over.
use Rattle.std.proofs.Common.{◌≡◌, inl, inr, refl, sym, ap, ap₂, ◌∙◌, subst, arith, List, [], ◌∷◌, ◌++◌, ℕ, zero, suc, ◌+◌, ◌-◌, ◌<◌, ◌≤◌, Bool, true, false, cond, nat_eq, length, take, drop, rules, Option}
use Rattle.std.specs.Prelude.{option_map, IfSome}
use Rattle.std.proofs.lemmas.Bool.{or_parts, or_from}
use Rattle.std.proofs.lemmas.List.{append-nil, append_assoc, length-append, length-drop, length-take, map-append}
use Rattle.std.proofs.Math.Seq.{take-append_seam}
use Rattle.kin_motion.specs.Numbers.{is_in, IsIn, IsOnce}
use Rattle.kin_motion.specs.Scene.{Scene}
use Rattle.kin_motion.specs.Merges.{Half.{A, B}, Half, Breakpoint, is_of, own_of, breakpoints_of, other_current, current_after}
use Rattle.kin_motion.proofs.Members.{in_head, in_tail}
use Rattle.kin_overlay.specs.declared.half.Half.{Half as Side}
use Rattle.kin_overlay.specs.declared.half.Half.TheVariants.{A as SideA, B as SideB}
use Rattle.kin_overlay.specs.declared.draft.Draft.{Draft}
use Rattle.kin_overlay.specs.declared.record.Record.{Record}
use Rattle.kin_overlay.specs.declared.record.Next.{Next}
use Rattle.kin_overlay.specs.Filling.{gap_to, gap_before, lefts, a_behind, b_behind, IsFronted, IsAt, IsFillingAt}
use Rattle.kin_overlay.specs.Fingers.{AreLive, seen_next, next_for, IsNoted, AreNoted}
use Rattle.kin_overlay.specs.Lists.{first_of, front}
use Rattle.kin_overlay.specs.Seen.{half_of, seen}
use Rattle.kin_overlay.specs.Remembered.{place_of, breakpoints, left_points}
use Rattle.kin_overlay.specs.Sketches.{spot_of, half_at, spots, is_told, gaps, missing_turns, IsFit, AreFit}
use Rattle.kin_overlay.specs.Spans.{draft_by, drafts, IsTaken, IsPassed, AreLinked, IsClosed}
use Rattle.kin_overlay.proofs.FillLaws.{gaps-cons, lefts-are, split-own, filled-none, filled-more}
use Rattle.kin_overlay.proofs.EndsTakenLaws.{spots-drafts, taken-fronts, passed-noted, closed-noted, passed-missing, linked-gaps, linked-none, passed-a, passed-b, passed-some}
use Rattle.kin_overlay.proofs.CleanLaws.{take-less}

-- ---- what comes next
pub first-spot : (ds : List Draft) → option_map spot_of (first_of ds) ≡ first_of (spots ds)
first-spot [] = refl
first-spot (d ∷ ds) = refl

first-gap : (d : Draft) (ds : List Draft) → gap_to d ds ≡ gap_before d (first_of ds)
first-gap d [] = refl
first-gap d (e ∷ es) = refl

pub first-fit : (s : Scene) (ds : List Draft) → AreFit s ds → IfSome (first_of ds) (IsFit s)
first-fit s [] fit = search rules
first-fit s (d ∷ ds) fit = fit.0

-- ---- parts of a list
pub fit-left : (s : Scene) (ds es : List Draft) → AreFit s (ds ++ es) → AreFit s ds
fit-left s [] es fit = tt
fit-left s (d ∷ ds) es fit = (fit.0, fit-left s ds es fit.1)

pub fit-right : (s : Scene) (ds es : List Draft) → AreFit s (ds ++ es) → AreFit s es
fit-right s [] es fit = fit
fit-right s (d ∷ ds) es fit = fit-right s ds es fit.1

in-left : (x : ℕ) (xs ys : List ℕ) → is_in x (xs ++ ys) ≡ false → is_in x xs ≡ false
in-left x [] ys h = refl
in-left x (z ∷ xs) ys h = let p = or_parts (nat_eq x z) (is_in x (xs ++ ys)) h in or_from (nat_eq x z) (is_in x xs) p.0 (in-left x xs ys p.1)

pub once-left : (xs ys : List ℕ) → IsOnce (xs ++ ys) → IsOnce xs
once-left [] ys once = tt
once-left (x ∷ xs) ys once = (in-left x xs ys once.0, once-left xs ys once.1)

pub once-fronts : (fronts : List Record) (rest : List Draft) → IsOnce (lefts (spots (drafts fronts ++ rest))) → IsOnce (left_points fronts)
once-fronts fronts rest once =
    once-left (left_points fronts) (lefts (spots rest))
    (subst IsOnce (ap lefts (map-append spot_of (drafts fronts) rest) ∙ map-append (λ (e : Breakpoint). e.left) (spots (drafts fronts)) (spots rest) ∙ ap (λ (l : List ℕ). l ++ lefts (spots rest)) (ap lefts (spots-drafts fronts) ∙ sym (lefts-are fronts))) once)

in-drop : (n : ℕ) (xs : List ℕ) (x : ℕ) (ys : List ℕ) → drop n xs ≡ x ∷ ys → is_in x xs ≡ true
in-drop zero xs x ys e = subst (λ (l : List ℕ). is_in x l ≡ true) (sym e) (in_head x ys)
in-drop (suc n) [] x ys e = absurd cc
in-drop (suc n) (z ∷ zs) x ys e = in_tail x z zs (in-drop n zs x ys e)

drop-more : (n : ℕ) (xs : List ℕ) (y : ℕ) (ys : List ℕ) → drop n xs ≡ y ∷ ys → drop (suc n) xs ≡ ys
drop-more zero [] y ys e = absurd cc
drop-more zero (x ∷ xs) y ys e = cc
drop-more (suc n) [] y ys e = absurd cc
drop-more (suc n) (x ∷ xs) y ys e = drop-more n xs y ys e

drop-same : (xs : List ℕ) (i j : ℕ) → length (drop i xs) ≡ length (drop j xs) → drop i xs ≡ drop j xs
drop-same [] zero zero e = refl
drop-same [] zero (suc j) e = refl
drop-same [] (suc i) zero e = refl
drop-same [] (suc i) (suc j) e = refl
drop-same (x ∷ xs) zero zero e = refl
drop-same (x ∷ xs) zero (suc j) e = absurd (let l = length-drop j xs in omega (arith, l, e))
drop-same (x ∷ xs) (suc i) zero e = absurd (let l = length-drop i xs in omega (arith, l, e))
drop-same (x ∷ xs) (suc i) (suc j) e = drop-same xs i j e

-- ---- where a chain stands
at-start : (h : Half) (chain : List ℕ) (ds : List Draft) → 0 < length chain → own_of h (spots ds) ≡ breakpoints_of h chain → IsAt h chain (front chain) ds
at-start h [] ds some own = absurd (omega (arith, some))
at-start h (x ∷ xs) ds some own = record { passed = 0; more = xs; left = refl; own = own }

at-step : (h : Half) (chain : List ℕ) (x : ℕ) (d : Draft) (rest : List Draft) → IsAt h chain x (d ∷ rest) → IsAt h chain (current_after h (spot_of d) x) rest
at-step h chain x d rest i = at (is_of h (half_at d)) refl
  where
    own : Bool → List Breakpoint
    own b = cond b (spot_of d ∷ own_of h (spots rest)) (own_of h (spots rest))

    at : (b : Bool) → is_of h (half_at d) ≡ b → IsAt h chain (current_after h (spot_of d) x) rest
    at true e =
        let s = split-own h (x ∷ i.more) (spot_of d) (own_of h (spots rest)) (sym (ap own e) ∙ i.own) in
        let tail : i.more ≡ d.at.right ∷ s.0 = let same = s.1 in cc in
        let left : drop (suc i.passed) chain ≡ d.at.right ∷ s.0 = drop-more i.passed chain x i.more i.left ∙ tail in
        subst (λ (b : Bool). IsAt h chain (cond b d.at.right x) rest) (sym e) (record { passed = suc i.passed; more = s.0; left = left; own = s.2 })
    at false e = subst (λ (b : Bool). IsAt h chain (cond b d.at.right x) rest) (sym e) (record { passed = i.passed; more = i.more; left = i.left; own = sym (ap own e) ∙ i.own })

at-a : (rs : List Record) (a b first second : List ℕ) (ds : List Draft) (chain : List ℕ) → IsPassed rs a b first second → IsAt A chain (front a) (drafts rs ++ ds) → IsAt A chain (front first) ds
at-a [] a b first second ds chain (ef, es) i = subst (λ (l : List ℕ). IsAt A chain (front l) ds) (sym ef) i
at-a (r ∷ rs) a b first second ds chain (f, g, taken, more) i =
    at-a rs f g first second ds chain more (subst (λ (x : ℕ). IsAt A chain x (drafts rs ++ ds)) (sym (taken-fronts r a b f g taken).a_front) (at-step A chain (front a) (draft_by r) (drafts rs ++ ds) i))

at-b : (rs : List Record) (a b first second : List ℕ) (ds : List Draft) (chain : List ℕ) → IsPassed rs a b first second → IsAt B chain (front b) (drafts rs ++ ds) → IsAt B chain (front second) ds
at-b [] a b first second ds chain (ef, es) i = subst (λ (l : List ℕ). IsAt B chain (front l) ds) (sym es) i
at-b (r ∷ rs) a b first second ds chain (f, g, taken, more) i =
    at-b rs f g first second ds chain more (subst (λ (x : ℕ). IsAt B chain x (drafts rs ++ ds)) (sym (taken-fronts r a b f g taken).b_front) (at-step B chain (front b) (draft_by r) (drafts rs ++ ds) i))

at-live : (h : Half) (chain live : List ℕ) (x : ℕ) (ds : List Draft) → AreLive live chain → IsAt h chain x ds → IsIn x live
at-live h chain live x ds live-all i = live-all x (in-drop i.passed chain x i.more i.left)

breaks-length : (h : Half) (xs : List ℕ) → 0 < length xs → length (breakpoints_of h xs) + 1 ≡ length xs
breaks-length h [] some = absurd (omega (arith, some))
breaks-length h (x ∷ []) some = refl
breaks-length h (x ∷ y ∷ ys) some = let k = breaks-length h (y ∷ ys) (omega arith) in omega (arith, k)

-- at the end it stands where the end of the chain begins
at-end : (h : Half) (chain : List ℕ) (x : ℕ) (ds : List Draft) (m : ℕ) → IsAt h chain x ds → own_of h (spots ds) ≡ breakpoints_of h (drop m chain) → 0 < length (drop m chain) → x ≡ front (drop m chain)
at-end h chain x ds m i own some =
    let one = breaks-length h (x ∷ i.more) (omega arith) in
    let other = breaks-length h (drop m chain) some in
    let both : length (breakpoints_of h (x ∷ i.more)) ≡ length (breakpoints_of h (drop m chain)) = ap length (sym i.own ∙ own) in
    let here = ap length i.left in
    let same : length (drop i.passed chain) ≡ length (drop m chain) = omega (arith, one, other, both, here) in
    ap front (sym i.left ∙ drop-same chain i.passed m same)

-- ---- in front
taken-behind : (r : Record) (a b f g : List ℕ) → IsTaken r.at.half r a b f g → (front f ≡ a_behind r) × (front g ≡ b_behind r)
taken-behind r a b f g t = at r.at.half refl t
  where
    one : Side → ℕ
    one h = cond (is_of A (half_of h)) r.at.right r.across

    other : Side → ℕ
    other h = cond (is_of B (half_of h)) r.at.right r.across

    at : (h : Side) → r.at.half ≡ h → IsTaken h r a b f g → (front f ≡ one r.at.half) × (front g ≡ other r.at.half)
    at SideA is (more, rest, ea, eb, ef, eg) = (ap front ef ∙ sym (ap one is), ap front (eg ∙ eb) ∙ sym (ap other is))
    at SideB is (more, rest, eb, ea, eg, ef) = (ap front (ef ∙ ea) ∙ sym (ap one is), ap front eg ∙ sym (ap other is))

last-taken : (others : List Record) (last : Record) (a b first second : List ℕ) → IsPassed (others ++ last ∷ []) a b first second → (f g : List ℕ) × IsTaken last.at.half last f g first second
last-taken [] last a b first second (f, g, taken, (ef, eg)) = (a, b, subst (λ (l : List ℕ). IsTaken last.at.half last a b l second) (sym ef) (subst (λ (l : List ℕ). IsTaken last.at.half last a b f l) (sym eg) taken))
last-taken (r ∷ rs) last a b first second (f, g, taken, more) = last-taken rs last f g first second more

pub last-fit : (s : Scene) (others : List Record) (last : Record) (ds : List Draft) → AreFit s (drafts (others ++ last ∷ []) ++ ds) → IsFit s (draft_by last)
last-fit s [] last ds fit = fit.0
last-fit s (r ∷ rs) last ds fit = last-fit s rs last ds fit.1

-- the chains of a fill, all that is to be filled in, and the records that are taken over in front
pub record AreFilledFrom (s : Scene) (a b : List ℕ) (fronts : List Record) (rest : List Draft) : Type 0 where
  pub a_some : 0 < length a
  pub b_some : 0 < length b
  pub a_live : AreLive s.live a
  pub b_live : AreLive s.live b
  pub fit : AreFit s (drafts fronts ++ rest)
  pub of_a : own_of A (spots (drafts fronts ++ rest)) ≡ breakpoints_of A a
  pub of_b : own_of B (spots (drafts fronts ++ rest)) ≡ breakpoints_of B b
  pub first : List ℕ
  pub second : List ℕ
  pub passed : IsPassed fronts a b first second
  pub linked : AreLinked fronts

turned-filled : (s : Scene) (a b : List ℕ) (others : List Record) (last : Record) (rest : List Draft) (rs : List Record) (x y before steps : ℕ) (seam : Option Next) → AreFilledFrom s a b (others ++ last ∷ []) rest → rs ≡ others ++ (record last { next = seam }) ∷ []
    → option_map seen_next seam ≡ next_for s (place_of last) (option_map spot_of (first_of rest)) → x ≡ a_behind last → y ≡ b_behind last → steps ≡ before + gap_before (draft_by last) (first_of rest)
    → IsFillingAt s a b (front a) (front b) (drafts (others ++ last ∷ []) ++ rest) x y rest rs before steps
turned-filled s a b others last rest rs x y before steps seam k records_are seam_is a_is b_is cost =
    let ends = last-taken others last a b k.first k.second k.passed in
    let behind = taken-behind last ends.0 ends.1 k.first k.second ends.2 in
    let ex : front k.first ≡ x = behind.0 ∙ sym a_is in
    let ey : front k.second ≡ y = behind.1 ∙ sym b_is in
    let at_a = subst (λ (n : ℕ). IsAt A a n rest) ex (at-a (others ++ last ∷ []) a b k.first k.second rest a k.passed (at-start A a (drafts (others ++ last ∷ []) ++ rest) k.a_some k.of_a)) in
    let at_b = subst (λ (n : ℕ). IsAt B b n rest) ey (at-b (others ++ last ∷ []) a b k.first k.second rest b k.passed (at-start B b (drafts (others ++ last ∷ []) ++ rest) k.b_some k.of_b)) in
    let missing = passed-missing (others ++ last ∷ []) a b k.first k.second rest k.passed in
    let moved = ap₂ (λ (n m : ℕ). missing_turns n m rest) ex ey in
    let closed = linked-gaps others last rest k.linked in
    let gap = gaps-cons (draft_by last) rest in
    let next = first-gap (draft_by last) rest in
    record {
      filled = record {
        whole = λ qs p n.
            subst (λ (l : List Record). AreNoted s (front a) (front b) l) (sym (ap (λ (l : List Record). l ++ qs) records_are ∙ append_assoc others (new ∷ []) qs))
            (passed-noted s others last a b k.first k.second (new ∷ qs) k.linked k.passed (fit-left s (drafts (others ++ last ∷ [])) rest k.fit) refl
            (λ f g taken. let t = taken-fronts last f g k.first k.second taken in (
              record {
                across = t.across;
                turn = (last-fit s others last rest k.fit).turn (record { to = last.across; turn = last.turn }) refl;
                next = seam_is ∙ ap (next_for s (place_of last)) (first-spot rest ∙ ap first_of (sym p));
              },
              subst (λ (n : ℕ). AreNoted s n (current_after B (place_of last) (front g)) qs) (sym ex ∙ t.a_front) (subst (λ (m : ℕ). AreNoted s x m qs) (sym ey ∙ t.b_front) n),
            )));
        places = ap (λ (l : List Breakpoint). l ++ spots rest) (ap breakpoints records_are ∙ map-append place_of others (new ∷ []) ∙ sym (map-append place_of others (last ∷ [])) ∙ sym (spots-drafts (others ++ last ∷ [])))
            ∙ sym (map-append spot_of (drafts (others ++ last ∷ [])) rest);
        fit = fit-right s (drafts (others ++ last ∷ [])) rest k.fit;
        a_live = at-live A a s.live x rest k.a_live at_a;
        b_live = at-live B b s.live y rest k.b_live at_b;
        cost = omega (arith, cost, missing, moved, closed, gap, next);
      };
      at_a = at_a;
      at_b = at_b;
    }
  where
    new : Record
    new = record last { next = seam }

-- after those in front
pub fronted-filled : (s : Scene) (a b : List ℕ) (fronts : List Record) (rest : List Draft) (rs : List Record) (x y before steps : ℕ) → AreFilledFrom s a b fronts rest → IsFronted s fronts (first_of rest) (front a) (front b) rs x y before steps
    → IsFillingAt s a b (front a) (front b) (drafts fronts ++ rest) x y rest rs before steps
fronted-filled s a b [] rest rs x y before steps k (inl (none, er, ex, ey, es)) =
    let at_a = at-start A a rest k.a_some k.of_a in
    let at_b = at-start B b rest k.b_some k.of_b in
    let here : IsFillingAt s a b (front a) (front b) rest (front a) (front b) rest rs before before = record {
      filled = filled-none s (front a) (front b) rest rs before er k.fit (at-live A a s.live (front a) rest k.a_live at_a) (at-live B b s.live (front b) rest k.b_live at_b);
      at_a = at_a;
      at_b = at_b;
    } in
    subst (λ (n : ℕ). IsFillingAt s a b (front a) (front b) rest n y rest rs before steps) (sym ex)
    (subst (λ (n : ℕ). IsFillingAt s a b (front a) (front b) rest (front a) n rest rs before steps) (sym ey)
    (subst (λ (n : ℕ). IsFillingAt s a b (front a) (front b) rest (front a) (front b) rest rs before n) (sym es) here))
fronted-filled s a b [] rest rs x y before steps k (inr v) = absurd (let l = ap length v.front_is ∙ length-append v.others (v.last ∷ []) in omega (arith, l))
fronted-filled s a b (r ∷ fs) rest rs x y before steps k (inl w) = absurd (let clash = w.0 in cc)
fronted-filled s a b (r ∷ fs) rest rs x y before steps k (inr v) =
    subst (λ (l : List Record). IsFillingAt s a b (front a) (front b) (drafts l ++ rest) x y rest rs before steps) (sym v.front_is)
    (turned-filled s a b v.others v.last rest rs x y before steps v.seam (subst (λ (l : List Record). AreFilledFrom s a b l rest) v.front_is k) v.records_are v.seam_is v.a_is v.b_is v.cost)

pub fronted-begins : (s : Scene) (old : List Record) (n : ℕ) (next : Option Draft) (a b : ℕ) (rs : List Record) (x y before steps : ℕ) → n ≤ length old → IsFronted s (take n old) next a b rs x y before steps → (more : List Record) × (rs ≡ take (n - 1) old ++ more)
fronted-begins s old n next a b rs x y before steps room (inl (none, er, ex, ey, es)) =
    let l = sym (length-take n old) ∙ ap length none in
    let zero-is : n - 1 ≡ 0 = omega (arith, l, room) in
    ([], er ∙ sym (ap (λ (m : ℕ). take m old ++ []) zero-is))
fronted-begins s old n next a b rs x y before steps room (inr v) =
    let l = sym (length-take n old) ∙ ap length v.front_is ∙ length-append v.others (v.last ∷ []) in
    let places : length v.others ≡ n - 1 = omega (arith, l, room) in
    let within : length v.others ≤ n = omega (arith, l, room) in
    let same : v.others ≡ take (n - 1) old = sym (take-append_seam v.others (v.last ∷ [])) ∙ ap (take (length v.others)) (sym v.front_is) ∙ take-less (length v.others) n old within ∙ ap (λ (m : ℕ). take m old) places in
    ((record v.last { next = v.seam }) ∷ [], v.records_are ∙ ap (λ (l : List Record). l ++ (record v.last { next = v.seam }) ∷ []) same)

-- ---- one more
pub filling-more : (s : Scene) (a b : List ℕ) (a0 b0 : ℕ) (all : List Draft) (x y : ℕ) (d : Draft) (rest : List Draft) (rs : List Record) (before steps steps' : ℕ) (r : Record) (next : Option Draft) (x' y' : ℕ)
    → next ≡ first_of rest → r.at ≡ d.at → IsNoted s x y r (option_map spot_of next) → steps' ≡ steps + cond (is_told d (other_current (half_at d) x y)) 0 1 + gap_before d next → x' ≡ current_after A (seen d.at) x → y' ≡ current_after B (seen d.at) y
    → IsFillingAt s a b a0 b0 all x y (d ∷ rest) rs before steps → IsFillingAt s a b a0 b0 all x' y' rest (rs ++ r ∷ []) before steps'
filling-more s a b a0 b0 all x y d rest rs before steps steps' r next x' y' next_is at noted count ex ey f =
    let first : option_map spot_of next ≡ first_of (spots rest) = ap (λ (o : Option Draft). option_map spot_of o) next_is ∙ first-spot rest in
    let gap : gap_before d next ≡ gap_to d rest = ap (gap_before d) next_is ∙ sym (first-gap d rest) in
    let cost : steps' ≡ steps + cond (is_told d (other_current (half_at d) x y)) 0 1 + gap_to d rest = omega (arith, count, gap) in
    record {
      filled = filled-more s a0 b0 all x y d rest rs before steps steps' r x' y' at (subst (λ (o : Option Breakpoint). IsNoted s x y r o) first noted) cost ex ey f.filled;
      at_a = subst (λ (n : ℕ). IsAt A a n rest) (sym ex) (at-step A a x d rest f.at_a);
      at_b = subst (λ (n : ℕ). IsAt B b n rest) (sym ey) (at-step B b y d rest f.at_b);
    }

-- ---- at the end
pub once-taken : (all ds : List Draft) (rs back : List Record) → IsOnce (lefts (spots all)) → ds ≡ drafts back → breakpoints rs ++ spots ds ≡ spots all → IsOnce (left_points (rs ++ back))
once-taken all ds rs back once is places =
    let whole : breakpoints (rs ++ back) ≡ spots all = map-append place_of rs back ∙ ap (λ (l : List Breakpoint). breakpoints rs ++ l) (sym (spots-drafts back) ∙ ap spots (sym is)) ∙ places in
    subst IsOnce (sym (lefts-are (rs ++ back) ∙ ap lefts whole)) once

pub filled-whole : (s : Scene) (a b : List ℕ) (a0 b0 : ℕ) (all : List Draft) (x y : ℕ) (rs : List Record) (before steps : ℕ) (back : List Record) (m n p q : ℕ) → IsFillingAt s a b a0 b0 all x y (drafts back) rs before steps
    → IsPassed back (drop m a) (drop n b) (p ∷ []) (q ∷ []) → AreLinked back → IsClosed back
    → AreNoted s a0 b0 (rs ++ back) × (breakpoints (rs ++ back) ≡ spots all) × (steps ≡ before + (missing_turns a0 b0 all + gaps all))
filled-whole s a b a0 b0 all x y rs before steps back m n p q f passed linked closed =
    let some = passed-some back (drop m a) (drop n b) (p ∷ []) (q ∷ []) passed (omega arith) (omega arith) in
    let own_a = ap (own_of A) (spots-drafts back) ∙ sym (append-nil (own_of A (breakpoints back))) ∙ passed-a back (drop m a) (drop n b) (p ∷ []) (q ∷ []) passed in
    let own_b = ap (own_of B) (spots-drafts back) ∙ sym (append-nil (own_of B (breakpoints back))) ∙ passed-b back (drop m a) (drop n b) (p ∷ []) (q ∷ []) passed in
    let ex : x ≡ front (drop m a) = at-end A a x (drafts back) m f.at_a own_a some.0 in
    let ey : y ≡ front (drop n b) = at-end B b y (drafts back) n f.at_b own_b some.1 in
    let noted = closed-noted s back (drop m a) (drop n b) (p ∷ []) (q ∷ []) linked closed passed f.filled.fit in
    let here = subst (λ (k : ℕ). AreNoted s k y back) (sym ex) (subst (λ (k : ℕ). AreNoted s (front (drop m a)) k back) (sym ey) noted) in
    let missing = ap (missing_turns (front (drop m a)) (front (drop n b))) (sym (append-nil (drafts back))) ∙ passed-missing back (drop m a) (drop n b) (p ∷ []) (q ∷ []) [] passed in
    let moved = ap₂ (λ (k l : ℕ). missing_turns k l (drafts back)) ex ey in
    let none = linked-none back linked in
    let cost = f.filled.cost in (
      f.filled.whole back (sym (spots-drafts back)) here,
      map-append place_of rs back ∙ ap (λ (l : List Breakpoint). breakpoints rs ++ l) (sym (spots-drafts back)) ∙ f.filled.places,
      omega (arith, cost, missing, moved, none),
    )
