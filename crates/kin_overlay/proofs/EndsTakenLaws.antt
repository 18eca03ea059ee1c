-- The records at both ends of a list that are taken over as they are.
use Rattle.std.proofs.Common.{◌≡◌, refl, sym, ap, ap₂, ◌∙◌, subst, arith, List, [], ◌∷◌, ◌++◌, ℕ, ◌<◌, Bool, true, cond, nat_eq, length, Option, Some, None}
use Rattle.std.specs.Prelude.{not, ◌&&◌, option_map}
use Rattle.std.proofs.lemmas.Bool.{eq-eqb, and_from}
use Rattle.kin_algebra.specs.declared.sign.Sign.{Sign}
use Rattle.kin_motion.specs.Scene.{Scene}
use Rattle.kin_motion.specs.Merges.{Half.{A, B}, Breakpoint, is_of, own_of, breakpoints_of, slope_form, other_current, current_after}
use Rattle.kin_overlay.specs.declared.breakpoint.Breakpoint.{Breakpoint as Pair}
use Rattle.kin_overlay.specs.declared.half.Half.{Half as Side}
use Rattle.kin_overlay.specs.declared.half.Half.TheVariants.{A as SideA, B as SideB}
use Rattle.kin_overlay.specs.declared.draft.Draft.{Draft}
use Rattle.kin_overlay.specs.declared.record.Record.{Record}
use Rattle.kin_overlay.specs.declared.record.Next.{Next}
use Rattle.kin_overlay.specs.Filling.{gap_to}
use Rattle.kin_overlay.specs.Fingers.{seen_next, next_for, IsNoted, AreNoted}
use Rattle.kin_overlay.specs.Lists.{first_of, front}
use Rattle.kin_overlay.specs.Seen.{half_of, seen}
use Rattle.kin_overlay.specs.Remembered.{place_of, breakpoints}
use Rattle.kin_overlay.specs.Sketches.{spots, is_next, is_told, is_known, is_gap, gaps, missing_turns, IsFit, AreFit}
use Rattle.kin_overlay.specs.Spans.{draft_by, drafts, IsTaken, IsPassed, IsNextOf, AreLinked, IsClosed}
use Rattle.kin_overlay.proofs.FillLaws.{gaps-cons}

pub spots-drafts : (rs : List Record) → spots (drafts rs) ≡ breakpoints rs
spots-drafts [] = refl
spots-drafts (r ∷ rs) = ap (λ (l : List Breakpoint). place_of r ∷ l) (spots-drafts rs)

-- ---- what a record that is taken says of the current points
pub record AreFronts (r : Record) (a b first second : List ℕ) : Type 0 where
  pub across : r.across ≡ other_current (place_of r).half (front a) (front b)
  pub a_front : front first ≡ current_after A (place_of r) (front a)
  pub b_front : front second ≡ current_after B (place_of r) (front b)

pub taken-fronts : (r : Record) (a b first second : List ℕ) → IsTaken r.at.half r a b first second → AreFronts r a b first second
taken-fronts r a b first second t = at r.at.half refl t
  where
    at : (h : Side) → r.at.half ≡ h → IsTaken h r a b first second → AreFronts r a b first second
    at SideA is (more, other, ea, eb, ef, es) = record {
      across = sym (ap (λ (h : Side). other_current (half_of h) (front a) (front b)) is ∙ ap front eb);
      a_front = ap front ef ∙ sym (ap (λ (h : Side). cond (is_of A (half_of h)) r.at.right (front a)) is);
      b_front = ap front es ∙ sym (ap (λ (h : Side). cond (is_of B (half_of h)) r.at.right (front b)) is);
    }
    at SideB is (more, other, eb, ea, es, ef) = record {
      across = sym (ap (λ (h : Side). other_current (half_of h) (front a) (front b)) is ∙ ap front ea);
      a_front = ap front ef ∙ sym (ap (λ (h : Side). cond (is_of A (half_of h)) r.at.right (front a)) is);
      b_front = ap front es ∙ sym (ap (λ (h : Side). cond (is_of B (half_of h)) r.at.right (front b)) is);
    }

-- ---- what is noted
-- a linked record notes the next one
pub linked-next : (s : Scene) (r e : Record) → IsFit s (draft_by r) → IsNextOf r.next r e → option_map seen_next r.next ≡ next_for s (place_of r) (Some (place_of e))
linked-next s r e fit l = at r.next refl l
  where
    there : Breakpoint × Sign
    there = (place_of e, s.sign (slope_form (place_of r) (place_of e)))

    at : (o : Option Next) → r.next ≡ o → IsNextOf o r e → option_map seen_next o ≡ next_for s (place_of r) (Some (place_of e))
    at None is same = sym (ap (λ (b : Bool). cond b None (Some there)) same)
    at (Some n) is (to, apart, placed) =
        let slope : n.slope ≡ s.sign (slope_form (place_of r) (place_of e)) = fit.slope n is ∙ ap (λ (p : Pair). s.sign (slope_form (place_of r) (seen p))) to in
        ap₂ (λ (p : Pair) (t : Sign). Some (seen p, t)) to slope ∙ sym (ap (λ (b : Bool). cond b None (Some there)) apart)

noted-by : (s : Scene) (r : Record) (a b first second : List ℕ) (o : Option Breakpoint) → IsFit s (draft_by r) → IsTaken r.at.half r a b first second → option_map seen_next r.next ≡ next_for s (place_of r) o → IsNoted s (front a) (front b) r o
noted-by s r a b first second o fit taken next = record {
  across = (taken-fronts r a b first second taken).across;
  turn = fit.turn (record { to = r.across; turn = r.turn }) refl;
  next = next;
}

-- noted after a record that is taken
noted-after : (s : Scene) (r : Record) (a b first second : List ℕ) (qs : List Record) → IsTaken r.at.half r a b first second → AreNoted s (front first) (front second) qs → AreNoted s (current_after A (place_of r) (front a)) (current_after B (place_of r) (front b)) qs
noted-after s r a b first second qs taken noted =
    let f = taken-fronts r a b first second taken in
    subst (λ (x : ℕ). AreNoted s x (current_after B (place_of r) (front b)) qs) f.a_front (subst (λ (y : ℕ). AreNoted s (front first) y qs) f.b_front noted)

-- what comes after a record of linked ones
link-split : (r : Record) (rs : List Record) (e : Record) → AreLinked (r ∷ (rs ++ e ∷ [])) → AreLinked (rs ++ e ∷ []) × ((qs : List Record) → first_of (breakpoints qs) ≡ Some (place_of e) → (x : Record) × (first_of (breakpoints (rs ++ qs)) ≡ Some (place_of x)) × IsNextOf r.next r x)
link-split r [] e (n, l) = (l, λ qs h. (e, h, n))
link-split r (x ∷ rs) e (n, l) = (l, λ qs h. (x, refl, n))

-- records that are passed are noted, where the last of them is noted anew
pub passed-noted : (s : Scene) (others : List Record) (e : Record) (a b first second : List ℕ) (qs : List Record) → AreLinked (others ++ e ∷ []) → IsPassed (others ++ e ∷ []) a b first second → AreFit s (drafts (others ++ e ∷ []))
    → first_of (breakpoints qs) ≡ Some (place_of e) → ((f g : List ℕ) → IsTaken e.at.half e f g first second → AreNoted s (front f) (front g) qs) → AreNoted s (front a) (front b) (others ++ qs)
passed-noted s [] e a b first second qs linked (f, g, taken, (ef, eg)) fit head tail = tail a b (subst (λ (l : List ℕ). IsTaken e.at.half e a b l second) (sym ef) (subst (λ (l : List ℕ). IsTaken e.at.half e a b f l) (sym eg) taken))
passed-noted s (r ∷ rs) e a b first second qs linked (f, g, taken, more) fit head tail =
    let k = link-split r rs e linked in
    let n = k.1 qs head in (
      noted-by s r a b f g (first_of (breakpoints (rs ++ qs))) fit.0 taken (linked-next s r n.0 fit.0 n.2 ∙ ap (next_for s (place_of r)) (sym n.1)),
      noted-after s r a b f g (rs ++ qs) taken (passed-noted s rs e f g first second qs k.0 more fit.1 head tail),
    )

-- records at the end are noted as they are
pub closed-noted : (s : Scene) (rs : List Record) (a b first second : List ℕ) → AreLinked rs → IsClosed rs → IsPassed rs a b first second → AreFit s (drafts rs) → AreNoted s (front a) (front b) rs
closed-noted s [] a b first second linked closed passed fit = tt
closed-noted s (r ∷ []) a b first second linked closed (f, g, taken, more) fit = (noted-by s r a b f g None fit.0 taken (ap (λ (o : Option Next). option_map seen_next o) closed), tt)
closed-noted s (r ∷ e ∷ es) a b first second (n, linked) closed (f, g, taken, more) fit =
    (noted-by s r a b f g (Some (place_of e)) fit.0 taken (linked-next s r e fit.0 n), noted-after s r a b f g (e ∷ es) taken (closed-noted s (e ∷ es) f g first second linked closed more fit.1))

-- ---- what is asked of them: nothing
pub passed-missing : (rs : List Record) (a b first second : List ℕ) (ds : List Draft) → IsPassed rs a b first second → missing_turns (front a) (front b) (drafts rs ++ ds) ≡ missing_turns (front first) (front second) ds
passed-missing [] a b first second ds (ef, es) = ap₂ (λ (x y : List ℕ). missing_turns (front x) (front y) ds) (sym ef) (sym es)
passed-missing (r ∷ rs) a b first second ds (f, g, taken, more) =
    let k = taken-fronts r a b f g taken in
    let told : cond {A = ℕ} (is_told (draft_by r) (other_current (place_of r).half (front a) (front b))) 0 1 ≡ 0 = ap (λ (b : Bool). cond {A = ℕ} b 0 1) (eq-eqb r.across (other_current (place_of r).half (front a) (front b)) k.across) in
    let moved = ap₂ (λ (x y : ℕ). missing_turns x y (drafts rs ++ ds)) k.a_front k.b_front in
    let rest = passed-missing rs f g first second ds more in
    omega (arith, told, moved, rest)

no-gap : (r e : Record) → IsNextOf r.next r e → cond {A = ℕ} (is_gap (draft_by r) (draft_by e)) 1 0 ≡ 0
no-gap r e l = at r.next refl l
  where
    at : (o : Option Next) → r.next ≡ o → IsNextOf o r e → cond {A = ℕ} (is_gap (draft_by r) (draft_by e)) 1 0 ≡ 0
    at None is same = ap (λ (b : Bool). cond {A = ℕ} (not b && not (is_known (draft_by r) (draft_by e))) 1 0) same
    at (Some n) is (to, apart, placed) =
        let known : is_known (draft_by r) (draft_by e) ≡ true = ap (λ (o : Option Next). is_next o (draft_by e)) is
        ∙ and_from (nat_eq n.at.left e.at.left) (nat_eq n.at.right e.at.right) (eq-eqb n.at.left e.at.left (ap (λ (p : Pair). p.left) to)) (eq-eqb n.at.right e.at.right (ap (λ (p : Pair). p.right) to)) in
        ap₂ (λ (x y : Bool). cond {A = ℕ} (not x && not y) 1 0) apart known

first-gap : (r : Record) (rs : List Record) (e : Record) (ds : List Draft) → AreLinked (r ∷ (rs ++ e ∷ [])) → gap_to (draft_by r) (drafts (rs ++ e ∷ []) ++ ds) ≡ 0
first-gap r [] e ds (n, l) = no-gap r e n
first-gap r (x ∷ rs) e ds (n, l) = no-gap r x n

pub linked-gaps : (others : List Record) (e : Record) (ds : List Draft) → AreLinked (others ++ e ∷ []) → gaps (drafts (others ++ e ∷ []) ++ ds) ≡ gaps (draft_by e ∷ ds)
linked-gaps [] e ds linked = refl
linked-gaps (r ∷ rs) e ds linked =
    let c = gaps-cons (draft_by r) (drafts (rs ++ e ∷ []) ++ ds) in
    let g = first-gap r rs e ds linked in
    let k = linked-gaps rs e ds (link-split r rs e linked).0 in
    omega (arith, c, g, k)

pub linked-none : (rs : List Record) → AreLinked rs → gaps (drafts rs) ≡ 0
linked-none [] linked = refl
linked-none (r ∷ []) linked = refl
linked-none (r ∷ e ∷ es) (n, linked) = let g = no-gap r e n in let k = linked-none (e ∷ es) linked in omega (arith, g, k)

-- ---- which breakpoints they are
place-is : (r : Record) (h : Side) → r.at.half ≡ h → place_of r ≡ record { half = half_of h; left = r.at.left; right = r.at.right }
place-is r h is = ap (λ (g : Side). record { half = half_of g; left = r.at.left; right = r.at.right }) is

taken-a : (r : Record) (a b f g first : List ℕ) (es : List Breakpoint) → IsTaken r.at.half r a b f g → own_of A es ++ breakpoints_of A first ≡ breakpoints_of A f → own_of A (place_of r ∷ es) ++ breakpoints_of A first ≡ breakpoints_of A a
taken-a r a b f g first es t k = at r.at.half refl t
  where
    own : Side → List Breakpoint
    own h = cond (is_of A (half_of h)) (place_of r ∷ own_of A es) (own_of A es) ++ breakpoints_of A first

    at : (h : Side) → r.at.half ≡ h → IsTaken h r a b f g → own r.at.half ≡ breakpoints_of A a
    at SideA is (more, other, ea, eb, ef, eg) = ap own is ∙ ap₂ (λ (x : Breakpoint) (l : List Breakpoint). x ∷ l) (place-is r SideA is) (k ∙ ap (breakpoints_of A) ef) ∙ sym (ap (breakpoints_of A) ea)
    at SideB is (more, other, eb, ea, eg, ef) = ap own is ∙ k ∙ ap (breakpoints_of A) ef

taken-b : (r : Record) (a b f g second : List ℕ) (es : List Breakpoint) → IsTaken r.at.half r a b f g → own_of B es ++ breakpoints_of B second ≡ breakpoints_of B g → own_of B (place_of r ∷ es) ++ breakpoints_of B second ≡ breakpoints_of B b
taken-b r a b f g second es t k = at r.at.half refl t
  where
    own : Side → List Breakpoint
    own h = cond (is_of B (half_of h)) (place_of r ∷ own_of B es) (own_of B es) ++ breakpoints_of B second

    at : (h : Side) → r.at.half ≡ h → IsTaken h r a b f g → own r.at.half ≡ breakpoints_of B b
    at SideA is (more, other, ea, eb, ef, eg) = ap own is ∙ k ∙ ap (breakpoints_of B) eg
    at SideB is (more, other, eb, ea, eg, ef) = ap own is ∙ ap₂ (λ (x : Breakpoint) (l : List Breakpoint). x ∷ l) (place-is r SideB is) (k ∙ ap (breakpoints_of B) eg) ∙ sym (ap (breakpoints_of B) eb)

pub passed-a : (rs : List Record) (a b first second : List ℕ) → IsPassed rs a b first second → own_of A (breakpoints rs) ++ breakpoints_of A first ≡ breakpoints_of A a
passed-a [] a b first second (ef, es) = ap (breakpoints_of A) ef
passed-a (r ∷ rs) a b first second (f, g, taken, more) = taken-a r a b f g first (breakpoints rs) taken (passed-a rs f g first second more)

pub passed-b : (rs : List Record) (a b first second : List ℕ) → IsPassed rs a b first second → own_of B (breakpoints rs) ++ breakpoints_of B second ≡ breakpoints_of B b
passed-b [] a b first second (ef, es) = ap (breakpoints_of B) es
passed-b (r ∷ rs) a b first second (f, g, taken, more) = taken-b r a b f g second (breakpoints rs) taken (passed-b rs f g first second more)

taken-some : (r : Record) (h : Side) (a b f g : List ℕ) → IsTaken h r a b f g → (0 < length a) × (0 < length b)
taken-some r SideA a b f g (more, other, ea, eb, ef, eg) = let k = ap length ea in let l = ap length eb in (omega (arith, k), omega (arith, l))
taken-some r SideB a b f g (more, other, eb, ea, eg, ef) = let k = ap length ea in let l = ap length eb in (omega (arith, k), omega (arith, l))

pub passed-some : (rs : List Record) (a b first second : List ℕ) → IsPassed rs a b first second → 0 < length first → 0 < length second → (0 < length a) × (0 < length b)
passed-some [] a b first second (ef, es) p q = (subst (λ (l : List ℕ). 0 < length l) ef p, subst (λ (l : List ℕ). 0 < length l) es q)
passed-some (r ∷ rs) a b first second (f, g, taken, more) p q = taken-some r r.at.half a b f g taken
