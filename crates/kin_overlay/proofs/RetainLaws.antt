-- What a sketch keeps of the list before, and what its gaps come of.
use Rattle.std.proofs.Common.{◌≡◌, ◌⊎◌, inl, inr, refl, sym, ap, ap₂, ◌∙◌, subst, arith, List, [], ◌∷◌, ◌++◌, ℕ, ◌+◌, ◌*◌, ◌≤◌, Bool, true, false, not, ◌&&◌, cond, Option, Some, None, option_map, Contains}
use Rattle.std.specs.Prelude.{flat_map}
use Rattle.std.proofs.lemmas.Bool.Decides.{nat_tests}
use Rattle.std.proofs.lemmas.List.Elements.{Contains-append_right}
use Rattle.kin_algebra.specs.declared.sign.Sign.{Sign}
use Rattle.kin_algebra.proofs.Members.{contains_none, contains_head, contains_cases}
use Rattle.kin_motion.specs.declared.fact.Fact.{Fact}
use Rattle.kin_motion.specs.Merges.{Half.{A, B}, Breakpoint, is_of, slope_form, current_after}
use Rattle.kin_motion.specs.Scene.{Scene}
use Rattle.kin_overlay.specs.declared.draft.Draft.{Draft}
use Rattle.kin_overlay.specs.declared.draft.Across.{Across}
use Rattle.kin_overlay.specs.declared.record.Record.{Record}
use Rattle.kin_overlay.specs.declared.record.Next.{Next}
use Rattle.kin_overlay.specs.declared.standing.Standing.{Standing}
use Rattle.kin_overlay.specs.Filling.{gap_to}
use Rattle.kin_overlay.specs.Fingers.{AreNoted, seen_next, next_for}
use Rattle.kin_overlay.specs.Lists.{first_of}
use Rattle.kin_overlay.specs.Remembered.{place_of, breakpoints, slope_facts}
use Rattle.kin_overlay.specs.Repairing.{AtLeast, IsStill, IsStillKnown, has_turn, untold}
use Rattle.kin_overlay.specs.Seen.{seen}
use Rattle.kin_overlay.specs.Sketches.{is_next, is_known, is_gap, gaps}
use Rattle.kin_overlay.specs.Sketching.{IsSlopeOf}
use Rattle.kin_overlay.specs.Standings.{IsUnfailed}
use Rattle.kin_overlay.proofs.FillLaws.{gaps-cons}

-- ---- at least so many
pub least-behind : {X : Type 0} (P : X → Type 0) (xs ys : List X) (n : ℕ) → AtLeast P ys n → AtLeast P (xs ++ ys) n
least-behind P [] ys n k = k
least-behind P (x ∷ xs) ys n k = inl (least-behind P xs ys n k)

pub least-more : {X : Type 0} (P : X → Type 0) (xs ys : List X) (n : ℕ) (x : X) → Contains xs x → P x → AtLeast P ys n → AtLeast P (xs ++ ys) (n + 1)
least-more P [] ys n x c p k = absurd (contains_none x c)
least-more P (z ∷ xs) ys n x c p k = at (contains_cases z x xs c) (λ d. least-more P xs ys n x d p k)
  where
    at : (z ≡ x) ⊎ Contains xs x → (Contains xs x → AtLeast P (xs ++ ys) (n + 1)) → AtLeast P (z ∷ xs ++ ys) (n + 1)
    at (inl e) rest = inr (n, refl, subst P (sym e) p, least-behind P xs ys n k)
    at (inr d) rest = inl (rest d)

-- ---- breakpoints of which no turn is known
abbrev pub AreUntold : List Draft → Type 0
AreUntold [] = Unit {0}
AreUntold (d ∷ ds) = (d.across ≡ None) × AreUntold ds

pub untold-append : (xs ys : List Draft) → AreUntold xs → AreUntold ys → AreUntold (xs ++ ys)
untold-append [] ys p q = q
untold-append (x ∷ xs) ys p q = (p.0, untold-append xs ys p.1 q)

untold-one : (d : Draft) (ds : List Draft) → d.across ≡ None → untold (d ∷ ds) ≡ 1 + untold ds
untold-one d ds e = ap (λ (o : Option Across). cond {A = ℕ} (has_turn o) 0 1 + untold ds) e

told-one : (d : Draft) (ds : List Draft) (c : Across) → d.across ≡ Some c → untold (d ∷ ds) ≡ untold ds
told-one d ds c e = let q = ap (λ (o : Option Across). cond {A = ℕ} (has_turn o) 0 1 + untold ds) e in omega (arith, q)

gap-small : (d : Draft) (ds : List Draft) → gap_to d ds ≤ 1
gap-small d [] = omega arith
gap-small d (e ∷ es) = at (is_gap d e)
  where
    at : (b : Bool) → cond {A = ℕ} b 1 0 ≤ 1
    at true = omega arith
    at false = omega arith

-- two for each pay the links before and after
untold-link : (d : Draft) (bs : List Draft) → AreUntold bs → gap_to d bs + gaps bs ≤ 2 * untold bs
untold-link d [] k = omega arith
untold-link d (b ∷ bs) k =
    let small = gap-small d (b ∷ bs) in
    let next = untold-link b bs k.1 in
    let g = gaps-cons b bs in
    let u = untold-one b bs k.0 in
    omega (arith, small, next, g, u)

untold-all : (bs : List Draft) → AreUntold bs → gaps bs ≤ 2 * untold bs
untold-all [] k = omega arith
untold-all (b ∷ bs) k =
    let next = untold-link b bs k.1 in
    let g = gaps-cons b bs in
    let u = untold-one b bs k.0 in
    omega (arith, next, g, u)

pub untold-front : (bs ds : List Draft) (n : ℕ) → AreUntold bs → gaps ds ≤ 2 * untold ds + n → gaps (bs ++ ds) ≤ 2 * untold (bs ++ ds) + n
untold-front [] ds n k l = l
untold-front (b ∷ bs) ds n k l =
    let small = gap-small b (bs ++ ds) in
    let next = untold-front bs ds n k.1 l in
    let g = gaps-cons b (bs ++ ds) in
    let u = untold-one b (bs ++ ds) k.0 in
    omega (arith, small, next, g, u)

-- the link before some of which no turn is known is paid, or there are none
untold-between : (d : Draft) (bs ds : List Draft) (n : ℕ) → AreUntold bs → gaps ds ≤ 2 * untold ds + n → gap_to d ds + gaps ds ≤ 2 * untold ds + n → gap_to d (bs ++ ds) + gaps (bs ++ ds) ≤ 2 * untold (bs ++ ds) + n
untold-between d [] ds n k l m = m
untold-between d (b ∷ bs) ds n k l m =
    let small = gap-small d (b ∷ bs ++ ds) in
    let more = gap-small b (bs ++ ds) in
    let next = untold-front bs ds n k.1 l in
    let g = gaps-cons b (bs ++ ds) in
    let u = untold-one b (bs ++ ds) k.0 in
    omega (arith, small, more, next, g, u)

-- ---- what is drawn at the records
-- the record's breakpoint is drawn, and then some of which no turn is known
pub record IsDrawnAt (w : Standing) (a b : List ℕ) (r : Record) (part : List Draft) : Type 0 where
  pub draft : Draft
  pub more : List Draft
  pub part_is : part ≡ draft ∷ more
  pub untold : AreUntold more
  pub told : (c : Across) → draft.across ≡ Some c → draft.at ≡ r.at
  pub slope : draft.at ≡ r.at → IsSlopeOf w r draft.next
  pub kept : IsStill a b (place_of r) → IsStillKnown w r draft

-- that, or the record's breakpoint is no longer there
abbrev pub IsAt : Standing → List ℕ → List ℕ → Record → List Draft → Type 0
IsAt w a b r part = ((part ≡ []) × (IsStill a b (place_of r) → ⊥)) ⊎ IsDrawnAt w a b r part

abbrev pub AreAt : Standing → List ℕ → List ℕ → List Record → List Draft → Type 0
AreAt w a b [] ds = AreUntold ds
AreAt w a b (r ∷ rs) ds = (part rest : List Draft) × (ds ≡ part ++ rest) × IsAt w a b r part × AreAt w a b rs rest

module _ (w : Standing) (a b : List ℕ) where
  pub all-kept : (rs : List Record) (ds : List Draft) → AreAt w a b rs ds → (r : Record) → Contains rs r → IsStill a b (place_of r) → (d : Draft) × Contains ds d × IsStillKnown w r d
  all-kept [] ds k r c still = absurd (contains_none r c)
  all-kept (q ∷ rs) ds k r c still = at (contains_cases q r rs c) k.3 (λ e. all-kept rs k.1 k.4 r e still)
    where
      at : (q ≡ r) ⊎ Contains rs r → IsAt w a b q k.0 → (Contains rs r → (d : Draft) × Contains k.1 d × IsStillKnown w r d) → (d : Draft) × Contains ds d × IsStillKnown w r d
      at (inl e) (inl m) rest = absurd (m.1 (subst (λ (z : Record). IsStill a b (place_of z)) (sym e) still))
      at (inl e) (inr m) rest = (
        m.draft,
        subst (λ (l : List Draft). Contains l m.draft) (sym (k.2 ∙ ap (λ (l : List Draft). l ++ k.1) m.part_is)) (contains_head m.draft (m.more ++ k.1)),
        subst (λ (z : Record). IsStillKnown w z m.draft) e (m.kept (subst (λ (z : Record). IsStill a b (place_of z)) (sym e) still)),
      )
      at (inr e) m rest = let found = rest e in (found.0, subst (λ (l : List Draft). Contains l found.0) (sym k.2) (Contains-append_right k.0 k.1 found.0 found.1), found.2)

  -- ---- what the gaps come of
  abbrev pub IsLost : Record → Type 0
  IsLost r = IsStill a b (place_of r) → ⊥

  abbrev pub HasFailed : Fact → Type 0
  HasFailed f = IsUnfailed w.failed.now w.gone.now f → ⊥

  -- the link before is paid too, where what is drawn before is the record before with its slope
  pub record ArePaid (s : Scene) (rs : List Record) (ds : List Draft) : Type 0 where
    pub turns : ℕ
    pub slopes : ℕ
    pub lost_turns : AtLeast IsLost rs turns
    pub lost_slopes : AtLeast HasFailed (flat_map slope_facts rs) slopes
    pub paid : gaps ds ≤ 2 * untold ds + (turns + slopes)
    pub linked : (r : Record) (d : Draft) → option_map seen_next r.next ≡ next_for s (place_of r) (first_of (breakpoints rs)) → d.at ≡ r.at → d.next ≡ r.next → gap_to d ds + gaps ds ≤ 2 * untold ds + (turns + slopes)

  same-next : (o : Option Next) (e : Breakpoint) (t : Sign) (d : Draft) → option_map seen_next o ≡ Some (e, t) → seen d.at ≡ e → is_next o d ≡ true
  same-next None e t d q p = absurd cc
  same-next (Some n) e t d q p =
      let pair : seen_next n ≡ (e, t) = cc in
      let is : seen n.at ≡ seen d.at = ap (λ (x : Breakpoint × Sign). x.0) pair ∙ sym p in
      let l : n.at.left ≡ d.at.left = ap (λ (x : Breakpoint). x.left) is in
      let r : n.at.right ≡ d.at.right = ap (λ (x : Breakpoint). x.right) is in
      grind (arith, nat_tests, l, r)

  -- the slope of a record and the next one is no gap
  no-gap : (s : Scene) (r q : Record) (d e : Draft) → option_map seen_next r.next ≡ next_for s (place_of r) (Some (place_of q)) → d.at ≡ r.at → d.next ≡ r.next → e.at ≡ q.at → is_gap d e ≡ false
  no-gap s r q d e noted at next other =
      ap₂ (λ (x y : Breakpoint). not (is_of x.half y.half) && not (is_known d e)) (ap seen at) (ap seen other) ∙ by (is_of (place_of r).half (place_of q).half) refl
    where
      by : (t : Bool) → is_of (place_of r).half (place_of q).half ≡ t → not (is_of (place_of r).half (place_of q).half) && not (is_known d e) ≡ false
      by true h = ap (λ (t : Bool). not t && not (is_known d e)) h
      by false h =
          let some = noted ∙ ap (λ (t : Bool). cond t None (Some (place_of q, s.sign (slope_form (place_of r) (place_of q))))) h in
          let known : is_known d e ≡ true = ap (λ (o : Option Next). is_next o e) next ∙ same-next r.next (place_of q) (s.sign (slope_form (place_of r) (place_of q))) e some (ap seen other) in
          ap₂ (λ (t u : Bool). not t && not u) h known

  -- a gap that is none
  none-to : (d e : Draft) (es : List Draft) → is_gap d e ≡ false → gap_to d (e ∷ es) ≡ 0
  none-to d e es h = ap (λ (t : Bool). cond {A = ℕ} t 1 0) h

  pub are-paid : (s : Scene) (x y : ℕ) (rs : List Record) (ds : List Draft) → AreNoted s x y rs → AreAt w a b rs ds → ArePaid s rs ds
  are-paid s x y [] ds noted k = record {
    turns = 0;
    slopes = 0;
    lost_turns = refl;
    lost_slopes = refl;
    paid = let l = untold-all ds k in omega (arith, l);
    linked = λ r d p at next. let l = untold-link d ds k in omega (arith, l);
  }
  are-paid s x y (r ∷ rs) ds noted k = at k.3 (are-paid s (current_after A (place_of r) x) (current_after B (place_of r) y) rs k.1 noted.1 k.4)
    where
      at : IsAt w a b r k.0 → ArePaid s rs k.1 → ArePaid s (r ∷ rs) ds
      at (inl m) q = subst (ArePaid s (r ∷ rs)) (sym (k.2 ∙ ap (λ (l : List Draft). l ++ k.1) m.0))
          (record {
            turns = q.turns + 1;
            slopes = q.slopes;
            lost_turns = inr (q.turns, refl, m.1, q.lost_turns);
            lost_slopes = least-behind HasFailed (slope_facts r) (flat_map slope_facts rs) q.slopes q.lost_slopes;
            paid = let p = q.paid in omega (arith, p);
            linked = λ r0 d0 p at next. let small = gap-small d0 k.1 in let l = q.paid in omega (arith, small, l);
          })
      at (inr m) q = subst (ArePaid s (r ∷ rs)) (sym (k.2 ∙ ap (λ (l : List Draft). l ++ k.1) m.part_is)) (drawn m.draft.across refl)
        where
          front : gaps (m.more ++ k.1) ≤ 2 * untold (m.more ++ k.1) + (q.turns + q.slopes)
          front = untold-front m.more k.1 (q.turns + q.slopes) m.untold q.paid

          -- its turn is known: the link before is no gap, or paid already, and the link after it is paid
          told : (c : Across) → m.draft.across ≡ Some c → (n : ℕ) → AtLeast HasFailed (flat_map slope_facts (r ∷ rs)) n → gap_to m.draft (m.more ++ k.1) + gaps (m.more ++ k.1) ≤ 2 * untold (m.more ++ k.1) + (q.turns + n)
              → ArePaid s (r ∷ rs) (m.draft ∷ m.more ++ k.1)
          told c e n lost link =
              let g = gaps-cons m.draft (m.more ++ k.1) in
              let u = told-one m.draft (m.more ++ k.1) c e in
              record {
                turns = q.turns;
                slopes = n;
                lost_turns = inl q.lost_turns;
                lost_slopes = lost;
                paid = omega (arith, link, g, u);
                linked = λ r0 d0 p at next. let z = none-to d0 m.draft (m.more ++ k.1) (no-gap s r0 r d0 m.draft p at next (m.told c e)) in omega (arith, link, g, u, z);
              }

          by-slope : (c : Across) → m.draft.across ≡ Some c → IsSlopeOf w r m.draft.next → ArePaid s (r ∷ rs) (m.draft ∷ m.more ++ k.1)
          by-slope c e (inl same) =
              told c e q.slopes (least-behind HasFailed (slope_facts r) (flat_map slope_facts rs) q.slopes q.lost_slopes)
              (untold-between m.draft m.more k.1 (q.turns + q.slopes) m.untold q.paid (q.linked r m.draft noted.0.next (m.told c e) same))
          by-slope c e (inr failed) =
              told c e (q.slopes + 1) (least-more HasFailed (slope_facts r) (flat_map slope_facts rs) q.slopes failed.0 failed.1 failed.2 q.lost_slopes)
              (let small = gap-small m.draft (m.more ++ k.1) in let f = front in omega (arith, small, f))

          drawn : (o : Option Across) → m.draft.across ≡ o → ArePaid s (r ∷ rs) (m.draft ∷ m.more ++ k.1)
          drawn None e =
              let small = gap-small m.draft (m.more ++ k.1) in
              let f = front in
              let g = gaps-cons m.draft (m.more ++ k.1) in
              let u = untold-one m.draft (m.more ++ k.1) e in
              record {
                turns = q.turns;
                slopes = q.slopes;
                lost_turns = inl q.lost_turns;
                lost_slopes = least-behind HasFailed (slope_facts r) (flat_map slope_facts rs) q.slopes q.lost_slopes;
                paid = omega (arith, small, f, g, u);
                linked = λ r0 d0 p at next. let before = gap-small d0 (m.draft ∷ m.more ++ k.1) in omega (arith, before, small, f, g, u);
              }
          drawn (Some c) e = by-slope c e (m.slope (m.told c e))
