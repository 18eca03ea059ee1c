-- What is missing in a sketch in order, counted by the facts of the list that is filled in.
use Rattle.std.proofs.Common.{◌≡◌, ◌⊎◌, inl, inr, refl, sym, ap, ap₂, ◌∙◌, subst, arith, List, [], ◌∷◌, ℕ, ◌+◌, ◌≤◌, Bool, true, false, not, cond, map, pos, Option, Some, None, option_map, Contains}
use Rattle.std.specs.Prelude.{flat_map}
use Rattle.std.proofs.lemmas.Bool.{both_ways, and_parts}
use Rattle.kin_algebra.proofs.Members.{contains_none, contains_head, contains_tail, contains_cases}
use Rattle.kin_motion.specs.declared.form.Form.TheVariants.{Line, Turn, Slope}
use Rattle.kin_motion.specs.declared.fact.Fact.{Fact}
use Rattle.kin_motion.specs.Merges.{Half.{A, B}, Half, Breakpoint, is_of, slope_form, other_current, current_after}
use Rattle.kin_motion.specs.Numbers.{is_in, IsOnce}
use Rattle.kin_motion.specs.Scene.{Scene}
use Rattle.kin_motion.proofs.Members.{in_head, in_tail}
use Rattle.kin_motion.proofs.SetLaws.{contains_mapped, filter-sound, filter-complete}
use Rattle.kin_overlay.specs.declared.draft.Draft.{Draft}
use Rattle.kin_overlay.specs.declared.draft.Across.{Across}
use Rattle.kin_overlay.specs.declared.record.Record.{Record}
use Rattle.kin_overlay.specs.declared.record.Next.{Next}
use Rattle.kin_overlay.specs.Fingers.{AreNoted, seen_next}
use Rattle.kin_overlay.specs.Filling.{lefts}
use Rattle.kin_overlay.specs.Remembered.{Remembered, place_of, breakpoints, turn_fact, slope_facts_of, slope_facts, facts_of}
use Rattle.kin_overlay.specs.Repairing.{AtLeast, has_turn, untold}
use Rattle.kin_overlay.specs.Resorting.{HaveSameHalves}
use Rattle.kin_overlay.specs.Seen.{seen}
use Rattle.kin_overlay.specs.Sketches.{spot_of, half_at, spots, of_half, is_known, is_gap, gaps, is_across, is_told, missing_turns}
use Rattle.kin_overlay.proofs.AtLeastLaws.{at_least-none, at_least-unless, at_least-append}
use Rattle.kin_overlay.proofs.HalfLaws.{itself}
use Rattle.kin_overlay.proofs.HasLaws.{Kinds, kinds, of-record, end-is, slope-is}

-- ---- the records of a list's facts
pub turn-of : (m : Remembered) (r : Record) → Contains (facts_of m) (turn_fact r) → (q : Record) × Contains m.records q × (turn_fact r ≡ turn_fact q)
turn-of m r c = at (kinds m (turn_fact r) c)
  where
    at : Kinds m (turn_fact r) → (q : Record) × Contains m.records q × (turn_fact r ≡ turn_fact q)
    at (inl (inl d)) = contains_mapped turn_fact m.records (turn_fact r) d
    at (inl (inr d)) =
        let v = of-record m.records (turn_fact r) d in
        let u = slope-is (place_of v.0) v.0.next (turn_fact r) v.2 in
        absurd (let clash : Turn r.at.left r.at.right r.across ≡ Slope v.0.at.left v.0.at.right u.0 u.1 = u.2 in cc)
    at (inr (inl d)) = absurd (let v = end-is m.left (turn_fact r) d in let clash : Turn r.at.left r.at.right r.across ≡ Line v.0 v.1 (pos 0) v.2 v.3 = v.4 in cc)
    at (inr (inr d)) = absurd (let v = end-is m.right (turn_fact r) d in let clash : Turn r.at.left r.at.right r.across ≡ Line v.0 v.1 (pos 0) v.2 v.3 = v.4 in cc)

pub slope-record : (m : Remembered) (r : Record) (f : Fact) → Contains (slope_facts r) f → Contains (facts_of m) f → (q : Record) × Contains m.records q × Contains (slope_facts q) f
slope-record m r f own c = at (slope-is (place_of r) r.next f own) (kinds m f c)
  where
    at : (k l : ℕ) × (f.form ≡ Slope r.at.left r.at.right k l) → Kinds m f → (q : Record) × Contains m.records q × Contains (slope_facts q) f
    at (k, l, is) (inl (inl d)) =
        let v = contains_mapped turn_fact m.records f d in
        absurd (let clash : Slope r.at.left r.at.right k l ≡ Turn v.0.at.left v.0.at.right v.0.across = sym is ∙ ap (λ (g : Fact). g.form) v.2 in cc)
    at (k, l, is) (inl (inr d)) = of-record m.records f d
    at (k, l, is) (inr (inl d)) = absurd (let v = end-is m.left f d in let clash : Slope r.at.left r.at.right k l ≡ Line v.0 v.1 (pos 0) v.2 v.3 = sym is ∙ v.4 in cc)
    at (k, l, is) (inr (inr d)) = absurd (let v = end-is m.right f d in let clash : Slope r.at.left r.at.right k l ≡ Line v.0 v.1 (pos 0) v.2 v.3 = sym is ∙ v.4 in cc)

-- ---- drafts
draft-left : (ds : List Draft) (d : Draft) → Contains ds d → is_in d.at.left (lefts (spots ds)) ≡ true
draft-left [] d c = absurd (contains_none d c)
draft-left (e ∷ ds) d c = at (contains_cases e d ds c) (draft-left ds d)
  where
    at : (e ≡ d) ⊎ Contains ds d → (Contains ds d → is_in d.at.left (lefts (spots ds)) ≡ true) → is_in d.at.left (lefts (spots (e ∷ ds))) ≡ true
    at (inl q) rest = subst (λ (z : Draft). is_in z.at.left (lefts (spots (e ∷ ds))) ≡ true) q (in_head e.at.left (lefts (spots ds)))
    at (inr k) rest = in_tail d.at.left e.at.left (lefts (spots ds)) (rest k)

-- two drafts with one left point are one
pub same-draft : (ds : List Draft) (d e : Draft) → IsOnce (lefts (spots ds)) → Contains ds d → Contains ds e → d.at.left ≡ e.at.left → d ≡ e
same-draft [] d e once c k q = absurd (contains_none d c)
same-draft (x ∷ ds) d e once c k q = at (contains_cases x d ds c) (contains_cases x e ds k) (λ g h. same-draft ds d e once.1 g h q)
  where
    only : (y z : Draft) → x ≡ y → Contains ds z → y.at.left ≡ z.at.left → ⊥
    only y z same there left =
        absurd (both_ways (is_in x.at.left (lefts (spots ds))) once.0 (ap (λ (n : ℕ). is_in n (lefts (spots ds))) (ap (λ (v : Draft). v.at.left) same ∙ left) ∙ draft-left ds z there))

    at : (x ≡ d) ⊎ Contains ds d → (x ≡ e) ⊎ Contains ds e → (Contains ds d → Contains ds e → d ≡ e) → d ≡ e
    at (inl g) (inl h) rest = sym g ∙ h
    at (inl g) (inr h) rest = absurd (only d e g h q)
    at (inr g) (inl h) rest = absurd (only e d h g (sym q))
    at (inr g) (inr h) rest = rest g h

-- what is put in order has the same drafts
pub moved : (old new : List Draft) → HaveSameHalves old new → (d : Draft) → Contains old d → Contains new d
moved old new same d c =
    let h = half_at d in
    let own = filter-complete (λ (e : Draft). is_of h (half_at e)) old d c (itself h) in
    (filter-sound (λ (e : Draft). is_of h (half_at e)) new d (subst (λ (l : List Draft). Contains l d) (sym (same h)) own)).0

untold-halves : (ds : List Draft) → untold (of_half A ds) + untold (of_half B ds) ≡ untold ds
untold-halves [] = refl
untold-halves (d ∷ ds) = at (half_at d) refl (untold-halves ds)
  where
    at : (h : Half) → half_at d ≡ h → untold (of_half A ds) + untold (of_half B ds) ≡ untold ds → untold (of_half A (d ∷ ds)) + untold (of_half B (d ∷ ds)) ≡ untold (d ∷ ds)
    at A e k =
        let p : untold (of_half A (d ∷ ds)) ≡ cond (has_turn d.across) 0 1 + untold (of_half A ds) = ap (λ (h : Half). untold (cond (is_of A h) (d ∷ of_half A ds) (of_half A ds))) e in
        let q : untold (of_half B (d ∷ ds)) ≡ untold (of_half B ds) = ap (λ (h : Half). untold (cond (is_of B h) (d ∷ of_half B ds) (of_half B ds))) e in
        omega (arith, p, q, k)
    at B e k =
        let p : untold (of_half A (d ∷ ds)) ≡ untold (of_half A ds) = ap (λ (h : Half). untold (cond (is_of A h) (d ∷ of_half A ds) (of_half A ds))) e in
        let q : untold (of_half B (d ∷ ds)) ≡ cond (has_turn d.across) 0 1 + untold (of_half B ds) = ap (λ (h : Half). untold (cond (is_of B h) (d ∷ of_half B ds) (of_half B ds))) e in
        omega (arith, p, q, k)

pub same-untold : (old new : List Draft) → HaveSameHalves old new → untold old ≡ untold new
same-untold old new same = let a = ap untold (same A) in let b = ap untold (same B) in omega (arith, a, b, untold-halves old, untold-halves new)

-- a draft without a turn lacks that to the current point
pub untold-missing : (x y : ℕ) (ds : List Draft) → untold ds ≤ missing_turns x y ds
untold-missing x y [] = omega arith
untold-missing x y (d ∷ ds) =
    let k = untold-missing (current_after A (spot_of d) x) (current_after B (spot_of d) y) ds in
    let l = one d.across (other_current (half_at d) x y) in omega (arith, k, l)
  where
    one : (o : Option Across) (n : ℕ) → cond {A = ℕ} (has_turn o) 0 1 ≤ cond (is_across o n) 0 1
    one None n = omega arith
    one (Some c) n = omega arith

-- ---- what is missing in a sketch in order is new in the list that is filled in
module _ (s : Scene) (known : List Fact) where
  abbrev pub New : Fact → Type 0
  New f = Contains known f → ⊥

  pub missing-new : (x y : ℕ) (rs : List Record) (ds : List Draft) → breakpoints rs ≡ spots ds → AreNoted s x y rs
      → ((q : Record) (d : Draft) → Contains rs q → Contains ds d → place_of q ≡ spot_of d → is_told d q.across ≡ false → New (turn_fact q)) → AtLeast New (map turn_fact rs) (missing_turns x y ds)
  missing-new x y [] [] p n h = refl
  missing-new x y [] (d ∷ ds) p n h = absurd cc
  missing-new x y (q ∷ rs) [] p n h = absurd cc
  missing-new x y (q ∷ rs) (d ∷ ds) p n h =
      let here : place_of q ≡ spot_of d = cc in
      let rest : breakpoints rs ≡ spots ds = cc in
      let more = missing-new (current_after A (place_of q) x) (current_after B (place_of q) y) rs ds rest n.1 (λ r e c k. h r e (contains_tail q r rs c) (contains_tail d e ds k)) in
      let across : q.across ≡ other_current (half_at d) x y = n.0.across ∙ ap (λ (e : Breakpoint). other_current e.half x y) here in
      at_least-unless New (turn_fact q) (map turn_fact rs) (missing_turns (current_after A (spot_of d) x) (current_after B (spot_of d) y) ds) (is_told d (other_current (half_at d) x y))
      (λ u. h q d (contains_head q rs) (contains_head d ds) here (ap (is_told d) across ∙ u))
      (subst (λ (e : Breakpoint). AtLeast New (map turn_fact rs) (missing_turns (current_after A e x) (current_after B e y) ds)) here more)

  pub gaps-new : (x y : ℕ) (rs : List Record) (ds : List Draft) → breakpoints rs ≡ spots ds → AreNoted s x y rs
      → ((q : Record) (d e : Draft) (n : Next) → Contains rs q → Contains ds d → place_of q ≡ spot_of d → q.next ≡ Some n → seen n.at ≡ spot_of e → is_known d e ≡ false → (f : Fact) → Contains (slope_facts q) f → New f)
      → AtLeast New (flat_map slope_facts rs) (gaps ds)
  gaps-new x y [] [] p n h = refl
  gaps-new x y [] (d ∷ ds) p n h = absurd cc
  gaps-new x y (q ∷ rs) [] p n h = absurd cc
  gaps-new x y (q ∷ rs) (d ∷ []) p n h = at_least-none New (flat_map slope_facts (q ∷ rs))
  gaps-new x y (q ∷ []) (d ∷ e ∷ ds) p n h = absurd cc
  gaps-new x y (q ∷ t ∷ rs) (d ∷ e ∷ ds) p n h =
      let rest : breakpoints (t ∷ rs) ≡ spots (e ∷ ds) = cc in
      let more = gaps-new (current_after A (place_of q) x) (current_after B (place_of q) y) (t ∷ rs) (e ∷ ds) rest n.1 (λ r c k m i j. h r c k m (contains_tail q r (t ∷ rs) i) (contains_tail d c (e ∷ ds) j)) in
      at_least-append New (slope_facts q) (flat_map slope_facts (t ∷ rs)) (cond (is_gap d e) 1 0) (gaps (e ∷ ds)) (here (is_gap d e) refl) more
    where
      here : (b : Bool) → is_gap d e ≡ b → AtLeast New (slope_facts q) (cond b 1 0)
      here false g = at_least-none New (slope_facts q)
      here true g =
          let place : place_of q ≡ spot_of d = cc in
          let next : place_of t ≡ spot_of e = cc in
          let parts = and_parts (not (is_of (half_at d) (half_at e))) (not (is_known d e)) g in
          let apart : is_of (place_of q).half (place_of t).half ≡ false = ap₂ (λ (f g : Breakpoint). is_of f.half g.half) place next ∙ un (is_of (half_at d) (half_at e)) parts.0 in
          let noted : option_map seen_next q.next ≡ Some (place_of t, s.sign (slope_form (place_of q) (place_of t))) =
          n.0.next ∙ ap (λ (b : Bool). cond b None (Some (place_of t, s.sign (slope_form (place_of q) (place_of t))))) apart in
          one q.next refl noted (λ m is at f own. h q d e m (contains_head q (t ∷ rs)) (contains_head d (e ∷ ds)) place is (at ∙ next) (un (is_known d e) parts.1) f own)
        where
          un : (b : Bool) → not b ≡ true → b ≡ false
          un true k = absurd cc
          un false k = refl

          one : (o : Option Next) → q.next ≡ o → option_map seen_next o ≡ Some (place_of t, s.sign (slope_form (place_of q) (place_of t)))
              → ((m : Next) → q.next ≡ Some m → seen m.at ≡ place_of t → (f : Fact) → Contains (slope_facts q) f → New f) → AtLeast New (slope_facts q) 1
          one None is w k = absurd cc
          one (Some m) is w k =
              let same : seen_next m ≡ (place_of t, s.sign (slope_form (place_of q) (place_of t))) = cc in
              let own : slope_facts q ≡ record { form = slope_form (place_of q) (seen m.at); sign = m.slope } ∷ [] = ap (slope_facts_of (place_of q)) is in
              subst (λ (l : List Fact). AtLeast New l 1) (sym own)
              (inr (0, refl, k m is (ap (λ p. p.0) same) (record { form = slope_form (place_of q) (seen m.at); sign = m.slope }) (subst (λ (l : List Fact). Contains l (record { form = slope_form (place_of q) (seen m.at); sign = m.slope })) (sym own) (contains_head (record { form = slope_form (place_of q) (seen m.at); sign = m.slope }) [])), refl))
