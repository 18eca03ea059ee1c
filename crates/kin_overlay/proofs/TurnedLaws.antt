-- A merge of which one turn alone has failed: with its sign asked again it is the merge now.
use Rattle.std.proofs.Common.{◌≡◌, ◌⊎◌, inl, inr, refl, sym, ap, ap₂, ◌∙◌, subst, arith, List, [], ◌∷◌, ℕ, zero, suc, ◌+◌, ◌-◌, ◌<◌, Bool, true, false, cond, ◌||◌, length, map, set, get_or, Option, Some, None, option_map, pos, Contains, Result, Ok, Err}
use Rattle.std.specs.Prelude.{slice_get, flat_map, IfOk, OnOk}
use Rattle.std.proofs.lemmas.List.{length-set}
use Rattle.std.proofs.lemmas.List.Elements.{Contains-append_left, Contains-append_right}
use Rattle.std.proofs.lemmas.Option.{same_Some, slice_get_within, get_or_from_slice_get}
use Rattle.kin_algebra.specs.declared.sign.Sign.{Sign}
use Rattle.kin_algebra.proofs.Members.{contains_none, contains_head, contains_tail, contains_cases, contains_from_get}
use Rattle.kin_algebra.proofs.Places.{get-set_same, get-set_other}
use Rattle.kin_motion.specs.declared.fact.Fact.{Fact}
use Rattle.kin_motion.specs.declared.fact.Placed.{Placed}
use Rattle.kin_motion.specs.declared.form.Form.TheVariants.{Line, Turn, Slope}
use Rattle.kin_motion.specs.Chains.{is_zero}
use Rattle.kin_motion.specs.Forms.{IsAskable}
use Rattle.kin_motion.specs.Merges.{Half, Half.{A, B}, Breakpoint, is_of, goes_first, is_placed_before, slope_form, last_of, other_current, current_after, IsInterleaving}
use Rattle.kin_motion.specs.Numbers.{is_in, IsIn, IsOnce, IsChain}
use Rattle.kin_motion.specs.Scene.{Scene, Holds, x_sign, y_sign}
use Rattle.kin_motion.proofs.AskableMerges.{breakpoints_live}
use Rattle.kin_motion.proofs.Members.{in_head}
use Rattle.kin_motion.proofs.SetLaws.{contains_map, contains_mapped, filter-complete}
use Rattle.kin_chain.specs.Merging.{is_in_place}
use Rattle.kin_overlay.specs.declared.record.Record.{Record}
use Rattle.kin_overlay.specs.declared.record.Next.{Next}
use Rattle.kin_overlay.specs.declared.end.End.{End}
use Rattle.kin_overlay.specs.declared.shared.Shared.{Shared}
use Rattle.kin_overlay.specs.declared.sketch.Puts.{Puts}
use Rattle.kin_overlay.specs.declared.standing.Standing.{Standing}
use Rattle.kin_overlay.specs.Filling.{lefts}
use Rattle.kin_overlay.specs.Fingers.{seen_next, next_for, end_at, right_end, AreNoted, IsMerged, AreLive}
use Rattle.kin_overlay.specs.Lists.{front, behind}
use Rattle.kin_overlay.specs.Overlays.{names_any}
use Rattle.kin_overlay.specs.Remembered.{Remembered, place_of, breakpoints, left_points, turn_fact, slope_facts_of, slope_facts, y_facts, end_facts, facts_of}
use Rattle.kin_overlay.specs.Repairing.{without, IsEdited, Past, IsPast, IsPaid, AtLeast}
use Rattle.kin_overlay.specs.Reports.{AreShared}
use Rattle.kin_overlay.specs.Seen.{seen}
use Rattle.kin_overlay.specs.Standings.{StandIn}
use Rattle.kin_overlay.specs.Turned.{IsLoneTurn, IsTurned, asked_again}
use Rattle.kin_overlay.proofs.AtLeastLaws.{at_least-none}
use Rattle.kin_overlay.proofs.FillLaws.{lefts-once}
use Rattle.kin_overlay.proofs.HasLaws.{is-turn, is-slope, is-left, is-right, of-record, slope-is, end-is, kinds, Kinds}
use Rattle.kin_overlay.proofs.LookupLaws.{in-lefts, same-record}

none-some : {T : Type 0} (x : T) → None ≡ Some x → ⊥
none-some x e = cc

-- ---- where the slopes and the lines hold, only the turns are others
abbrev again : Scene → List Record → List Record
again s rs = map (asked_again s) rs

same_places : (s : Scene) (rs : List Record) → breakpoints (again s rs) ≡ breakpoints rs
same_places s [] = refl
same_places s (r ∷ rs) = ap (λ (l : List Breakpoint). place_of r ∷ l) (same_places s rs)

abbrev HoldAll : Scene → List Fact → Type 0
HoldAll s fs = (g : Fact) → Contains fs g → Holds s g

module _ (old now : Scene) where
  -- a slope that holds has its sign still, so what is noted of the next one is so still
  same_next : (e f : Breakpoint) (o : Option Next) (t : Bool) → is_of e.half f.half ≡ t → option_map seen_next o ≡ next_for old e (Some f) → HoldAll now (slope_facts_of e o)
      → (option_map seen_next o ≡ next_for now e (Some f)) × (t ≡ false → now.sign (slope_form e f) ≡ old.sign (slope_form e f))
  same_next e f o true is noted holds =
      (noted ∙ ap (λ (b : Bool). cond b None (Some (f, old.sign (slope_form e f)))) is ∙ sym (ap (λ (b : Bool). cond b None (Some (f, now.sign (slope_form e f)))) is), λ k. absurd cc)
  same_next e f None false is noted holds = absurd (none-some _ (noted ∙ ap (λ (b : Bool). cond b None (Some (f, old.sign (slope_form e f)))) is))
  same_next e f (Some n) false is noted holds =
      let there : seen_next n ≡ (f, old.sign (slope_form e f)) = same_Some _ _ (noted ∙ ap (λ (b : Bool). cond b None (Some (f, old.sign (slope_form e f)))) is) in
      let at : seen n.at ≡ f = ap (λ (p : Breakpoint × Sign). p.0) there in
      let slope : n.slope ≡ old.sign (slope_form e f) = ap (λ (p : Breakpoint × Sign). p.1) there in
      let held : now.sign (slope_form e (seen n.at)) ≡ n.slope = holds (record { form = slope_form e (seen n.at); sign = n.slope }) (contains_head _ []) in
      let is_now : now.sign (slope_form e f) ≡ n.slope = ap (λ (b : Breakpoint). now.sign (slope_form e b)) (sym at) ∙ held in (
        ap₂ (λ (b : Breakpoint) (t : Sign). Some (b, t)) at (sym is_now) ∙ sym (ap (λ (b : Bool). cond b None (Some (f, now.sign (slope_form e f)))) is),
        λ k. is_now ∙ slope,
      )

  noted_again : (a b : ℕ) (rs : List Record) → AreNoted old a b rs → HoldAll now (flat_map slope_facts rs) → AreNoted now a b (again now rs)
  noted_again a b [] n holds = tt
  noted_again a b (r ∷ []) n holds = (record { across = n.0.across; turn = refl; next = n.0.next }, tt)
  noted_again a b (r ∷ q ∷ qs) n holds = (
    record {
      across = n.0.across;
      turn = refl;
      next = (same_next (place_of r) (place_of q) r.next _ refl n.0.next (λ g c. holds g (Contains-append_left (slope_facts r) (flat_map slope_facts (q ∷ qs)) g c))).0;
    },
    noted_again (current_after A (place_of r) a) (current_after B (place_of r) b) (q ∷ qs) n.1 (λ g c. holds g (Contains-append_right (slope_facts r) (flat_map slope_facts (q ∷ qs)) g c)),
  )

  placed_again : (a b : ℕ) (rs : List Record) → AreNoted old a b rs → IsChain (is_in_place old) (breakpoints rs) → HoldAll now (flat_map slope_facts rs) → IsChain (is_in_place now) (breakpoints rs)
  placed_again a b [] n c holds = tt
  placed_again a b (r ∷ []) n c holds = tt
  placed_again a b (r ∷ q ∷ qs) n c holds = (
    at (is_of (place_of r).half (place_of q).half) refl,
    placed_again (current_after A (place_of r) a) (current_after B (place_of r) b) (q ∷ qs) n.1 c.1 (λ g d. holds g (Contains-append_right (slope_facts r) (flat_map slope_facts (q ∷ qs)) g d)),
  )
    where
      e : Breakpoint
      e = place_of r

      f : Breakpoint
      f = place_of q

      at : (t : Bool) → is_of e.half f.half ≡ t → (is_of e.half f.half || is_placed_before now e f) ≡ true
      at true is = ap (λ (b : Bool). b || is_placed_before now e f) is
      at false is =
          let same = (same_next e f r.next false is n.0.next (λ g d. holds g (Contains-append_left (slope_facts r) (flat_map slope_facts (q ∷ qs)) g d))).1 refl in
          ap (λ (b : Bool). b || is_placed_before now e f) is ∙ ap (λ (t : Sign). goes_first t e.half f.half) same ∙ sym (ap (λ (b : Bool). b || is_placed_before old e f) is) ∙ c.0

  end_again : (a b : ℕ) → HoldAll now (end_facts (Some (end_at old a b))) → end_at old a b ≡ end_at now a b
  end_again a b holds = ap₂ (λ (t : Sign) (o : Option Sign). record { a = a; b = b; x = t; y = o }) (sym x_is) (y_is (is_zero (x_sign old a b)) refl)
    where
      x_line : Fact
      x_line = record { form = Line (pos 1) (pos 0) (pos 0) a b; sign = x_sign old a b }

      y_line : Fact
      y_line = record { form = Line (pos 0) (pos 1) (pos 0) a b; sign = y_sign old a b }

      by_y : Option Sign
      by_y = cond (is_zero (x_sign old a b)) (Some (y_sign old a b)) None

      x_is : x_sign now a b ≡ x_sign old a b
      x_is = holds x_line (contains_head x_line (y_facts a b by_y))

      y_is : (t : Bool) → is_zero (x_sign old a b) ≡ t → by_y ≡ cond (is_zero (x_sign now a b)) (Some (y_sign now a b)) None
      y_is false is = ap (λ (b' : Bool). cond b' (Some (y_sign old a b)) None) is ∙ sym (ap (λ (b' : Bool). cond b' (Some (y_sign now a b)) None) (ap is_zero x_is ∙ is))
      y_is true is =
          let some : by_y ≡ Some (y_sign old a b) = ap (λ (b' : Bool). cond b' (Some (y_sign old a b)) None) is in
          let there : Contains (y_facts a b by_y) y_line = subst (λ (o : Option Sign). Contains (y_facts a b o) y_line) (sym some) (contains_head y_line []) in
          let held : y_sign now a b ≡ y_sign old a b = holds y_line (contains_tail x_line y_line (y_facts a b by_y) there) in
          some ∙ ap (λ (t : Sign). Some t) (sym held) ∙ sym (ap (λ (b' : Bool). cond b' (Some (y_sign now a b)) None) (ap is_zero x_is ∙ is))

  right_again : (a : ℕ) (as' : List ℕ) (b : ℕ) (bs : List ℕ) → HoldAll now (end_facts (right_end old a as' b bs)) → right_end old a as' b bs ≡ right_end now a as' b bs
  right_again a [] b [] holds = refl
  right_again a [] b (q ∷ qs) holds = ap (λ (e : End). Some e) (end_again a (last_of b (q ∷ qs)) holds)
  right_again a (p ∷ ps) b bs holds = ap (λ (e : End). Some e) (end_again (last_of a (p ∷ ps)) (last_of b bs) holds)

  merged_again : (a b : List ℕ) (m : Remembered) → IsMerged old a b m → HoldAll now (flat_map slope_facts m.records) → HoldAll now (end_facts m.left) → HoldAll now (end_facts m.right)
      → IsMerged now a b (record m { records = again now m.records })
  merged_again a b m w slopes left right = record {
    interleaved = subst (λ (l : List Breakpoint). IsInterleaving a b l) (sym (same_places now m.records)) w.interleaved;
    in_place = subst (IsChain (is_in_place now)) (sym (same_places now m.records)) (placed_again (front a) (front b) m.records w.noted w.in_place slopes);
    noted = noted_again (front a) (front b) m.records w.noted slopes;
    left = w.left ∙ ap (λ (e : End). Some e) (end_again (front a) (front b) (λ g c. left g (subst (λ (o : Option End). Contains (end_facts o) g) (sym w.left) c)));
    right = w.right ∙ right_again (front a) (behind a) (front b) (behind b) (λ g c. right g (subst (λ (o : Option End). Contains (end_facts o) g) (sym w.right) c));
  }

-- ---- where one turn has failed, asking it again asks all again
module _ (s : Scene) where
  abbrev pub IsUp : Record → Type 0
  IsUp q = s.sign (turn_fact q).form ≡ q.turn

  up : (q : Record) → IsUp q → q ≡ asked_again s q
  up q e = ap (λ (t : Sign). record q { turn = t }) (sym e)

  all_up : (rs : List Record) → ((q : Record) → Contains rs q → IsUp q) → rs ≡ again s rs
  all_up [] h = refl
  all_up (q ∷ qs) h = ap₂ (λ (x : Record) (l : List Record). x ∷ l) (up q (h q (contains_head q qs))) (all_up qs (λ x c. h x (contains_tail q x qs c)))

  clash : (x : ℕ) (rs : List Record) (q : Record) → is_in x (left_points rs) ≡ false → Contains rs q → q.at.left ≡ x → ⊥
  clash x rs q none c e = let k : false ≡ true = sym none ∙ ap (λ (n : ℕ). is_in n (left_points rs)) (sym e) ∙ in-lefts rs q c in cc

  pub set_again : (rs : List Record) (k : ℕ) (r : Record) → IsOnce (left_points rs) → slice_get rs k ≡ Some r → ((q : Record) → Contains rs q → (q.at.left ≡ r.at.left → ⊥) → IsUp q)
      → set rs k (asked_again s r) ≡ again s rs
  set_again [] k r once at h = refl
  set_again (x ∷ xs) zero r once at h =
      let same : x ≡ r = same_Some x r at in
      ap₂ (λ (y : Record) (l : List Record). y ∷ l) (ap (asked_again s) (sym same))
      (all_up xs (λ q c. h q (contains_tail x q xs c) (λ e. clash x.at.left xs q once.0 c (e ∙ ap (λ (y : Record). y.at.left) (sym same)))))
  set_again (x ∷ xs) (suc k) r once at h =
      ap₂ (λ (y : Record) (l : List Record). y ∷ l)
      (up x (h x (contains_head x xs) (λ e. clash x.at.left xs r once.0 (contains_from_get xs k r at) (sym e))))
      (set_again xs k r once.1 at (λ q c n. h q (contains_tail x q xs c) n))

-- ---- the chains of the merge before are the present ones
without_none : (xs : List ℕ) → without [] xs ≡ xs
without_none [] = refl
without_none (x ∷ xs) = ap (λ (l : List ℕ). x ∷ l) (without_none xs)

all_out : (xs : List ℕ) → ((x : ℕ) → is_in x xs ≡ false) → xs ≡ []
all_out [] h = refl
all_out (x ∷ xs) h = absurd (let k : false ≡ true = sym (h x) ∙ in_head x xs in cc)

unedited : (dropped old new : List ℕ) → IsEdited [] dropped old new → dropped ≡ [] → old ≡ new
unedited dropped old new e none =
    let plain : (xs : List ℕ) → without [] (without dropped xs) ≡ xs = λ xs. without_none (without dropped xs) ∙ ap (λ (l : List ℕ). without l xs) none ∙ without_none xs in
    sym (plain old) ∙ sym e.keeps ∙ plain new

neither : (b c : Bool) → false ≡ b || c → (b ≡ false) × (c ≡ false)
neither false c e = (refl, sym e)
neither true c e = absurd cc

-- the left points of the merge before are different
left_points_are : (rs : List Record) → lefts (breakpoints rs) ≡ left_points rs
left_points_are [] = refl
left_points_are (r ∷ rs) = ap (λ (l : List ℕ). r.at.left ∷ l) (left_points_are rs)

pub past_once : (p : Past) (m : Remembered) (put_a put_b gone a b : List ℕ) → IsPast p m put_a put_b gone a b → IsOnce (left_points m.records)
past_once p m put_a put_b gone a b past =
    let i = past.merged.interleaved in
    subst IsOnce (left_points_are m.records) (lefts-once (breakpoints m.records) p.a p.b i.of_a i.of_b past.a_once past.b_once past.less)

-- a turn that is asked again leaves the left points as they are
pub same_lefts : (rs : List Record) (k : ℕ) (r : Record) (t : Sign) → slice_get rs k ≡ Some r → left_points (set rs k (record r { turn = t })) ≡ left_points rs
same_lefts [] k r t at = refl
same_lefts (x ∷ xs) zero r t at = ap (λ (q : Record). q.at.left ∷ left_points xs) (sym (same_Some x r at))
same_lefts (x ∷ xs) (suc k) r t at = ap (λ (l : List ℕ). x.at.left ∷ l) (same_lefts xs k r t at)

-- a list of which one turn was written, as its callers see it
pub turn_written : (rs : List Record) (left right : Option End) (seen_as : Remembered) (k : ℕ) (q : Record) (t : Sign) → record { records = rs; left = left; right = right } ≡ seen_as
    → q ≡ get_or rs k q → (r : Record) → slice_get seen_as.records k ≡ Some r
    → record { records = set rs k (record q { turn = t }); left = left; right = right } ≡ record seen_as { records = set seen_as.records k (record r { turn = t }) }
turn_written rs left right seen_as k q t view e r at =
    let is : q ≡ r = e ∙ get_or_from_slice_get rs k r q (ap (λ (m : Remembered). slice_get m.records k) view ∙ at) in
    ap (λ (x : Record). record { records = set rs k (record x { turn = t }); left = left; right = right }) is
    ∙ ap (λ (m : Remembered). record m { records = set m.records k (record r { turn = t }) }) view

-- ---- the repair
module _ (s : Scene) (w : Standing) (puts : Puts) (a b : List ℕ) (p : Past) (past : IsPast p w.list.now puts.a.now puts.b.now w.gone.now a b) (k : ℕ) (lone : IsLoneTurn w puts k)
    (once : IsOnce (left_points w.list.now.records)) where
  abbrev m : Remembered
  m = w.list.now

  abbrev r : Record
  r = lone.turned

  r_there : Contains m.records r
  r_there = contains_from_get m.records k r lone.there

  not_dropped : (x : ℕ) → (is_in x p.drop_a ≡ false) × (is_in x p.drop_b ≡ false)
  not_dropped x = neither (is_in x p.drop_a) (is_in x p.drop_b) (ap (λ (l : List ℕ). is_in x l) (sym lone.gone) ∙ past.gone_is x)

  a_same : p.a ≡ a
  a_same = unedited p.drop_a p.a a (subst (λ (l : List ℕ). IsEdited l p.drop_a p.a a) lone.put_a past.a_edited) (all_out p.drop_a (λ x. (not_dropped x).0))

  b_same : p.b ≡ b
  b_same = unedited p.drop_b p.b b (subst (λ (l : List ℕ). IsEdited l p.drop_b p.b b) lone.put_b past.b_edited) (all_out p.drop_b (λ x. (not_dropped x).1))

  before : IsMerged p.scene a b m
  before = subst (λ (l : List ℕ). IsMerged p.scene l b m) a_same (subst (λ (l : List ℕ). IsMerged p.scene p.a l m) b_same past.merged)

  -- its breakpoint and its point across are live
  live_by : (es : List Breakpoint) → IsInterleaving a b es → AreLive s.live a → AreLive s.live b → (e : Breakpoint) → Contains es e → IsIn e.left s.live × IsIn e.right s.live
  live_by es i x y e c = by_half e.half refl
    where
      by_half : (h : Half) → e.half ≡ h → IsIn e.left s.live × IsIn e.right s.live
      by_half A q = breakpoints_live s.live A a x e (subst (λ (gs : List Breakpoint). Contains gs e) i.of_a (filter-complete (λ (f : Breakpoint). is_of A f.half) es e c (ap (is_of A) q)))
      by_half B q = breakpoints_live s.live B b y e (subst (λ (gs : List Breakpoint). Contains gs e) i.of_b (filter-complete (λ (f : Breakpoint). is_of B f.half) es e c (ap (is_of B) q)))

  either_live : (t : Bool) (i j : ℕ) → IsIn i s.live → IsIn j s.live → IsIn (cond t i j) s.live
  either_live true i j x y = x
  either_live false i j x y = y

  other_live : (h : Half) (i j : ℕ) → IsIn i s.live → IsIn j s.live → IsIn (other_current h i j) s.live
  other_live A i j x y = y
  other_live B i j x y = x

  across_live : (i j : ℕ) (rs : List Record) → IsIn i s.live → IsIn j s.live → AreNoted p.scene i j rs → ((e : Breakpoint) → Contains (breakpoints rs) e → IsIn e.right s.live)
      → (q : Record) → Contains rs q → IsIn q.across s.live
  across_live i j [] x y n known q c = absurd (contains_none q c)
  across_live i j (z ∷ zs) x y n known q c =
      at (contains_cases z q zs c)
      (across_live (current_after A (place_of z) i) (current_after B (place_of z) j) zs
      (either_live (is_of A (place_of z).half) z.at.right i right x) (either_live (is_of B (place_of z).half) z.at.right j right y) n.1
      (λ e h. known e (contains_tail (place_of z) e (breakpoints zs) h)) q)
    where
      right : IsIn z.at.right s.live
      right = known (place_of z) (contains_head (place_of z) (breakpoints zs))

      at : (z ≡ q) ⊎ Contains zs q → (Contains zs q → IsIn q.across s.live) → IsIn q.across s.live
      at (inl e) rest = subst (λ (y' : Record). IsIn y'.across s.live) e (subst (λ (t : ℕ). IsIn t s.live) (sym n.0.across) (other_live (place_of z).half i j x y))
      at (inr d) rest = rest d

  first_live : (xs : List ℕ) → 0 < length xs → AreLive s.live xs → IsIn (front xs) s.live
  first_live [] some x = absurd (omega arith)
  first_live (i ∷ xs) some x = x i (in_head i xs)

  pub turn_askable : 0 < length a → 0 < length b → AreLive s.live a → AreLive s.live b → IsAskable s.live (turn_fact r).form
  turn_askable a_some b_some x y =
      let known = live_by (breakpoints m.records) before.interleaved x y in
      let own = known (place_of r) (contains_map place_of m.records r r_there) in
      (own.0, own.1, across_live (front a) (front b) m.records (first_live a a_some x) (first_live b b_some y) before.noted (λ e c. (known e c).1) r r_there)

  -- another fact holds
  other_holds : StandIn s w → (g : Fact) → Contains (facts_of m) g → (g ≡ turn_fact r → ⊥) → Holds s g
  other_holds stand g c other = stand g c (record {
    not_failed = λ q d e. at q e (contains_cases lone.failed q [] (subst (λ (l : List Placed). Contains l q) lone.alone d));
    not_named = ap (λ (l : List ℕ). names_any g.form l) lone.gone;
  })
    where
      at : (q : Placed) → q.fact ≡ g → (lone.failed ≡ q) ⊎ Contains [] q → ⊥
      at q e (inl h) = other (sym e ∙ ap (λ (z : Placed). z.fact) (sym h) ∙ sym lone.is_turn)
      at q e (inr d) = contains_none q d

  module _ (new : Remembered) (turned : IsTurned s m k new) where
    same_turned : turned.turned ≡ r
    same_turned = same_Some _ _ (sym turned.there ∙ lone.there)

    records_are : new.records ≡ set m.records k (asked_again s r)
    records_are = ap (λ (n : Remembered). n.records) turned.new_is ∙ ap (λ (q : Record). set m.records k (asked_again s q)) same_turned

    pub turned_merged : StandIn s w → IsMerged s a b new
    turned_merged stand = subst (λ (n : Remembered). IsMerged s a b n) (sym is) (merged_again p.scene s a b m before slopes (ends m.left (λ g. is-left m g)) (ends m.right (λ g. is-right m g)))
      where
        up_there : (q : Record) → Contains m.records q → (q.at.left ≡ r.at.left → ⊥) → s.sign (turn_fact q).form ≡ q.turn
        up_there q c n = other_holds stand (turn_fact q) (is-turn m (turn_fact q) (contains_map turn_fact m.records q c)) (λ e.
            n (let f : Turn q.at.left q.at.right q.across ≡ Turn r.at.left r.at.right r.across = ap (λ (g : Fact). g.form) e in cc))

        slopes : (g : Fact) → Contains (flat_map slope_facts m.records) g → Holds s g
        slopes g c = other_holds stand g (is-slope m g c) (λ e.
            let q = of-record m.records g c in
            let f = slope-is (place_of q.0) q.0.next g q.2 in
            let no : Slope q.0.at.left q.0.at.right f.0 f.1 ≡ Turn r.at.left r.at.right r.across = sym f.2 ∙ ap (λ (h : Fact). h.form) e in cc)

        ends : (o : Option End) → ((g : Fact) → Contains (end_facts o) g → Contains (facts_of m) g) → (g : Fact) → Contains (end_facts o) g → Holds s g
        ends o within g c = other_holds stand g (within g c) (λ e.
            let f = end-is o g c in
            let no : Line f.0 f.1 (pos 0) f.2 f.3 ≡ Turn r.at.left r.at.right r.across = sym f.4 ∙ ap (λ (h : Fact). h.form) e in cc)

        is : new ≡ record m { records = again s m.records }
        is = turned.new_is ∙ ap (λ (l : List Record). record m { records = l })
            (ap (λ (q : Record). set m.records k (asked_again s q)) same_turned ∙ set_again s m.records k r once lone.there up_there)

    pub turned_paid : (n n' : ℕ) → n' ≡ n + 1 → ((f : Placed) → Contains w.failed.now f → Holds s f.fact → ⊥) → IsPaid (facts_of m) (facts_of new) n n'
    turned_paid n n' count fails = record {
      born = 1;
      dropped = 0;
      are_born = at_least-one (facts_of new) fresh there new_to_it;
      are_dropped = at_least-none (λ f. Contains (facts_of new) f → ⊥) (facts_of m);
      cost = omega (arith, count);
    }
      where
        fresh : Fact
        fresh = turn_fact (asked_again s r)

        at_least-one : (fs : List Fact) (f : Fact) → Contains fs f → (Contains (facts_of m) f → ⊥) → AtLeast (λ g. Contains (facts_of m) g → ⊥) fs 1
        at_least-one [] f c h = absurd (contains_none f c)
        at_least-one (g ∷ gs) f c h = at (contains_cases g f gs c) (λ d. at_least-one gs f d h)
          where
            at : (g ≡ f) ⊎ Contains gs f → (Contains gs f → AtLeast (λ x. Contains (facts_of m) x → ⊥) gs 1) → AtLeast (λ x. Contains (facts_of m) x → ⊥) (g ∷ gs) 1
            at (inl e) rest = inr (0, omega arith, subst (λ (x : Fact). Contains (facts_of m) x → ⊥) (sym e) h, at_least-none (λ x. Contains (facts_of m) x → ⊥) gs)
            at (inr d) rest = inl (rest d)

        there : Contains (facts_of new) fresh
        there = is-turn new fresh (contains_map turn_fact new.records (asked_again s r) (subst (λ (l : List Record). Contains l (asked_again s r)) (sym records_are)
            (contains_from_get (set m.records k (asked_again s r)) k (asked_again s r) (get-set_same m.records k (asked_again s r) (slice_get_within m.records k r lone.there)))))

        new_to_it : Contains (facts_of m) fresh → ⊥
        new_to_it c = by_kind (kinds m fresh c)
          where
            failed_there : Contains w.failed.now lone.failed
            failed_there = subst (λ (l : List Placed). Contains l lone.failed) (sym lone.alone) (contains_head lone.failed [])

            no_line : (o : Option End) → Contains (end_facts o) fresh → ⊥
            no_line o d =
                let f = end-is o fresh d in
                let no : Line f.0 f.1 (pos 0) f.2 f.3 ≡ Turn r.at.left r.at.right r.across = sym f.4 in cc

            by_kind : Kinds m fresh → ⊥
            by_kind (inl (inl d)) =
                let q = contains_mapped turn_fact m.records fresh d in
                let form : Turn r.at.left r.at.right r.across ≡ Turn q.0.at.left q.0.at.right q.0.across = ap (λ (f : Fact). f.form) q.2 in
                let left : r.at.left ≡ q.0.at.left = cc in
                let same : r ≡ q.0 = same-record m.records r q.0 once r_there q.1 left in
                let sign : s.sign (turn_fact r).form ≡ r.turn = ap (λ (f : Fact). f.sign) q.2 ∙ ap (λ (x : Record). x.turn) (sym same) in
                fails lone.failed failed_there (subst (λ (f : Fact). Holds s f) lone.is_turn sign)
            by_kind (inl (inr d)) =
                let q = of-record m.records fresh d in
                let f = slope-is (place_of q.0) q.0.next fresh q.2 in
                let no : Slope q.0.at.left q.0.at.right f.0 f.1 ≡ Turn r.at.left r.at.right r.across = sym f.2 in cc
            by_kind (inr (inl d)) = no_line m.left d
            by_kind (inr (inr d)) = no_line m.right d

    turned_shared : AreShared (record { front = k; back = length m.records - (k + 1) }) m.records new.records
    turned_shared =
        let low : k < length m.records = slice_get_within m.records k r lone.there in
        let size = length-set m.records k (asked_again s r) in
        subst (λ (l : List Record). AreShared (record { front = k; back = length m.records - (k + 1) }) m.records l) (sym records_are) (record {
          room = omega arith;
          other_room = omega arith;
          front_is = λ j h. sym (get-set_other m.records k j (asked_again s r) (omega arith));
          back_is = λ j h. sym (ap (λ (n : ℕ). slice_get (set m.records k (asked_again s r)) (n - (j + 1))) size
              ∙ get-set_other m.records k (length m.records - (j + 1)) (asked_again s r) (omega arith));
        })

  -- the same where there was memory
  pub turned_shares : {E : Type 0} (new : Remembered) (o : Result Shared E) → OnOk o (IsTurned s m k new) → IfOk o (λ v. v ≡ record { front = k; back = length m.records - (k + 1) })
      → IfOk o (λ v. AreShared v m.records new.records)
  turned_shares {E} new (Ok v) turned is = subst (λ (x : Shared). AreShared x m.records new.records) (sym is) (turned_shared new turned)
  turned_shares {E} new (Err e) turned is = tt
