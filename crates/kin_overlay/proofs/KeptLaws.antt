-- What is drawn at the records of the list before.
use Rattle.std.proofs.Common.{◌≡◌, ◌⊎◌, inl, inr, refl, sym, ap, ◌∙◌, subst, arith, List, [], ◌∷◌, ◌++◌, ℕ, ◌+◌, ◌*◌, ◌<◌, ◌≤◌, Bool, true, false, ◌||◌, cond, length, get_or, drop, Some, None, Contains}
use Rattle.std.proofs.lemmas.Bool.{both_ways, false_from_ne_true, or_parts}
use Rattle.std.proofs.lemmas.List.Elements.{Contains-append_right}
use Rattle.kin_motion.specs.declared.form.Form.{Form}
use Rattle.kin_motion.specs.declared.fact.Fact.{Fact}
use Rattle.kin_motion.specs.Forms.{names}
use Rattle.kin_motion.specs.Merges.{Half.{A, B}, Half, is_of, own_of, breakpoints_of, other_current, current_after}
use Rattle.kin_motion.specs.Numbers.{is_in, IsIn, IsOnce}
use Rattle.kin_motion.proofs.Members.{in_head, in_tail, in_cases}
use Rattle.kin_chain.specs.Supports.{list_of}
use Rattle.kin_overlay.specs.declared.draft.Draft.{Draft}
use Rattle.kin_overlay.specs.declared.half.Half.{Half as Side}
use Rattle.kin_overlay.specs.declared.half.Half.TheVariants.{A as SideA, B as SideB}
use Rattle.kin_overlay.specs.declared.record.Record.{Record}
use Rattle.kin_overlay.specs.declared.record.Next.{Next}
use Rattle.kin_overlay.specs.declared.sketch.Puts.{Puts}
use Rattle.kin_overlay.specs.declared.standing.Standing.{Standing}
use Rattle.kin_overlay.specs.Fingers.{AreNoted}
use Rattle.kin_overlay.specs.Lists.{front}
use Rattle.kin_overlay.specs.Overlays.{names_any}
use Rattle.kin_overlay.specs.Remembered.{place_of, breakpoints, turn_fact, slope_facts}
use Rattle.kin_overlay.specs.Repairing.{IsEdited, AreApart, Past, IsKnownPast, IsStill, IsRetained, untold}
use Rattle.kin_overlay.specs.Seen.{half_of}
use Rattle.kin_overlay.specs.Sketches.{is_told, gaps}
use Rattle.kin_overlay.specs.Sketching.{blanks, put_blanks, after_put, IsSlopeOf, IsStep, IsStepAt, IsTrace, IsSketchOf}
use Rattle.kin_overlay.specs.Standings.{IsUnfailed}
use Rattle.kin_overlay.proofs.FillLaws.{split-own}
use Rattle.kin_overlay.proofs.FollowLaws.{Follows, pair, follows-first, follows-start, follows-still, follows-step}
use Rattle.kin_overlay.proofs.RetainLaws.{AreUntold, untold-append, untold-front, IsAt, AreAt, are-paid, all-kept}

-- ---- breakpoints of which nothing is known
pub blanks-untold : (h : Side) (xs : List ℕ) → AreUntold (blanks h xs)
blanks-untold h [] = tt
blanks-untold h (x ∷ []) = tt
blanks-untold h (x ∷ y ∷ xs) = (refl, blanks-untold h (y ∷ xs))

pub put-untold : (h : Side) (put xs : List ℕ) → AreUntold (put_blanks h put xs)
put-untold h put [] = tt
put-untold h put (x ∷ []) = tt
put-untold h put (x ∷ y ∷ xs) = at (is_in x put) (put-untold h put (y ∷ xs))
  where
    at : (b : Bool) → AreUntold (put_blanks h put (y ∷ xs)) → AreUntold (cond b (record { at = record { half = h; left = x; right = y }; across = None; next = None } ∷ put_blanks h put (y ∷ xs)) [])
    at true k = (refl, k)
    at false k = tt

-- ---- the numbers that a fact names aren't gone
names-any-in : (f : Form) (gone : List ℕ) (i : ℕ) → names f i ≡ true → IsIn i gone → names_any f gone ≡ true
names-any-in f [] i n h = absurd cc
names-any-in f (x ∷ xs) i n h = at (in_cases i x xs h) (names-any-in f xs i n)
  where
    at : (i ≡ x) ⊎ IsIn i xs → (IsIn i xs → names_any f xs ≡ true) → names f x || names_any f xs ≡ true
    at (inl e) rest = ap (λ (b : Bool). b || names_any f xs) (ap (names f) (sym e) ∙ n)
    at (inr k) rest = both (names f x) (rest k)
      where
        both : (b : Bool) → names_any f xs ≡ true → b || names_any f xs ≡ true
        both true q = refl
        both false q = q

across-named : (r : Record) → names (turn_fact r).form r.across ≡ true
across-named r = in_tail r.across r.at.left (r.at.right ∷ r.across ∷ []) (in_tail r.across r.at.right (r.across ∷ []) (in_head r.across []))

across-stays : (w : Standing) (r : Record) → IsUnfailed w.failed.now w.gone.now (turn_fact r) → is_in r.across w.gone.now ≡ false
across-stays w r u = false_from_ne_true (is_in r.across w.gone.now) (λ h. both_ways (names_any (turn_fact r).form w.gone.now) u.not_named (names-any-in (turn_fact r).form w.gone.now r.across (across-named r) h))

-- ---- one record, where its half's chains are these
module _ (w : Standing) (a b put dropped old new : List ℕ) (e : IsEdited put dropped old new) (apart : AreApart put dropped) (old_once : IsOnce old) (new_once : IsOnce new) where
  at-record : (r : Record) (k : ℕ) (xs ys left : List ℕ) (part : List Draft) → Follows put dropped old new (r.at.left ∷ r.at.right ∷ xs) ys → (IsStill a b (place_of r) → Contains (breakpoints_of (half_of r.at.half) new) (pair (half_of r.at.half) r.at.left r.at.right))
      → (IsUnfailed w.failed.now w.gone.now (turn_fact r) → r.across ≡ k) → IsStep w r put ys k left part → IsAt w a b r part
  at-record r k xs ys left part f still current (inl m) = inl (
    m.part_is,
    λ s.
        let t = follows-still put dropped old new e apart old_once new_once (half_of r.at.half) r.at.left r.at.right xs ys f (still s) in
        m.begins (let l = ap (λ (l : List ℕ). length l) t.1 in omega (arith, l)) (ap (λ (l : List ℕ). get_or l 0 0) t.1),
  )
  at-record r k xs ys left part f still current (inr m) = inr
      (record {
        draft = m.draft;
        more = put_blanks r.at.half put (drop 1 ys);
        part_is = m.part_is;
        untold = put-untold r.at.half put (drop 1 ys);
        told = λ c q. (m.recalled.told c q).1;
        slope = m.recalled.slope;
        kept = λ s.
            let t = follows-still put dropped old new e apart old_once new_once (half_of r.at.half) r.at.left r.at.right xs ys f (still s) in
            let at : m.draft.at ≡ r.at = m.at ∙ ap (λ (l : List ℕ). record { half = r.at.half; left = get_or l 0 0; right = get_or l 1 0 }) t.1 in
            record {
              at = at;
              turn = λ u. ap (λ (n : ℕ). is_told m.draft n) (current u) ∙ m.recalled.turn at (current u) u;
              slope = λ n q all. by-slope n q all (m.recalled.slope at);
            };
      })
    where
      by-slope : (n : Next) → r.next ≡ Some n → ((g : Fact) → Contains (slope_facts r) g → IsUnfailed w.failed.now w.gone.now g) → IsSlopeOf w r m.draft.next → m.draft.next ≡ Some n
      by-slope n q all (inl same) = same ∙ q
      by-slope n q all (inr failed) = absurd (failed.2 (all failed.0 failed.1))

-- the first number left of the other chain is current beside a record whose turn is unfailed
current-is : (w : Standing) (put dropped old new : List ℕ) (r : Record) (xs ys : List ℕ) → ((x : ℕ) → is_in x w.gone.now ≡ false → is_in x dropped ≡ false) → Follows put dropped old new xs ys → 0 < length xs → r.across ≡ front xs
    → IsUnfailed w.failed.now w.gone.now (turn_fact r) → r.across ≡ get_or ys 0 0
current-is w put dropped old new r [] ys gone f l q u = absurd (omega arith)
current-is w put dropped old new r (x ∷ xs) ys gone f l q u =
    let first = follows-first put dropped old new x xs ys f (gone x (ap (λ (n : ℕ). is_in n w.gone.now) (sym q) ∙ across-stays w r u)) in
    q ∙ sym (ap (λ (l : List ℕ). get_or l 0 0) first.1)

-- ---- all records
module _ (w : Standing) (puts : Puts) (a b : List ℕ) (p : Past) (known : IsKnownPast p w puts a b) (a_once : IsOnce a) (b_once : IsOnce b) where
  gone-apart : (x : ℕ) → is_in x w.gone.now ≡ false → (is_in x p.drop_a ≡ false) × (is_in x p.drop_b ≡ false)
  gone-apart x h = or_parts (is_in x p.drop_a) (is_in x p.drop_b) (sym (known.past.gone_is x) ∙ h)

  abbrev FollowsA : List ℕ → List ℕ → Type 0
  FollowsA xs ys = Follows puts.a.now p.drop_a p.a a xs ys

  abbrev FollowsB : List ℕ → List ℕ → Type 0
  FollowsB xs ys = Follows puts.b.now p.drop_b p.b b xs ys

  all-at : (rs : List Record) (xa xb ya yb : List ℕ) (ds : List Draft) → FollowsA xa ya → FollowsB xb yb → 0 < length xa → 0 < length xb → AreNoted p.scene (front xa) (front xb) rs
      → own_of A (breakpoints rs) ≡ breakpoints_of A xa → own_of B (breakpoints rs) ≡ breakpoints_of B xb → IsTrace w puts.a.now puts.b.now rs ya yb ds → AreAt w a b rs ds
  all-at [] xa xb ya yb ds fa fb la lb noted oa ob t = subst AreUntold (sym t) (untold-append (blanks SideA ya) (blanks SideB yb) (blanks-untold SideA ya) (blanks-untold SideB yb))
  all-at (r ∷ rs) xa xb ya yb ds fa fb la lb noted oa ob t = at r.at.half refl t.5 (λ xa' xb' fa' fb' la' lb' noted' oa' ob'. all-at rs xa' xb' t.0 t.1 t.3 fa' fb' la' lb' noted' oa' ob' t.6)
    where
      at : (h : Side) → r.at.half ≡ h → IsStepAt h w r puts.a.now puts.b.now ya yb t.0 t.1 t.2
          → ((xa' xb' : List ℕ) → FollowsA xa' t.0 → FollowsB xb' t.1 → 0 < length xa' → 0 < length xb' → AreNoted p.scene (front xa') (front xb') rs → own_of A (breakpoints rs) ≡ breakpoints_of A xa' → own_of B (breakpoints rs) ≡ breakpoints_of B xb' → AreAt w a b rs t.3)
          → AreAt w a b (r ∷ rs) ds
      at SideA is step rest =
          let half : (place_of r).half ≡ A = ap half_of is in
          let own : place_of r ∷ own_of A (breakpoints rs) ≡ breakpoints_of A xa = sym (ap (λ (g : Half). cond (is_of A g) (place_of r ∷ own_of A (breakpoints rs)) (own_of A (breakpoints rs))) half) ∙ oa in
          let their : own_of B (breakpoints rs) ≡ breakpoints_of B xb = sym (ap (λ (g : Half). cond (is_of B g) (place_of r ∷ own_of B (breakpoints rs)) (own_of B (breakpoints rs))) half) ∙ ob in
          let s = split-own A xa (place_of r) (own_of A (breakpoints rs)) own in
          let f = subst (λ (l : List ℕ). FollowsA l ya) s.1 fa in
          let across : r.across ≡ front xb = noted.0.across ∙ ap (λ (g : Half). other_current g (front xa) (front xb)) half in
          let here : IsAt w a b r t.2 =
          at-record w a b puts.a.now p.drop_a p.a a known.past.a_edited known.a_apart known.past.a_once a_once r (get_or yb 0 0) s.0 ya t.0 t.2 f
          (subst (λ (l : List ℕ). Contains (breakpoints_of (place_of r).half l) (place_of r)) (ap (λ (g : Half). list_of g a b) half))
          (current-is w puts.b.now p.drop_b p.b b r xb yb (λ x h. (gone-apart x h).1) fb lb across) step.0 in
          let next = follows-step puts.a.now p.drop_a p.a a known.past.a_edited known.a_apart known.past.a_once a_once w r (get_or yb 0 0) r.at.right s.0 ya t.0 t.2 f step.0 in
          let other = subst (λ (l : List ℕ). FollowsB xb l) (sym step.1) fb in
          let ca : current_after A (place_of r) (front xa) ≡ r.at.right = ap (λ (g : Half). cond (is_of A g) r.at.right (front xa)) half in
          let cb : current_after B (place_of r) (front xb) ≡ front xb = ap (λ (g : Half). cond (is_of B g) r.at.right (front xb)) half in
          let behind = subst (λ (n : ℕ). AreNoted p.scene n (front xb) rs) ca (subst (λ (n : ℕ). AreNoted p.scene (current_after A (place_of r) (front xa)) n rs) cb noted.1) in
          (t.2, t.3, t.4, here, rest (r.at.right ∷ s.0) xb next other (omega arith) lb behind s.2 their)
      at SideB is step rest =
          let half : (place_of r).half ≡ B = ap half_of is in
          let own : place_of r ∷ own_of B (breakpoints rs) ≡ breakpoints_of B xb = sym (ap (λ (g : Half). cond (is_of B g) (place_of r ∷ own_of B (breakpoints rs)) (own_of B (breakpoints rs))) half) ∙ ob in
          let their : own_of A (breakpoints rs) ≡ breakpoints_of A xa = sym (ap (λ (g : Half). cond (is_of A g) (place_of r ∷ own_of A (breakpoints rs)) (own_of A (breakpoints rs))) half) ∙ oa in
          let s = split-own B xb (place_of r) (own_of B (breakpoints rs)) own in
          let f = subst (λ (l : List ℕ). FollowsB l yb) s.1 fb in
          let across : r.across ≡ front xa = noted.0.across ∙ ap (λ (g : Half). other_current g (front xa) (front xb)) half in
          let here : IsAt w a b r t.2 =
          at-record w a b puts.b.now p.drop_b p.b b known.past.b_edited known.b_apart known.past.b_once b_once r (get_or ya 0 0) s.0 yb t.1 t.2 f
          (subst (λ (l : List ℕ). Contains (breakpoints_of (place_of r).half l) (place_of r)) (ap (λ (g : Half). list_of g a b) half))
          (current-is w puts.a.now p.drop_a p.a a r xa ya (λ x h. (gone-apart x h).0) fa la across) step.0 in
          let next = follows-step puts.b.now p.drop_b p.b b known.past.b_edited known.b_apart known.past.b_once b_once w r (get_or ya 0 0) r.at.right s.0 yb t.1 t.2 f step.0 in
          let other = subst (λ (l : List ℕ). FollowsA xa l) (sym step.1) fa in
          let ca : current_after A (place_of r) (front xa) ≡ front xa = ap (λ (g : Half). cond (is_of A g) r.at.right (front xa)) half in
          let cb : current_after B (place_of r) (front xb) ≡ r.at.right = ap (λ (g : Half). cond (is_of B g) r.at.right (front xb)) half in
          let behind = subst (λ (n : ℕ). AreNoted p.scene n r.at.right rs) ca (subst (λ (n : ℕ). AreNoted p.scene (current_after A (place_of r) (front xa)) n rs) cb noted.1) in
          (t.2, t.3, t.4, here, rest xa (r.at.right ∷ s.0) other next la (omega arith) behind their s.2)

  -- what a sketch keeps
  pub retained : (out : List Draft) → 0 < length a → 0 < length b → IsSketchOf w puts.a.now puts.b.now a b out → IsRetained w a b out
  retained out a_some b_some sketched =
      let past = known.past in
      let rs = w.list.now.records in
      let rest = sketched.rest in
      let start_a = put_blanks SideA puts.a.now a in
      let start_b = put_blanks SideB puts.b.now b in
      let steps =
      all-at rs p.a p.b (after_put puts.a.now a) (after_put puts.b.now b) rest (follows-start puts.a.now p.drop_a p.a a past.a_edited known.a_apart past.a_once a_once a_some) (follows-start puts.b.now p.drop_b p.b b past.b_edited known.b_apart past.b_once b_once b_some)
      past.a_some past.b_some past.merged.noted past.merged.interleaved.of_a past.merged.interleaved.of_b sketched.traced in
      let paid = are-paid w a b p.scene (front p.a) (front p.b) rs rest past.merged.noted steps in
      record {
        kept = λ r c still.
            let d = all-kept w a b rs rest steps r c still in
            (d.0, subst (λ (l : List Draft). Contains l d.0) (sym sketched.drawn) (Contains-append_right start_a (start_b ++ rest) d.0 (Contains-append_right start_b rest d.0 d.1)), d.2);
        turns = paid.turns;
        slopes = paid.slopes;
        lost_turns = paid.lost_turns;
        lost_slopes = paid.lost_slopes;
        paid = subst (λ (l : List Draft). gaps l ≤ 2 * untold l + (paid.turns + paid.slopes)) (sym sketched.drawn)
            (untold-front start_a (start_b ++ rest) (paid.turns + paid.slopes) (put-untold SideA puts.a.now a) (untold-front start_b rest (paid.turns + paid.slopes) (put-untold SideB puts.b.now b) paid.paid));
      }
