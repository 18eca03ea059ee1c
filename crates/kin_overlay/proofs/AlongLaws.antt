-- What is drawn while the records are passed one after another.
use Rattle.std.proofs.Common.{◌≡◌, inl, inr, refl, sym, ap, ◌∙◌, subst, arith, List, [], ◌∷◌, ◌++◌, ℕ, ◌+◌, ◌<◌, false, length, get_or, take, drop, append_assoc, Contains}
use Rattle.std.proofs.lemmas.Bool.Decides.{nat_tests}
use Rattle.std.proofs.lemmas.List.{append-nil, append_cancel_left, drop-drop, take-append-drop}
use Rattle.std.proofs.lemmas.List.Elements.{Contains-append_left, Contains-append_right}
use Rattle.kin_algebra.proofs.Members.{contains_head, contains_tail}
use Rattle.kin_motion.specs.declared.fact.Fact.{Fact}
use Rattle.kin_motion.specs.declared.form.Form.TheVariants.{Turn}
use Rattle.kin_motion.specs.Merges.{Half.{A, B}, Half, breakpoints_of, slope_form}
use Rattle.kin_motion.specs.Numbers.{is_in}
use Rattle.kin_motion.specs.Scene.{Scene}
use Rattle.kin_motion.proofs.Members.{in_head, in_tail}
use Rattle.kin_motion.proofs.SetLaws.{contains_map}
use Rattle.kin_overlay.specs.declared.draft.Draft.{Draft}
use Rattle.kin_overlay.specs.declared.draft.Across.{Across}
use Rattle.kin_overlay.specs.declared.half.Half.{Half as Side}
use Rattle.kin_overlay.specs.declared.half.Half.TheVariants.{A as SideA, B as SideB}
use Rattle.kin_overlay.specs.declared.record.Record.{Record}
use Rattle.kin_overlay.specs.declared.standing.Standing.{Standing}
use Rattle.kin_overlay.specs.Fingers.{AreLive}
use Rattle.kin_overlay.specs.Passing.{put_of, IsUntouched, AreUntouched, IsEndOf, IsDrawnAlong, IsDrawnBefore, IsAllDrawn}
use Rattle.kin_overlay.specs.Remembered.{place_of, turn_fact, slope_facts_of, slope_facts}
use Rattle.kin_overlay.specs.Seen.{half_of, seen}
use Rattle.kin_overlay.specs.Sketches.{IsFit}
use Rattle.kin_overlay.specs.Sketching.{blanks, put_blanks, after_put, IsDrawn, IsSketched, IsStep, IsStepAt, IsTrace, IsSketchOf, IsRecalled}
use Rattle.kin_overlay.specs.Spans.{draft_by, drafts, IsTaken}
use Rattle.kin_overlay.specs.Standings.{StandIn}
use Rattle.kin_overlay.proofs.HasLaws.{is-turn}
use Rattle.kin_overlay.proofs.PassLaws.{end-some, end-of, end-itself, end-end}
use Rattle.kin_overlay.proofs.SeatedLaws.{after-drop}
use Rattle.kin_overlay.proofs.SketchLaws.{drawn-one, known-next, sketched-none, sketched-a, sketched-b, sketched-end}
use Rattle.kin_overlay.proofs.TraceLaws.{put-none, after-none, begun-none}

-- the same part is drawn after anything
drawn-onto : (w : Standing) (h : Half) (chain left : List ℕ) (old new part before : List Draft) → IsDrawn w h chain left old new → new ≡ old ++ part → IsDrawn w h chain left before (before ++ part)
drawn-onto w h chain left old new part before d pushed =
    let same : d.part ≡ part = append_cancel_left old d.part part (sym d.drawn ∙ pushed) in
    record { part = d.part; drawn = ap (λ (l : List Draft). before ++ l) (sym same); own = d.own; spots_are = d.spots_are; fit = d.fit; stays = d.stays }

-- what is left after those that were put is an end of the chain
pub put-end : (h : Side) (put chain left : List ℕ) → left ≡ after_put put chain → 0 < length left → IsEndOf left chain
put-end h put chain left e l = end-of left chain (length (put_blanks h put chain)) (e ∙ after-drop h put chain) l

-- what is left after a step is an end of the chain
step-end : (w : Standing) (r : Record) (put chain left : List ℕ) (k : ℕ) (part : List Draft) → IsStep w r put chain k left part → 0 < length left → IsEndOf left chain
step-end w r put chain left k part (inl m) l = end-of left chain 0 m.left_is l
step-end w r put chain left k part (inr f) l = end-of left chain (1 + length (put_blanks r.at.half put (drop 1 chain))) (f.left_is ∙ after-drop r.at.half put (drop 1 chain) ∙ drop-drop (length (put_blanks r.at.half put (drop 1 chain))) 1 chain) l

-- nothing in front was put
none-put : (h : Side) (put xs : List ℕ) → put_blanks h put xs ≡ [] → after_put put xs ≡ xs
none-put h put xs e = after-drop h put xs ∙ ap (λ (l : List Draft). drop (length l) xs) e

no-parts : (xs ys : List Draft) → xs ++ ys ≡ [] → (xs ≡ []) × (ys ≡ [])
no-parts [] ys e = (refl, e)
no-parts (x ∷ xs) ys e = absurd cc

module _ (w : Standing) (put_a put_b : List ℕ) where
  -- ---- at one record
  pub along-a : (r : Record) (others : List Record) (first second left : List ℕ) (old new part : List Draft) → r.at.half ≡ SideA → new ≡ old ++ part → IsDrawn w (half_of r.at.half) first left old new
      → IsStep w r put_a first (get_or second 0 0) left part → 0 < length left → 0 < length second → IsDrawnAlong w put_a put_b (r ∷ others) others first second left second part
  along-a r others first second left old new part is pushed drawn step some second_some = record {
    traced = λ rest t. (left, second, part, rest, refl, subst (λ (h : Side). IsStepAt h w r put_a put_b first second left second part) (sym is) (step, refl), t);
    sketched = λ a b before k.
        sketched-a w a b first left second before (before ++ part) k (drawn-onto w A first left old new part before (subst (λ (h : Half). IsDrawn w h first left old new) (ap half_of is) drawn) pushed) some;
    a_end = step-end w r put_a first left (get_or second 0 0) part step some;
    b_end = end-itself second second_some;
  }

  pub along-b : (r : Record) (others : List Record) (first second left : List ℕ) (old new part : List Draft) → r.at.half ≡ SideB → new ≡ old ++ part → IsDrawn w (half_of r.at.half) second left old new
      → IsStep w r put_b second (get_or first 0 0) left part → 0 < length left → 0 < length first → IsDrawnAlong w put_a put_b (r ∷ others) others first second first left part
  along-b r others first second left old new part is pushed drawn step some first_some = record {
    traced = λ rest t. (first, left, part, rest, refl, subst (λ (h : Side). IsStepAt h w r put_a put_b first second first left part) (sym is) (step, refl), t);
    sketched = λ a b before k.
        sketched-b w a b first second left before (before ++ part) k (drawn-onto w B second left old new part before (subst (λ (h : Half). IsDrawn w h second left old new) (ap half_of is) drawn) pushed) some;
    a_end = end-itself first first_some;
    b_end = step-end w r put_b second left (get_or first 0 0) part step some;
  }

  -- ---- at many
  pub along-none : (rs : List Record) (first second : List ℕ) → 0 < length first → 0 < length second → IsDrawnAlong w put_a put_b rs rs first second first second []
  along-none rs first second p q = record { traced = λ rest t. t; sketched = λ a b old k. subst (IsSketched w a b first second) (sym (append-nil old)) k; a_end = end-itself first p; b_end = end-itself second q }

  pub along-more : (xs ys zs : List Record) (f s f' s' f'' s'' : List ℕ) (p q : List Draft) → IsDrawnAlong w put_a put_b xs ys f s f' s' p → IsDrawnAlong w put_a put_b ys zs f' s' f'' s'' q → IsDrawnAlong w put_a put_b xs zs f s f'' s'' (p ++ q)
  along-more xs ys zs f s f' s' f'' s'' p q one two = record {
    traced = λ rest t. subst (IsTrace w put_a put_b xs f s) (sym (append_assoc p q rest)) (one.traced (q ++ rest) (two.traced rest t));
    sketched = λ a b old k. subst (IsSketched w a b f'' s'') (append_assoc old p q) (two.sketched a b (old ++ p) (one.sketched a b old k));
    a_end = end-end f'' f' f two.a_end one.a_end;
    b_end = end-end s'' s' s two.b_end one.b_end;
  }

  -- ---- at those that are drawn as they are
  module _ (r : Record) (there : Contains w.list.now.records r) (u : IsUntouched w put_a put_b r) where
    fit-by : (s : Scene) (more : List ℕ) → StandIn s w → AreLive s.live (r.at.left ∷ r.at.right ∷ more) → IsFit s (draft_by r)
    fit-by s more stand live = record {
      left = live r.at.left (in_head r.at.left (r.at.right ∷ more));
      right = live r.at.right (in_tail r.at.right r.at.left (r.at.right ∷ more) (in_head r.at.right more));
      turn = λ c e.
          let m = w.list.now in
          let is : record { to = r.across; turn = r.turn } ≡ c = cc in
          let holds = stand (turn_fact r) (is-turn m (turn_fact r) (contains_map turn_fact m.records r there)) u.turn in
          subst (λ (d : Across). d.turn ≡ s.sign (Turn r.at.left r.at.right d.to)) is (sym holds);
      slope = λ n e.
          let f : Fact = record { form = slope_form (seen r.at) (seen n.at); sign = n.slope } in
          let own : f ∷ [] ≡ slope_facts r = sym (ap (slope_facts_of (place_of r)) e) in
          known-next s w r n f stand there e own (u.slope f (subst (λ (l : List Fact). Contains l f) own (contains_head f [])));
    }

    recalled-by : IsRecalled w r r.across (draft_by r)
    recalled-by = record {
      told = λ c e. (let is : record { to = r.across; turn = r.turn } ≡ c = cc in sym (ap (λ (d : Across). d.to) is), refl);
      turn = λ same across free. grind (arith, nat_tests);
      slope = λ same. inl refl;
    }

    step-by : (put more : List ℕ) → is_in r.at.right put ≡ false → IsStep w r put (r.at.left ∷ r.at.right ∷ more) r.across (r.at.right ∷ more) (draft_by r ∷ [])
    step-by put more unput = inr
        (record {
          two = omega arith;
          begins = refl;
          draft = draft_by r;
          at = refl;
          recalled = recalled-by;
          left_is = sym (after-none put (r.at.right ∷ more) (inr unput));
          part_is = ap (λ (l : List Draft). draft_by r ∷ l) (sym (put-none r.at.half put (r.at.right ∷ more) (inr unput)));
        })

    drawn-by : (more : List ℕ) → IsDrawn w (half_of r.at.half) (r.at.left ∷ r.at.right ∷ more) (r.at.right ∷ more) [] (draft_by r ∷ [])
    drawn-by more = drawn-one w (draft_by r) (r.at.left ∷ r.at.right ∷ more) (r.at.right ∷ more) [] (draft_by r ∷ []) (omega arith) refl refl refl (λ s stand live. fit-by s more stand live)

    by-a : (others : List Record) (more other : List ℕ) → r.at.half ≡ SideA → IsDrawnAlong w put_a put_b (r ∷ others) others (r.at.left ∷ r.at.right ∷ more) (r.across ∷ other) (r.at.right ∷ more) (r.across ∷ other) (draft_by r ∷ [])
    by-a others more other is =
        along-a r others (r.at.left ∷ r.at.right ∷ more) (r.across ∷ other) (r.at.right ∷ more) [] (draft_by r ∷ []) (draft_by r ∷ []) is refl (drawn-by more)
        (step-by put_a more (subst (λ (h : Side). is_in r.at.right (put_of h put_a put_b) ≡ false) is u.unput)) (omega arith) (omega arith)

    by-b : (others : List Record) (more other : List ℕ) → r.at.half ≡ SideB → IsDrawnAlong w put_a put_b (r ∷ others) others (r.across ∷ other) (r.at.left ∷ r.at.right ∷ more) (r.across ∷ other) (r.at.right ∷ more) (draft_by r ∷ [])
    by-b others more other is =
        along-b r others (r.across ∷ other) (r.at.left ∷ r.at.right ∷ more) (r.at.right ∷ more) [] (draft_by r ∷ []) (draft_by r ∷ []) is refl (drawn-by more)
        (step-by put_b more (subst (λ (h : Side). is_in r.at.right (put_of h put_a put_b) ≡ false) is u.unput)) (omega arith) (omega arith)

    taken-along : (others : List Record) (first second first' second' : List ℕ) → IsTaken r.at.half r first second first' second' → IsDrawnAlong w put_a put_b (r ∷ others) others first second first' second' (draft_by r ∷ [])
    taken-along others first second first' second' taken = at r.at.half refl taken
      where
        at : (h : Side) → r.at.half ≡ h → IsTaken h r first second first' second' → IsDrawnAlong w put_a put_b (r ∷ others) others first second first' second' (draft_by r ∷ [])
        at SideA is t = subst (λ (l : List ℕ). IsDrawnAlong w put_a put_b (r ∷ others) others first second first' l (draft_by r ∷ [])) (sym t.5)
            (subst (λ (l : List ℕ). IsDrawnAlong w put_a put_b (r ∷ others) others first second l second (draft_by r ∷ [])) (sym t.4)
            (subst (λ (l : List ℕ). IsDrawnAlong w put_a put_b (r ∷ others) others first l (r.at.right ∷ t.0) l (draft_by r ∷ [])) (sym t.3)
            (subst (λ (l : List ℕ). IsDrawnAlong w put_a put_b (r ∷ others) others l (r.across ∷ t.1) (r.at.right ∷ t.0) (r.across ∷ t.1) (draft_by r ∷ [])) (sym t.2) (by-a others t.0 t.1 is))))
        at SideB is t = subst (λ (l : List ℕ). IsDrawnAlong w put_a put_b (r ∷ others) others first second l second' (draft_by r ∷ [])) (sym t.5)
            (subst (λ (l : List ℕ). IsDrawnAlong w put_a put_b (r ∷ others) others first second first l (draft_by r ∷ [])) (sym t.4)
            (subst (λ (l : List ℕ). IsDrawnAlong w put_a put_b (r ∷ others) others l second l (r.at.right ∷ t.0) (draft_by r ∷ [])) (sym t.3)
            (subst (λ (l : List ℕ). IsDrawnAlong w put_a put_b (r ∷ others) others (r.across ∷ t.1) l (r.across ∷ t.1) (r.at.right ∷ t.0) (draft_by r ∷ [])) (sym t.2) (by-b others t.0 t.1 is))))

  pub untouched-along : (rs others : List Record) (first second first' second' : List ℕ) → ((r : Record) → Contains rs r → Contains w.list.now.records r) → AreUntouched w put_a put_b rs first second first' second' → 0 < length first → 0 < length second
      → IsDrawnAlong w put_a put_b (rs ++ others) others first second first' second' (drafts rs)
  untouched-along [] others first second first' second' there u p q =
      subst (λ (l : List ℕ). IsDrawnAlong w put_a put_b others others first second first' l []) (sym u.passed.1) (subst (λ (l : List ℕ). IsDrawnAlong w put_a put_b others others first second l second []) (sym u.passed.0) (along-none others first second p q))
  untouched-along (r ∷ rs) others first second first' second' there u p q =
      let t = u.passed in
      let one = taken-along r (there r (contains_head r rs)) (u.each r (contains_head r rs)) (rs ++ others) first second t.0 t.1 t.2 in
      along-more (r ∷ rs ++ others) (rs ++ others) others first second t.0 t.1 first' second' (draft_by r ∷ []) (drafts rs) one
      (untouched-along rs others t.0 t.1 first' second' (λ e c. there e (contains_tail r e rs c)) (record { passed = t.3; each = λ e c. u.each e (contains_tail r e rs c) }) (end-some t.0 first one.a_end) (end-some t.1 second one.b_end))

  -- those at both ends of the list
  pub front-along : (n : ℕ) (first second first' second' : List ℕ) → AreUntouched w put_a put_b (take n w.list.now.records) first second first' second' → 0 < length first → 0 < length second
      → IsDrawnAlong w put_a put_b w.list.now.records (drop n w.list.now.records) first second first' second' (drafts (take n w.list.now.records))
  front-along n first second first' second' u p q =
      let rs = w.list.now.records in
      subst (λ (l : List Record). IsDrawnAlong w put_a put_b l (drop n rs) first second first' second' (drafts (take n rs))) (take-append-drop n rs)
      (untouched-along (take n rs) (drop n rs) first second first' second' (λ r c. subst (λ (l : List Record). Contains l r) (take-append-drop n rs) (Contains-append_left (take n rs) (drop n rs) r c)) u p q)

  pub back-along : (n : ℕ) (first second first' second' : List ℕ) → AreUntouched w put_a put_b (drop n w.list.now.records) first second first' second' → 0 < length first → 0 < length second
      → IsDrawnAlong w put_a put_b (drop n w.list.now.records) [] first second first' second' (drafts (drop n w.list.now.records))
  back-along n first second first' second' u p q =
      let rs = w.list.now.records in
      subst (λ (l : List Record). IsDrawnAlong w put_a put_b l [] first second first' second' (drafts (drop n rs))) (append-nil (drop n rs))
      (untouched-along (drop n rs) [] first second first' second' (λ r c. subst (λ (l : List Record). Contains l r) (take-append-drop n rs) (Contains-append_right (take n rs) (drop n rs) r c)) u p q)

  -- ---- from the start to the end
  module _ (a b : List ℕ) where
    pub before-none : (first second : List ℕ) (out0 out1 out2 : List Draft) → 0 < length a → 0 < length b → out0 ≡ [] → out1 ≡ out0 ++ put_blanks SideA put_a a → first ≡ after_put put_a a → out2 ≡ out1 ++ put_blanks SideB put_b b → second ≡ after_put put_b b
        → IsDrawn w A a first out0 out1 → 0 < length first → IsDrawn w B b second out1 out2 → 0 < length second → IsDrawnBefore w put_a put_b a b w.list.now.records first second out2
    before-none first second out0 out1 out2 a_some b_some e0 e1 first_is e2 second_is da p db q = record {
      traced = begun-none w put_a put_b a b first second out0 out1 out2 e0 e1 first_is e2 second_is;
      sketched =
          sketched-b w a b first b second out1 out2 (sketched-a w a b a first b [] out1 (sketched-none w a b a_some b_some) (subst (λ (l : List Draft). IsDrawn w A a first l out1) e0 da) p) db q;
    }

    pub before-more : (xs ys : List Record) (f s f' s' : List ℕ) (out part : List Draft) → IsDrawnBefore w put_a put_b a b xs f s out → IsDrawnAlong w put_a put_b xs ys f s f' s' part → IsDrawnBefore w put_a put_b a b ys f' s' (out ++ part)
    before-more xs ys f s f' s' out part k p = record {
      traced = λ rest t. subst (IsSketchOf w put_a put_b a b) (sym (append_assoc out part rest)) (k.traced (part ++ rest) (p.traced rest t));
      sketched = p.sketched a b out k.sketched;
    }

    -- where none was put in front, and the first records are passed
    pub before-front : (n : ℕ) (first second f s : List ℕ) (out0 out1 out2 : List Draft) → out1 ≡ out0 ++ put_blanks SideA put_a a → first ≡ after_put put_a a → out2 ≡ out1 ++ put_blanks SideB put_b b → second ≡ after_put put_b b → out2 ≡ []
        → IsDrawnBefore w put_a put_b a b w.list.now.records first second out2 → IsDrawnAlong w put_a put_b w.list.now.records (drop n w.list.now.records) a b f s (drafts (take n w.list.now.records))
        → IsDrawnBefore w put_a put_b a b (drop n w.list.now.records) f s (drafts (take n w.list.now.records) ++ out2)
    before-front n first second f s out0 out1 out2 e1 first_is e2 second_is none k along =
        let rs = w.list.now.records in
        let start = drafts (take n rs) in
        let two = no-parts out1 (put_blanks SideB put_b b) (sym e2 ∙ none) in
        let one = no-parts out0 (put_blanks SideA put_a a) (sym e1 ∙ two.0) in
        let first_all = first_is ∙ none-put SideA put_a a one.1 in
        let second_all = second_is ∙ none-put SideB put_b b two.1 in
        let here =
        subst (λ (l : List Draft). IsDrawnBefore w put_a put_b a b rs a b l) none
        (subst (λ (l : List ℕ). IsDrawnBefore w put_a put_b a b rs a l out2) second_all (subst (λ (l : List ℕ). IsDrawnBefore w put_a put_b a b rs l second out2) first_all k)) in
        subst (IsDrawnBefore w put_a put_b a b (drop n rs) f s) (sym (append-nil start) ∙ ap (λ (l : List Draft). start ++ l) (sym none)) (before-more rs (drop n rs) a b f s [] start here along)

    -- where the chains are passed to their last points
    pub all-passed : (x y : ℕ) (out : List Draft) → IsDrawnBefore w put_a put_b a b [] (x ∷ []) (y ∷ []) out → IsAllDrawn w put_a put_b a b out
    all-passed x y out k = record {
      sketch = subst (IsSketchOf w put_a put_b a b) (append-nil out) (k.traced [] refl);
      interleaved = sketched-end w a b (x ∷ []) (y ∷ []) out k.sketched refl refl;
      fit = k.sketched.fit;
    }

    abbrev IsEnded : Half → List ℕ → List Draft → List Draft → Type 0
    IsEnded h chain old new = (left : List ℕ) × (0 < length left) × (breakpoints_of h left ≡ []) × IsDrawn w h chain left old new

    -- where their last breakpoints are drawn
    pub all-drawn : (first second : List ℕ) (before out mid new : List Draft) → IsDrawnBefore w put_a put_b a b [] first second (before ++ out) → mid ≡ out ++ blanks SideA first → new ≡ mid ++ blanks SideB second
        → IsEnded A first out mid → IsEnded B second mid new → IsAllDrawn w put_a put_b a b (before ++ new)
    all-drawn first second before out mid new k e f p q =
        let blank_a = blanks SideA first in
        let blank_b = blanks SideB second in
        let start = before ++ out in
        let is : (start ++ blank_a) ++ blank_b ≡ before ++ new = ap (λ (l : List Draft). l ++ blank_b) (append_assoc before out blank_a ∙ ap (λ (l : List Draft). before ++ l) (sym e)) ∙ append_assoc before mid blank_b ∙ ap (λ (l : List Draft). before ++ l) (sym f) in
        let one = sketched-a w a b first p.0 second start (start ++ blank_a) k.sketched (drawn-onto w A first p.0 out mid blank_a start p.3 e) p.1 in
        let two = sketched-b w a b p.0 second q.0 (start ++ blank_a) ((start ++ blank_a) ++ blank_b) one (drawn-onto w B second q.0 mid new blank_b (start ++ blank_a) q.3 f) q.1 in
        subst (IsAllDrawn w put_a put_b a b) is
        (record {
          sketch = subst (IsSketchOf w put_a put_b a b) (sym (append_assoc start blank_a blank_b)) (k.traced (blank_a ++ blank_b) refl);
          interleaved = sketched-end w a b p.0 q.0 ((start ++ blank_a) ++ blank_b) two p.2 q.2;
          fit = two.fit;
        })
