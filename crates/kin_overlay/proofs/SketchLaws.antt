-- How a sketch is drawn.
use Rattle.std.proofs.Common.{◌≡◌, refl, sym, ap, ◌∙◌, subst, arith, List, [], ◌∷◌, ◌++◌, ℕ, ◌<◌, ◌≤◌, Bool, true, false, cond, length, get_or, drop, Some, None, Contains}
use Rattle.std.proofs.lemmas.List.{append-nil, append_assoc, map-append}
use Rattle.kin_motion.specs.declared.fact.Fact.{Fact}
use Rattle.kin_motion.specs.Numbers.{IsIn}
use Rattle.kin_motion.specs.Scene.{Scene}
use Rattle.kin_motion.specs.Merges.{Half.{A, B}, Half, Breakpoint, is_of, own_of, breakpoints_of, slope_form, IsInterleaving}
use Rattle.kin_motion.proofs.Members.{in_head, in_tail}
use Rattle.kin_overlay.specs.declared.draft.Draft.{Draft}
use Rattle.kin_overlay.specs.declared.half.Half.{Half as Side}
use Rattle.kin_overlay.specs.declared.standing.Standing.{Standing}
use Rattle.kin_overlay.specs.Fingers.{AreLive}
use Rattle.kin_overlay.specs.Seen.{seen}
use Rattle.kin_overlay.specs.Sketches.{spot_of, half_at, spots, of_half, IsFit, AreFit}
use Rattle.kin_overlay.specs.Resorting.{AreOf}
use Rattle.kin_overlay.specs.Sketching.{IsDrawn, IsSketched}
use Rattle.kin_overlay.specs.Standings.{IsUnfailed, StandIn}
use Rattle.kin_overlay.specs.declared.record.Record.{Record}
use Rattle.kin_overlay.specs.declared.record.Next.{Next}
use Rattle.kin_overlay.specs.Remembered.{place_of, slope_facts_of, slope_facts}
use Rattle.kin_overlay.proofs.HasLaws.{is-slope, in-record}
use Rattle.kin_algebra.proofs.Members.{contains_head}
use Rattle.kin_overlay.proofs.HalfLaws.{same_half, itself, are_of-append}
use Rattle.kin_overlay.proofs.RowLaws.{fit-append}

-- the first two of a chain
pub two_first : (xs : List ℕ) → 2 ≤ length xs → xs ≡ get_or xs 0 0 ∷ get_or xs 1 0 ∷ drop 2 xs
two_first [] l = absurd (omega arith)
two_first (x ∷ []) l = absurd (omega arith)
two_first (x ∷ y ∷ ys) l = refl

pub one_behind : (xs : List ℕ) → 2 ≤ length xs → drop 1 xs ≡ get_or xs 1 0 ∷ drop 2 xs
one_behind [] l = absurd (omega arith)
one_behind (x ∷ []) l = absurd (omega arith)
one_behind (x ∷ y ∷ ys) l = refl

pub live_behind : (live xs : List ℕ) → AreLive live xs → AreLive live (drop 1 xs)
live_behind live [] k = k
live_behind live (x ∷ xs) k = λ i h. k i (in_tail i x xs h)

-- the points of the first breakpoint are live
pub live_two : (live xs : List ℕ) → 2 ≤ length xs → AreLive live xs → IsIn (get_or xs 0 0) live × IsIn (get_or xs 1 0) live
live_two live [] l k = absurd (omega arith)
live_two live (x ∷ []) l k = absurd (omega arith)
live_two live (x ∷ y ∷ ys) l k = (k x (in_head x (y ∷ ys)), k y (in_tail y x (y ∷ ys) (in_head y ys)))

-- the breakpoints of a half, with and without what is known
pub own-spots : (h : Half) (ds : List Draft) → own_of h (spots ds) ≡ spots (of_half h ds)
own-spots h [] = refl
own-spots h (d ∷ ds) = at (is_of h (half_at d)) (own-spots h ds)
  where
    at : (b : Bool) → own_of h (spots ds) ≡ spots (of_half h ds) → cond b (spot_of d ∷ own_of h (spots ds)) (own_of h (spots ds)) ≡ spots (cond b (d ∷ of_half h ds) (of_half h ds))
    at true e = ap (λ (l : List Breakpoint). spot_of d ∷ l) e
    at false e = e

own-append : (h : Half) (es fs : List Breakpoint) → own_of h (es ++ fs) ≡ own_of h es ++ own_of h fs
own-append h [] fs = refl
own-append h (e ∷ es) fs = at (is_of h e.half) (own-append h es fs)
  where
    at : (b : Bool) → own_of h (es ++ fs) ≡ own_of h es ++ own_of h fs → cond b (e ∷ own_of h (es ++ fs)) (own_of h (es ++ fs)) ≡ cond b (e ∷ own_of h es) (own_of h es) ++ own_of h fs
    at true q = ap (λ (l : List Breakpoint). e ∷ l) q
    at false q = q

own-all : (h : Half) (ds : List Draft) → AreOf h ds → own_of h (spots ds) ≡ spots ds
own-all h [] p = refl
own-all h (d ∷ ds) p = ap (λ (b : Bool). cond b (spot_of d ∷ own_of h (spots ds)) (own_of h (spots ds))) p.0 ∙ ap (λ (l : List Breakpoint). spot_of d ∷ l) (own-all h ds p.1)

own-none : (g h : Half) (ds : List Draft) → is_of g h ≡ false → AreOf h ds → own_of g (spots ds) ≡ []
own-none g h [] n p = refl
own-none g h (d ∷ ds) n p = ap (λ (b : Bool). cond b (spot_of d ∷ own_of g (spots ds)) (own_of g (spots ds))) (ap (λ (k : Half). is_of g k) (sym (same_half h (half_at d) p.0)) ∙ n) ∙ own-none g h ds n p.1

-- ---- drawn
pub drawn-none : (w : Standing) (h : Half) (chain : List ℕ) (old : List Draft) → IsDrawn w h chain chain old old
drawn-none w h chain old = record { part = []; drawn = sym (append-nil old); own = tt; spots_are = refl; fit = λ s k l. tt; stays = λ live l. l }

pub drawn-one : (w : Standing) (d : Draft) (chain left : List ℕ) (old new : List Draft) → 2 ≤ length chain → d.at ≡ record { half = d.at.half; left = get_or chain 0 0; right = get_or chain 1 0 } → new ≡ old ++ d ∷ [] → left ≡ drop 1 chain
    → ((s : Scene) → StandIn s w → AreLive s.live chain → IsFit s d) → IsDrawn w (half_at d) chain left old new
drawn-one w d chain left old new two at pushed rest fit = record {
  part = d ∷ [];
  drawn = pushed;
  own = (itself (half_at d), tt);
  spots_are =
      ap (λ (l : List ℕ). spot_of d ∷ breakpoints_of (half_at d) l) (rest ∙ one_behind chain two) ∙ ap (λ (e : Breakpoint). e ∷ breakpoints_of (half_at d) (get_or chain 1 0 ∷ drop 2 chain)) (ap seen at)
      ∙ ap (breakpoints_of (half_at d)) (sym (two_first chain two));
  fit = λ s k l. (fit s k l, tt);
  stays = λ live l. subst (AreLive live) (sym rest) (live_behind live chain l);
}

pub drawn-more : (w : Standing) (h : Half) (chain mid left : List ℕ) (old now new : List Draft) → IsDrawn w h chain mid old now → IsDrawn w h mid left now new → IsDrawn w h chain left old new
drawn-more w h chain mid left old now new p q = record {
  part = p.part ++ q.part;
  drawn = q.drawn ∙ ap (λ (l : List Draft). l ++ q.part) p.drawn ∙ append_assoc old p.part q.part;
  own = are_of-append h p.part q.part p.own q.own;
  spots_are =
      ap (λ (l : List Breakpoint). l ++ breakpoints_of h left) (map-append spot_of p.part q.part) ∙ append_assoc (spots p.part) (spots q.part) (breakpoints_of h left) ∙ ap (λ (l : List Breakpoint). spots p.part ++ l) q.spots_are ∙ p.spots_are;
  fit = λ s k l. fit-append s p.part q.part (p.fit s k l) (q.fit s k (p.stays s.live l));
  stays = λ live l. q.stays live (p.stays live l);
}

-- ---- sketched
pub sketched-none : (w : Standing) (a b : List ℕ) → 0 < length a → 0 < length b → IsSketched w a b a b []
sketched-none w a b p q = record { of_a = refl; of_b = refl; fit = λ s k l m. tt; a_stays = λ live l. l; b_stays = λ live l. l; a_some = p; b_some = q }

pub sketched-a : (w : Standing) (a b first first' second : List ℕ) (old new : List Draft) → IsSketched w a b first second old → IsDrawn w A first first' old new → 0 < length first' → IsSketched w a b first' second new
sketched-a w a b first first' second old new p q l =
    let split = ap (λ (l : List Draft). spots l) q.drawn ∙ map-append spot_of old q.part in
    record {
      of_a = ap (λ (l : List Breakpoint). own_of A l ++ breakpoints_of A first') split ∙ ap (λ (l : List Breakpoint). l ++ breakpoints_of A first') (own-append A (spots old) (spots q.part) ∙ ap (λ (l : List Breakpoint). own_of A (spots old) ++ l) (own-all A q.part q.own))
          ∙ append_assoc (own_of A (spots old)) (spots q.part) (breakpoints_of A first') ∙ ap (λ (l : List Breakpoint). own_of A (spots old) ++ l) q.spots_are ∙ p.of_a;
      of_b = ap (λ (l : List Breakpoint). own_of B l ++ breakpoints_of B second) split ∙ ap (λ (l : List Breakpoint). l ++ breakpoints_of B second)
          (own-append B (spots old) (spots q.part) ∙ ap (λ (l : List Breakpoint). own_of B (spots old) ++ l) (own-none B A q.part refl q.own) ∙ append-nil (own_of B (spots old))) ∙ p.of_b;
      fit = λ s k la lb. subst (AreFit s) (sym q.drawn) (fit-append s old q.part (p.fit s k la lb) (q.fit s k (p.a_stays s.live la)));
      a_stays = λ live m. q.stays live (p.a_stays live m);
      b_stays = p.b_stays;
      a_some = l;
      b_some = p.b_some;
    }

pub sketched-b : (w : Standing) (a b first second second' : List ℕ) (old new : List Draft) → IsSketched w a b first second old → IsDrawn w B second second' old new → 0 < length second' → IsSketched w a b first second' new
sketched-b w a b first second second' old new p q l =
    let split = ap (λ (l : List Draft). spots l) q.drawn ∙ map-append spot_of old q.part in
    record {
      of_b = ap (λ (l : List Breakpoint). own_of B l ++ breakpoints_of B second') split ∙ ap (λ (l : List Breakpoint). l ++ breakpoints_of B second') (own-append B (spots old) (spots q.part) ∙ ap (λ (l : List Breakpoint). own_of B (spots old) ++ l) (own-all B q.part q.own))
          ∙ append_assoc (own_of B (spots old)) (spots q.part) (breakpoints_of B second') ∙ ap (λ (l : List Breakpoint). own_of B (spots old) ++ l) q.spots_are ∙ p.of_b;
      of_a = ap (λ (l : List Breakpoint). own_of A l ++ breakpoints_of A first) split ∙ ap (λ (l : List Breakpoint). l ++ breakpoints_of A first)
          (own-append A (spots old) (spots q.part) ∙ ap (λ (l : List Breakpoint). own_of A (spots old) ++ l) (own-none A B q.part refl q.own) ∙ append-nil (own_of A (spots old))) ∙ p.of_a;
      fit = λ s k la lb. subst (AreFit s) (sym q.drawn) (fit-append s old q.part (p.fit s k la lb) (q.fit s k (p.b_stays s.live lb)));
      a_stays = p.a_stays;
      b_stays = λ live m. q.stays live (p.b_stays live m);
      a_some = p.a_some;
      b_some = l;
    }

-- all is drawn
pub sketched-end : (w : Standing) (a b first second : List ℕ) (out : List Draft) → IsSketched w a b first second out → breakpoints_of A first ≡ [] → breakpoints_of B second ≡ [] → IsInterleaving a b (spots out)
sketched-end w a b first second out p na nb = record {
  of_a = sym (append-nil (own_of A (spots out))) ∙ ap (λ (l : List Breakpoint). own_of A (spots out) ++ l) (sym na) ∙ p.of_a;
  of_b = sym (append-nil (own_of B (spots out))) ∙ ap (λ (l : List Breakpoint). own_of B (spots out) ++ l) (sym nb) ∙ p.of_b;
}

-- ---- what is still known of a record
pub known-next : (s : Scene) (w : Standing) (r : Record) (n : Next) (f : Fact) → StandIn s w → Contains w.list.now.records r → r.next ≡ Some n → f ∷ [] ≡ slope_facts r → IsUnfailed w.failed.now w.gone.now f → n.slope ≡ s.sign (slope_form (seen r.at) (seen n.at))
known-next s w r n f stand there next own u =
    let g : Fact = record { form = slope_form (seen r.at) (seen n.at); sign = n.slope } in
    let is : f ∷ [] ≡ g ∷ [] = own ∙ ap (slope_facts_of (place_of r)) next in
    let same : f ≡ g = cc in
    let m = w.list.now in
    let within : Contains (slope_facts r) f = subst (λ (l : List Fact). Contains l f) own (contains_head f []) in
    let holds = stand f (is-slope m f (in-record m.records r f there within)) u in
    sym (ap (λ (h : Fact). h.sign) same) ∙ sym holds ∙ ap (λ (h : Fact). s.sign h.form) same

-- nothing is known of a new one
pub new_fit : (s : Scene) (d : Draft) (h : Side) (chain : List ℕ) → 2 ≤ length chain → d ≡ record { at = record { half = h; left = get_or chain 0 0; right = get_or chain 1 0 }; across = None; next = None } → AreLive s.live chain → IsFit s d
new_fit s d h chain two is k =
    let both = live_two s.live chain two k in
    subst (IsFit s) (sym is) (record { left = both.0; right = both.1; turn = λ c e. absurd cc; slope = λ n e. absurd cc })

pub single : (h : Half) (xs : List ℕ) → length xs ≤ 1 → breakpoints_of h xs ≡ []
single h [] l = refl
single h (x ∷ []) l = refl
single h (x ∷ y ∷ ys) l = absurd (omega arith)
