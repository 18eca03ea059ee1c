-- A fact of the merge before that is a fact of the new merge, too, is unfailed, and of the same half.
use Rattle.std.proofs.Common.{◌≡◌, ◌⊎◌, inl, inr, refl, sym, ap, ap₂, ◌∙◌, subst, arith, List, [], ◌∷◌, ℕ, ◌+◌, ◌<◌, Bool, true, false, ◌||◌, cond, nat_eq, length, Contains}
use Rattle.std.proofs.lemmas.Bool.{both_ways, false_from_ne_true, or_parts, or_from, or_cases, eqb-true}
use Rattle.kin_motion.specs.declared.form.Form.{Form}
use Rattle.kin_motion.specs.declared.form.Form.TheVariants.{Turn, Slope}
use Rattle.kin_motion.specs.declared.fact.Fact.{Fact}
use Rattle.kin_motion.specs.declared.fact.Placed.{Placed}
use Rattle.kin_motion.specs.Forms.{names}
use Rattle.kin_motion.specs.Merges.{forms_of_merge}
use Rattle.kin_motion.specs.Numbers.{is_in, IsIn, IsOnce}
use Rattle.kin_motion.specs.Scene.{Scene, Holds, fact_at}
use Rattle.kin_motion.proofs.Members.{in_head}
use Rattle.kin_motion.proofs.SetLaws.{contains_mapped}
use Rattle.kin_overlay.specs.declared.record.Record.{Record}
use Rattle.kin_overlay.specs.declared.sketch.Puts.{Puts}
use Rattle.kin_overlay.specs.declared.standing.Standing.{Standing}
use Rattle.kin_overlay.specs.Fingers.{AreLess, IsMerged}
use Rattle.kin_overlay.specs.Overlays.{names_any}
use Rattle.kin_overlay.specs.Remembered.{Remembered, place_of, breakpoints, turn_fact, slope_facts, facts_of}
use Rattle.kin_overlay.specs.Repairing.{times, IsEdited, AreApart, Past, IsKnownPast}
use Rattle.kin_overlay.specs.Standings.{IsUnfailed}
use Rattle.kin_overlay.proofs.BetweenLaws.{IsBetween, same-half, each-number, turn-between, slope-between, fact-between, slope-of}
use Rattle.kin_overlay.proofs.FactLaws.{facts-are}

-- ---- how often a number is in a list
times-none : (x : ℕ) (xs : List ℕ) → is_in x xs ≡ false → times x xs ≡ 0
times-none x [] h = refl
times-none x (y ∷ ys) h = let p = or_parts (nat_eq x y) (is_in x ys) h in ap₂ (λ (b : Bool) (n : ℕ). cond {A = ℕ} b 1 0 + n) p.0 (times-none x ys p.1)

times-some : (x : ℕ) (xs : List ℕ) → IsIn x xs → 0 < times x xs
times-some x [] h = absurd cc
times-some x (y ∷ ys) h = at (or_cases (nat_eq x y) (is_in x ys) h) (times-some x ys)
  where
    at : (nat_eq x y ≡ true) ⊎ IsIn x ys → (IsIn x ys → 0 < times x ys) → 0 < cond (nat_eq x y) 1 0 + times x ys
    at (inl e) rest = let one = ap (λ (b : Bool). cond {A = ℕ} b 1 0) e in omega (arith, one)
    at (inr k) rest = let l = rest k in omega (arith, l)

times-once : (x : ℕ) (xs : List ℕ) → IsOnce xs → IsIn x xs → times x xs ≡ 1
times-once x [] once h = absurd cc
times-once x (y ∷ ys) once h = at (nat_eq x y) refl (times-once x ys once.1)
  where
    at : (b : Bool) → nat_eq x y ≡ b → (IsIn x ys → times x ys ≡ 1) → cond (nat_eq x y) 1 0 + times x ys ≡ 1
    at true e rest = ap₂ (λ (b : Bool) (n : ℕ). cond {A = ℕ} b 1 0 + n) e (times-none x ys (ap (λ (n : ℕ). is_in n ys) (eqb-true x y e) ∙ once.0))
    at false e rest = ap₂ (λ (b : Bool) (n : ℕ). cond {A = ℕ} b 1 0 + n) e (rest (sym (ap (λ (b : Bool). b || is_in x ys) e) ∙ h))

-- ---- what is dropped
module _ (put dropped old new : List ℕ) (edited : IsEdited put dropped old new) (apart : AreApart put dropped) (x : ℕ) where
  not-put : IsIn x dropped → times x put ≡ 0
  not-put d = times-none x put (false_from_ne_true (is_in x put) (λ p. absurd (both_ways (is_in x dropped) (apart x p) d)))

  -- what was there and is there isn't dropped
  pub kept-both : IsOnce old → IsOnce new → IsIn x old → IsIn x new → is_in x dropped ≡ false
  kept-both old_once new_once h k = false_from_ne_true (is_in x dropped) (λ d. clash d)
    where
      clash : IsIn x dropped → ⊥
      clash d =
          let e = edited.balanced x in
          let p = not-put d in
          let o = times-once x old old_once h in
          let n = times-once x new new_once k in
          let l = times-some x dropped d in
          omega (arith, e, p, o, n, l)

  -- what is dropped was there
  pub dropped-old : IsIn x dropped → IsIn x old
  dropped-old d = at (is_in x old) refl
    where
      at : (b : Bool) → is_in x old ≡ b → IsIn x old
      at true e = e
      at false e = absurd (let q = edited.balanced x in let p = not-put d in let o = times-none x old e in let l = times-some x dropped d in omega (arith, q, p, o, l))

-- a form names none of the numbers, where it names none that is one of them
pub names-none : (f : Form) (gone : List ℕ) → ((x : ℕ) → names f x ≡ true → is_in x gone ≡ false) → names_any f gone ≡ false
names-none f [] k = refl
names-none f (i ∷ is) k = or_from (names f i) (names_any f is)
    (false_from_ne_true (names f i) (λ n. absurd (both_ways (is_in i (i ∷ is)) (k i n) (in_head i is))))
    (names-none f is (λ x n. (or_parts (nat_eq x i) (is_in x is) (k x n)).1))

-- what was merged in a scene holds in it
pub merged-holds : (s : Scene) (a b : List ℕ) (m : Remembered) → 0 < length a → 0 < length b → IsMerged s a b m → (f : Fact) → Contains (facts_of m) f → Holds s f
merged-holds s a b m la lb w f c =
    let v = contains_mapped (fact_at s) (forms_of_merge s a b (breakpoints m.records)) f (subst (λ (l : List Fact). Contains l f) (facts-are s a b m la lb w) c) in
    subst (Holds s) (sym v.2) refl

-- ---- a merge and the one before
module _ (p : Past) (w : Standing) (puts : Puts) (s : Scene) (a b : List ℕ) (new : Remembered) (known : IsKnownPast p w puts a b) (merged : IsMerged s a b new)
    (a_some : 0 < length a) (b_some : 0 < length b) (a_once : IsOnce a) (b_once : IsOnce b) (less : AreLess a b) where
  -- a number of one half in both merges hasn't left
  not-gone : (x : ℕ) → (IsIn x p.a × IsIn x a) ⊎ (IsIn x p.b × IsIn x b) → is_in x w.gone.now ≡ false
  not-gone x (inl (h, k)) =
      let e = known.past in
      e.gone_is x
      ∙ or_from (is_in x p.drop_a) (is_in x p.drop_b) (kept-both puts.a.now p.drop_a p.a a e.a_edited known.a_apart x e.a_once a_once h k)
      (false_from_ne_true (is_in x p.drop_b) (λ d. let l = e.less x x h (dropped-old puts.b.now p.drop_b p.b b e.b_edited known.b_apart x d) in omega (arith, l)))
  not-gone x (inr (h, k)) =
      let e = known.past in
      e.gone_is x
      ∙ or_from (is_in x p.drop_a) (is_in x p.drop_b)
      (false_from_ne_true (is_in x p.drop_a) (λ d. let l = e.less x x (dropped-old puts.a.now p.drop_a p.a a e.a_edited known.a_apart x d) h in omega (arith, l)))
      (kept-both puts.b.now p.drop_b p.b b e.b_edited known.b_apart x e.b_once b_once h k)

  -- a fact of both merges is unfailed
  pub unfailed : ((q : Placed) → Contains w.failed.now q → Holds s q.fact → ⊥) → (f : Fact) → Contains (facts_of w.list.now) f → Contains (facts_of new) f → IsUnfailed w.failed.now w.gone.now f
  unfailed fails f old now =
      let e = known.past in
      let o = fact-between p.scene p.a p.b w.list.now e.merged e.a_some e.b_some f old in
      let n = fact-between s a b new merged a_some b_some f now in
      record {
        not_failed = λ q c is. fails q c (subst (Holds s) (sym is) (merged-holds s a b new a_some b_some merged f now));
        not_named = names-none f.form w.gone.now (λ x named. not-gone x (each-number p.a p.b a b e.less less f.form o.0 n.0 o.1 n.1 x named));
      }

  -- records of both merges with one turn have one breakpoint
  pub turn-place : (r q : Record) → Contains w.list.now.records r → Contains new.records q → turn_fact r ≡ turn_fact q → place_of r ≡ place_of q
  turn-place r q c d e =
      let t = known.past in
      let old = turn-between p.scene p.a p.b w.list.now t.merged t.a_some t.b_some r c in
      let now = subst (λ (f : Fact). IsBetween a b (place_of q).half f.form) (sym e) (turn-between s a b new merged a_some b_some q d) in
      let half = same-half p.a p.b a b t.less less (turn_fact r).form (place_of r).half (place_of q).half old now in
      let form : Turn r.at.left r.at.right r.across ≡ Turn q.at.left q.at.right q.across = ap (λ (f : Fact). f.form) e in
      let left : r.at.left ≡ q.at.left = cc in
      let right : r.at.right ≡ q.at.right = cc in
      λ i. record { half = half i; left = left i; right = right i }

  -- and so do records with one slope
  pub slope-place : (r q : Record) (f : Fact) → Contains w.list.now.records r → Contains new.records q → Contains (slope_facts r) f → Contains (slope_facts q) f → place_of r ≡ place_of q
  slope-place r q f c d old_own own =
      let t = known.past in
      let old = slope-between p.scene p.a p.b w.list.now t.merged t.a_some t.b_some r f c old_own in
      let now = slope-between s a b new merged a_some b_some q f d own in
      let half = same-half p.a p.b a b t.less less f.form (place_of r).half (place_of q).half old now in
      let v = slope-of (place_of r) r.next f old_own in
      let u = slope-of (place_of q) q.next f own in
      let form : Slope r.at.left r.at.right v.0.at.left v.0.at.right ≡ Slope q.at.left q.at.right u.0.at.left u.0.at.right = ap (λ (g : Fact). g.form) (v.2 ∙ sym u.2) in
      let left : r.at.left ≡ q.at.left = cc in
      let right : r.at.right ≡ q.at.right = cc in
      λ i. record { half = half i; left = left i; right = right i }
