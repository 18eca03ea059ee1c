use Rattle.std.proofs.Common.{◌≡◌, sym, ap, ◌∙◌, subst, ◌+◌, ◌<◌, ◌&&◌, Bool, ℕ, List, length, refl, true, false, Some, Result, Ok, Err}
use Rattle.std.specs.Prelude.{slice_get, IfOk}
use Rattle.std.specs.List.{between}
use Rattle.kin_rank.specs.Finding.{is_within}
use Rattle.kin_rank.specs.Orders.{IsPlaced}
use Rattle.kin_rank.specs.Ranking.{has, AreDistinct}
use Rattle.kin_rank.proofs.Asking.{between_placed, between_at, range_test, in_ranges_are}
use Rattle.kin_rank.proofs.Placing.{apart, below}
use Rattle.kin_rank.proofs.lists.Lists.in_ranges.Goals as goal

both_ok : {T E : Type 0} (r : Result T E) (P Q R : T → Type 0) → ((v : T) → P v → Q v → R v) → IfOk r P → IfOk r Q → IfOk r R
both_ok (Ok v) P Q R f p q = f v p q
both_ok (Err e) P Q R f p q = tt

turned : (a b : Bool) → a && b ≡ b && a
turned true true = refl
turned true false = refl
turned false true = refl
turned false false = refl

part_apart : (xs places ds part : List ℕ) (a b : ℕ) → IsPlaced xs places → ds ≡ xs → part ≡ between a b ds → AreDistinct part
part_apart xs places ds part a b placed e f i j x h k = between_placed xs a b i j x (apart xs places placed) (ap (λ (l : List ℕ). slice_get l i) (sym (f ∙ ap (between a b) e)) ∙ h)
    (ap (λ (l : List ℕ). slice_get l j) (sym (f ∙ ap (between a b) e)) ∙ k)

part_within : (xs places ds part others : List ℕ) (a b : ℕ) → IsPlaced xs places → ds ≡ xs → part ≡ between a b ds → length others ≡ length places → (p x : ℕ) → slice_get part p ≡ Some x
    → x < length others
part_within xs places ds part others a b placed e f wide p x h = subst (λ (n : ℕ). x < n) (sym wide)
    (below xs places placed (a + p) x (between_at xs a b p x (ap (λ (l : List ℕ). slice_get l p) (sym (f ∙ ap (between a b) e)) ∙ h)))

-- the numbers of a range that are in the other one, as the code sees them
tested : (xs ys xp yp ds part places : List ℕ) → IsPlaced xs xp → IsPlaced ys yp → ((x : ℕ) → has xs x ≡ has ys x) → (r q : ℕ × ℕ) → ds ≡ xs → part ≡ between r.0 r.1 ds → places ≡ yp
    → (x : ℕ) → has part x && is_within places q x ≡ has (between r.0 r.1 xs) x && has (between q.0 q.1 ys) x
tested xs ys xp yp ds part places px py same r q e f h x = (λ i. has ((f ∙ ap (between r.0 r.1) e) i) x && is_within (h i) q x) ∙ range_test xs ys xp yp px py same r q x

pub pick_rising-requires-clause-apart : goal.pick_rising-requires-clause-apart
pick_rising-requires-clause-apart c = part_apart c.args.self.now.f.items.items c.args.self.now.f.places.items c.deref.result.now c.part-by_f.result.now c.args.f.0 c.args.f.1
    c.requires.listed.f_placed c.deref.ensures.value c.part-by_f.ensures

pub pick_rising-requires-clause-within : goal.pick_rising-requires-clause-within
pick_rising-requires-clause-within c =
    let b = c.args.self.now in
    let l = c.requires.listed in
    part_within b.f.items.items b.f.places.items c.deref.result.now c.part-by_f.result.now c.deref-then-by_f-by_g.result.now c.args.f.0 c.args.f.1 l.f_placed c.deref.ensures.value
    c.part-by_f.ensures
    (ap (λ (z : List ℕ). length z) c.deref-then-by_f-by_g.ensures.value ∙ l.g_room ∙ sym l.f_room)

pub pick_rising-requires-else-by_f-by_g-clause-apart : goal.pick_rising-requires-else-by_f-by_g-clause-apart
pick_rising-requires-else-by_f-by_g-clause-apart c = part_apart c.args.self.now.g.items.items c.args.self.now.g.places.items c.deref-2.result.now c.part-by_g.result.now c.args.g.0 c.args.g.1
    c.requires.listed.g_placed c.deref-2.ensures.value c.part-by_g.ensures

pub pick_rising-requires-else-by_f-by_g-clause-within : goal.pick_rising-requires-else-by_f-by_g-clause-within
pick_rising-requires-else-by_f-by_g-clause-within c =
    let b = c.args.self.now in
    let l = c.requires.listed in
    part_within b.g.items.items b.g.places.items c.deref-2.result.now c.part-by_g.result.now c.deref-else-by_f-by_g.result.now c.args.g.0 c.args.g.1 l.g_placed c.deref-2.ensures.value
    c.part-by_g.ensures
    (ap (λ (z : List ℕ). length z) c.deref-else-by_f-by_g.ensures.value ∙ l.f_room ∙ sym l.g_room)

pub returns-then-by_f-by_g : goal.returns-then-by_f-by_g
returns-then-by_f-by_g c =
    let b = c.args.self.now in
    let l = c.requires.listed in
    both_ok c.pick_rising.result _ _ _ (λ numbers rising each. in_ranges_are b c.requires c.args.f c.args.g numbers.items rising (λ x. each x
    ∙ tested b.f.items.items b.g.items.items b.f.places.items b.g.places.items c.deref.result.now c.part-by_f.result.now c.deref-then-by_f-by_g.result.now l.f_placed l.g_placed l.same_g c.args.f
    c.args.g c.deref.ensures.value c.part-by_f.ensures c.deref-then-by_f-by_g.ensures.value x))
    c.pick_rising.ensures.rising c.pick_rising.ensures.each

pub returns-else-by_f-by_g : goal.returns-else-by_f-by_g
returns-else-by_f-by_g c =
    let b = c.args.self.now in
    let l = c.requires.listed in
    both_ok c.pick_rising-else-by_f-by_g.result _ _ _ (λ numbers rising each. in_ranges_are b c.requires c.args.f c.args.g numbers.items rising (λ x. each x
    ∙ tested b.g.items.items b.f.items.items b.g.places.items b.f.places.items c.deref-2.result.now c.part-by_g.result.now c.deref-else-by_f-by_g.result.now l.g_placed l.f_placed
    (λ y. sym (l.same_g y)) c.args.g c.args.f c.deref-2.ensures.value c.part-by_g.ensures c.deref-else-by_f-by_g.ensures.value x
    ∙ turned (has (between c.args.g.0 c.args.g.1 b.g.items.items) x) (has (between c.args.f.0 c.args.f.1 b.f.items.items) x)))
    c.pick_rising-else-by_f-by_g.ensures.rising c.pick_rising-else-by_f-by_g.ensures.each
