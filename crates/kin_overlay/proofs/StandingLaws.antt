-- Remembered facts that stand.
use Rattle.std.proofs.Common.{◌≡◌, ◌⊎◌, inl, inr, refl, sym, ap, ◌∙◌, subst, List, [], ◌∷◌, ℕ, pos, ◌+◌, ◌<◌, get_or, Bool, true, false, Some, Contains}
use Rattle.std.specs.Prelude.{slice_get, IsTrue, ◌↔◌}
use Rattle.std.proofs.lemmas.Option.{get_or_from_slice_get}
use borrow.Author.Count.{below_more}
use Rattle.kin_algebra.proofs.Signs.{equal_or_not}
use Rattle.kin_algebra.proofs.Members.{contains_head, contains_tail, contains_from_get, get_from_contains}
use Rattle.kin_algebra.specs.declared.sign.Sign.{Sign}
use Rattle.kin_motion.specs.declared.fact.Fact.{Fact}
use Rattle.kin_motion.specs.declared.form.Form.TheVariants.{Line}
use Rattle.kin_motion.specs.declared.fact.Placed.{Placed}
use Rattle.kin_motion.specs.Kinetics.{ListsFailing}
use Rattle.kin_motion.specs.Merges.{slope_form}
use Rattle.kin_motion.specs.Scene.{Scene, Holds, x_sign, y_sign}
use Rattle.kin_motion.proofs.SetLaws.{contains_map}
use Rattle.kin_overlay.specs.declared.record.Record.{Record}
use Rattle.kin_overlay.specs.declared.record.Next.{Next}
use Rattle.kin_overlay.specs.declared.end.End.{End}
use Rattle.kin_overlay.specs.declared.breakpoint.Breakpoint.{Breakpoint as Pair}
use Rattle.kin_overlay.specs.declared.standing.Standing.{Standing}
use Rattle.kin_overlay.specs.Overlays.{names_any}
use Rattle.kin_overlay.specs.Remembered.{Remembered, place_of, turn_fact, slope_facts_of, slope_facts, y_facts, end_facts, facts_of, placed, all_placed}
use Rattle.kin_overlay.specs.Seen.{seen}
use Rattle.kin_overlay.specs.Standings.{IsUnfailed, StandIn}
use Rattle.kin_overlay.proofs.HasLaws.{is-turn, is-slope, in-record, has-end}

-- a fact that isn't listed as failed holds, unless it is spared
pub still-stand : (s : Scene) (part : ℕ) (m : Remembered) (failed : List Placed) (gone : List ℕ) → ListsFailing (all_placed part (facts_of m)) (λ p. names_any p.fact.form gone) s failed
    → (f : Fact) → Contains (facts_of m) f → IsUnfailed failed gone f → Holds s f
still-stand s part m failed gone listed f there u = at (equal_or_not (s.sign f.form) f.sign)
  where
    at : (s.sign f.form ≡ f.sign) ⊎ (s.sign f.form ≡ f.sign → ⊥) → Holds s f
    at (inl h) = h
    at (inr n) = absurd (u.not_failed (placed part f) ((listed.each (placed part f)).1 (contains_map (placed part) (facts_of m) f there, u.not_named, n)) refl)

-- the turn of a record
pub known-turn : (s : Scene) (w : Standing) (r : Record) (k : ℕ) (e : Pair) (c : ℕ) (f : Fact) → StandIn s w → slice_get w.list.now.records k ≡ Some r → r.at ≡ e → r.across ≡ c → f ≡ turn_fact r → IsUnfailed w.failed.now w.gone.now f
    → r.turn ≡ s.sign (turn_fact (record r { at = e; across = c })).form
known-turn s w r k e c f stand at same across own u =
    let m = w.list.now in
    let there = is-turn m (turn_fact r) (contains_map turn_fact m.records r (contains_from_get m.records k r at)) in
    let holds = stand (turn_fact r) there (subst (λ (g : Fact). IsUnfailed w.failed.now w.gone.now g) own u) in
    sym holds ∙ ap (λ (g : Fact). s.sign g.form) (λ i. turn_fact (record r { at = same i; across = across i }))

-- the slope of a record
pub known-slope : (s : Scene) (w : Standing) (r : Record) (k : ℕ) (n : Next) (e d : Pair) (f : Fact) → StandIn s w → slice_get w.list.now.records k ≡ Some r → r.next ≡ Some n → r.at ≡ e → n.at ≡ d
    → f ≡ record { form = slope_form (seen e) (seen d); sign = n.slope } → IsUnfailed w.failed.now w.gone.now f → n.slope ≡ s.sign (slope_form (seen e) (seen d))
known-slope s w r k n e d f stand at next same other own u =
    let m = w.list.now in
    let g : Fact = record { form = slope_form (seen r.at) (seen n.at); sign = n.slope } in
    let is : f ≡ g = own ∙ (λ i. record { form = slope_form (seen (sym same i)) (seen (sym other i)); sign = n.slope }) in
    let within : Contains (slope_facts r) g = subst (λ o. Contains (slope_facts_of (place_of r) o) g) (sym next) (contains_head g []) in
    let there = is-slope m g (in-record m.records r g (contains_from_get m.records k r at) within) in
    sym (stand g there (subst (λ (h : Fact). IsUnfailed w.failed.now w.gone.now h) is u)) ∙ ap (λ (h : Fact). s.sign h.form) (sym is ∙ own)

-- none of the failed facts so far is this one
pub none-yet : (failed : List Placed) (f : Fact) (n : ℕ) (d : Placed) (b : Bool) → b ≡ false → IsTrue b ↔ ((get_or failed n d).fact ≡ f) → ((k : ℕ) (p : Placed) → k < n → slice_get failed k ≡ Some p → p.fact ≡ f → ⊥)
    → (k : ℕ) (p : Placed) → k < n + 1 → slice_get failed k ≡ Some p → p.fact ≡ f → ⊥
none-yet failed f n d b out test before k p l at e = below_more (λ i. (q : Placed) → slice_get failed i ≡ Some q → q.fact ≡ f → ⊥) n (λ i m q. before i q m) here k l p at e
  where
    here : (q : Placed) → slice_get failed n ≡ Some q → q.fact ≡ f → ⊥
    here q at e =
        let is : get_or failed n d ≡ q = get_or_from_slice_get failed n q d at in
        let yes : b ≡ true = test.1 (ap (λ (r : Placed). r.fact) is ∙ e) in
        absurd (let clash : false ≡ true = sym out ∙ yes in cc)

pub unfailed : (failed : List Placed) (gone : List ℕ) (f : Fact) → ((k : ℕ) (p : Placed) → slice_get failed k ≡ Some p → p.fact ≡ f → ⊥) → names_any f.form gone ≡ false → IsUnfailed failed gone f
unfailed failed gone f none free = record {
  not_failed = λ p c e. let g = get_from_contains failed p c in none g.0 p g.1 e;
  not_named = free;
}

-- the sign by x of an end
pub known-end : (s : Scene) (w : Standing) (e : End) (a b : ℕ) (f : Fact) → StandIn s w → (w.list.now.left ≡ Some e) ⊎ (w.list.now.right ≡ Some e) → e.a ≡ a → e.b ≡ b → f ≡ record { form = Line (pos 1) (pos 0) (pos 0) e.a e.b; sign = e.x }
    → IsUnfailed w.failed.now w.gone.now f → e.x ≡ x_sign s a b
known-end s w e a b f stand there same other own u =
    let g : Fact = record { form = Line (pos 1) (pos 0) (pos 0) e.a e.b; sign = e.x } in
    let within = has-end w.list.now e g there (contains_head g (y_facts e.a e.b e.y)) in
    sym (stand g within (subst (λ (h : Fact). IsUnfailed w.failed.now w.gone.now h) own u)) ∙ (λ i. x_sign s (same i) (other i))

-- the sign by y of an end
pub known-height : (s : Scene) (w : Standing) (e : End) (a b : ℕ) (t : Sign) (f : Fact) → StandIn s w → (w.list.now.left ≡ Some e) ⊎ (w.list.now.right ≡ Some e) → e.a ≡ a → e.b ≡ b → e.y ≡ Some t → f ∷ [] ≡ y_facts e.a e.b e.y
    → IsUnfailed w.failed.now w.gone.now f → t ≡ y_sign s a b
known-height s w e a b t f stand there same other high own u =
    let g : Fact = record { form = Line (pos 0) (pos 1) (pos 0) e.a e.b; sign = t } in
    let facts : f ∷ [] ≡ g ∷ [] = own ∙ ap (y_facts e.a e.b) high in
    let is : f ≡ g = cc in
    let x : Fact = record { form = Line (pos 1) (pos 0) (pos 0) e.a e.b; sign = e.x } in
    let within : Contains (end_facts (Some e)) f = subst (λ (l : List Fact). Contains (x ∷ l) f) own (contains_tail x f (f ∷ []) (contains_head f [])) in
    sym (ap (λ (h : Fact). h.sign) is) ∙ sym (stand f (has-end w.list.now e f there within) u) ∙ ap (λ (h : Fact). s.sign h.form) is ∙ (λ i. y_sign s (same i) (other i))
