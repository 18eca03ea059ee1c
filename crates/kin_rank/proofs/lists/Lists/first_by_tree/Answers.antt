use Rattle.std.proofs.Common.{◌≡◌, sym, ap, ◌∙◌, subst, arith, ◌+◌, ◌*◌, ◌/◌, ◌<◌, ◌≤◌, ◌^◌, ℕ, suc, length, Option, None, inl, inr}
use Rattle.std.proofs.lemmas.Option.{slice_get_within}
use Rattle.kin_rank.specs.declared.lists.Lists.{Lists}
use Rattle.kin_rank.specs.Finding.{IsFirstOf}
use Rattle.kin_rank.specs.Leading.{place_in}
use Rattle.kin_rank.specs.Sound.{IsSound}
use Rattle.kin_rank.specs.Trees.{up, IsAt, IsUnder}
use Rattle.kin_rank.proofs.Walking.{first_of_two, first_same, beside, at_root, after_up, beside_up, after_down, after_odd}
use Rattle.kin_rank.proofs.lists.Lists.first_by_tree.Goals.{then-node-eq0, else-node-eq0}
use Rattle.kin_rank.proofs.lists.Lists.first_by_tree.Goals as goal

-- leaves are in the lower half of the row
leaf_bounds : (b : Lists) → IsSound b → (p : ℕ) → p < length b.f.items.items → (2 ^ b.size ≤ 2 ^ b.size + p) × (2 ^ b.size + p < 2 * 2 ^ b.size)
leaf_bounds b sound p l = let f = sound.listed.f_placed.fits in let r = sound.listed.f_room in (omega arith, omega (arith, l, f, r))

pub walk-best-requires-clause-node : goal.walk-best-requires-clause-node
walk-best-requires-clause-node c =
    let b = c.args.self.now in
    let l = leaf_bounds b c.requires.sound c.args.f_above (let t = c.if-f_above-len.false in let e = c.len.ensures in let k = b.f.items.ok.0 in omega (arith, t, e, k)) in
    let way = c.loop-height.invariant.way in
    subst (λ (n : ℕ). IsAt (2 ^ b.size) c.loop-height.height (n + 1)) (sym way)
    (beside b.size c.loop-height.height (2 ^ b.size + c.args.f_above) c.loop-height-test.true l.0 l.1 (let e = c.if-node-eq0.true in omega (arith, e, way)))

pub loop-height-preserved : goal.loop-height-preserved
loop-height-preserved c =
    let b = c.args.self.now in
    let f = b.f.items.items in
    let room = 2 ^ b.size in
    let h = c.loop-height.height in
    let v = c.loop-height.node in
    let step : suc h ≡ h + 1 = omega arith in
    let way = c.loop-height.invariant.way in
    record {
      way = ap (λ (n : ℕ). n / 2) way ∙ ap (λ (n : ℕ). up n (room + c.args.f_above)) step;
      first = elim c.if-node-eq0.branch [
        | then-node-eq0 w ↦ first_of_two b.t.places.items None c.loop-height.best c.if-node-eq0.best _ _ _ c.loop-height.invariant.first
            (subst (λ (r : Option ℕ). IsFirstOf b.t.places.items c.loop-height.best (λ x. IsUnder f room h (v + 1) x × (c.args.g_above < place_in b.g.places.items x)) r) (sym w.best-is)
            w.walk-best.ensures.first)
            (λ y u. (after_up f room c.args.f_above h (h + 1) v step way y u.0, u.1))
            (λ y u. (beside_up f room c.args.f_above h (h + 1) v step way y w.if-node-eq0.true u.0, u.1))
            (λ y u. elim (after_down f room c.args.f_above h (h + 1) v step way y u.0) [
              | inl a ↦ inl (a, u.1)
              | inr a ↦ inr (a, u.1)
            ])
        | else-node-eq0 w ↦ subst (IsFirstOf b.t.places.items None _) (sym w.best-is)
            (first_same b.t.places.items None c.loop-height.best _ _ c.loop-height.invariant.first
            (λ y u. (after_up f room c.args.f_above h (h + 1) v step way y u.0, u.1))
            (λ y u. (after_odd f room c.args.f_above h (h + 1) v step way y w.if-node-eq0.false u.0, u.1)))
      ];
      below = elim c.if-node-eq0.branch [
        | then-node-eq0 w ↦ (λ x e. w.walk-best.ensures.below x (sym w.best-is ∙ e))
        | else-node-eq0 w ↦ (λ x e. c.loop-height.invariant.below x (sym w.best-is ∙ e))
      ];
    }

pub returns : goal.returns
returns c =
    let b = c.args.self.now in
    let f = b.f.items.items in
    let room = 2 ^ b.size in
    let way = c.loop-height.invariant.way in
    let top : c.loop-height.height ≡ b.size = let t = c.loop-height-test.false in let e = c.loop-height.auto.height-end in omega (arith, t, e) in
    let l = leaf_bounds b c.requires.sound c.args.f_above (let t = c.if-f_above-len.false in let e = c.len.ensures in let k = b.f.items.ok.0 in omega (arith, t, e, k)) in
    let root : c.loop-height.node ≡ 1 = way ∙ ap (λ (n : ℕ). up n (room + c.args.f_above)) top ∙ at_root b.size (room + c.args.f_above) l.0 l.1 in
    first_same b.t.places.items None c.loop-height.best _ _ c.loop-height.invariant.first
    (λ y u. record { place = u.0.place; at = u.0.at; f_after = u.0.after; g_after = u.1 })
    (λ y u.
    let m = leaf_bounds b c.requires.sound u.place (slice_get_within f u.place y u.at) in
    (record { place = u.place; at = u.at; under = ap (λ (n : ℕ). up n (room + u.place)) top ∙ at_root b.size (room + u.place) m.0 m.1 ∙ sym root; after = u.f_after }, u.g_after))
