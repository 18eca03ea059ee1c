use Rattle.std.proofs.Common.{◌≡◌, sym, ap, ◌∙◌, subst, arith, ◌+◌, ◌*◌, ◌-◌, ◌<◌, ◌≤◌, ◌^◌, ℕ, suc, List, length, get_or, Option, Some, None, inl, inr}
use Rattle.std.proofs.Math.Nat.{pow-le-pow_right}
use Rattle.std.proofs.lemmas.List.{get_or_default}
use Rattle.std.proofs.lemmas.Nat.{pow_pos}
use Rattle.kin_rank.specs.declared.leaders.Leaders.{Leaders}
use Rattle.kin_rank.specs.declared.lists.Lists.{Lists}
use Rattle.kin_rank.specs.Finding.{IsNoLater}
use Rattle.kin_rank.specs.Leading.{place_in, IsKnown}
use Rattle.kin_rank.specs.Sound.{IsSound}
use Rattle.kin_rank.specs.Trees.{at_node, IsAt, IsTree}
use Rattle.kin_rank.proofs.Leading.{at_bounds}
use Rattle.kin_rank.proofs.Walking.{first_of_none, first_stays, first_is, first_of_two, none_there, none_after, all_after, leaf_there, halves, one_up, one_down}
use Rattle.kin_rank.proofs.lists.Lists.+walk.Goals as goal

module _ (b : Lists) (sound : IsSound b) (some : 0 < length b.tree.nodes.items) (h v : ℕ) (at : IsAt (2 ^ b.size) h v) where
  tree : IsTree b.f.items.items b.g.places.items b.t.places.items b.tree.nodes.items
  tree = sound.tree some

  within : v < length b.tree.nodes.items
  within = let c = tree.joins.count in let r = sound.listed.g_room in let l = (at_bounds (2 ^ b.size) h v (pow_pos b.size) at).1 in omega (arith, c, r, l)

  seen : (r o : Option Leaders) → r ≡ get_or b.tree.nodes.items v r → r ≡ o → at_node b.tree.nodes.items v ≡ o
  seen r o e f = sym (e ∙ get_or_default b.tree.nodes.items v r None within) ∙ f

  known : (l : Leaders) → at_node b.tree.nodes.items v ≡ Some l → (l.last_in_g < length b.g.places.items) × (l.first_in_t < length b.g.places.items)
  known l e = subst (IsKnown (length b.g.places.items)) e (tree.joins.known v)

  small : v < 8192
  small =
      let l = (at_bounds (2 ^ b.size) h v (pow_pos b.size) at).1 in
      let p : 2 ^ b.size ≤ 2 ^ 12 = pow-le-pow_right (omega arith) sound.listed.few in
      omega (arith, l, p)

read_is : (places : List ℕ) (x r : ℕ) → x < length places → r ≡ get_or places x r → place_in places x ≡ r
read_is places x r l e = sym (e ∙ get_or_default places x r 0 l)

pub index-requires : goal.index-requires
index-requires m c = subst (λ n. c.args.node < n) (sym c.args.self.now.tree.nodes.ok.0) (within c.args.self.now c.requires.sound c.requires.tree c.args.height c.args.node c.requires.node)

pub returns-in_default-clause-first : goal.returns-in_default-clause-first
returns-in_default-clause-first m c =
    let b = c.args.self.now in
    let e = seen b c.requires.sound c.requires.tree c.args.height c.args.node c.requires.node c.index.result.now None c.index.ensures c.in_default.is in
    first_of_none b.t.places.items c.args.best _
    (none_there b.f.items.items b.g.places.items b.t.places.items b.tree.nodes.items (c.requires.sound.tree c.requires.tree) (2 ^ b.size) c.requires.sound.listed.g_room (pow_pos b.size)
    c.args.g_above c.args.height c.args.node c.requires.node e)

pub index-requires-2 : goal.index-requires-2
index-requires-2 m c =
    let b = c.args.self.now in
    let e = seen b c.requires.sound c.requires.tree c.args.height c.args.node c.requires.node c.index.result.now (Some c.in-Some.leaders) c.index.ensures c.in-Some.is in
    subst (λ n. c.in-Some.leaders.last_in_g < n) (sym b.g.places.ok.0) (known b c.requires.sound c.requires.tree c.args.height c.args.node c.requires.node c.in-Some.leaders e).0

pub returns-then-index-g_above-clause-first : goal.returns-then-index-g_above-clause-first
returns-then-index-g_above-clause-first m c =
    let b = c.args.self.now in
    let l = c.in-Some.leaders in
    let e = seen b c.requires.sound c.requires.tree c.args.height c.args.node c.requires.node c.index.result.now (Some l) c.index.ensures c.in-Some.is in
    let k = known b c.requires.sound c.requires.tree c.args.height c.args.node c.requires.node l e in
    let low : place_in b.g.places.items l.last_in_g ≤ c.args.g_above = let r = read_is b.g.places.items l.last_in_g c.index-2.result.now k.0 c.index-2.ensures in let t = c.if-index-g_above.true
    in omega (arith, r, t) in
    first_of_none b.t.places.items c.args.best _
    (none_after b.f.items.items b.g.places.items b.t.places.items b.tree.nodes.items (c.requires.sound.tree c.requires.tree) (2 ^ b.size) c.requires.sound.listed.g_room (pow_pos b.size)
    c.args.g_above c.args.height c.args.node l c.requires.node e low)

pub is_better-requires-clause-no : goal.is_better-requires-clause-no
is_better-requires-clause-no m c =
    let b = c.args.self.now in
    let s = c.requires.sound.listed in
    let l = c.in-Some.leaders in
    let e = seen b c.requires.sound c.requires.tree c.args.height c.args.node c.requires.node c.index.result.now (Some l) c.index.ensures c.in-Some.is in
    let k = (known b c.requires.sound c.requires.tree c.args.height c.args.node c.requires.node l e).1 in
    let g = s.g_room in
    let t : length c.deref.result.now ≡ 2 ^ b.size = ap (λ (z : List ℕ). length z) c.deref.ensures.value ∙ s.t_room in
    omega (arith, k, g, t)

pub returns-then-not-is_better-clause-first : goal.returns-then-not-is_better-clause-first
returns-then-not-is_better-clause-first m c =
    let b = c.args.self.now in
    let l = c.in-Some.leaders in
    let e = seen b c.requires.sound c.requires.tree c.args.height c.args.node c.requires.node c.index.result.now (Some l) c.index.ensures c.in-Some.is in
    first_stays b.t.places.items c.args.best _ l.first_in_t
    (subst (λ (z : List ℕ). IsNoLater z c.args.best l.first_in_t) c.deref.ensures.value (c.is_better.ensures.worse c.if-not-is_better.true))
    (all_after b.f.items.items b.g.places.items b.t.places.items b.tree.nodes.items (c.requires.sound.tree c.requires.tree) (2 ^ b.size) c.requires.sound.listed.g_room (pow_pos b.size)
    c.args.g_above c.args.height c.args.node l c.requires.node e)

pub returns-then-height-eq0-clause-first : goal.returns-then-height-eq0-clause-first
returns-then-height-eq0-clause-first m c =
    let b = c.args.self.now in
    let l = c.in-Some.leaders in
    let e = seen b c.requires.sound c.requires.tree c.args.height c.args.node c.requires.node c.index.result.now (Some l) c.index.ensures c.in-Some.is in
    let k = known b c.requires.sound c.requires.tree c.args.height c.args.node c.requires.node l e in
    let high : c.args.g_above < place_in b.g.places.items l.last_in_g = let r = read_is b.g.places.items l.last_in_g c.index-2.result.now k.0 c.index-2.ensures in let t = c.if-index-g_above.false
    in omega (arith, r, t) in
    first_is b.t.places.items c.args.best _ l.first_in_t
    (leaf_there b.f.items.items b.g.places.items b.t.places.items b.tree.nodes.items (c.requires.sound.tree c.requires.tree) (2 ^ b.size) c.requires.sound.listed.g_room (pow_pos b.size)
    c.args.g_above c.args.height c.args.node l c.if-height-eq0.true c.requires.node e high)
    (λ y i. subst (λ (z : List ℕ). place_in z l.first_in_t ≤ place_in z y) c.deref.ensures.value (c.is_better.ensures.better c.if-not-is_better.false y i))
    (all_after b.f.items.items b.g.places.items b.t.places.items b.tree.nodes.items (c.requires.sound.tree c.requires.tree) (2 ^ b.size) c.requires.sound.listed.g_room (pow_pos b.size)
    c.args.g_above c.args.height c.args.node l c.requires.node e)

pub overflow_mul-node : goal.overflow_mul-node
overflow_mul-node m c = let s = small c.args.self.now c.requires.sound c.requires.tree c.args.height c.args.node c.requires.node in omega (arith, s)

pub overflow_mul-node-2 : goal.overflow_mul-node-2
overflow_mul-node-2 m c = let s = small c.args.self.now c.requires.sound c.requires.tree c.args.height c.args.node c.requires.node in omega (arith, s)

pub overflow_add-node : goal.overflow_add-node
overflow_add-node m c = let s = small c.args.self.now c.requires.sound c.requires.tree c.args.height c.args.node c.requires.node in omega (arith, s)

pub walk-requires : goal.walk-requires
walk-requires m c =
    let up_one : suc (c.args.height - 1) ≡ c.args.height = let n = c.if-height-eq0.false in omega (arith, n) in (
      let n = c.if-height-eq0.false in let d = c.decreases in omega (arith, n, d),
      (c.requires.sound, (c.requires.tree, ((halves (2 ^ c.args.self.now.size) c.args.height (c.args.height - 1) c.args.node up_one c.requires.node).1, c.walk-best.ensures.below))),
    )

pub returns-clause-first : goal.returns-clause-first
returns-clause-first m c =
    let b = c.args.self.now in
    let up_one : suc (c.args.height - 1) ≡ c.args.height = let n = c.if-height-eq0.false in omega (arith, n) in
    first_of_two b.t.places.items c.args.best c.walk-best.result c.walk.result _ _ _ c.walk-best.ensures.first c.walk.ensures.first
    (λ y u. (one_up b.f.items.items (2 ^ b.size) c.args.height (c.args.height - 1) c.args.node (2 * c.args.node) y up_one (omega arith) u.0, u.1))
    (λ y u. (one_up b.f.items.items (2 ^ b.size) c.args.height (c.args.height - 1) c.args.node (2 * c.args.node + 1) y up_one (omega arith) u.0, u.1))
    (λ y u. elim (one_down b.f.items.items (2 ^ b.size) c.args.height (c.args.height - 1) c.args.node y up_one u.0) [
      | inl d ↦ inl (d, u.1)
      | inr d ↦ inr (d, u.1)
    ])
