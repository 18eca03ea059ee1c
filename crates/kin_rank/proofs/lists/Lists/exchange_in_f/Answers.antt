use Rattle.std.proofs.Common.{◌≡◌, sym, ap, ◌∙◌, refl, subst, ℕ, List, length}
use Rattle.kin_rank.specs.Ranking.{has}
use Rattle.kin_rank.specs.Trees.{IsTree}
use Rattle.kin_rank.proofs.Keeping.{listed_now, within_room, leaves_seen, leaves_exchanged, no_tree}
use Rattle.kin_rank.proofs.Sameness.{has-swap}
use Rattle.kin_rank.proofs.lists.Lists.exchange_in_f.Goals as goal

pub exchange_leaves-requires-clause-within : goal.exchange_leaves-requires-clause-within
exchange_leaves-requires-clause-within c =
    let l = c.requires.sound.listed in
    within_room c.exchange.new.self.items.items c.exchange.new.self.places.items c.deref-then-is_there.result.now c.deref.result.now c.exchange.ensures.placed
    (ap (λ (z : List ℕ). length z) c.deref-then-is_there.ensures.value ∙ l.g_room ∙ sym l.f_room ∙ sym c.exchange.ensures.places) c.deref.ensures.value

pub exchange_leaves-requires-clause-leaves : goal.exchange_leaves-requires-clause-leaves
exchange_leaves-requires-clause-leaves c =
    let tree = c.requires.sound.tree (c.is_there.ensures.some c.if-is_there.true) in
    leaves_seen c.exchange.new.self.items.items c.deref.result.now c.deref-then-is_there.result.now (length c.args.self.now.g.places.items) c.args.self.now.tree.nodes.items _ c.deref.ensures.value
    (ap (λ (z : List ℕ). length z) c.deref-then-is_there.ensures.value)
    (leaves_exchanged c.args.self.now.f.items.items (length c.args.self.now.g.places.items) c.args.self.now.tree.nodes.items tree.leaves c.exchange.new.self.items.items c.args.place
    c.exchange.result.0 c.exchange.result.1 c.exchange.ensures.first c.exchange.ensures.second c.exchange.ensures.items)

pub returns-then-is_there-clause-sound : goal.returns-then-is_there-clause-sound
returns-then-is_there-clause-sound c =
    let l = c.requires.sound.listed in
    let same : (x : ℕ) → has c.exchange.new.self.items.items x ≡ has c.args.self.now.f.items.items x = λ x. ap (λ (z : List ℕ). has z x) c.exchange.ensures.items ∙ has-swap
    c.args.self.now.f.items.items c.args.place x c.requires.place in
    record {
      listed = listed_now c.args.self.now c.exchange.new.self c.args.self.now.g c.args.self.now.t _ l c.exchange.ensures.places refl refl c.exchange.ensures.placed l.g_placed l.t_placed
          (λ x. same x ∙ l.same_g x) (λ x. same x ∙ l.same_t x);
      tree = λ some. subst (λ (z : List ℕ). IsTree z c.args.self.now.g.places.items c.args.self.now.t.places.items c.exchange_leaves.new.self.nodes.items) c.deref.ensures.value
          (subst (λ (z : List ℕ). IsTree c.deref.result.now z c.args.self.now.t.places.items c.exchange_leaves.new.self.nodes.items) c.deref-then-is_there.ensures.value
          (subst (λ (z : List ℕ). IsTree c.deref.result.now c.deref-then-is_there.result.now z c.exchange_leaves.new.self.nodes.items) c.deref-then-is_there-2.ensures.value
          c.exchange_leaves.ensures));
    }

pub returns-else-is_there-clause-sound : goal.returns-else-is_there-clause-sound
returns-else-is_there-clause-sound c =
    let l = c.requires.sound.listed in
    let same : (x : ℕ) → has c.exchange.new.self.items.items x ≡ has c.args.self.now.f.items.items x = λ x. ap (λ (z : List ℕ). has z x) c.exchange.ensures.items ∙ has-swap
    c.args.self.now.f.items.items c.args.place x c.requires.place in
    let none = c.is_there.ensures.none c.if-is_there.false in
    record {
      listed = listed_now c.args.self.now c.exchange.new.self c.args.self.now.g c.args.self.now.t _ l c.exchange.ensures.places refl refl c.exchange.ensures.placed l.g_placed l.t_placed
          (λ x. same x ∙ l.same_g x) (λ x. same x ∙ l.same_t x);
      tree = λ some. absurd (no_tree c.args.self.now.tree.nodes.items none some);
    }
