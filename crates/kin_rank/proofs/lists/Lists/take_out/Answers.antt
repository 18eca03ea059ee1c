use Rattle.std.proofs.Common.{◌≡◌, sym, ap, ◌∙◌, subst, arith, ◌+◌, ◌-◌, ◌/◌, ℕ, List, length}
use Rattle.std.specs.Prelude.{remove, slice_get, Some}
use Rattle.std.proofs.lemmas.List.Edits.{length-remove}
use Rattle.std.proofs.lemmas.Option.{slice_get_within}
use Rattle.kin_rank.specs.Leading.{place_in}
use Rattle.kin_rank.specs.Orders.{IsPlaced}
use Rattle.kin_rank.specs.Ranking.{AreSame, without}
use Rattle.kin_rank.specs.Trees.{IsAbove, IsJoinedBut, IsTree}
use Rattle.kin_rank.proofs.Following.{removal}
use Rattle.kin_rank.proofs.Keeping.{listed_now, no_tree, within_room, leaves_seen, leaves_removed}
use Rattle.kin_rank.proofs.Placing.{apart, read}
use Rattle.kin_rank.proofs.Sameness.{found_too, same-without, without_is}
use Rattle.kin_rank.proofs.lists.Lists.take_out.Goals as goal

is_without : (xs places ys : List ℕ) (p who : ℕ) → IsPlaced xs places → slice_get xs p ≡ Some who → ys ≡ remove xs p → ys ≡ without who xs
is_without xs places ys p who placed at made = made ∙ without_is xs p who (apart xs places placed) at

both_without : (xs ys us vs : List ℕ) (who : ℕ) → us ≡ without who xs → vs ≡ without who ys → AreSame xs ys → AreSame us vs
both_without xs ys us vs who e f same = subst (λ (z : List ℕ). AreSame z vs) (sym e) (subst (AreSame (without who xs)) (sym f) (same-without xs ys who same))

shorter : (xs ys : List ℕ) (p who n : ℕ) → slice_get xs p ≡ Some who → ys ≡ remove xs p → n ≡ length ys → n + 1 ≡ length xs
shorter xs ys p who n at made e = ap (λ (m : ℕ). m + 1) (e ∙ ap (λ (z : List ℕ). length z) made) ∙ length-remove xs p (slice_get_within xs p who at)

pub regrow-requires-clause-within : goal.regrow-requires-clause-within
regrow-requires-clause-within c =
    let l = c.requires.sound.listed in
    within_room c.take_out-place.new.self.items.items c.take_out-place.new.self.places.items c.deref-then-is_there.result.now c.deref.result.now c.take_out-place.ensures.placed
    (ap (λ (z : List ℕ). length z) c.deref-then-is_there.ensures.value ∙ c.take_out.ensures.places ∙ l.g_room ∙ sym l.f_room ∙ sym c.take_out-place.ensures.places) c.deref.ensures.value

pub regrow-requires-clause-some : goal.regrow-requires-clause-some
regrow-requires-clause-some c =
    let b = c.args.self.now in
    let s = shorter b.f.items.items c.take_out-place.new.self.items.items c.take_out-place.result c.args.no c.len-end.result c.take_out-place.ensures.at c.take_out-place.ensures.items
    (c.len-end.ensures ∙ c.take_out-place.new.self.items.ok.0) in
    let w = slice_get_within b.f.items.items c.take_out-place.result c.args.no c.take_out-place.ensures.at in
    omega (arith, s, w)

pub regrow-requires-clause-room : goal.regrow-requires-clause-room
regrow-requires-clause-room c =
    let b = c.args.self.now in
    let l = c.requires.sound.listed in
    let s = shorter b.f.items.items c.take_out-place.new.self.items.items c.take_out-place.result c.args.no c.len-end.result c.take_out-place.ensures.at c.take_out-place.ensures.items
    (c.len-end.ensures ∙ c.take_out-place.new.self.items.ok.0) in
    let fits = l.f_placed.fits in
    let wide : length c.deref-then-is_there.result.now ≡ length b.f.places.items = ap (λ (z : List ℕ). length z) c.deref-then-is_there.ensures.value ∙ c.take_out.ensures.places ∙ l.g_room ∙ sym
    l.f_room in
    omega (arith, s, fits, wide)

pub regrow-requires-clause-leaves : goal.regrow-requires-clause-leaves
regrow-requires-clause-leaves c =
    let b = c.args.self.now in
    let tree = c.requires.sound.tree (c.is_there.ensures.some c.if-is_there.true) in
    leaves_seen c.take_out-place.new.self.items.items c.deref.result.now c.deref-then-is_there.result.now (length b.g.places.items) b.tree.nodes.items _ c.deref.ensures.value
    (ap (λ (z : List ℕ). length z) c.deref-then-is_there.ensures.value ∙ c.take_out.ensures.places)
    (leaves_removed b.f.items.items (length b.g.places.items) b.tree.nodes.items tree.leaves c.take_out-place.new.self.items.items c.take_out-place.result (c.len-end.result + 1)
    (slice_get_within b.f.items.items c.take_out-place.result c.args.no c.take_out-place.ensures.at) c.take_out-place.ensures.items
    (ap (λ (n : ℕ). n + 1) (c.len-end.ensures ∙ c.take_out-place.new.self.items.ok.0)))

pub regrow-requires-clause-spoilt : goal.regrow-requires-clause-spoilt
regrow-requires-clause-spoilt c =
    let b = c.args.self.now in
    let l = c.requires.sound.listed in
    let nodes = b.tree.nodes.items in
    let place = c.take_out-place.result in
    let end = c.len-end.result + 1 in
    let here : place_in b.f.places.items c.args.no ≡ place = read b.f.items.items b.f.places.items l.f_placed place c.args.no c.take_out-place.ensures.at in
    let s = shorter b.f.items.items c.take_out-place.new.self.items.items place c.args.no c.len-end.result c.take_out-place.ensures.at c.take_out-place.ensures.items
    (c.len-end.ensures ∙ c.take_out-place.new.self.items.ok.0) in
    let w = slice_get_within b.f.items.items place c.args.no c.take_out-place.ensures.at in
    let wide : length c.deref-then-is_there.result.now ≡ length b.g.places.items = ap (λ (z : List ℕ). length z) c.deref-then-is_there.ensures.value ∙ c.take_out.ensures.places in
    let joins = removal b.f.items.items b.f.places.items b.g.places.items b.t.places.items nodes (c.requires.sound.tree (c.is_there.ensures.some c.if-is_there.true)) b.size l.g_room l.f_placed
    b.g.items.items b.t.items.items c.take_out.new.self.items.items c.take_out-2.new.self.items.items c.take_out.new.self.places.items c.take_out-2.new.self.places.items l.g_placed l.t_placed
    c.take_out.ensures.placed c.take_out-2.ensures.placed c.take_out.ensures.places
    (found_too b.f.items.items b.g.items.items l.same_g) (found_too b.f.items.items b.t.items.items l.same_t) c.args.no c.take_out.result c.take_out-2.result end (omega (arith, here, s, w))
    c.take_out.ensures.at c.take_out-2.ensures.at c.take_out.ensures.items c.take_out-2.ensures.items in
    subst (λ (n : ℕ). IsJoinedBut c.deref-then-is_there.result.now c.deref-then-is_there-2.result.now nodes (IsAbove ((n + place) / 2) ((n + end - 1) / 2))) (sym wide)
    (subst (λ (n : ℕ). IsJoinedBut c.deref-then-is_there.result.now c.deref-then-is_there-2.result.now nodes
    (IsAbove ((length b.g.places.items + n) / 2) ((length b.g.places.items + end - 1) / 2))) here
    (subst (λ (z : List ℕ). IsJoinedBut z c.deref-then-is_there-2.result.now nodes (IsAbove ((length b.g.places.items + place_in b.f.places.items c.args.no) / 2)
    ((length b.g.places.items + end - 1) / 2))) (sym c.deref-then-is_there.ensures.value)
    (subst (λ (z : List ℕ). IsJoinedBut c.take_out.new.self.places.items z nodes (IsAbove ((length b.g.places.items + place_in b.f.places.items c.args.no) / 2)
    ((length b.g.places.items + end - 1) / 2))) (sym c.deref-then-is_there-2.ensures.value) joins)))

pub returns-then-is_there-clause-sound : goal.returns-then-is_there-clause-sound
returns-then-is_there-clause-sound c =
    let b = c.args.self.now in
    let l = c.requires.sound.listed in
    let f_is = is_without b.f.items.items b.f.places.items c.take_out-place.new.self.items.items c.take_out-place.result c.args.no l.f_placed c.take_out-place.ensures.at
    c.take_out-place.ensures.items in
    record {
      listed = listed_now b c.take_out-place.new.self c.take_out.new.self c.take_out-2.new.self _ l c.take_out-place.ensures.places c.take_out.ensures.places c.take_out-2.ensures.places
          c.take_out-place.ensures.placed c.take_out.ensures.placed c.take_out-2.ensures.placed
          (both_without b.f.items.items b.g.items.items c.take_out-place.new.self.items.items c.take_out.new.self.items.items c.args.no f_is
          (is_without b.g.items.items b.g.places.items c.take_out.new.self.items.items c.take_out.result c.args.no l.g_placed c.take_out.ensures.at c.take_out.ensures.items) l.same_g)
          (both_without b.f.items.items b.t.items.items c.take_out-place.new.self.items.items c.take_out-2.new.self.items.items c.args.no f_is
          (is_without b.t.items.items b.t.places.items c.take_out-2.new.self.items.items c.take_out-2.result c.args.no l.t_placed c.take_out-2.ensures.at c.take_out-2.ensures.items) l.same_t);
      tree = λ some. subst (λ (z : List ℕ). IsTree z c.take_out.new.self.places.items c.take_out-2.new.self.places.items c.regrow.new.self.nodes.items) c.deref.ensures.value
          (subst (λ (z : List ℕ). IsTree c.deref.result.now z c.take_out-2.new.self.places.items c.regrow.new.self.nodes.items) c.deref-then-is_there.ensures.value
          (subst (λ (z : List ℕ). IsTree c.deref.result.now c.deref-then-is_there.result.now z c.regrow.new.self.nodes.items) c.deref-then-is_there-2.ensures.value c.regrow.ensures));
    }

pub returns-then-is_there-clause-f : goal.returns-then-is_there-clause-f
returns-then-is_there-clause-f c = is_without c.args.self.now.f.items.items c.args.self.now.f.places.items c.take_out-place.new.self.items.items c.take_out-place.result c.args.no
    c.requires.sound.listed.f_placed c.take_out-place.ensures.at c.take_out-place.ensures.items

pub returns-then-is_there-clause-g : goal.returns-then-is_there-clause-g
returns-then-is_there-clause-g c = is_without c.args.self.now.g.items.items c.args.self.now.g.places.items c.take_out.new.self.items.items c.take_out.result c.args.no
    c.requires.sound.listed.g_placed c.take_out.ensures.at c.take_out.ensures.items

pub returns-then-is_there-clause-t : goal.returns-then-is_there-clause-t
returns-then-is_there-clause-t c = is_without c.args.self.now.t.items.items c.args.self.now.t.places.items c.take_out-2.new.self.items.items c.take_out-2.result c.args.no
    c.requires.sound.listed.t_placed c.take_out-2.ensures.at c.take_out-2.ensures.items

pub returns-else-is_there-clause-sound : goal.returns-else-is_there-clause-sound
returns-else-is_there-clause-sound c =
    let b = c.args.self.now in
    let l = c.requires.sound.listed in
    let none = c.is_there.ensures.none c.if-is_there.false in
    let f_is = is_without b.f.items.items b.f.places.items c.take_out-place.new.self.items.items c.take_out-place.result c.args.no l.f_placed c.take_out-place.ensures.at
    c.take_out-place.ensures.items in
    record {
      listed = listed_now b c.take_out-place.new.self c.take_out.new.self c.take_out-2.new.self _ l c.take_out-place.ensures.places c.take_out.ensures.places c.take_out-2.ensures.places
          c.take_out-place.ensures.placed c.take_out.ensures.placed c.take_out-2.ensures.placed
          (both_without b.f.items.items b.g.items.items c.take_out-place.new.self.items.items c.take_out.new.self.items.items c.args.no f_is
          (is_without b.g.items.items b.g.places.items c.take_out.new.self.items.items c.take_out.result c.args.no l.g_placed c.take_out.ensures.at c.take_out.ensures.items) l.same_g)
          (both_without b.f.items.items b.t.items.items c.take_out-place.new.self.items.items c.take_out-2.new.self.items.items c.args.no f_is
          (is_without b.t.items.items b.t.places.items c.take_out-2.new.self.items.items c.take_out-2.result c.args.no l.t_placed c.take_out-2.ensures.at c.take_out-2.ensures.items) l.same_t);
      tree = λ some. absurd (no_tree b.tree.nodes.items none some);
    }

pub returns-else-is_there-clause-f : goal.returns-else-is_there-clause-f
returns-else-is_there-clause-f c = is_without c.args.self.now.f.items.items c.args.self.now.f.places.items c.take_out-place.new.self.items.items c.take_out-place.result c.args.no
    c.requires.sound.listed.f_placed c.take_out-place.ensures.at c.take_out-place.ensures.items

pub returns-else-is_there-clause-g : goal.returns-else-is_there-clause-g
returns-else-is_there-clause-g c = is_without c.args.self.now.g.items.items c.args.self.now.g.places.items c.take_out.new.self.items.items c.take_out.result c.args.no
    c.requires.sound.listed.g_placed c.take_out.ensures.at c.take_out.ensures.items

pub returns-else-is_there-clause-t : goal.returns-else-is_there-clause-t
returns-else-is_there-clause-t c = is_without c.args.self.now.t.items.items c.args.self.now.t.places.items c.take_out-2.new.self.items.items c.take_out-2.result c.args.no
    c.requires.sound.listed.t_placed c.take_out-2.ensures.at c.take_out-2.ensures.items
