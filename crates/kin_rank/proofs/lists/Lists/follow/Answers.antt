use Rattle.std.proofs.Common.{◌≡◌, sym, ap, ◌∙◌, subst, arith, ◌<◌, ◌+◌, ◌^◌, ℕ, List, length}
use Rattle.std.specs.Prelude.{slice_get}
use Rattle.std.proofs.lemmas.List.{get_or_default}
use Rattle.std.proofs.lemmas.Option.{slice_get_within, same_Some}
use Rattle.kin_rank.specs.Leading.{place_in}
use Rattle.kin_rank.specs.Trees.{IsMeeting, IsJoinedBut}
use Rattle.kin_rank.proofs.Placing.{member_below, found}
use Rattle.kin_rank.proofs.lists.Lists.follow.Goals as goal

pub index-requires : goal.index-requires
index-requires c = subst (λ n. c.args.a < n) (sym c.args.self.now.f.places.ok.0) (member_below c.args.self.now.f.items.items c.args.self.now.f.places.items c.requires.listed.f_placed c.args.a
    c.requires.a)

pub index-requires-then-is_there : goal.index-requires-then-is_there
index-requires-then-is_there c = subst (λ n. c.args.b < n) (sym c.args.self.now.f.places.ok.0)
    (member_below c.args.self.now.f.items.items c.args.self.now.f.places.items c.requires.listed.f_placed c.args.b c.requires.b)

pub follow-requires-clause-a : goal.follow-requires-clause-a
follow-requires-clause-a c =
    let l = c.requires.listed in
    let w = slice_get_within c.args.self.now.f.items.items c.index.result.now c.args.a (found c.args.self.now.f.items.items c.args.self.now.f.places.items l.f_placed c.args.a c.index.result.now
    c.requires.a c.index.ensures) in
    let fits = l.f_placed.fits in
    let wide : length c.deref.result.now ≡ length c.args.self.now.f.places.items = ap (λ (z : List ℕ). length z) c.deref.ensures.value ∙ l.g_room ∙ sym l.f_room in
    omega (arith, w, fits, wide)

pub follow-requires-clause-b : goal.follow-requires-clause-b
follow-requires-clause-b c =
    let l = c.requires.listed in
    let w = slice_get_within c.args.self.now.f.items.items c.index-then-is_there.result.now c.args.b
    (found c.args.self.now.f.items.items c.args.self.now.f.places.items l.f_placed c.args.b c.index-then-is_there.result.now c.requires.b c.index-then-is_there.ensures) in
    let fits = l.f_placed.fits in
    let wide : length c.deref.result.now ≡ length c.args.self.now.f.places.items = ap (λ (z : List ℕ). length z) c.deref.ensures.value ∙ l.g_room ∙ sym l.f_room in
    omega (arith, w, fits, wide)

pub follow-requires-clause-apart : goal.follow-requires-clause-apart
follow-requires-clause-apart c = λ e.
    let l = c.requires.listed in
    let at_a = found c.args.self.now.f.items.items c.args.self.now.f.places.items l.f_placed c.args.a c.index.result.now c.requires.a c.index.ensures in
    let at_b = found c.args.self.now.f.items.items c.args.self.now.f.places.items l.f_placed c.args.b c.index-then-is_there.result.now c.requires.b c.index-then-is_there.ensures in
    c.requires.apart (same_Some c.args.a c.args.b (sym at_a ∙ ap (slice_get c.args.self.now.f.items.items) e ∙ at_b))

pub follow-requires-clause-spoilt : goal.follow-requires-clause-spoilt
follow-requires-clause-spoilt c = λ m meeting.
    let b = c.args.self.now in
    let l = c.requires.listed in
    let wide : length c.deref.result.now ≡ 2 ^ b.size = ap (λ (z : List ℕ). length z) c.deref.ensures.value ∙ l.g_room in
    let in_a : place_in b.f.places.items c.args.a ≡ c.index.result.now = sym (c.index.ensures ∙ get_or_default b.f.places.items c.args.a c.index.result.now 0
    (member_below b.f.items.items b.f.places.items l.f_placed c.args.a c.requires.a)) in
    let in_b : place_in b.f.places.items c.args.b ≡ c.index-then-is_there.result.now = sym (c.index-then-is_there.ensures ∙ get_or_default b.f.places.items c.args.b
    c.index-then-is_there.result.now 0 (member_below b.f.items.items b.f.places.items l.f_placed c.args.b c.requires.b)) in
    let there : IsMeeting (2 ^ b.size + place_in b.f.places.items c.args.a) (2 ^ b.size + place_in b.f.places.items c.args.b) m =
    subst (λ (n : ℕ). IsMeeting (2 ^ b.size + n) (2 ^ b.size + place_in b.f.places.items c.args.b) m) (sym in_a)
    (subst (λ (n : ℕ). IsMeeting (2 ^ b.size + c.index.result.now) (2 ^ b.size + n) m) (sym in_b)
    (subst (λ (n : ℕ). IsMeeting (n + c.index.result.now) (n + c.index-then-is_there.result.now) m) wide meeting)) in
    subst (λ (z : List ℕ). IsJoinedBut z c.deref-then-is_there.result.now b.tree.nodes.items (λ v. v ≡ m)) (sym c.deref.ensures.value)
    (subst (λ (z : List ℕ). IsJoinedBut b.g.places.items z b.tree.nodes.items (λ v. v ≡ m)) (sym c.deref-then-is_there.ensures.value)
    (c.requires.spoilt (c.is_there.ensures.some c.if-is_there.true) m there))
