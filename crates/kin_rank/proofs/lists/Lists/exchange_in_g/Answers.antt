use Rattle.std.proofs.Common.{sym, ap, ◌∙◌, refl, subst, ◌+◌, ℕ, List}
use Rattle.kin_rank.specs.Leading.{place_in}
use Rattle.kin_rank.specs.Ranking.{has, AreSame}
use Rattle.kin_rank.specs.Trees.{IsMeeting}
use Rattle.kin_rank.proofs.Following.{exchange_in_g}
use Rattle.kin_rank.proofs.Keeping.{listed_now}
use Rattle.kin_rank.proofs.Members.{has_from_get}
use Rattle.kin_rank.proofs.Placing.{two}
use Rattle.kin_rank.proofs.Sameness.{found_too, has-swap}
use Rattle.kin_rank.proofs.lists.Lists.exchange_in_g.Goals as goal

pub follow-requires-clause-listed : goal.follow-requires-clause-listed
follow-requires-clause-listed c =
    let b = c.args.self.now in
    let l = c.requires.sound.listed in
    let same : AreSame b.f.items.items c.exchange-first.new.self.items.items = λ x. l.same_g x ∙ sym
    (ap (λ (z : List ℕ). has z x) c.exchange-first.ensures.items ∙ has-swap b.g.items.items c.args.place x c.requires.place) in
    listed_now b b.f c.exchange-first.new.self b.t b.tree l refl c.exchange-first.ensures.places refl l.f_placed c.exchange-first.ensures.placed l.t_placed same l.same_t

pub follow-requires-clause-a : goal.follow-requires-clause-a
follow-requires-clause-a c = c.requires.sound.listed.same_g c.exchange-first.result.0 ∙ has_from_get c.args.self.now.g.items.items c.args.place c.exchange-first.result.0
    c.exchange-first.ensures.first

pub follow-requires-clause-b : goal.follow-requires-clause-b
follow-requires-clause-b c = c.requires.sound.listed.same_g c.exchange-first.result.1 ∙ has_from_get c.args.self.now.g.items.items (c.args.place + 1) c.exchange-first.result.1
    c.exchange-first.ensures.second

pub follow-requires-clause-apart : goal.follow-requires-clause-apart
follow-requires-clause-apart c = two c.args.self.now.g.items.items c.args.self.now.g.places.items c.requires.sound.listed.g_placed c.args.place c.exchange-first.result.0 c.exchange-first.result.1
    c.exchange-first.ensures.first c.exchange-first.ensures.second

pub follow-requires-clause-spoilt : goal.follow-requires-clause-spoilt
follow-requires-clause-spoilt c = λ some m meeting.
    let b = c.args.self.now in
    let l = c.requires.sound.listed in
    let first = c.exchange-first.result.0 in
    let second = c.exchange-first.result.1 in
    exchange_in_g b.f.items.items b.f.places.items b.g.places.items b.t.places.items b.tree.nodes.items (c.requires.sound.tree some) b.size l.g_room l.f_placed
    b.g.items.items c.exchange-first.new.self.items.items c.exchange-first.new.self.places.items l.g_placed c.exchange-first.ensures.placed c.exchange-first.ensures.places
    (found_too b.f.items.items b.g.items.items l.same_g) c.args.place first second m
    c.exchange-first.ensures.first c.exchange-first.ensures.second c.exchange-first.ensures.items
    (subst (λ (n : ℕ). IsMeeting (n + place_in b.f.places.items first) (n + place_in b.f.places.items second) m) (sym l.g_room) meeting)
