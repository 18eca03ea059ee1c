use Rattle.std.proofs.Common.{◌≡◌, ◌∙◌, refl, sym, ap, subst, List, ℕ, ◌<◌, length, arith, Option}
use Rattle.std.specs.Prelude.{Contains}
use Rattle.std.proofs.lemmas.Option.{slice_get_within}
use Rattle.kin_wedge.specs.declared.touch.Touch.{Touch}
use Rattle.kin_wedge.specs.Parts.{swaps_of}
use Rattle.kin_wedge.specs.Passages.{AreExchangesOffered, IsMarkOffered, changed_slots}
use Rattle.kin_wedge.specs.Seen.{rows_of}
use Rattle.kin_wedge.specs.Touched.{AreKnown, offers_for}
use Rattle.kin_wedge.proofs.ChangedSlots.{changed_noted, changed_rising}
use Rattle.kin_wedge.proofs.Joining.{answered, changed_listed}
use Rattle.kin_wedge.proofs.candidates.Candidates.follow.Goals as goal

-- each known touch has a slot
within : (candidates : List (Option ℕ)) (ts us : List Touch) (n : ℕ) → us ≡ ts → AreKnown candidates ts → n ≡ length candidates → (t : Touch) → Contains us t → t.slot < n
within candidates ts us n e known same t h = let k = slice_get_within candidates t.slot t.old (known t (subst (λ (vs : List Touch). Contains vs t) e h)) in omega (arith, k, same)

pub renew_all-requires-clause-slots : goal.renew_all-requires-clause-slots
renew_all-requires-clause-slots c = within c.args.self.now.table c.note.new.touches.all.items c.all-touches.result.now (length c.args.self.now.table) c.all-touches.ensures c.in-Ok.ensures.known refl

pub invariant_of-self-2 : goal.invariant_of-self-2
invariant_of-self-2 c = record { touched = within c.args.self.now.table c.note.new.touches.all.items c.note.new.touches.all.items (length c.renew_all.new.table) refl c.in-Ok.ensures.known c.renew_all.ensures.length }

pub returns-clause-answered : goal.returns-clause-answered
returns-clause-answered c =
    let e = sym c.all-touches.ensures in
    answered c.args.mark (swaps_of c.args.orders.now.lists.items) c.args.self.now.rows.rows.items (rows_of c.args.orders.now.lists.items) c.requires.passage c.args.self.now.table c.all-touches.result.now
    (subst (AreExchangesOffered c.args.mark (swaps_of c.args.orders.now.lists.items) c.args.self.now.rows.rows.items (rows_of c.args.orders.now.lists.items) c.args.self.now.table) e c.in-Ok.ensures.exchanges)
    (subst (IsMarkOffered c.args.mark (rows_of c.args.orders.now.lists.items) c.args.self.now.table) e c.in-Ok.ensures.number)
    c.renew_all.new.table c.renew_all.ensures.length c.requires.answered c.renew_all.ensures.answered

pub returns-clause-changed : goal.returns-clause-changed
returns-clause-changed c =
    let ts = c.note.new.touches.all.items in
    let e = c.all-touches.ensures in
    changed_listed c.args.self.now.table c.renew_all.new.table ts (changed_slots c.renew_all.new.table ts) c.renew_all.ensures.length c.in-Ok.ensures.known
    (λ slot h. c.renew_all.ensures.kept slot (ap (offers_for slot) e ∙ h))
    (changed_noted c.renew_all.new.table ts (within c.args.self.now.table ts ts (length c.renew_all.new.table) refl c.in-Ok.ensures.known c.renew_all.ensures.length)) (changed_rising c.renew_all.new.table ts)
