use Rattle.std.specs.Prelude.{◌≡◌, Some, true}
use Rattle.std.proofs.Common.{◌∙◌, sym, subst}
use Rattle.std.proofs.lemmas.Option.{same_Some}
use Rattle.kin_motion.specs.Octants.{Octant}
use Rattle.kin_wedge.specs.Rows.{is_in_wedge}
use Rattle.kin_wedge.specs.Seen.{octant_seen, rows_of}
use Rattle.kin_wedge.proofs.Lost.{offered_first, hit_within, offered_more, offered_done}
use Rattle.kin_wedge.proofs.touch.Touches.offer_in.Goals as goal

pub loop-apex-init : goal.loop-apex-init
loop-apex-init c =
    offered_first c.args.table.now c.args.w c.args.of (λ apex. is_in_wedge (rows_of c.args.orders.now.lists.items) (octant_seen c.orders_of-octant.result) apex c.args.no ≡ true) (Some c.args.no) c.args.self.now.all.items
    c.hits-apex-items.result _ c.into_iter-apex-iterator.ensures.into_iter_gives c.hits-apex-items.ensures

pub add_if-requires-clause-slot : goal.add_if-requires-clause-slot
add_if-requires-clause-slot c =
    hit_within c.args.table.now c.args.w c.args.of (λ apex. is_in_wedge (rows_of c.args.orders.now.lists.items) (octant_seen c.orders_of-octant.result) apex c.args.no ≡ true) (Some c.args.no) c.args.self.now.all.items
    c.loop-apex.self.all.items c.loop-apex.apex-iterator _ c.in-Some.apex c.in-Some.ensures.steps c.loop-apex.invariant

pub loop-apex-preserved : goal.loop-apex-preserved
loop-apex-preserved c =
    offered_more c.args.table.now c.args.w c.args.of (λ apex. is_in_wedge (rows_of c.args.orders.now.lists.items) (octant_seen c.orders_of-octant.result) apex c.args.no ≡ true) (Some c.args.no) c.args.self.now.all.items
    c.loop-apex.self.all.items c.loop-apex.apex-iterator c.next.new.self c.in-Some.apex c.in-Some.ensures.steps c.loop-apex.invariant c.add_if.new.self.all.items
    (λ h. c.in_ok-add_if.ensures.offered (c.has_member-wanted.ensures ∙ h)) c.in_ok-add_if.ensures.touched

pub returns-clause-offered : goal.returns-clause-offered
returns-clause-offered c = λ apex o e k h.
    offered_done c.args.table.now c.args.w c.args.of (λ apex. is_in_wedge (rows_of c.args.orders.now.lists.items) (octant_seen c.orders_of-octant.result) apex c.args.no ≡ true) (Some c.args.no) c.args.self.now.all.items
    c.loop-apex.self.all.items c.loop-apex.apex-iterator c.in-None.ensures.steps.0 c.loop-apex.invariant apex
    (subst (λ (x : Octant). is_in_wedge (rows_of c.args.orders.now.lists.items) x apex c.args.no ≡ true) (same_Some _ _ (sym e ∙ c.orders_of-octant.ensures.octant)) h) k

pub returns-clause-touched : goal.returns-clause-touched
returns-clause-touched c = c.loop-apex.invariant.touched
