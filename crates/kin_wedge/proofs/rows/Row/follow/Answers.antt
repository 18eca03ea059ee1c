use Rattle.std.proofs.Common.{sym, ap, ◌∙◌, subst}
use Rattle.kin_motion.specs.Numbers.{is_in, IsOnce}
use Rattle.kin_motion.specs.Sets.{AreDistinct}
use Rattle.std.proofs.lemmas.Result.{on_ok_weaker}
use Rattle.kin_list.specs.Listing.{lasting}
use Rattle.kin_wedge.specs.Seen.{rows_of}
use Rattle.kin_wedge.proofs.Departing.{still_in, once_still}
use Rattle.kin_wedge.proofs.LookingUp.{exchanges_looked_up}
use Rattle.kin_wedge.proofs.rows.Row.follow.Goals as goal

pub follow_row-requires-clause-still_there : goal.follow_row-requires-clause-still_there
follow_row-requires-clause-still_there c = λ x h.
    let stays = sym (ap (is_in x) (c.self.view_is ∙ c.let_go.ensures)) ∙ h in
    sym (c.requires.alike c.args.part x c.requires.part) ∙ ap (is_in x) (sym c.requires.list) ∙ still_in c.args.mark c.args.list.now.swaps c.args.self.now c.args.list.now.items x c.requires.exchanges stays

pub follow_row-requires-clause-once : goal.follow_row-requires-clause-once
follow_row-requires-clause-once c =
    subst IsOnce (sym (c.self.view_is ∙ c.let_go.ensures)) (once_still c.args.mark c.args.list.now.swaps c.args.self.now c.args.list.now.items c.requires.exchanges (subst AreDistinct (sym c.requires.list) (c.requires.rows.apart c.args.part)))

pub returns-then-is_looked_up-clause-offered : goal.returns-then-is_looked_up-clause-offered
returns-then-is_looked_up-clause-offered c =
    on_ok_weaker c.copy.result (λ same a b x.
    exchanges_looked_up (rows_of c.args.orders.now.lists.items) c.args.table.now c.args.touches.now.all.items (c.requires.looked_up c.if-is_looked_up.true) c.requires.alike c.args.part c.requires.part c.args.mark c.args.list.now.swaps c.args.self.now
    (c.requires.exchanges ∙ ap (lasting c.args.mark) c.requires.list) a b x) c.copy.ensures
