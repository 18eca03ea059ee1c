use Rattle.std.proofs.Common.{sym, subst, ℕ, List}
use Rattle.std.specs.Prelude.{Option, None}
use Rattle.kin_motion.specs.Octants.{Octant}
use Rattle.kin_wedge.specs.Rows.{IsFirstAnswer}
use Rattle.kin_wedge.specs.Seen.{octant_seen, rows_of}
use Rattle.kin_wedge.specs.Touched.{IsRenewed}
use Rattle.kin_wedge.proofs.orders.Orders.renewed.Goals as goal

-- a look-up gives the first of the octant
by_look_up : (rows : List (List ℕ)) (o : Octant) (p : ℕ) (old new : Option ℕ) → IsFirstAnswer rows o p new → IsRenewed rows o p old None new
by_look_up rows o p old new first = record {
  looked_up = λ e. first;
  taken = λ q is e inside. absurd cc;
  still_none = λ q is e outside. absurd cc;
  better = λ b q is e inside after. absurd cc;
  kept = λ b q is e out. absurd cc;
}

pub returns-in_default : goal.returns-in_default
returns-in_default c =
    let rows = rows_of c.args.self.now.lists.items in
    let o = octant_seen c.args.octant in
    subst (λ (x : Option ℕ). IsRenewed rows o c.args.apex c.args.old x c.look_up.result) (sym c.in_default.is) (by_look_up rows o c.args.apex c.args.old c.look_up.result c.look_up.ensures)
