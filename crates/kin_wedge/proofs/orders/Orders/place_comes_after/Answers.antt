use Rattle.std.proofs.Common.{◌≡◌, subst, List, ℕ, Bool, true, false, cond}
use Rattle.kin_motion.specs.Records.{stands_before}
use Rattle.kin_motion.specs.Numbers.{is_in}
use Rattle.kin_wedge.specs.Rows.{row_of}
use Rattle.kin_wedge.specs.Seen.{rows_of}
use Rattle.kin_wedge.specs.Sides.{IsPlace}
use Rattle.kin_wedge.proofs.Scanning.{absent_first, absent_second}
use Rattle.kin_wedge.proofs.orders.Orders.place_comes_after.Goals as goal

-- who isn't in the list comes neither before nor after
absent : (row : List ℕ) (p q : ℕ) (e : Bool) → is_in p row ≡ false → false ≡ cond e (stands_before row q p) (stands_before row p q)
absent row p q true out = absent_second row q p out
absent row p q false out = absent_first row p q out

pub returns-in_default : goal.returns-in_default
returns-in_default c = λ member here.
    let row = row_of (rows_of c.args.self.now.lists.items) c.args.reading.part in
    absent row c.args.p member c.args.reading.from_end (subst (IsPlace row c.args.p) c.in_default.is c.place_in.ensures)
