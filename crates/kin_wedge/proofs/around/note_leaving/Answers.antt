use Rattle.kin_wedge.proofs.Touching.{touched_through}
use Rattle.kin_wedge.proofs.around.note_leaving.Goals as goal

pub returns-clause-lost : goal.returns-clause-lost
returns-clause-lost c = λ slot k. c.in_ok-add_apex.ensures.touched.keeps _ _ (c.in_ok-add_lost.ensures.offered slot k)

pub returns-clause-touched : goal.returns-clause-touched
returns-clause-touched c = touched_through c.args.table.now _ _ _ c.in_ok-add_lost.ensures.touched c.in_ok-add_apex.ensures.touched
