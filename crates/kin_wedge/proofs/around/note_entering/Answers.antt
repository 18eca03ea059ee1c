use Rattle.kin_wedge.proofs.Touching.{touched_through}
use Rattle.kin_wedge.proofs.around.note_entering.Goals as goal

pub returns-clause-offered : goal.returns-clause-offered
returns-clause-offered c = λ p w o k m. c.in_ok-add_apex.ensures.touched.keeps _ _ (c.in_ok-offer_to_all.ensures.offered p w o k m)

pub returns-clause-touched : goal.returns-clause-touched
returns-clause-touched c = touched_through c.args.table.now _ _ _ c.in_ok-offer_to_all.ensures.touched c.in_ok-add_apex.ensures.touched
