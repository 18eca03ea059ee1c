use Rattle.kin_status.proofs.Forgetting.{text_alike, passes_in_turn_alike}
use Rattle.kin_status.proofs.laws.past_legs_change_no_text.Goals as goal

pub returns : goal.returns
returns c = record {
  texts = λ s t cs text ending. text_alike cs s t text ending;
  passes = λ s t cs bs. passes_in_turn_alike cs s t bs;
}
