use Rattle.kin_check.proofs.Claiming.{starts_sound}
use Rattle.kin_check.proofs.replay.is_text_of_script.Goals as goal

pub is_text_from-requires-clause-sound : goal.is_text_from-requires-clause-sound
is_text_from-requires-clause-sound g c = starts_sound c.args.script.now c.requires.ranges.within c.as_slice.result.now c.in_ok-state.state c.as_slice.ensures c.in_ok-state.ensures
