use Rattle.kin_legs.proofs.ShownLaws.{alike_blocks, alike_journals, past_legs_show_nothing, motions_show_alike, quiet_times_add_no_block, quiet_times_add_nothing}
use Rattle.kin_legs.proofs.laws.settings_show_alike.Goals as goal

pub returns : goal.returns
returns c = record {
  blocks = alike_blocks;
  journals = alike_journals;
  past = past_legs_show_nothing;
  motions = motions_show_alike;
  quiet_block = quiet_times_add_no_block;
  quiet_journal = quiet_times_add_nothing;
}
