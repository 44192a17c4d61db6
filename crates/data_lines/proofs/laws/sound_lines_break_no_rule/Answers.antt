use Rattle.data_lines.proofs.SoundLemmas.{sound_lines}
use Rattle.data_lines.proofs.laws.sound_lines_break_no_rule.Goals as goal

pub returns : goal.returns
returns c = sound_lines
