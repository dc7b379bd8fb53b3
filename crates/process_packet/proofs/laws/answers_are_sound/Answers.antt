use Rattle.process_packet.proofs.ControlLemmas.{answers_sound_for_each}
use Rattle.process_packet.proofs.laws.answers_are_sound.Goals as goal

pub returns : goal.returns
returns c = answers_sound_for_each
