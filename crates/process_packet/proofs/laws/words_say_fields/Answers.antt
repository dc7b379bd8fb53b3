use Rattle.process_packet.proofs.WordsLemmas.{words_say}
use Rattle.process_packet.proofs.laws.words_say_fields.Goals as goal

pub returns : goal.returns
returns c = words_say
