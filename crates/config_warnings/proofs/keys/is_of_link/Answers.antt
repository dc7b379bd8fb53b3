use Rattle.config_warnings.proofs.KeyLemmas.{bands_are_of_link}
use Rattle.config_warnings.proofs.keys.is_of_link.Goals as goal

pub returns-in-id-5 : goal.returns-in-id-5
returns-in-id-5 c = bands_are_of_link c.args.key.now c.in-id.if-str_eq-5-ensures.0
