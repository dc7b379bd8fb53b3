use Rattle.config_warnings.proofs.KeyLemmas.{ports_are_of_top}
use Rattle.config_warnings.proofs.keys.is_of_top.Goals as goal

pub returns-in-internal_bands-2 : goal.returns-in-internal_bands-2
returns-in-internal_bands-2 c = ports_are_of_top c.args.key.now c.in-internal_bands.if-str_eq-14-ensures.0
