use Rattle.std.proofs.Common.{refl}
use Rattle.replay_laws.proofs.laws.examples.Goals as goal

pub returns-clause-full_queue : goal.returns-clause-full_queue
returns-clause-full_queue c = (refl, refl, refl, refl)

pub returns-clause-closed_link : goal.returns-clause-closed_link
returns-clause-closed_link c = (refl, refl, refl, refl)

pub returns-clause-two_flows : goal.returns-clause-two_flows
returns-clause-two_flows c = (refl, refl)

pub returns-clause-answers : goal.returns-clause-answers
returns-clause-answers c = (refl, refl, refl, refl)

pub returns-clause-two_bands : goal.returns-clause-two_bands
returns-clause-two_bands c = (refl, refl)

pub returns-clause-lacks : goal.returns-clause-lacks
returns-clause-lacks c = (refl, refl)

pub returns-clause-marks_once : goal.returns-clause-marks_once
returns-clause-marks_once c = refl
