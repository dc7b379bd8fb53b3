use Rattle.net_laws.proofs.ExampleBeacon.{beacon_is}
use Rattle.net_laws.proofs.ExampleDescent as descent
use Rattle.net_laws.proofs.ExampleHops.{against_is}
use Rattle.net_laws.proofs.ExampleNet.{net_agrees}
use Rattle.net_laws.proofs.ExamplePorts.{ports_agree}
use Rattle.net_laws.proofs.ExampleStart.{start_is}
use Rattle.net_laws.proofs.ExampleTurn.{turn_is}
use Rattle.net_laws.proofs.laws.examples_are_lawful.Goals as goal

pub returns : goal.returns
returns c = record {
  agrees = net_agrees;
  starts = start_is;
  against = against_is;
  turns = turn_is;
  family_agrees = descent.agrees;
  descends = descent.start_is;
  beacon = beacon_is;
  ports = ports_agree;
}
