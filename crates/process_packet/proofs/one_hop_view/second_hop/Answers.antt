use Rattle.std.proofs.Common.{ℕ, List, ap}
use Rattle.process_packet.specs.OneHopState.{hop_from}
use Rattle.process_packet.proofs.one_hop_view.second_hop.Goals as goal

pub returns : goal.returns
returns c = ap (λ (mac : List ℕ). hop_from c.args.link c.args.expiry mac) c.hop_mac-mac.ensures.mac
