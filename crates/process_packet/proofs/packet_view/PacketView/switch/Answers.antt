use Rattle.std.proofs.Common.{sym, ◌∙◌}
use Rattle.process_packet.specs.PacketState.{changed_over}
use Rattle.process_packet.proofs.SwitchLemmas.{says_taken}
use Rattle.process_packet.proofs.packet_view.PacketView.switch.Goals as goal

pub returns-then-is_followed-clause-says : goal.returns-then-is_followed-clause-says
returns-then-is_followed-clause-says c s shows same alike =
    says_taken s _ (sym (c.is_last_of_segment.ensures.shows s shows) ∙ c.if-is_last_of_segment.true)
    (sym (c.is_followed.ensures.shows s shows) ∙ c.if-is_followed.true)
    (c.check_first_hop.ensures (changed_over s) (c.change_over.ensures.shows s shows alike) same)
