-- What is authorised passes all rows.
use Rattle.std.proofs.Common.{sym, ap, ◌∙◌}
use Rattle.process_packet.specs.Decide.{verdict}
use Rattle.process_packet.specs.Laws.{IsAuthorised}
use Rattle.process_packet.specs.PacketState.{PacketState, arrives, hop, info, is_authentic, is_expired}
use Rattle.process_packet.specs.Shown.{AllAuthorisedAreSent}
use Rattle.process_packet.proofs.ConditionLemmas.{authentic_here, external, has_its_destination, has_its_pair, has_its_source, in_time, ingress_alone, sender}
use Rattle.process_packet.proofs.PassingLemmas.{not_true}
use Rattle.process_packet.proofs.Coming.{ComesAsItShould}
use Rattle.process_packet.proofs.RowsPassed.{delivers, replies_at_entry, replies_at_exit, sent_by_link, sent_to_sibling, turned_is}

pub comes_so : (s : PacketState) → IsAuthorised s → ComesAsItShould s
comes_so s is = record {
  short = is.short;
  sound = is.sound;
  unexpired = not_true (is_expired s) ((in_time (info s) (hop s) s.moment).1 is.in_time);
  by_its_link = λ outside. sym (ingress_alone s.link (is.by_its_link ((external s.link).0 outside)));
  whole = is.whole;
  sender = (sender s).1 is.sender;
  source = (has_its_source s).1 is.source;
  destination = (has_its_destination s).1 is.destination;
  authentic = ap is_authentic (sym (turned_is s)) ∙ authentic_here s is.authentic;
}

pub authorised_sent : AllAuthorisedAreSent
unfolding verdict
authorised_sent n link source moment bytes is =
    let s : PacketState = arrives n link source moment bytes in
    let comes : ComesAsItShould s = comes_so s is in
    record {
      entry_reply = λ asks. replies_at_entry s comes asks;
      delivery = λ quiet for_us. delivers s comes quiet for_us;
      exit_reply = λ u quiet others leaves pair asks. replies_at_exit s u comes quiet others leaves ((has_its_pair u).1 pair) asks;
      by_link = λ u quiet others leaves pair still own more. sent_by_link s u comes quiet others leaves ((has_its_pair u).1 pair) still own more;
      to_sibling = λ u at quiet others leaves pair none to. sent_to_sibling s u at comes quiet others leaves ((has_its_pair u).1 pair) none to;
    }
