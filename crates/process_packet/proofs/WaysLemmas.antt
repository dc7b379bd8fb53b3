-- What was sent was sent by one of three ways.
use Rattle.std.proofs.Common.{◌≡◌, ◌&&◌, ℕ, Bool, true, false, List, Option, Some, None, refl, sym, ap, ap₂, subst, ◌∙◌, inl, inr}
use Rattle.std.specs.Prelude.{is_some, option_map}
use Rattle.scion_packet.specs.Packet.{Packet}
use Rattle.process_packet.specs.declared.cause.Cause.TheVariants as cause
use Rattle.process_packet.specs.declared.neighbours.Link.{Link}
use Rattle.process_packet.specs.declared.underlay.Underlay.{Underlay}
use Rattle.process_packet.specs.Decide.{decision_table, ends_as, verdict}
use Rattle.process_packet.specs.Laws.{IsAuthorised, LeavesByItsEgress, LeftLawfully}
use Rattle.process_packet.specs.Neighbours.{sibling_at}
use Rattle.process_packet.specs.Network.{Network, own_link, sibling}
use Rattle.process_packet.specs.Rows.{Sent, delivered}
use Rattle.process_packet.specs.Shown.{AuthorisedIsSent, StandsToLeave, asks_entry, asks_exit, is_for_us, sent_along, turned}
use Rattle.process_packet.specs.PacketState.{PacketState, arrives, changed_over, egress, is_last_of_path, packet}
use Rattle.process_packet.specs.Ways.{IsSentBy, SentByThreeWays}
use Rattle.process_packet.proofs.AuthorisedLemmas.{authorised_sent, comes_so}
use Rattle.process_packet.proofs.ConditionLemmas.{has_its_pair}
use Rattle.process_packet.proofs.Coming.{ComesAsItShould}
use Rattle.process_packet.proofs.DeliveredLemmas.{delivered_so}
use Rattle.process_packet.proofs.LawLemmas.{came_in, delivered_inside, left_lawfully, told}
use Rattle.process_packet.proofs.PassingLemmas.{answered_not_sent, dropped_not_sent, same_sent}
use Rattle.process_packet.proofs.RowsPassed.{ends_there, turned_is, unlisted}

module _ (n : Network) (from : ℕ) (source : Underlay) (moment : ℕ) (bytes : List ℕ) (out : ℕ) (to : Option Underlay) (p : Packet) (sent : verdict n from source moment bytes ≡ Sent out to p) where
  abbrev s : PacketState
  s = arrives n from source moment bytes

  is : IsAuthorised s
  is = (came_in s out to p (told n from source moment bytes out to p sent)).authorised

  comes : ComesAsItShould s
  comes = comes_so s is

  way : AuthorisedIsSent n from source moment bytes s (verdict n from source moment bytes)
  way = authorised_sent n from source moment bytes is

  left : LeftLawfully (turned s) out to
  left = subst (λ (t : PacketState). LeftLawfully t out to) (turned_is s) (left_lawfully s out to p (told n from source moment bytes out to p sent)).lawfully

  ends : ends_as s decision_table ≡ Sent out to p
  unfolding verdict
  ends = sent

  by_sibling : (u : PacketState) → asks_entry s ≡ false → is_for_us s ≡ false → StandsToLeave (turned s) u → LeavesByItsEgress u out to → own_link u.network (egress u) ≡ None
      → (o : Option Underlay) → option_map sibling_at (sibling u.network (egress u)) ≡ o → IsSentBy s out to p
  by_sibling u quiet others leaves l none None unlisted-there =
      absurd (dropped_not_sent cause.PathEnd out to p (sym (unlisted s u comes quiet others leaves ((has_its_pair u).1 l.pair) none unlisted-there) ∙ ends))
  by_sibling u quiet others leaves l none (Some at) listed =
      let same = same_sent 0 out (Some at) to (packet u) p (sym (way.to_sibling u at quiet others leaves l.pair none listed) ∙ sent) in
      IsSentBy.by_sibling u (record { others = others; leaves = leaves; pair = l.pair; own = none; at = at; listed = listed; link = same.link; address = same.address; packet = same.packet })

  by_link : (u : PacketState) (last : Bool) → asks_entry s ≡ false → is_for_us s ≡ false → StandsToLeave (turned s) u → LeavesByItsEgress u out to → asks_exit u ≡ false
      → is_some (own_link u.network (egress u)) ≡ true → is_last_of_path u ≡ last → IsSentBy s out to p
  by_link u true quiet others leaves l still own ended =
      absurd (dropped_not_sent cause.PathEnd out to p (sym (ends_there s u comes quiet others leaves ((has_its_pair u).1 l.pair) still own ended) ∙ ends))
  by_link u false quiet others leaves l still own more =
      let same = same_sent (egress u) out None to (sent_along u) p (sym (way.by_link u quiet others leaves l.pair still own more) ∙ sent) in
      IsSentBy.by_link u (record { others = others; leaves = leaves; pair = l.pair; own = own; more = more; link = same.link; address = same.address; packet = same.packet })

  by_egress : (u : PacketState) (asks : Bool) → asks_entry s ≡ false → is_for_us s ≡ false → StandsToLeave (turned s) u → LeavesByItsEgress u out to → asks_exit u ≡ asks
      → (o : Option Link) → own_link u.network (egress u) ≡ o → IsSentBy s out to p
  by_egress u true quiet others leaves l asks o own = absurd (answered_not_sent _ out to p (sym (way.exit_reply u quiet others leaves l.pair asks) ∙ sent))
  by_egress u false quiet others leaves l still None own =
      by_sibling u quiet others leaves l own (option_map sibling_at (sibling u.network (egress u))) refl
  by_egress u false quiet others leaves l still (Some link) own =
      by_link u (is_last_of_path u) quiet others leaves l still (ap (λ (o : Option Link). is_some o) own) refl

  by_way : asks_entry s ≡ false → is_for_us s ≡ false → LeftLawfully (turned s) out to → IsSentBy s out to p
  by_way quiet others (inl inside) = let here : is_for_us s ≡ true = ap₂ (λ (a b : Bool). a && b) inside.came_in inside.is_for_us in absurd cc
  by_way quiet others (inr (inl stays)) =
      let u : PacketState = turned s in
      by_egress u (asks_exit u) quiet others (StandsToLeave.stays stays.stays) stays.leaves refl (own_link u.network (egress u)) refl
  by_way quiet others (inr (inr over)) =
      let u : PacketState = changed_over (turned s) in
      by_egress u (asks_exit u) quiet others (StandsToLeave.changes_over over.changes over.unexpired over.authentic) over.leaves refl (own_link u.network (egress u)) refl

  by_any : (asks for_us : Bool) → asks_entry s ≡ asks → is_for_us s ≡ for_us → IsSentBy s out to p
  by_any true for_us asks here = absurd (answered_not_sent _ out to p (sym (way.entry_reply asks) ∙ sent))
  by_any false true quiet here =
      let goes : delivered n (packet (turned s)) ≡ Sent out to p = sym (way.delivery quiet here) ∙ sent in
      IsSentBy.to_host (record { for_us = here; host = delivered_so n (packet (turned s)) p out to goes; packet = (delivered_inside n (packet (turned s)) out to p goes).1 })
  by_any false false quiet others = by_way quiet others left

  pub sent_so : IsSentBy s out to p
  sent_so = by_any (asks_entry s) (is_for_us s) refl refl

pub sent_by : SentByThreeWays
sent_by n link source moment bytes out to p sent = sent_so n link source moment bytes out to p sent
