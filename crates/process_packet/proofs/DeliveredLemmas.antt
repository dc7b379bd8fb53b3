-- What is delivered goes to its own host.
use Rattle.std.proofs.Common.{◌≡◌, ℕ, Bool, true, false, List, Option, Some, None, refl, sym, ◌∙◌}
use Rattle.scion_packet.specs.Header.{HeaderFields}
use Rattle.scion_packet.specs.Packet.{Packet, packet_of}
use Rattle.process_packet.specs.Decide.{verdict}
use Rattle.process_packet.specs.Laws.{IsAuthorised}
use Rattle.process_packet.specs.HostPort.{delivered_at, host_port_of}
use Rattle.process_packet.specs.Network.{Network}
use Rattle.process_packet.specs.Rows.{Sent, Verdict, delivered, sent_to}
use Rattle.process_packet.specs.PacketState.{PacketState, arrives, packet}
use Rattle.process_packet.specs.declared.underlay.Underlay.{Underlay}
use Rattle.process_packet.proofs.HostLemmas.{reaches}
use Rattle.process_packet.proofs.LawLemmas.{came_in, told, unreachable_not_sent}
use Rattle.process_packet.specs.Hosts.{DeliveredToItsHost, IsDeliveredAt, IsSentToHost}
use Rattle.process_packet.specs.Shown.{AuthorisedIsSent, asks_entry, is_for_us, turned}
use Rattle.process_packet.proofs.AuthorisedLemmas.{authorised_sent}

sent_so : (n : Network) (h : HeaderFields) (payload : List ℕ) (at : Underlay) (q p : Packet) (out : ℕ) (to : Option Underlay) → IsDeliveredAt n h payload at
    → Sent 0 (Some at) q ≡ Sent out to p → IsSentToHost n h payload out to
sent_so n h payload at q p out to reached is =
    let inside : out ≡ 0 = cc in
    let same : to ≡ Some at = cc in
    record { inside = inside; address = at; reached = reached; to_is = same }

-- what a packet is sent to is where its destination is reached
sent_there : (n : Network) (q p : Packet) (out : ℕ) (to : Option Underlay) (o : Option Underlay) → delivered_at n q.header q.payload ≡ o → sent_to q o ≡ Sent out to p
    → IsSentToHost n q.header q.payload out to
sent_there n q p out to None at is = absurd (unreachable_not_sent q.header.destination out to p is)
sent_there n q p out to (Some there) at is =
    sent_so n q.header q.payload there q p out to (reaches n (host_port_of n q.header.next_header q.payload) q.header.destination there at) is

pub delivered_so : (n : Network) (q p : Packet) (out : ℕ) (to : Option Underlay) → delivered n q ≡ Sent out to p → IsSentToHost n q.header q.payload out to
delivered_so n q p out to is = sent_there n q p out to (delivered_at n q.header q.payload) refl is

-- a packet that asks is answered, and not sent
for_us_sent : (n : Network) (link : ℕ) (source : Underlay) (moment : ℕ) (bytes : List ℕ) (out : ℕ) (to : Option Underlay) (p : Packet) (v : Verdict)
    → AuthorisedIsSent n link source moment bytes (arrives n link source moment bytes) v → v ≡ Sent out to p
    → is_for_us (arrives n link source moment bytes) ≡ true → (b : Bool) → asks_entry (arrives n link source moment bytes) ≡ b
    → IsSentToHost n (packet_of bytes).header (packet_of bytes).payload out to
for_us_sent n link source moment bytes out to p v way sent for_us true asks = let answered = way.entry_reply asks in absurd cc
for_us_sent n link source moment bytes out to p v way sent for_us false quiet =
    delivered_so n (packet (turned (arrives n link source moment bytes))) p out to (sym (way.delivery quiet for_us) ∙ sent)

pub to_its_host : DeliveredToItsHost
to_its_host n link source moment bytes out to p sent for_us =
    let s : PacketState = arrives n link source moment bytes in
    let is : IsAuthorised s = (came_in s out to p (told n link source moment bytes out to p sent)).authorised in
    for_us_sent n link source moment bytes out to p (verdict n link source moment bytes) (authorised_sent n link source moment bytes is) sent for_us (asks_entry s) refl
