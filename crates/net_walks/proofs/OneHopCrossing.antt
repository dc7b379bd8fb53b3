-- A packet that sets out lawfully on a path of one hop crosses its link and is delivered.
use Rattle.std.proofs.Common.{◌≡◌, ◌≢◌, ◌≤◌, ◌<◌, ◌+◌, ◌*◌, ◌^◌, ◌&&◌, ◌||◌, ◌++◌, not, ℕ, Bool, true, false, List, [], ◌∷◌, length, map, All, Option, Some, None, refl, sym, ap, ap₂, subst, ◌∙◌, arith, length-append, slice_index}
use Rattle.std.specs.Prelude.{is_none}
use Rattle.std.proofs.lemmas.Bool.{eq-eqb, ltb-false, ne_eqb}
use Rattle.std.proofs.lemmas.List.{length-take-le}
use Rattle.cmac_core.specs.Cmac.{tag}
use Rattle.cmac_core.proofs.TagBytes.{tag_len}
use Rattle.field_rows.specs.Row.{rows}
use Rattle.field_rows.specs.Place.{IsBytes}
use Rattle.hop_check.specs.Expiry.{is_expired}
use Rattle.hop_check.specs.Mac.{chain, mac6, mac_input}
use Rattle.scion_packet.specs.Fault.{Fault}
use Rattle.scion_packet.specs.Header.{HeaderFields, header_fault, header_of, one_hop_path}
use Rattle.scion_packet.specs.OneHop.{IsOneHopPacket, OneHopPacket, SpellsOneHop, one_hop_fault, one_hop_packet_of, one_hop_spelling}
use Rattle.scion_packet.specs.Path.{HopField, InfoField, IsHop, hop_at, hop_text, info_table}
use Rattle.scion_packet.proofs.Fields.{hop_back}
use Rattle.scion_packet.proofs.OneHopLaws.{one_hop_both_pass, one_hop_only, one_hop_packet_passes, one_hop_spelled}
use Rattle.scion_packet.proofs.PathBack.{whole_stands}
use Rattle.process_packet.specs.declared.arrival.Arrival.{Arrival}
use Rattle.process_packet.specs.declared.decision.Decision.{Decision}
use Rattle.process_packet.specs.declared.decision.Decision.TheVariants as decision
use Rattle.process_packet.specs.declared.neighbours.Link.{Link}
use Rattle.process_packet.specs.declared.underlay.Underlay.{Underlay}
use Rattle.process_packet.specs.Conditions.{IsInTime}
use Rattle.process_packet.specs.Decide.{decide, moved}
use Rattle.process_packet.specs.HostPort.{host_port_of}
use Rattle.process_packet.specs.Hosts.{IsReachedAt}
use Rattle.process_packet.specs.Network.{Network, is_local, own_link}
use Rattle.process_packet.specs.OneHopLaws.{IsChained, LeavesAs, MayEnterTo, MayLeaveBy}
use Rattle.process_packet.specs.OneHopState.{OneHopState, completed, hop_from, one_hop_arrives, second}
use Rattle.process_packet.proofs.OneHopByteLemmas.{all_enter, all_leave, differ_in_place}
use Rattle.process_packet.proofs.OneHopLawLemmas.{sent_in, table_sends}
use Rattle.net_laws.specs.Configured.{AreNumbered}
use Rattle.net_laws.specs.Net.{Agrees, IsNamed, Net, Router}
use Rattle.net_laws.specs.OneHopStart.{LawfulOneHopStart, OneHopAt, exit_of, first_of, info_of, second_of}
use Rattle.net_laws.proofs.NetLemmas.{IsWired, joined_ends}
use Rattle.net_laws.proofs.OneHopPath.{IsDeliveredSo, beaconed, opens}
use Rattle.net_walks.specs.OneHopWalk.{BeaconsCross, Crosses, RepliesSetOut, one_hop_came_of, one_hop_starts_at}
use Rattle.net_walks.specs.declared.stop.Stop.{Stop}
use Rattle.net_walks.specs.Stops.{Came, IsStop, arrives_over, came_by, came_to, carried_on, is_for_host, is_headed, next_from, next_stop, over_wire, stops_from}
use Rattle.net_walks.proofs.StopsLemmas.{none_further, within_host}
use Rattle.net_walks.proofs.WalkStops.{far_is, or_true}

-- ---- both ends of the wire

-- what both ends of a start's wire say of each other
record AreEnds (near far : Router) (out into : Link) : Type 0 where
  remote : out.local ≡ into.remote
  out_names : IsNamed out.neighbor far
  into_names : IsNamed into.neighbor near

ends_of : (net : Net) (agrees : Agrees net) (moment : ℕ) (a : OneHopAt) (s : LawfulOneHopStart net moment a) → AreEnds s.near.router s.far.router s.near.link s.far.link
ends_of net agrees moment a s =
    let w : IsWired net (exit_of a) s.entry = joined_ends net agrees (exit_of a) s.entry s.wire in
    let some-near : Some w.one ≡ Some s.near.router = sym w.there ∙ s.near.there in
    let some-far : Some w.other ≡ Some s.far.router = sym w.back ∙ s.far.there in
    let near : w.one ≡ s.near.router = cc in
    let far : w.other ≡ s.far.router = cc in
    let some-out : Some w.out ≡ Some s.near.link = sym w.out_is ∙ ap (λ (x : Router). own_link x.network (exit_of a).link) near ∙ s.near.listed in
    let some-into : Some w.into ≡ Some s.far.link = sym w.into_is ∙ ap (λ (x : Router). own_link x.network s.entry.link) far ∙ s.far.listed in
    let out : w.out ≡ s.near.link = cc in
    let into : w.into ≡ s.far.link = cc in
    record {
      remote = sym (ap (λ (l : Link). l.local) out) ∙ sym w.remote_back ∙ ap (λ (l : Link). l.remote) into;
      out_names = subst (λ (l : Link). IsNamed l.neighbor s.far.router) out (subst (IsNamed w.out.neighbor) far w.out_names);
      into_names = subst (λ (l : Link). IsNamed l.neighbor s.near.router) into (subst (IsNamed w.into.neighbor) near w.into_names);
    }

-- ---- what the datagram shows

mac_len : (key : List ℕ) (beta : ℕ) (i : InfoField) (h : HopField) → length (mac6 key beta i h) ≡ 6
mac_len key beta i h =
    let all : length (tag key (mac_input beta i h)) ≡ 16 = tag_len key (mac_input beta i h) refl in
    length-take-le 6 (tag key (mac_input beta i h)) (omega (arith, all))

in_time : (i : InfoField) (h : HopField) (moment : ℕ) → is_expired i h moment ≡ false → IsInTime i h moment
in_time i h moment fresh = let late = ltb-false (2 * i.timestamp + 675 * (1 + h.expiry)) (2 * moment) fresh in omega arith

-- a hop field is read back from its own twelve bytes
read_back : (h : HopField) → IsHop h → hop_at (hop_text h) 0 ≡ h
read_back h lawful = hop_back (hop_text h) 0 h (record { text = whole_stands (hop_text h) (hop_text h) refl; lawful = lawful })

abbrev state_of : Network → ℕ → Underlay → ℕ → List ℕ → OneHopPacket → OneHopState
state_of n link source moment bytes p = record { network = n; link = link; source = source; moment = moment; bytes = bytes; packet = p }

-- for a host of this AS, from outside
for_host : (n : Network) (link : ℕ) (bytes : List ℕ) (p : OneHopPacket) → p ≡ one_hop_packet_of bytes → one_hop_fault bytes ≡ None → link ≢ 0 → p.header.destination.isd ≡ n.isd
    → p.header.destination.autonomous_system ≡ n.autonomous_system → is_for_host n link bytes ≡ true
for_host n link bytes p read sound outside isd number =
    let headed : is_headed bytes ≡ true =
    ap (λ (f : Option Fault). is_none (header_fault bytes) || is_none f) (one_hop_both_pass bytes sound).0 ∙ or_true (is_none (header_fault bytes)) in
    let same : p.header ≡ header_of bytes = ap (λ (q : OneHopPacket). q.header) read in
    let isd-here : (header_of bytes).destination.isd ≡ n.isd = sym (ap (λ (h : HeaderFields). h.destination.isd) same) ∙ isd in
    let number-here : (header_of bytes).destination.autonomous_system ≡ n.autonomous_system = sym (ap (λ (h : HeaderFields). h.destination.autonomous_system) same) ∙ number in
    let local : is_local n (header_of bytes).destination ≡ true =
    ap₂ (λ (b c : Bool). b && c) (eq-eqb (header_of bytes).destination.isd n.isd isd-here) (eq-eqb (header_of bytes).destination.autonomous_system n.autonomous_system number-here) in
    ap₂ (λ (b c : Bool). b && c) (ap not (ne_eqb link 0 outside)) (ap₂ (λ (b c : Bool). b && c) headed local)

-- ---- the two stops

module _ (net : Net) (moment : ℕ) (a : OneHopAt)
    (agrees : Agrees net) (numbered : AreNumbered net) (are : IsBytes (one_hop_spelling a.packet)) (s : LawfulOneHopStart net moment a) where
  abbrev near : Router
  near = s.near.router

  abbrev far : Router
  far = s.far.router

  abbrev bytes : List ℕ
  bytes = one_hop_spelling a.packet

  abbrev out : ℕ
  out = (exit_of a).link

  ends : AreEnds near far s.near.link s.far.link
  ends = ends_of net agrees moment a s

  text : SpellsOneHop bytes a.packet
  text = record { lawful = s.lawful; text = refl }

  read : a.packet ≡ one_hop_packet_of bytes
  read = one_hop_only bytes a.packet text

  sound : one_hop_fault bytes ≡ None
  sound = one_hop_packet_passes bytes a.packet text

  type_there : slice_index bytes 8 ≡ one_hop_path
  type_there = ap (λ (h : HeaderFields). h.path_type) (sym (ap (λ (q : OneHopPacket). q.header) read)) ∙ s.lawful.path_type

  -- the first stop: it leaves by the link

  may_leave : MayLeaveBy (one_hop_arrives near.network a.link a.source moment bytes) out
  may_leave =
      subst (λ (q : OneHopPacket). MayLeaveBy (state_of near.network a.link a.source moment bytes q) out) read
      (record {
        usable = record { short = s.short; sound = sound; whole = s.whole; in_time = in_time (info_of a) (first_of a) moment s.unexpired; begun = s.begun };
        inside = s.link;
        source = (s.source.isd, s.source.autonomous_system);
        destination = record {
          own = s.near.link;
          listed = s.near.listed;
          end = s.near.end;
          named = s.near.named;
          isd = s.destination.isd ∙ sym (ends.out_names.isd s.near.end s.near.named);
          autonomous_system = s.destination.autonomous_system ∙ sym (ends.out_names.autonomous_system s.near.end s.near.named);
        };
        begins = s.begins;
        leads = refl;
        authentic = s.mac;
      })

  leaves : decide near.network a.link a.source moment bytes ≡ decision.Send out None
  leaves = all_leave.every near.network a.link a.source moment bytes out may_leave

  abbrev left : List ℕ
  left = moved near.network a.link a.source moment bytes

  left_as : LeavesAs left (IsChained (one_hop_arrives near.network a.link a.source moment bytes))
  left_as = all_leave.chained near.network a.link a.source moment bytes out None are type_there s.link leaves

  abbrev middle : OneHopPacket
  middle = one_hop_packet_of left

  left_are : IsBytes left
  left_are = all_leave.are near.network a.link a.source moment bytes out None are type_there s.link leaves

  left_text : SpellsOneHop left middle
  left_text = one_hop_spelled left left_are left_as.sound

  -- the packet on the wire, field by field
  on_wire : IsChained (state_of near.network a.link a.source moment bytes a.packet) middle
  on_wire = subst (λ (q : OneHopPacket). IsChained (state_of near.network a.link a.source moment bytes q) middle) (sym read) left_as.packet

  abbrev source : Underlay
  source = s.near.link.local

  abbrev crossing : OneHopAt
  crossing = record { router = s.entry.router; link = s.entry.link; source = source; packet = middle }

  -- the second stop: it is delivered

  outside : s.entry.link ≢ 0
  outside none = let some = numbered s.entry.router far s.entry.link s.far.link s.far.there s.far.listed in omega arith

  as_long : length left ≡ length bytes
  as_long = (differ_in_place near.network a.link a.source moment bytes out None are type_there leaves).count

  abbrev port : ℕ
  port = host_port_of far.network a.packet.header.next_header a.packet.payload

  abbrev reached_at : Underlay
  reached_at = s.known.at port

  may_enter : MayEnterTo (one_hop_arrives far.network s.entry.link source moment left) reached_at
  may_enter =
      let same : middle.header ≡ a.packet.header = on_wire.same.header in
      let payload : middle.payload ≡ a.packet.payload = on_wire.same.payload in
      record {
        usable = record {
          short = (let n = s.short in let m = as_long in omega arith);
          sound = left_as.sound;
          whole = ap (λ (h : HeaderFields). h.payload_length) same ∙ s.whole ∙ ap length (sym payload);
          in_time = subst (λ (h : HopField). IsInTime middle.path.info h moment) (sym on_wire.first_is)
              (subst (λ (i : InfoField). IsInTime i (first_of a) moment) (sym on_wire.info_is) (in_time (info_of a) (first_of a) moment s.unexpired));
          begun = subst (λ (i : InfoField). i.timestamp ≤ moment + 300) (sym on_wire.info_is) s.begun;
        };
        outside = outside;
        sender = record { own = s.far.link; listed = s.far.listed; address = ends.remote };
        source = record {
          own = s.far.link;
          listed = s.far.listed;
          end = s.far.end;
          named = s.far.named;
          isd = ap (λ (h : HeaderFields). h.source.isd) same ∙ s.source.isd ∙ sym (ends.into_names.isd s.far.end s.far.named);
          autonomous_system = ap (λ (h : HeaderFields). h.source.autonomous_system) same ∙ s.source.autonomous_system ∙ sym (ends.into_names.autonomous_system s.far.end s.far.named);
        };
        destination = (
          ap (λ (h : HeaderFields). h.destination.isd) same ∙ s.destination.isd,
          ap (λ (h : HeaderFields). h.destination.autonomous_system) same ∙ s.destination.autonomous_system,
        );
        other = λ bfd. s.other (sym (ap (λ (h : HeaderFields). h.next_header) same) ∙ bfd);
        reached = subst (λ (h : HeaderFields). IsReachedAt far.network (host_port_of far.network h.next_header middle.payload) h.destination reached_at) (sym same)
            (subst (λ (t : List ℕ). IsReachedAt far.network (host_port_of far.network a.packet.header.next_header t) a.packet.header.destination reached_at) (sym payload)
            (s.known.reached port));
      }

  enters_left : decide far.network s.entry.link source moment left ≡ decision.Send 0 (Some reached_at)
  enters_left = all_enter.every far.network s.entry.link source moment left reached_at may_enter

  enters : decide far.network s.entry.link source moment (one_hop_spelling middle) ≡ decision.Send 0 (Some reached_at)
  enters = ap (decide far.network s.entry.link source moment) (sym left_text.text) ∙ enters_left

  abbrev there : OneHopState
  there = one_hop_arrives far.network s.entry.link source moment left

  abbrev entered : List ℕ
  entered = moved far.network s.entry.link source moment left

  type_left : slice_index left 8 ≡ one_hop_path
  type_left = left_text.lawful.path_type

  abbrev delivered : OneHopPacket
  delivered = completed there

  -- what the table sends is this packet
  entered_is : entered ≡ one_hop_spelling delivered
  entered_is =
      let sends = table_sends far.network s.entry.link source moment left 0 (Some reached_at) type_left enters_left in
      let is = sent_in far.network s.entry.link source moment left 0 (Some reached_at) sends.packet outside sends.verdict in
      sends.left ∙ ap one_hop_spelling (sym is.packet)

  -- the stops

  next_one : next_stop net moment (one_hop_came_of a) ≡ Some (one_hop_came_of crossing)
  unfolding next_stop
  next_one =
      ap (next_from net moment (one_hop_came_of a)) s.near.there
      ∙ ap (λ (e : Decision). carried_on net (one_hop_came_of a) e left (Some near)) leaves
      ∙ ap (over_wire net.wires a.router out left) s.near.listed
      ∙ ap (arrives_over source left) (far_is net agrees (exit_of a) s.entry s.wire)
      ∙ ap (λ (t : List ℕ). Some (record { router = s.entry.router; link = s.entry.link; source = source; bytes = t })) left_text.text

  then_none : next_stop net moment (one_hop_came_of crossing) ≡ None
  unfolding next_stop
  then_none =
      let t = one_hop_spelling middle in
      ap (next_from net moment (one_hop_came_of crossing)) s.far.there
      ∙ ap (λ (e : Decision). carried_on net (one_hop_came_of crossing) e (moved far.network s.entry.link source moment t) (Some far)) enters
      ∙ within_host net.routers far (one_hop_came_of crossing) reached_at (moved far.network s.entry.link source moment t)
      (ap (is_for_host far.network s.entry.link) (sym left_text.text) ∙ for_host far.network s.entry.link left middle refl left_as.sound outside may_enter.destination.0 may_enter.destination.1)

  pub stops_are : stops_from net moment 128 (Some (one_hop_came_of a)) ≡ one_hop_came_of a ∷ one_hop_came_of crossing ∷ []
  stops_are =
      ap (λ (o : Option Came). one_hop_came_of a ∷ stops_from net moment 127 o) next_one
      ∙ ap (λ (o : Option Came). one_hop_came_of a ∷ one_hop_came_of crossing ∷ stops_from net moment 126 o) then_none
      ∙ ap (λ (cs : List Came). one_hop_came_of a ∷ one_hop_came_of crossing ∷ cs) (none_further net moment 126)

  module _ (fits : s.entry.link < 2 ^ 16) where
    -- the second hop field

    second_lawful : IsHop (second there)
    second_lawful =
        let f = s.lawful.path.first.fits in
        let expiry : middle.path.first.expiry ≡ (first_of a).expiry = ap (λ (h : HopField). h.expiry) on_wire.first_is in
        let below : (first_of a).expiry < 2 ^ 8 = f.1.0.0 in
        let room = fits in
        record {
          fits = ((omega arith, (omega arith, (omega arith, tt))), ((omega arith, tt), ((omega arith, tt), ((omega arith, tt), tt))));
          mac_len = mac_len far.network.key middle.path.info.segment_id middle.path.info (hop_from s.entry.link middle.path.first.expiry []);
        }

    second_is : second_of delivered ≡ second there
    second_is = read_back (second there) second_lawful

    id_is : middle.path.info.segment_id ≡ chain (info_of a).segment_id (first_of a).mac
    id_is = ap (λ (i : InfoField). i.segment_id) on_wire.info_is

    so : IsDeliveredSo a far.network.key s.entry.link delivered
    so = record {
      first = on_wire.first_is;
      time = ap (λ (i : InfoField). i.timestamp) on_wire.info_is;
      id = id_is;
      ingress = ap (λ (h : HopField). h.construction_ingress) second_is;
      expiry = ap (λ (h : HopField). h.expiry) second_is ∙ ap (λ (h : HopField). h.expiry) on_wire.first_is;
      mac = subst (λ (h : HopField). h.mac ≡ mac6 far.network.key (chain (info_of a).segment_id (first_of a).mac) middle.path.info h) (sym second_is)
          (ap (λ (b : ℕ). mac6 far.network.key b middle.path.info (second there)) id_is);
    }

    lawful : IsOneHopPacket delivered
    lawful =
        let old = left_text.lawful in
        let hop-len : length (hop_text (second there)) ≡ 12 = omega (arith, second_lawful.mac_len) in
        record {
          header = old.header;
          path_type = old.path_type;
          path = record { info = old.path.info; along = old.path.along; first = old.path.first; second_len = hop-len };
          whole = omega (
            arith,
            old.whole,
            old.path.second_len,
            hop-len,
            length-append (rows (info_table middle.path.info)) (hop_text middle.path.first ++ middle.path.second),
            length-append (hop_text middle.path.first) middle.path.second,
            length-append (rows (info_table middle.path.info)) (hop_text middle.path.first ++ hop_text (second there)),
            length-append (hop_text middle.path.first) (hop_text (second there)),
          );
        }

    pub crosses : Crosses net moment a (stops_from net moment 128 (Some (one_hop_came_of a)))
    crosses = record {
      near = near;
      near_is = s.near.there;
      out = s.near.link;
      listed = s.near.listed;
      leaves = leaves;
      crossing = crossing;
      left = left_text.text;
      wire = s.wire;
      stops_are = stops_are;
      far = far;
      far_is = s.far.there;
      home = record { isd = s.destination.isd; autonomous_system = s.destination.autonomous_system };
      to = reached_at;
      address = s.known.reached port;
      enters = enters;
      delivered = delivered;
      entered = ap (moved far.network s.entry.link source moment) (sym left_text.text) ∙ entered_is;
      lawful = lawful;
      header = on_wire.same.header;
      payload = on_wire.same.payload;
      beaconed = beaconed net agrees moment a s delivered so delivered.path.info so.time;
      opens = λ kind apart later fresh. opens net agrees moment a s delivered so kind apart later fresh;
    }

pub beacons_cross : BeaconsCross
beacons_cross net moment a agrees numbered are s fits = crosses net moment a agrees numbered are s fits

-- ---- the stops that `walk` makes

second_link : (net : Net) (moment : ℕ) (items : List Stop) (c d : Came) → map came_by items ≡ c ∷ d ∷ [] → All (IsStop net moment) items → d.link < 2 ^ 16
second_link net moment [] c d is all = absurd cc
second_link net moment (x ∷ []) c d is all = absurd cc
second_link net moment (x ∷ y ∷ items) c d is all =
    let same : came_by y ≡ d = cc in
    let there : IsStop net moment y = all 1 y (omega arith) in
    subst (λ (e : Came). e.link < 2 ^ 16) same there.link_fits

pub stops_cross : (net : Net) (router : ℕ) (arrival : Arrival) (p : OneHopPacket) (items : List Stop) → Agrees net → AreNumbered net
    → IsBytes arrival.bytes.items → arrival.bytes.items ≡ one_hop_spelling p → LawfulOneHopStart net arrival.now (one_hop_starts_at router arrival p)
    → map came_by items ≡ stops_from net arrival.now 128 (Some (came_to router arrival)) → All (IsStop net arrival.now) items
    → Crosses net arrival.now (one_hop_starts_at router arrival p) (map came_by items)
stops_cross net router arrival p items agrees numbered are text start made all =
    let a : OneHopAt = one_hop_starts_at router arrival p in
    let moment = arrival.now in
    let bytes = subst IsBytes text are in
    let from : map came_by items ≡ stops_from net moment 128 (Some (one_hop_came_of a)) =
    made ∙ ap (λ (b : List ℕ). stops_from net moment 128 (Some (record { router = router; link = arrival.link; source = arrival.source; bytes = b }))) text in
    let both = stops_are net moment a agrees numbered bytes start in
    let fits = second_link net moment items _ _ (from ∙ both) all in
    subst (Crosses net moment a) (sym from) (crosses net moment a agrees numbered bytes start fits)

-- ---- replies

pub replies_set_out : RepliesSetOut
replies_set_out net moment later start stops c q kind apart fresh there r =
    let open_path = c.opens kind apart later fresh in
    record {
      path = open_path.path;
      unexpired = open_path.unexpired;
      segments = r.segments;
      identifiers = open_path.identifiers;
      cursor = r.cursor;
      lawful = r.lawful;
      whole = r.whole;
      short = r.short;
      source = r.source;
      destination = r.destination;
      from_host = r.from_host;
      to_host = r.to_host;
      link = r.link;
      router = there;
    }
