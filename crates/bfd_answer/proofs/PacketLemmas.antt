-- What is written is the packet of the answer, and a good one.
use Rattle.std.proofs.Common.{◌≡◌, ◌≤◌, ◌+◌, ◌*◌, ℕ, List, ◌++◌, length, take, replicate, true, refl, sym, subst, ap, ◌∙◌, arith, length-append}
use Rattle.field_rows.specs.Place.{Puts}
use Rattle.field_rows.proofs.Rows.{Puts-next, Puts-stands}
use Rattle.path_fields.specs.Fields.{hop_field, info_field}
use Rattle.path_fields.specs.declared.fields.Hop.{Hop}
use Rattle.path_fields.specs.declared.fields.Info.{Info}
use Rattle.scion_packet.specs.Header.{HeaderFields, IsHeader, front_len, header_text}
use Rattle.scion_packet.specs.OneHop.{IsOneHopPacket, IsOneHopPath, OneHopPacket, OneHopPath, SpellsOneHop, one_hop_spelling, one_hop_text}
use Rattle.scion_packet.specs.Path.{hop_text}
use Rattle.scion_packet.proofs.Fields.{bit_fits}
use Rattle.scion_packet.proofs.OneHopLaws.{one_hop_only, one_hop_packet_passes}
use Rattle.bfd_answer.specs.Good.{IsWritten}

header_text_len : (h : HeaderFields) → length (header_text h) ≡ front_len h
header_text_len h =
    let d = h.destination.host in
    let s = h.source.host in
    omega (arith, length-append d s)

-- the path that is written
abbrev pub written_path : Info → Hop → OneHopPath
written_path info hop = record { info = info_field info; first = hop_field hop; second = replicate 12 0 }

path_is_lawful : (info : Info) (hop : Hop) → info.along ≡ true → IsOneHopPath (written_path info hop)
path_is_lawful info hop along = record {
  info = (
    (info.reserved_flags_fit, (omega arith, (bit_fits info.along, tt))),
    ((info.reserved_fits, tt), ((info.segment_id_fits, tt), ((info.timestamp_fits, tt), tt))),
  );
  along = along;
  first = record {
    fits = (
      (hop.reserved_flags_fit, (bit_fits hop.ingress_alert, (bit_fits hop.egress_alert, tt))),
      ((hop.expiry_fits, tt), ((hop.construction_ingress_fits, tt), ((hop.construction_egress_fits, tt), tt))),
    );
    mac_len = hop.mac_is_whole;
  };
  second_len = refl;
}

path_len : (p : OneHopPath) → IsOneHopPath p → length (one_hop_text p) ≡ 32
path_len p lawful = omega (arith, length-append (hop_text p.first) p.second, lawful.first.mac_len, lawful.second_len)

-- a lawful header with another path type
pub of_one_hop : (h : HeaderFields) → IsHeader h → IsHeader (record h { path_type = 2 })
of_one_hop h lawful =
    let f = lawful.common in
    record {
      common = (f.0, (f.1.0, (f.1.1.0, (f.1.1.1.0, ((omega arith, tt), f.1.1.1.1.1)))));
      destination = lawful.destination;
      source = lawful.source;
      covers = lawful.covers;
    }

-- The parts that are written one after the other are the packet.
pub is_written : (p : OneHopPacket) (info : Info) (hop : Hop) (s0 s1 s2 s3 : List ℕ) (front : ℕ)
    → Puts s0 s1 0 (header_text p.header) → Puts s1 s2 front (one_hop_text (written_path info hop)) → Puts s2 s3 (front + 32) p.payload
    → p.path ≡ written_path info hop → front ≡ front_len p.header → IsHeader p.header → p.header.path_type ≡ 2
    → 4 * p.header.header_length ≡ front_len p.header + 32 → info.along ≡ true → front_len p.header ≤ 60 → length p.payload ≡ 24
    → IsWritten p (front + 32 + 24) s3
is_written p info hop s0 s1 s2 s3 front first second third path-is front-is header type whole along short payload-len =
    let path : IsOneHopPath p.path = subst IsOneHopPath (sym path-is) (path_is_lawful info hop along) in
    let second-p : Puts s1 s2 front (one_hop_text p.path) = subst (λ (q : OneHopPath). Puts s1 s2 front (one_hop_text q)) (sym path-is) second in
    let len-header = header_text_len p.header in
    let len-path = path_len p.path path in
    let puts : Puts s0 s3 0 (one_hop_spelling p) =
    Puts-next s0 s1 s3 0 front (header_text p.header) (one_hop_text p.path ++ p.payload) first
    (Puts-next s1 s2 s3 front (front + 32) (one_hop_text p.path) p.payload second-p third (omega (arith, len-path))) (omega (arith, len-header, front-is)) in
    let len : front + 32 + 24 ≡ length (one_hop_spelling p) =
    omega (arith, length-append (header_text p.header) (one_hop_text p.path ++ p.payload), length-append (one_hop_text p.path) p.payload, len-header, len-path, front-is, payload-len) in
    let lawful : IsOneHopPacket p = record {
      header = header;
      path_type = type;
      path = path;
      whole = whole ∙ ap (λ (n : ℕ). front_len p.header + n) (sym len-path);
    } in
    let spells : SpellsOneHop (one_hop_spelling p) p = record { lawful = lawful; text = refl } in
    record {
      whole = len;
      text = ap (λ (n : ℕ). take n s3) len ∙ (Puts-stands s0 s3 0 (one_hop_spelling p) puts).read;
      good = record {
        lawful = lawful;
        no_fault = one_hop_packet_passes (one_hop_spelling p) p spells;
        read_back = one_hop_only (one_hop_spelling p) p spells;
        short = omega (arith, len, front-is, short);
      };
    }
