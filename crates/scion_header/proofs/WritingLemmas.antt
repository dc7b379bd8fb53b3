-- The parts of a header, written one after the other, are its text.
use Rattle.std.proofs.Common.{◌≡◌, ◌+◌, List, [], ◌∷◌, ℕ, ◌++◌, length, subst}
use Rattle.field_rows.specs.Row.{field, number_of, row, rows}
use Rattle.field_rows.specs.Place.{Puts}
use Rattle.field_rows.proofs.Rows.{Puts-then}
use Rattle.scion_packet.specs.Header.{HeaderFields, common_table, domain_table, header_text, host_code}

pub common_written : (h : HeaderFields) (s0 s1 s2 s3 s4 s5 s6 s7 : List ℕ) (first kinds : ℕ)
    → first ≡ number_of (field 4 0 ∷ field 8 h.traffic_class ∷ field 20 h.flow_id ∷ [])
    → kinds ≡ number_of (field 2 h.destination.kind ∷ field 2 (host_code h.destination) ∷ field 2 h.source.kind ∷ field 2 (host_code h.source) ∷ [])
    → Puts s0 s1 0 (row (field 32 first ∷ [])) → Puts s1 s2 4 (row (field 8 h.next_header ∷ [])) → Puts s2 s3 5 (row (field 8 h.header_length ∷ []))
    → Puts s3 s4 6 (row (field 16 h.payload_length ∷ [])) → Puts s4 s5 8 (row (field 8 h.path_type ∷ [])) → Puts s5 s6 9 (row (field 8 kinds ∷ []))
    → Puts s6 s7 10 (row (field 16 h.reserved ∷ [])) → Puts s0 s7 0 (rows (common_table h))
common_written h s0 s1 s2 s3 s4 s5 s6 s7 first kinds first-is kinds-is p0 p1 p2 p3 p4 p5 p6 =
    let word : Puts s0 s1 0 (row (field 32 (number_of (field 4 0 ∷ field 8 h.traffic_class ∷ field 20 h.flow_id ∷ [])) ∷ [])) =
    subst (λ (n : ℕ). Puts s0 s1 0 (row (field 32 n ∷ []))) first-is p0 in
    let hosts : Puts s5 s6 9 (row (field 8 (number_of (field 2 h.destination.kind ∷ field 2 (host_code h.destination) ∷ field 2 h.source.kind ∷ field 2 (host_code h.source) ∷ [])) ∷ [])) =
    subst (λ (n : ℕ). Puts s5 s6 9 (row (field 8 n ∷ []))) kinds-is p5 in
    Puts-then s0 s1 s7 0 _ _ word (Puts-then s1 s2 s7 4 _ _ p1 (Puts-then s2 s3 s7 5 _ _ p2 (Puts-then s3 s4 s7 6 _ _ p3 (Puts-then s4 s5 s7 8 _ _ p4 (Puts-then s5 s6 s7 9 _ _ hosts p6)))))

pub all_written : (h : HeaderFields) (s0 s1 s2 s3 s4 s5 destination source : List ℕ) → destination ≡ h.destination.host → source ≡ h.source.host
    → Puts s0 s1 0 (rows (common_table h)) → Puts s1 s2 12 (rows (domain_table h.destination)) → Puts s2 s3 20 (rows (domain_table h.source))
    → Puts s3 s4 28 destination → Puts s4 s5 (28 + length destination) source → Puts s0 s5 0 (header_text h)
all_written h s0 s1 s2 s3 s4 s5 destination source destination-is source-is common domain domain' host host' =
    let hosts : Puts s3 s5 28 (destination ++ source) = Puts-then s3 s4 s5 28 destination source host host' in
    let named : Puts s3 s5 28 (h.destination.host ++ h.source.host) = rw (← destination-is, ← source-is) hosts in
    Puts-then s0 s1 s5 0 _ _ common (Puts-then s1 s2 s5 12 _ _ domain (Puts-then s2 s3 s5 20 _ _ domain' named))
