-- The headers of UDP and of SCMP's messages, field by field, as their standards lay them out.
use Rattle.std.specs.Prelude.{ℕ, List, [], ◌∷◌}
use Rattle.field_rows.specs.Row.{Field, field}

-- RFC 768, "Format"
pub record UdpHeader : Type 0 where
  pub source : ℕ
  pub destination : ℕ
  pub len : ℕ
  pub checksum : ℕ

abbrev pub udp_table : UdpHeader → List (List Field)
udp_table u =
    (field 16 u.source ∷ [])
    ∷ (field 16 u.destination ∷ [])
    ∷ (field 16 u.len ∷ [])
    ∷ (field 16 u.checksum ∷ [])
    ∷ []

-- The fields that echo and traceroute messages begin with, requests and replies alike (SCMP specification, "Echo Request", "Echo
-- Reply", "Traceroute Request", "Traceroute Reply").
pub record Query : Type 0 where
  pub kind : ℕ
  pub code : ℕ
  pub checksum : ℕ
  pub identifier : ℕ
  pub sequence : ℕ

abbrev pub query_table : Query → List (List Field)
query_table q =
    (field 8 q.kind ∷ [])
    ∷ (field 8 q.code ∷ [])
    ∷ (field 16 q.checksum ∷ [])
    ∷ (field 16 q.identifier ∷ [])
    ∷ (field 16 q.sequence ∷ [])
    ∷ []

-- An error message before its quote (SCMP specification, "Destination Unreachable", "Packet Too Big", "Parameter Problem",
-- "External Interface Down", "Internal Connectivity Down").
pub data ErrorMessage : Type 0 where
  DestinationUnreachable : (code checksum unused : ℕ) → ErrorMessage
  PacketTooBig : (code checksum reserved mtu : ℕ) → ErrorMessage
  ParameterProblem : (code checksum reserved pointer : ℕ) → ErrorMessage
  ExternalInterfaceDown : (code checksum isd autonomous_system interface : ℕ) → ErrorMessage
  InternalConnectivityDown : (code checksum isd autonomous_system ingress egress : ℕ) → ErrorMessage

abbrev pub error_table : ErrorMessage → List (List Field)
error_table (DestinationUnreachable code checksum unused) =
    (field 8 1 ∷ [])
    ∷ (field 8 code ∷ [])
    ∷ (field 16 checksum ∷ [])
    ∷ (field 32 unused ∷ [])
    ∷ []
error_table (PacketTooBig code checksum reserved mtu) =
    (field 8 2 ∷ [])
    ∷ (field 8 code ∷ [])
    ∷ (field 16 checksum ∷ [])
    ∷ (field 16 reserved ∷ [])
    ∷ (field 16 mtu ∷ [])
    ∷ []
error_table (ParameterProblem code checksum reserved pointer) =
    (field 8 4 ∷ [])
    ∷ (field 8 code ∷ [])
    ∷ (field 16 checksum ∷ [])
    ∷ (field 16 reserved ∷ [])
    ∷ (field 16 pointer ∷ [])
    ∷ []
error_table (ExternalInterfaceDown code checksum isd autonomous_system interface) =
    (field 8 5 ∷ [])
    ∷ (field 8 code ∷ [])
    ∷ (field 16 checksum ∷ [])
    ∷ (field 16 isd ∷ [])
    ∷ (field 48 autonomous_system ∷ [])
    ∷ (field 64 interface ∷ [])
    ∷ []
error_table (InternalConnectivityDown code checksum isd autonomous_system ingress egress) =
    (field 8 6 ∷ [])
    ∷ (field 8 code ∷ [])
    ∷ (field 16 checksum ∷ [])
    ∷ (field 16 isd ∷ [])
    ∷ (field 48 autonomous_system ∷ [])
    ∷ (field 64 ingress ∷ [])
    ∷ (field 64 egress ∷ [])
    ∷ []
