-- The SCMP messages that a router answers with (SCMP specification, "Message Format", "Destination Unreachable", "Parameter
-- Problem", "Traceroute Reply").
use Rattle.std.specs.Prelude.{ℕ, ◌-◌, ◌==◌, List, [], ◌∷◌, ◌++◌, take, Option, Some, None, if◌then◌else◌}
use Rattle.field_rows.specs.Row.{Field, field, rows}
use Rattle.process_packet.specs.declared.decision.Problem.{Problem}
use Rattle.process_packet.specs.Request.{request}
use Rattle.scion_packet.specs.Header.{HostAddress}
use Rattle.scion_packet.specs.Packet.{Packet}
use Rattle.process_packet.specs.Scmp.{traceroute_reply_type}

-- the most bytes that an answer has
abbrev pub longest : ℕ
longest = 1232

abbrev pub unreachable_table : ℕ → ℕ → List (List Field)
unreachable_table code checksum =
    (field 8 1 ∷ []) ∷ (field 8 code ∷ []) ∷ (field 16 checksum ∷ [])
    ∷ (field 32 0 ∷ [])  -- unused
    ∷ []

abbrev pub parameter_problem_table : ℕ → ℕ → ℕ → List (List Field)
parameter_problem_table code pointer checksum =
    (field 8 4 ∷ []) ∷ (field 8 code ∷ []) ∷ (field 16 checksum ∷ [])
    ∷ (field 16 0 ∷ [])  -- reserved
    ∷ (field 16 pointer ∷ [])
    ∷ []

-- the reply of the router at an interface of its AS
abbrev pub traceroute_reply_table : HostAddress → ℕ → ℕ → ℕ → ℕ → List (List Field)
traceroute_reply_table here identifier sequence interface checksum =
    (field 8 131 ∷ []) ∷ (field 8 0 ∷ []) ∷ (field 16 checksum ∷ [])
    ∷ (field 16 identifier ∷ [])
    ∷ (field 16 sequence ∷ [])
    ∷ (field 16 here.isd ∷ [])
    ∷ (field 48 here.autonomous_system ∷ [])
    ∷ (field 64 interface ∷ [])
    ∷ []

-- the identifier and the sequence number of the request that is answered
abbrev pub numbers_of : Option (ℕ × ℕ) → ℕ × ℕ
numbers_of None = (0, 0)
numbers_of (Some numbers) = numbers

-- the fields of a message, by its type
abbrev pub table_of : HostAddress → ℕ × ℕ → Problem → ℕ → List (List Field)
table_of here numbers problem checksum =
    if problem.kind == traceroute_reply_type then traceroute_reply_table here numbers.0 numbers.1 problem.pointer checksum
    else if problem.kind == 1 then unreachable_table problem.code checksum
    else parameter_problem_table problem.code problem.pointer checksum

-- how many bytes they have
abbrev pub fixed_len : Problem → ℕ
fixed_len problem = if problem.kind == traceroute_reply_type then 24 else 8

abbrev pub message_table : HostAddress → Packet → Problem → ℕ → List (List Field)
message_table here p problem checksum = table_of here (numbers_of (request p.header.next_header p.payload)) problem checksum

-- An error message quotes the datagram: its first bytes, as many as the answer has room for after its header and its own 8
-- bytes. A traceroute reply quotes nothing.
abbrev pub quote : ℕ → Problem → List ℕ → List ℕ
quote header_len problem bytes = if problem.kind == traceroute_reply_type then [] else take (longest - header_len - 8) bytes

abbrev pub message : HostAddress → Packet → ℕ → Problem → List ℕ → ℕ → List ℕ
message here p header_len problem bytes checksum =
    rows (message_table here p problem checksum) ++ quote header_len problem bytes
