-- The SCMP types and codes with which a decision answers (SCMP specification, "Destination Unreachable", "Parameter Problem",
-- "Traceroute Reply").
use Rattle.std.specs.Prelude.{ℕ}

-- ---- types

abbrev pub destination_unreachable_type : ℕ
destination_unreachable_type = 1

abbrev pub parameter_problem_type : ℕ
parameter_problem_type = 4

abbrev pub traceroute_reply_type : ℕ
traceroute_reply_type = 131

-- ---- codes of destination unreachable

abbrev pub no_route : ℕ
no_route = 0

-- ---- codes of a parameter problem

abbrev pub invalid_packet_size : ℕ
invalid_packet_size = 19

abbrev pub unknown_address_format : ℕ
unknown_address_format = 21

abbrev pub invalid_source_address : ℕ
invalid_source_address = 33

abbrev pub invalid_destination_address : ℕ
invalid_destination_address = 34

abbrev pub invalid_path : ℕ
invalid_path = 48

abbrev pub unknown_cons_ingress : ℕ
unknown_cons_ingress = 49

abbrev pub unknown_cons_egress : ℕ
unknown_cons_egress = 50

abbrev pub invalid_hop_field_mac : ℕ
invalid_hop_field_mac = 51

abbrev pub path_expired : ℕ
path_expired = 52

abbrev pub invalid_segment_change : ℕ
invalid_segment_change = 53
