-- The text of the counts of two links, and of a version and a moment, as the exposition format has it: the definitions compute what a
-- reader of it would write (Prometheus, "Exposition formats", "Text-based format").
use Rattle.std.specs.Prelude.{◌≡◌, ℕ, true, false, List, [], ◌∷◌, ◌++◌, codes, map, refl}
use Rattle.std.specs.Fmt.{digits}
use Rattle.std.specs.List.{range_with_len}
use Rattle.process_packet.specs.declared.totals.Totals.{Totals}
use Rattle.process_packet.specs.Cause.{causes, number_of}
use Rattle.metrics_text.specs.declared.link_counts.LinkCounts.{LinkCounts}
use Rattle.metrics_text.specs.Families.{answered_family, build_family, closed_family, drops_family, input_family, links_part, metrics, output_family, process_part, start_family, totals_part, version_sample}
use Rattle.metrics_text.specs.Reasons.{every_cause}
use Rattle.metrics_text.specs.Samples.{dropped_text, interface_text}

abbrev pub links : List LinkCounts
links = record { interface = 0; input = 7; output = 0; closed = false } ∷ record { interface = 65535; input = 18446744073709551617; output = 12; closed = true } ∷ []

abbrev pub totals : Totals
totals = record {
  received = 7;
  sent = 9;
  answered = 3;
  dropped = 101 ∷ 102 ∷ 103 ∷ 104 ∷ 105 ∷ 106 ∷ 107 ∷ 108 ∷ 109 ∷ 110 ∷ 111 ∷ 112 ∷ 113 ∷ 114 ∷ 115 ∷ 116 ∷ 117 ∷ 118 ∷ 119 ∷ 120 ∷ 121 ∷ [];
}

pub inputs : input_family links ≡ codes "# HELP router_input_pkts_total Datagrams that a link's receiver took from its socket.\n"
    ++ codes "# TYPE router_input_pkts_total counter\n"
    ++ codes "router_input_pkts_total{interface=\"0\"} 7\n"
    ++ codes "router_input_pkts_total{interface=\"65535\"} 18446744073709551617\n"
unfolding input_family interface_text digits
inputs = refl

pub outputs : output_family links ≡ codes "# HELP router_output_pkts_total Packets and answers that a link's forwarder handed to its socket.\n"
    ++ codes "# TYPE router_output_pkts_total counter\n"
    ++ codes "router_output_pkts_total{interface=\"0\"} 0\n"
    ++ codes "router_output_pkts_total{interface=\"65535\"} 12\n"
unfolding output_family interface_text digits
outputs = refl

pub drops : drops_family totals ≡ codes "# HELP router_dropped_pkts_total Packets and answers that were dropped, by cause.\n"
    ++ codes "# TYPE router_dropped_pkts_total counter\n"
    ++ codes "router_dropped_pkts_total{cause=\"1\",reason=\"short\"} 101\n"
    ++ codes "router_dropped_pkts_total{cause=\"2\",reason=\"version\"} 102\n"
    ++ codes "router_dropped_pkts_total{cause=\"3\",reason=\"path_type\"} 103\n"
    ++ codes "router_dropped_pkts_total{cause=\"4\",reason=\"header\"} 104\n"
    ++ codes "router_dropped_pkts_total{cause=\"5\",reason=\"path\"} 105\n"
    ++ codes "router_dropped_pkts_total{cause=\"6\",reason=\"peering\"} 106\n"
    ++ codes "router_dropped_pkts_total{cause=\"7\",reason=\"underlay_source\"} 107\n"
    ++ codes "router_dropped_pkts_total{cause=\"8\",reason=\"path_end\"} 108\n"
    ++ codes "router_dropped_pkts_total{cause=\"9\",reason=\"no_answer\"} 109\n"
    ++ codes "router_dropped_pkts_total{cause=\"10\",reason=\"no_way_back\"} 110\n"
    ++ codes "router_dropped_pkts_total{cause=\"11\",reason=\"too_long\"} 111\n"
    ++ codes "router_dropped_pkts_total{cause=\"12\",reason=\"processor_full\"} 112\n"
    ++ codes "router_dropped_pkts_total{cause=\"13\",reason=\"link_full\"} 113\n"
    ++ codes "router_dropped_pkts_total{cause=\"14\",reason=\"answer_full\"} 114\n"
    ++ codes "router_dropped_pkts_total{cause=\"15\",reason=\"no_memory\"} 115\n"
    ++ codes "router_dropped_pkts_total{cause=\"16\",reason=\"closed\"} 116\n"
    ++ codes "router_dropped_pkts_total{cause=\"17\",reason=\"send_failed\"} 117\n"
    ++ codes "router_dropped_pkts_total{cause=\"18\",reason=\"no_buffer\"} 118\n"
    ++ codes "router_dropped_pkts_total{cause=\"19\",reason=\"one_hop_ends\"} 119\n"
    ++ codes "router_dropped_pkts_total{cause=\"20\",reason=\"one_hop_field\"} 120\n"
    ++ codes "router_dropped_pkts_total{cause=\"21\",reason=\"one_hop_host\"} 121\n"
unfolding drops_family dropped_text digits
drops = refl

pub answers : answered_family totals ≡ codes "# HELP router_answered_pkts_total Packets whose answer was handed to a socket.\n"
    ++ codes "# TYPE router_answered_pkts_total counter\n"
    ++ codes "router_answered_pkts_total 3\n"
unfolding answered_family digits
answers = refl

pub closed_links : closed_family links ≡ codes "# HELP router_link_closed 1 where the link was closed, else 0.\n"
    ++ codes "# TYPE router_link_closed gauge\n"
    ++ codes "router_link_closed{interface=\"0\"} 0\n"
    ++ codes "router_link_closed{interface=\"65535\"} 1\n"
unfolding closed_family interface_text digits
closed_links = refl

-- of a version with a backslash, a quote and a line's end
pub build : build_family (48 ∷ 92 ∷ 49 ∷ 34 ∷ 50 ∷ 10 ∷ 51 ∷ []) ≡ codes "# HELP yewpleat_build_info The version that runs; its value is 1.\n"
    ++ codes "# TYPE yewpleat_build_info gauge\n"
    ++ codes "yewpleat_build_info{version=\"0" ++ 92 ∷ 92 ∷ 49 ∷ 92 ∷ 34 ∷ 50 ∷ 92 ∷ 110 ∷ codes "3\"} 1\n"
unfolding build_family version_sample
build = refl

pub started : start_family 1700000000 ≡ codes "# HELP process_start_time_seconds When it began to run, in seconds since 1970.\n"
    ++ codes "# TYPE process_start_time_seconds gauge\n"
    ++ codes "process_start_time_seconds 1700000000\n"
unfolding start_family digits
started = refl

-- each cause has a sample, in the order of their numbers
pub numbers : map number_of every_cause ≡ range_with_len 1 causes
numbers = refl

-- all families, in this order, and nothing else
pub whole : (ls : List LinkCounts) (t : Totals) (version : List ℕ) (start : ℕ) → metrics ls t version start
    ≡ (input_family ls ++ output_family ls) ++ ((drops_family t ++ answered_family t) ++ (closed_family ls ++ (build_family version ++ start_family start)))
unfolding metrics links_part totals_part process_part
whole ls t version start = refl
