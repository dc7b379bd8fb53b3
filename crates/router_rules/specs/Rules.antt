-- What the pipeline asks of the router: its decision, its answers, and the flows of its packets.
use Rattle.std.specs.Prelude.{◌≡◌, ◌<◌, ℕ, Bool, true, false, not, ◌&&◌, ◌==◌, nat_lt, List, [], ◌∷◌, length, Option, Some, option_map, if◌then◌else◌}
use Rattle.flow_key.specs.Flow.{Flow, flow_at, is_high}
use Rattle.flow_key.specs.Hash.{processor_of}
use Rattle.order_laws.specs.Item.{Arrival}
use Rattle.order_laws.specs.Kinds.{Kinds}
use Rattle.order_laws.specs.Rules.{Decision, Sends, Asks, Drops, Reply, Replies, Withholds, Rules}
use Rattle.process_packet.specs.Decide.{decide, is_one_hop, moved}
use Rattle.process_packet.specs.Network.{network}
use Rattle.process_packet.specs.Rows.{cause_of}
use Rattle.process_packet.specs.declared.cause.Cause.{Cause}
use Rattle.process_packet.specs.declared.cause.Cause.TheVariants as cause
use Rattle.process_packet.specs.declared.config.Config.{Config}
use Rattle.process_packet.specs.declared.decision.Decision.{Decision as Decided}
use Rattle.process_packet.specs.declared.decision.Decision.TheVariants as decision
use Rattle.process_packet.specs.declared.decision.Problem.{Problem}
use Rattle.scion_packet.specs.Header.{header_fault_as, header_of, one_hop_path, scion_path}
use Rattle.packet_answer.specs.Answer.{answered}
use Rattle.scmp_answer.specs.Outcome.{Leaves, Outcome, Stays}
use Rattle.router_rules.specs.Datagram.{Datagram, Parcel}
use Rattle.router_rules.specs.Links.{has_two_bands, link_count, link_index}

abbrev pub kinds : Kinds
kinds = record { Datagram = Datagram; Parcel = Parcel; Problem = Problem; RuleCause = Cause; Key = Flow }

-- the path type by whose table a datagram is decided
abbrev pub path_type_of : Config → ℕ → List ℕ → ℕ
path_type_of c link bytes = if is_one_hop (network c) link bytes then one_hop_path else scion_path

-- what a receiver sees of a datagram by its link: one that is too long, or whose header is refused
abbrev pub inspected : Config → ℕ → List ℕ → Option Cause
inspected c link bytes = if nat_lt 9216 (length bytes) then Some cause.TooLong else option_map cause_of (header_fault_as (path_type_of c link bytes) bytes)

-- ---- the decision

abbrev pub by_decision : Config → ℕ → Decided → List ℕ → Decision kinds
by_decision c from (decision.Send link to) bytes = Sends (link_index c link) (record { came_by = from; to = to; bytes = bytes })
by_decision c from (decision.Answer problem) bytes = Asks problem
by_decision c from (decision.Drop why) bytes = Drops why

abbrev pub decided : Config → Datagram → Decision kinds
decided c d =
    by_decision c d.interface (decide (network c) d.interface d.source d.moment d.bytes) (moved (network c) d.interface d.source d.moment d.bytes)

-- ---- the answer to a problem

abbrev pub by_outcome : Config → ℕ → Outcome → Reply kinds
by_outcome c from (Leaves link to bytes) = Replies (link_index c link) (record { came_by = from; to = to; bytes = bytes })
by_outcome c from (Stays why) = Withholds why

abbrev pub replied : Config → Datagram → Problem → Reply kinds
replied c d problem = by_outcome c d.interface (answered c d.interface d.source d.moment d.bytes problem)

-- ---- flows

abbrev pub are_same : List ℕ → List ℕ → Bool
are_same [] [] = true
are_same (x ∷ xs) (y ∷ ys) = x == y && are_same xs ys
are_same _ _ = false

abbrev pub same_bool : Bool → Bool → Bool
same_bool a b = if a then b else not b

abbrev pub same_flow : Flow → Flow → Bool
same_flow f g = f.flow_id == g.flow_id && f.host_kinds == g.host_kinds && are_same f.addresses g.addresses && same_bool f.high g.high

-- expedited forwarding is asked for
abbrev pub is_urgent : List ℕ → Bool
is_urgent bytes = is_high (header_of bytes).traffic_class

abbrev pub rules : Config → Rules kinds
rules c = record {
  links = link_count c;
  processors = c.processors;
  two_bands = has_two_bands c;
  inspect = λ x. inspected c x.datagram.interface x.datagram.bytes;
  decide = λ x. decided c x.datagram;
  reply = λ x problem. replied c x.datagram problem;
  key = λ x. flow_at false x.datagram.bytes;
  same_key = same_flow;
  processor = λ k. processor_of k c.seed c.processors;
  urgent = λ x. is_urgent x.datagram.bytes;
  urgent_parcel = λ y. is_urgent y.bytes;
}

-- the datagram came by the link that it is numbered on
abbrev pub Arrives : Config → Arrival kinds → Type 0
Arrives c x = (link_index c x.datagram.interface ≡ x.link) × (x.link < link_count c)
