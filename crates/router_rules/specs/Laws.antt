-- What is told of the router's rules as a whole.
use Rattle.std.specs.Prelude.{◌≡◌, ◌≢◌, ◌<◌, ℕ, Bool, true, false, drop, Some, None}
use Rattle.bfd_answer.specs.Answer.{answer_packet}
use Rattle.order_laws.specs.Rules.{Drops, IsLawful, Replies, Withholds}
use Rattle.process_packet.specs.Network.{has_link, network, own_link}
use Rattle.process_packet.specs.declared.cause.Cause.{Cause}
use Rattle.process_packet.specs.declared.cause.Cause.TheVariants as cause
use Rattle.process_packet.specs.declared.config.Config.{Config}
use Rattle.process_packet.specs.declared.decision.Problem.{Problem}
use Rattle.process_packet.specs.declared.neighbours.Link.{Link}
use Rattle.scion_header.specs.declared.domain.Domain.{Domain}
use Rattle.scion_packet.specs.Header.{header_end}
use Rattle.scion_packet.specs.OneHop.{one_hop_spelling}
use Rattle.scmp_answer.specs.Outcome.{outcome}
use Rattle.scmp_answer.specs.Reply.{local_address, reply}
use Rattle.router_rules.specs.Datagram.{Datagram}
use Rattle.router_rules.specs.Links.{interface_at, link_count, link_index}
use Rattle.router_rules.specs.Rules.{Arrives, by_outcome, decided, inspected, replied, rules}

abbrev pub AreLawful : Type 0
AreLawful = (c : Config) → IsLawful (rules c) (Arrives c)

-- Each link has one number, and they ascend with the interfaces.
pub record StandInOrder (c : Config) : Type 0 where
  pub there : (l : ℕ) → l < link_count c → has_link (network c) (interface_at c l) ≡ true
  pub numbered : (l : ℕ) → l < link_count c → link_index c (interface_at c l) ≡ l
  pub named : (id : ℕ) → has_link (network c) id ≡ true → interface_at c (link_index c id) ≡ id
  pub within : (id : ℕ) → has_link (network c) id ≡ true → link_index c id < link_count c
  pub ascending : (l m : ℕ) → l < m → m < link_count c → interface_at c l < interface_at c m

abbrev pub LinksStandInOrder : Type 0
LinksStandInOrder = (c : Config) → StandInOrder c

-- a cause for which the inspection may drop: a datagram that is too long, a fault of its header or its path
abbrev pub is_inspected : Cause → Bool
is_inspected cause.Short = true
is_inspected cause.Version = true
is_inspected cause.PathType = true
is_inspected cause.Header = true
is_inspected cause.Path = true
is_inspected cause.Peering = true
is_inspected cause.TooLong = true
is_inspected _ = false

-- a cause for which the decision may drop: these, the underlay source, a path that ends where the packet would go on, and the
-- ends, the hop field and the host of a one-hop path
abbrev pub is_decided : Cause → Bool
is_decided cause.Short = true
is_decided cause.Version = true
is_decided cause.PathType = true
is_decided cause.Header = true
is_decided cause.Path = true
is_decided cause.Peering = true
is_decided cause.UnderlaySource = true
is_decided cause.PathEnd = true
is_decided cause.TooLong = true
is_decided cause.OneHopEnds = true
is_decided cause.OneHopField = true
is_decided cause.OneHopHost = true
is_decided _ = false

-- a cause for which an answer is withheld
abbrev pub is_withheld : Cause → Bool
is_withheld cause.NoAnswer = true
is_withheld cause.NoWayBack = true
is_withheld _ = false

-- Each drops for causes of its own. All others are the pipeline's.
pub record TellCauses (c : Config) : Type 0 where
  pub inspection : (d : Datagram) (why : Cause) → inspected c d.interface d.bytes ≡ Some why → is_inspected why ≡ true
  pub decision : (d : Datagram) (why : Cause) → decided c d ≡ Drops why → is_decided why ≡ true
  pub reply : (d : Datagram) (p : Problem) (why : Cause) → replied c d p ≡ Withholds why → is_withheld why ≡ true

abbrev pub CausesAreApart : Type 0
CausesAreApart = (c : Config) → TellCauses c

-- A control packet of BFD (203) that came by a link to a neighbour is answered over this link, for the moment at which it came
-- (RFC 5880); what else is answered, is so by SCMP.
pub record TellAnswers (c : Config) : Type 0 where
  pub by_bfd : (d : Datagram) (p : Problem) (own : Link) (there : Domain) → p.kind ≡ 203 → own_link (network c) d.interface ≡ Some own → own.neighbor ≡ Some there
      → replied c d p ≡ Replies (link_index c d.interface) (record {
        came_by = d.interface;
        to = None;
        bytes = one_hop_spelling (answer_packet (network c) own there d.moment (drop (header_end d.bytes) d.bytes));
      })
  pub by_scmp : (d : Datagram) (p : Problem) → p.kind ≢ 203 → replied c d p ≡ by_outcome c d.interface (outcome (reply (local_address c) d.interface d.source d.bytes p))

abbrev pub RepliesAreAnswers : Type 0
RepliesAreAnswers = (c : Config) → TellAnswers c
