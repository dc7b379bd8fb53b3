-- How many links between ASes a datagram crosses.
use Rattle.std.specs.Prelude.{◌≤◌, ◌+◌, ℕ, List, [], ◌∷◌, Option, Some, None}
use Rattle.process_packet.specs.declared.underlay.Underlay.{Underlay}
use Rattle.net_laws.specs.Net.{Net}
use Rattle.path_authorisation.specs.Sendings.{IsOnLongPath, IsWalk, Sending}

-- what is sent to no address within the AS leaves by a link
abbrev pub crossed : Option Underlay → ℕ
crossed None = 1
crossed (Some at) = 0

abbrev pub links_crossed : List Sending → ℕ
links_crossed [] = 0
links_crossed (s ∷ walk) = crossed s.to + links_crossed walk

-- Whatever the net, agreeing or not, a packet crosses at most 63 links: its path has at most 64 hops, and each link that it crosses
-- takes it to a later one.
abbrev pub LinksAreFew : Type 0
LinksAreFew = (net : Net) (s : Sending) (walk : List Sending) → IsWalk net (s ∷ walk) → IsOnLongPath s → links_crossed (s ∷ walk) ≤ 63
