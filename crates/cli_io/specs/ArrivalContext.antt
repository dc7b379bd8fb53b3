-- How datagrams arrive.
use Rattle.std.specs.Prelude.{ℕ, ◌==◌, find, Option, Some, option_map, if◌then◌else◌}
use Rattle.process_packet.specs.declared.config.Config.{Config}
use Rattle.process_packet.specs.declared.neighbours.Link.{Link}
use Rattle.process_packet.specs.declared.underlay.Underlay.{Underlay}

abbrev pub remote_of : Link → Underlay
remote_of link = link.remote

-- the source of what arrives on a link, where none is named; none where there is no such link
abbrev pub usual_source : Config → ℕ → Option Underlay
usual_source config link =
    if link == 0 then Some config.internal else option_map remote_of (find (λ own. own.id == link) config.links.items)
