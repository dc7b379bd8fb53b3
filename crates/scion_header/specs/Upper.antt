-- What a router tells apart of the upper layer.
use Rattle.std.specs.Prelude.{ℕ, ◌==◌, List, [], ◌∷◌, drop, Option, Some, None, if◌then◌else◌}
use Rattle.scion_packet.specs.Extensions.{Layer, layer}
use Rattle.scion_header.specs.declared.upper.Upper.{Upper}
use Rattle.scion_header.specs.declared.upper.Upper.TheVariants.{Scmp, Other, Cut}
use Rattle.scion_header.specs.declared.upper.UpperPlace.{UpperPlace}

-- the layer at a place of the bytes after the header
abbrev pub layer_at : List ℕ → UpperPlace → Layer
layer_at bytes place = layer place.protocol (drop place.at bytes)

-- an SCMP message by its type, where that is there
abbrev pub message : List ℕ → Upper
message [] = Cut
message (kind ∷ rest) = Scmp kind

abbrev pub upper_of : Option Layer → Upper
upper_of None = Cut
upper_of (Some l) = if l.protocol == 202 then message l.bytes else Other
