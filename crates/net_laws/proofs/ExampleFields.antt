-- The examples' hop fields are lawful, whatever their interfaces.
use Rattle.std.proofs.Common.{◌≡◌, ◌<◌, ◌^◌, ℕ, List, length, arith}
use Rattle.scion_packet.specs.Path.{IsHop}
use Rattle.net_laws.specs.Example.{hop_with}

pub is_hop : (ingress egress : ℕ) (mac : List ℕ) → ingress < 2 ^ 16 → egress < 2 ^ 16 → length mac ≡ 6 → IsHop (hop_with ingress egress mac)
is_hop ingress egress mac from to six = record { fits = ((omega arith, (omega arith, (omega arith, tt))), ((omega arith, tt), ((omega arith, tt), ((omega arith, tt), tt)))); mac_len = six }
