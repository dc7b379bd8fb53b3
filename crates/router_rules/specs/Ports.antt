-- The links of a router as they are looked up for each packet.
use Rattle.std.specs.Prelude.{◌≡◌, ℕ, Bool, false, List, length, slice_index, slice_index_or}
use Rattle.process_packet.specs.declared.config.Config.{Config}
use Rattle.router_rules.specs.Links.{has_two_bands, interface_at, link_count}

-- of each link, by its number
pub record Lines : Type 0 where
  pub interfaces : List ℕ
  pub two_bands : List Bool

-- They are the links of the configuration.
pub record IsPortsOf (c : Config) (p : Lines) : Type 0 where
  pub count : length p.interfaces ≡ link_count c
  pub interfaces : (l : ℕ) → slice_index p.interfaces l ≡ interface_at c l
  pub two_bands : (l : ℕ) → slice_index_or p.two_bands l false ≡ has_two_bands c l
