-- That the checks of a hop field are exact: to the second, to the byte.
use Rattle.std.specs.Bool.{Decides}
use Rattle.std.specs.Prelude.{◌≡◌, ◌+◌, ◌*◌, ℕ, true, false, bit_xor, List, ◌∷◌, take}
use Rattle.cmac_core.specs.Cmac.{tag}
use Rattle.scion_packet.specs.Path.{HopField, InfoField}
use Rattle.hop_check.specs.Expiry.{is_expired}
use Rattle.hop_check.specs.Mac.{chain, is_authentic, mac_input}

-- A hop field with this ExpTime is good for so many seconds from its segment's timestamp on, and no longer.
pub record IsGoodFor (units seconds : ℕ) : Type 0 where
  pub good : (i : InfoField) (h : HopField) → h.expiry ≡ units → is_expired i h (i.timestamp + seconds) ≡ false
  pub over : (i : InfoField) (h : HopField) → h.expiry ≡ units → is_expired i h (i.timestamp + (seconds + 1)) ≡ true

-- the shortest time, six hours, and the longest
pub record HopsExpireOnTime : Type 0 where
  pub shortest : IsGoodFor 0 337
  pub six_hours : IsGoodFor 63 21600
  pub longest : IsGoodFor 255 86400

-- A MAC is right exactly if its six bytes are the CMAC's first six; its first two, the higher one first, are what an identifier is
-- chained by.
pub record MacsAreWhole : Type 0 where
  pub compared : (key : List ℕ) (i : InfoField) (h : HopField) → Decides (is_authentic key i h) (h.mac ≡ take 6 (tag key (mac_input i.segment_id i h)))
  pub chained : (beta high low : ℕ) (others : List ℕ) → chain beta (high ∷ low ∷ others) ≡ bit_xor beta (256 * high + low)
