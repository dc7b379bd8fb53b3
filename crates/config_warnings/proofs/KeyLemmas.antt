-- Keys that are read, by their names.
use Rattle.std.proofs.Common.{◌≡◌, ℕ, Bool, true, false, ◌&&◌, List, codes, refl, sym}
use Rattle.config_warnings.specs.Keys.{is_of_link, is_of_top}

pub ports_are_of_top : (key : List ℕ) → key ≡ codes "dispatched_ports" → true ≡ is_of_top key
ports_are_of_top key is = rw is refl

pub bands_are_of_link : (key : List ℕ) → key ≡ codes "bands" → true ≡ is_of_link key
bands_are_of_link key is = rw is refl

-- a key of the second version is too early in the first
pub early_where_first : (first later : Bool) → later ≡ true → first ≡ (first && later)
early_where_first true later is = sym is
early_where_first false later is = refl
