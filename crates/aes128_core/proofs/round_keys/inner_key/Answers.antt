use Rattle.std.proofs.Common.{ap, ◌∙◌, map, bit_xor, ℕ, List, replicate}
use lib.Lanes.{zip2}
use Rattle.aes128_core.specs.Lanes.{coordinates_of, moved}
use Rattle.aes128_core.proofs.round_keys.inner_key.Goals as goal

pub returns : goal.returns
returns c =
    c.moved.ensures
    ∙ ap (λ (v : List ℕ). moved v c.args.order) (c.coordinates.ensures ∙ ap (λ (v : List ℕ). map coordinates_of (zip2 bit_xor v (replicate 16 0x63))) c.round_key.ensures)
