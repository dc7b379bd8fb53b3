use Rattle.std.proofs.Common.{ap, ◌∙◌, ◌∷◌, ◌++◌, List, ℕ, take}
use Rattle.std.specs.Int.{to_be_bytes, w64}
use Rattle.std.specs.Str.{bytes_eq}
use Rattle.cmac_core.specs.Cmac.{tag}
use Rattle.hop_check.proofs.mac.verify.Goals as goal

pub returns : goal.returns
returns c =
    let halves = c.mac_halves-front.result in
    let block : List ℕ = to_be_bytes w64 halves.0 ++ to_be_bytes w64 halves.1 in
    c.has_mac.ensures
    ∙ ap (λ (bytes : List ℕ). bytes_eq bytes (0 ∷ 0 ∷ take 6 (tag c.args.cmac.now block))) c.number_of.ensures
    ∙ ap (λ (input : List ℕ). bytes_eq c.args.hop.now.mac (take 6 (tag c.args.cmac.now input))) c.mac_halves-front.ensures
