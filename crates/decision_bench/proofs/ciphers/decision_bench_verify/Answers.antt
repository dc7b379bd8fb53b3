use Rattle.std.proofs.Common.{◌≡◌, ◌∷◌, [], ◌++◌, ◌∙◌, ap, refl, if◌then◌else◌, take, ℕ, Bool, true, false, List}
use mir.Val.{bool_byte}
use Rattle.std.specs.Int.{to_be_bytes, w16, w32}
use Rattle.std.specs.Str.{bytes_eq}
use Rattle.cmac_core.specs.Cmac.{tag}
use Rattle.decision_bench.proofs.ciphers.decision_bench_verify.Goals as goal

abbrev number_of : Bool → ℕ
number_of b = if b then 1 else 0

byte_is : (b : Bool) → bool_byte b ≡ number_of b
byte_is true = refl
byte_is false = refl

pub returns : goal.returns
returns c =
    let input : List ℕ = 0 ∷ 0 ∷ (to_be_bytes w16 c.args.segment_id ++ to_be_bytes w32 c.args.timestamp) ++ 0 ∷ 63 ∷ 0 ∷ 1 ∷ 0 ∷ 2 ∷ 0 ∷ 0 ∷ [] in
    c.from.ensures
    ∙ byte_is c.verify.result
    ∙ ap number_of (c.verify.ensures ∙ ap (λ (key : List ℕ). bytes_eq c.args.mac.now (take 6 (tag key input))) c.new.ensures)
