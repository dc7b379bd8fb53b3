-- The checks are exact.
use Rattle.std.proofs.Common.{◌≡◌, ◌≤◌, ◌<◌, ◌+◌, ◌*◌, ℕ, List, ◌∷◌, ap, arith}
use Rattle.std.specs.Prelude.{bit_xor}
use Rattle.std.proofs.lemmas.Bool.{le-ltb, lt-ltb}
use Rattle.std.proofs.lemmas.Slice.Eq.{bytes_eq-Decides}
use Rattle.field_rows.specs.Place.{number_at}
use Rattle.hop_check.specs.Exact.{HopsExpireOnTime, IsGoodFor, MacsAreWhole}
use Rattle.hop_check.specs.Mac.{mac6}

good_for : (units seconds : ℕ) → 2 * seconds ≤ 675 * (1 + units) → 675 * (1 + units) < 2 * (seconds + 1) → IsGoodFor units seconds
good_for units seconds within after = record {
  good = λ i h is. le-ltb _ _ (omega arith);
  over = λ i h is. lt-ltb _ _ (omega arith);
}

pub on_time : HopsExpireOnTime
on_time = record {
  shortest = good_for 0 337 (omega arith) (omega arith);
  six_hours = good_for 63 21600 (omega arith) (omega arith);
  longest = good_for 255 86400 (omega arith) (omega arith);
}

first_two : (high low : ℕ) (others : List ℕ) → number_at (high ∷ low ∷ others) 0 2 ≡ 256 * high + low
first_two high low others = omega arith

pub whole : MacsAreWhole
whole = record {
  compared = λ key i h. bytes_eq-Decides h.mac (mac6 key i.segment_id i h);
  chained = λ beta high low others. ap (bit_xor beta) (first_two high low others);
}
