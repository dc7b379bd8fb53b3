-- The rules of the tables, each computed once over every byte.
use Rattle.std.proofs.Common.{◌≡◌, ℕ, ◌<◌, List, map, get_or, [], refl, sym, ap, ◌∙◌, zero-add, length, arith}
use Rattle.std.specs.List.{range_with_len}
use Rattle.std.proofs.lemmas.List.{get_or-map}
use Rattle.std.proofs.lemmas.List.FromFn.{get_or-map-range_with_len}
use Rattle.aes128_core.specs.Field.{times, inverse}
use Rattle.aes128_core.specs.SBox.{s_box}
use Rattle.aes128_core.specs.State.{four}
use Rattle.aes128_core.specs.Rounds.{matrix}
use Rattle.aes128_core.specs.KeyExpansion.{x_power}
use Rattle.aes128_core.specs.Columns.{word_bytes}
use Rattle.aes128_core.specs.declared.tables.TheConstants.{S_BOX, T0, T1, T2, T3, ROUND_CONSTANTS}

-- an entry of a table that is a function of the index
pub entry : {X : Type 0} (f : ℕ → X) (xs : List X) (n i : ℕ) (d : X) → xs ≡ map f (range_with_len 0 n) → i < n → get_or xs i d ≡ f i
entry {X} f xs n i d e lt = ap (λ (t : List X). get_or t i d) e ∙ get_or-map-range_with_len f 0 n i i d lt (zero-add i)

s_box_table : S_BOX ≡ map s_box (range_with_len 0 256)
unfolding s_box times inverse
s_box_table = refl

pub s_box_at : (b : ℕ) → b < 256 → get_or S_BOX b 0 ≡ s_box b
s_box_at b lt = entry s_box S_BOX 256 b 0 s_box_table lt

x_power_table : ROUND_CONSTANTS ≡ map x_power (range_with_len 0 10)
unfolding x_power times
x_power_table = refl

pub x_power_at : (j : ℕ) → j < 10 → get_or ROUND_CONSTANTS j 0 ≡ x_power j
x_power_at j lt = entry x_power ROUND_CONSTANTS 10 j 0 x_power_table lt

-- ---- the column tables

-- column k of the matrix times b
abbrev pub matrix_column : ℕ → ℕ → List ℕ
matrix_column k b = four (λ r. times (get_or (get_or matrix r []) k 0) b)

-- what a column table holds, byte by byte
abbrev pub IsColumnTable : List ℕ → ℕ → Type 0
IsColumnTable table k = map word_bytes table ≡ map (matrix_column k) S_BOX

column_table_at : (table : List ℕ) (k b : ℕ) → IsColumnTable table k → length table ≡ 256 → b < 256
    → word_bytes (get_or table b 0) ≡ matrix_column k (s_box b)
column_table_at table k b rule long lt =
    let inside : b < length table = omega arith in
    sym (get_or-map word_bytes table b 0 [] inside)
    ∙ ap (λ (t : List (List ℕ)). get_or t b []) rule
    ∙ get_or-map (matrix_column k) S_BOX b 0 [] lt
    ∙ ap (matrix_column k) (s_box_at b lt)

table_0 : IsColumnTable T0 0
unfolding times
table_0 = refl

table_1 : IsColumnTable T1 1
unfolding times
table_1 = refl

table_2 : IsColumnTable T2 2
unfolding times
table_2 = refl

table_3 : IsColumnTable T3 3
unfolding times
table_3 = refl

pub t0_at : (b : ℕ) → b < 256 → word_bytes (get_or T0 b 0) ≡ matrix_column 0 (s_box b)
t0_at b = column_table_at T0 0 b table_0 refl

pub t1_at : (b : ℕ) → b < 256 → word_bytes (get_or T1 b 0) ≡ matrix_column 1 (s_box b)
t1_at b = column_table_at T1 1 b table_1 refl

pub t2_at : (b : ℕ) → b < 256 → word_bytes (get_or T2 b 0) ≡ matrix_column 2 (s_box b)
t2_at b = column_table_at T2 2 b table_2 refl

pub t3_at : (b : ℕ) → b < 256 → word_bytes (get_or T3 b 0) ≡ matrix_column 3 (s_box b)
t3_at b = column_table_at T3 3 b table_3 refl
