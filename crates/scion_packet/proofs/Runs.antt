-- Hop fields one after the other, and info fields one after the other.
use Rattle.std.proofs.Common.{◌≡◌, ◌≤◌, ◌<◌, ◌==◌, ℕ, zero, suc, ◌+◌, ◌*◌, ◌/◌, ◌%◌, true, List, [], ◌∷◌, length, map, slice_index, refl, sym, ap, ap₂, ◌∙◌, arith, inl, inr, length-append}
use Rattle.std.specs.List.{AllByRecursion, flat_map, range_with_len}
use Rattle.std.proofs.lemmas.Bool.{and_from, and_parts, cases_lt, eq-eqb, eqb-true}
use Rattle.std.proofs.lemmas.List.Sums.{sum_by-append}
use Rattle.field_rows.specs.Row.{rows}
use Rattle.field_rows.specs.Place.{IsBytes, StandsAt}
use Rattle.field_rows.proofs.Rows.{StandsAt-front, StandsAt-next}
use Rattle.scion_packet.specs.Lengths.{first_hop}
use Rattle.scion_packet.specs.Path.{HopField, IsHop, IsSegment, Segment, count_hops, hop_at, hop_text, hops_text, info_at, info_table, infos_text, no_peering}
use Rattle.scion_packet.proofs.Fields.{InfoSpelled, stands_after, hop_back, hop_spelled, info_back, info_clear, info_spelled}

-- ---- hop fields

-- the n hop fields from the one of number a on, where the hop fields begin at base
abbrev pub run : List ℕ → ℕ → ℕ → ℕ → List HopField
run path base a n = map (λ hop. hop_at path (base + 12 * hop)) (range_with_len a n)

pub record RunSpelled (path : List ℕ) (base a : ℕ) (hops : List HopField) : Type 0 where
  pub text : StandsAt path (base + 12 * a) (flat_map hop_text hops)
  pub lawful : AllByRecursion IsHop hops

pub hop_text_len : (h : HopField) → IsHop h → length (hop_text h) ≡ 12
hop_text_len h lawful = omega (arith, lawful.mac_len)

pub run_len : (hops : List HopField) → AllByRecursion IsHop hops → length (flat_map hop_text hops) ≡ 12 * length hops
run_len [] all = refl
run_len (h ∷ hops) all = omega (arith, length-append (hop_text h) (flat_map hop_text hops), hop_text_len h all.0, run_len hops all.1)

pub run_spelled : (path : List ℕ) (base a n : ℕ) → IsBytes path → base + 12 * (a + n) ≤ length path → RunSpelled path base a (run path base a n)
run_spelled path base a zero are inside = record { text = record { read = refl }; lawful = tt }
run_spelled path base a (suc n) are inside =
    let first = hop_spelled path (base + 12 * a) are (omega arith) in
    let rest = run_spelled path base (a + 1) n are (omega arith) in
    let len = hop_text_len (hop_at path (base + 12 * a)) first.lawful in
    record {
      text = StandsAt-next path (base + 12 * a) (base + 12 * (a + 1)) _ _ first.text rest.text (omega (arith, len));
      lawful = (first.lawful, rest.lawful);
    }

pub run_back : (path : List ℕ) (base a : ℕ) (hops : List HopField) → RunSpelled path base a hops → run path base a (length hops) ≡ hops
run_back path base a [] spelled = refl
run_back path base a (h ∷ hops) spelled =
    let first : StandsAt path (base + 12 * a) (hop_text h) = StandsAt-front path (base + 12 * a) (hop_text h) (flat_map hop_text hops) spelled.text in
    let rest : StandsAt path (base + 12 * (a + 1)) (flat_map hop_text hops) =
    stands_after path (base + 12 * a) (base + 12 * (a + 1)) (hop_text h) (flat_map hop_text hops) spelled.text (omega (arith, hop_text_len h spelled.lawful.0)) in
    let here : hop_at path (base + 12 * a) ≡ h = hop_back path (base + 12 * a) h (record { text = first; lawful = spelled.lawful.0 }) in
    let others : run path base (a + 1) (length hops) ≡ hops = run_back path base (a + 1) hops (record { text = rest; lawful = spelled.lawful.1 }) in
    ap₂ (λ (x : HopField) (xs : List HopField). x ∷ xs) here others

-- ---- segments

-- segment k, where the hop fields begin at base
abbrev pub seg : List ℕ → ℕ → List ℕ → ℕ → Segment
seg path base lengths k = record { info = info_at path (4 + 8 * k); hops = run path base (first_hop lengths k) (slice_index lengths k) }

pub infos_len : (ss : List Segment) → length (infos_text ss) ≡ 8 * length ss
infos_len [] = refl
infos_len (s ∷ ss) = omega (arith, infos_len ss)

pub clear_at : (n k : ℕ) (path : List ℕ) → no_peering n path ≡ true → k < n → slice_index path (4 + 8 * k) / 2 % 2 ≡ 0
clear_at zero k path clear lt = absurd (omega arith)
clear_at (suc n) k path clear lt =
    let parts = and_parts (no_peering n path) (slice_index path (4 + 8 * n) / 2 % 2 == 0) clear in
    elim (cases_lt k n) [
      | inl below ↦ clear_at n k path parts.0 below
      | inr above ↦
          let same : k ≡ n = omega arith in
          ap (λ (j : ℕ). slice_index path (4 + 8 * j) / 2 % 2) same ∙ eqb-true (slice_index path (4 + 8 * n) / 2 % 2) 0 parts.1
    ]

pub infos_spelled : (path : List ℕ) (base : ℕ) (lengths : List ℕ) (k n : ℕ) → IsBytes path → 4 + 8 * (k + n) ≤ length path → no_peering (k + n) path ≡ true
    → StandsAt path (4 + 8 * k) (infos_text (map (seg path base lengths) (range_with_len k n)))
infos_spelled path base lengths k zero are inside clear = record { read = refl }
infos_spelled path base lengths k (suc n) are inside clear =
    let order : k + suc n ≡ k + 1 + n = omega arith in
    let i = info_at path (4 + 8 * k) in
    let first : InfoSpelled path (4 + 8 * k) i = info_spelled path (4 + 8 * k) are (omega arith) (clear_at (k + suc n) k path clear (omega arith)) in
    let rest : StandsAt path (4 + 8 * (k + 1)) (infos_text (map (seg path base lengths) (range_with_len (k + 1) n))) =
    infos_spelled path base lengths (k + 1) n are (omega arith) (ap (λ (m : ℕ). no_peering m path) (sym order) ∙ clear) in
    StandsAt-next path (4 + 8 * k) (4 + 8 * (k + 1)) (rows (info_table i)) (infos_text (map (seg path base lengths) (range_with_len (k + 1) n))) first.text rest (omega arith)

-- the peering bits of info fields that stand there are clear
pub infos_clear : (path : List ℕ) (k : ℕ) (ss : List Segment) → AllByRecursion IsSegment ss → StandsAt path (4 + 8 * k) (infos_text ss) → no_peering k path ≡ true → no_peering (k + length ss) path ≡ true
infos_clear path k [] all stands clear = let same : k + 0 ≡ k = omega arith in rw same clear
infos_clear path k (s ∷ ss) all stands clear =
    let text = rows (info_table s.info) in
    let first : StandsAt path (4 + 8 * k) text = StandsAt-front path (4 + 8 * k) text (infos_text ss) stands in
    let rest : StandsAt path (4 + 8 * suc k) (infos_text ss) = stands_after path (4 + 8 * k) (4 + 8 * suc k) text (infos_text ss) stands (omega arith) in
    let here : (slice_index path (4 + 8 * k) / 2 % 2 == 0) ≡ true = eq-eqb _ 0 (info_clear path (4 + 8 * k) s.info (record { text = first; fits = all.0.info })) in
    let more : no_peering (suc k) path ≡ true = and_from (no_peering k path) _ clear here in
    let order : k + suc (length ss) ≡ suc k + length ss = omega arith in
    ap (λ (m : ℕ). no_peering m path) order ∙ infos_clear path (suc k) ss all.1 rest more

-- the info field of a segment is read at its place
pub info_of : (path : List ℕ) (k : ℕ) (ss : List Segment) (s : Segment) → AllByRecursion IsSegment (s ∷ ss) → StandsAt path (4 + 8 * k) (infos_text (s ∷ ss)) → info_at path (4 + 8 * k) ≡ s.info
info_of path k ss s all stands =
    let text = rows (info_table s.info) in
    info_back path (4 + 8 * k) s.info (record { text = StandsAt-front path (4 + 8 * k) text (infos_text ss) stands; fits = all.0.info })

-- the info fields after those of the first segment
pub infos_after : (path : List ℕ) (k : ℕ) (ss : List Segment) (s : Segment) → StandsAt path (4 + 8 * k) (infos_text (s ∷ ss)) → StandsAt path (4 + 8 * (k + 1)) (infos_text ss)
infos_after path k ss s stands = stands_after path (4 + 8 * k) (4 + 8 * (k + 1)) (rows (info_table s.info)) (infos_text ss) stands (omega arith)

pub count_more_hops : (s : Segment) (ss : List Segment) → count_hops (s ∷ ss) ≡ length s.hops + count_hops ss
count_more_hops s ss = omega (arith, sum_by-append (λ (t : Segment). length t.hops) (s ∷ []) ss)

pub hops_len : (ss : List Segment) → AllByRecursion IsSegment ss → length (hops_text ss) ≡ 12 * count_hops ss
hops_len [] all = refl
hops_len (s ∷ ss) all =
    omega (arith, length-append (flat_map hop_text s.hops) (hops_text ss), run_len s.hops all.0.hops, hops_len ss all.1, count_more_hops s ss)
