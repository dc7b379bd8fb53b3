use Rattle.std.proofs.Common.{◌≡◌, ◌+◌, ℕ, slice_index, slice_set, ap, sym, ◌∙◌, arith}
use Rattle.std.proofs.lemmas.List.{get_or_default}
use Rattle.packet_ledger.specs.Shown.{single}
use Rattle.packet_ledger.proofs.Rows.{none_more, raised, raised_none}
use Rattle.packet_ledger.proofs.sums.raise.Goals as goal

pub returns-then-n-gt0-clause-up : goal.returns-then-n-gt0-clause-up
returns-then-n-gt0-clause-up c = λ k.
    let row = c.args.row.now.items in
    let is : c.index_mut.result.now ≡ slice_index row c.args.place = c.index_mut.ensures.value ∙ get_or_default row c.args.place c.index_mut.result.now 0 c.requires.place in
    ap (λ (x : ℕ). slice_index (slice_set row c.args.place (x + c.args.n)) k) is ∙ raised row c.args.place c.args.n c.requires.place k

pub returns-else-n-gt0-clause-row : goal.returns-else-n-gt0-clause-row
returns-else-n-gt0-clause-row c =
    let none : c.args.n ≡ 0 = omega (arith, c.if-n-gt0.false) in
    let row = c.args.row.now.items in
    sym (ap (λ (n : ℕ). slice_set row c.args.place (slice_index row c.args.place + n)) none ∙ raised_none row c.args.place c.requires.place)

pub returns-else-n-gt0-clause-up : goal.returns-else-n-gt0-clause-up
returns-else-n-gt0-clause-up c = λ k.
    let none : c.args.n ≡ 0 = omega (arith, c.if-n-gt0.false) in
    let row = c.args.row.now.items in
    let z = none_more c.args.place k in let e = ap (λ (n : ℕ). slice_index (single c.args.place n) k) none in omega arith
