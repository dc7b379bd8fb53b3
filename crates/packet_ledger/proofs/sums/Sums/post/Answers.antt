use Rattle.std.proofs.Common.{◌≡◌, ◌-◌, length, rules, refl, sym, ap, ◌∙◌, subst, arith}
use Rattle.crossbeam_utils.specs.Seq.{cell_view}
use Rattle.process_packet.specs.Cause.{causes}
use Rattle.process_packet.specs.declared.totals.Totals.{Totals}
use Rattle.packet_ledger.specs.Amounts.{AtMost, count_at, nothing, plus}
use Rattle.packet_ledger.specs.Shown.{counted_at, no_rows, rows_of}
use Rattle.packet_ledger.specs.Tokens.{holder, keeper, kept}
use Rattle.packet_ledger.proofs.Counting.{length-add_each, nothing_at}
use Rattle.packet_ledger.proofs.Moves.{booked_most, gives_one, joins, posts}
use Rattle.packet_ledger.proofs.Posting.{adds_up, books, row_rooms}
use Rattle.packet_ledger.proofs.sums.Sums.post.Goals as goal

pub returns-then-not-sums_fit-clause-room : goal.returns-then-not-sums_fit-clause-room
returns-then-not-sums_fit-clause-room g c =
    let sums : plus c.share.inside.posted c.share.inside.counts ≡ plus c.args.share.now.posted c.args.share.now.counts = λ i. plus (c.share.view_is i).posted (c.share.view_is i).counts in
    λ room. c.if-not-sums_fit.ensures (subst (AtMost _) (sym sums) room)

pub overflow_add-forwarded : goal.overflow_add-forwarded
overflow_add-forwarded g c = let a = c.share.invariant.3 1 in let b = c.share.invariant.3 2 in record { fits = omega arith }

pub give-requires-clause-few : goal.give-requires-clause-few
give-requires-clause-few g c =
    let totals : Totals = c.self.inside.totals in
    let posted : Totals = c.share.inside.posted in
    let longT : length totals.dropped ≡ causes = search rules in
    let longP : length posted.dropped ≡ causes = search rules in
    let rows = rows_of c.self.inside.inputs.items c.self.inside.outputs.items in
    let spared = c.give-spare.ensures.kept.1 ∙ (λ i. kept 0 c.none.result (rows_of (c.as_slice.ensures.value i) (c.as_slice-2.ensures.value i)) (cell_view c.self.inside.token)) in
    let all = joins g.N.RunBrand.workers totals posted c.none.result (counted_at c.share.inside.place posted) rows _ _ _ (cell_view c.replace-token.result) c.self.invariant.3 longT longP c.none.ensures c.self.invariant.1 spared
    (ap cell_view c.replace-token.ensures.value ∙ c.share.invariant.2) c.take_in.ensures.1 in
    gives_one _ totals posted c.share.inside.counts _ _ rows _ (c.audit.ensures.known.0 ∙ all) refl c.if-not-sums_fit.ensures

pub raise-requires-clause-room : goal.raise-requires-clause-room
raise-requires-clause-room g c =
    (row_rooms c.self.inside.totals c.share.inside.counts c.self.inside.inputs.items c.self.inside.outputs.items c.self.invariant.2 c.share.invariant.3 c.self.invariant.4).0

pub raise-requires-2-clause-room : goal.raise-requires-2-clause-room
raise-requires-2-clause-room g c =
    (row_rooms c.self.inside.totals c.share.inside.counts c.self.inside.inputs.items c.self.inside.outputs.items c.self.invariant.2 c.share.invariant.3 c.self.invariant.4).2

pub returns-clause-sums : goal.returns-clause-sums
returns-clause-sums g c =
    books (record { totals = c.self.inside.totals; inputs = c.self.inside.inputs.items; outputs = c.self.inside.outputs.items }) c.args.self.now
    (record { counts = c.share.inside.counts; posted = c.share.inside.posted; place = c.share.inside.place }) c.args.share.now
    c.add-2.new.counts c.raise.new.row.items c.raise-2.new.row.items c.share.inside.place c.self.view_is c.share.view_is refl c.add-2.ensures c.raise.ensures.row c.raise-2.ensures.row

pub invariant_of-self : goal.invariant_of-self
invariant_of-self g c =
    let totals : Totals = c.self.inside.totals in
    let posted : Totals = c.share.inside.posted in
    let longT : length totals.dropped ≡ causes = search rules in
    let longP : length posted.dropped ≡ causes = search rules in
    let rows = rows_of c.self.inside.inputs.items c.self.inside.outputs.items in
    let spared = c.give-spare.ensures.kept.1 ∙ (λ i. kept 0 c.none.result (rows_of (c.as_slice.ensures.value i) (c.as_slice-2.ensures.value i)) (cell_view c.self.inside.token)) in
    let all = joins g.N.RunBrand.workers totals posted c.none.result (counted_at c.share.inside.place posted) rows _ _ _ (cell_view c.replace-token.result) c.self.invariant.3 longT longP c.none.ensures c.self.invariant.1 spared
    (ap cell_view c.replace-token.ensures.value ∙ c.share.invariant.2) c.take_in.ensures.1 in
    let next = rows_of c.raise.new.row.items c.raise-2.new.row.items in
    let given = c.give.ensures.kept.1 ∙ (λ i. kept 1 c.share.inside.counts (rows_of (c.as_slice-3.ensures.value i) (c.as_slice-4.ensures.value i)) (cell_view c.audit.new.keeper)) in
    let moved = posts g.N.RunBrand.workers c.share.inside.place totals posted c.share.inside.counts rows next _ _ _ c.self.invariant.3 (c.audit.ensures.known.0 ∙ all) given c.give.ensures.given.2 in (
      c.give.ensures.kept.0 ∙ c.audit.ensures.own ∙ c.take_in.ensures.0 ∙ c.give-spare.ensures.kept.0 ∙ c.self.invariant.0,
      moved.0 ∙ (λ i. keeper (65537 - g.N.RunBrand.workers) nothing no_rows (sym c.add-2.ensures i) next),
      booked_most _ totals posted c.share.inside.counts c.add-2.new.counts _ rows _ all c.audit.ensures.known.1 c.share.invariant.3 c.add-2.ensures,
      c.self.invariant.3,
      adds_up totals c.share.inside.counts c.add-2.new.counts c.self.inside.inputs.items c.self.inside.outputs.items c.raise.new.row.items c.raise-2.new.row.items c.self.invariant.4 c.add-2.ensures c.raise.ensures.sum c.raise-2.ensures.sum,
      c.raise.ensures.same ∙ c.self.invariant.5,
      c.raise-2.ensures.same ∙ c.self.invariant.6,
    )

pub invariant_of-share : goal.invariant_of-share
invariant_of-share g c =
    let totals : Totals = c.self.inside.totals in
    let posted : Totals = c.share.inside.posted in
    let longT : length totals.dropped ≡ causes = search rules in
    let longP : length posted.dropped ≡ causes = search rules in
    let longC : length c.share.inside.counts.dropped ≡ causes = search rules in
    let rows = rows_of c.self.inside.inputs.items c.self.inside.outputs.items in
    let spared = c.give-spare.ensures.kept.1 ∙ (λ i. kept 0 c.none.result (rows_of (c.as_slice.ensures.value i) (c.as_slice-2.ensures.value i)) (cell_view c.self.inside.token)) in
    let all = joins g.N.RunBrand.workers totals posted c.none.result (counted_at c.share.inside.place posted) rows _ _ _ (cell_view c.replace-token.result) c.self.invariant.3 longT longP c.none.ensures c.self.invariant.1 spared
    (ap cell_view c.replace-token.ensures.value ∙ c.share.invariant.2) c.take_in.ensures.1 in
    let moved = posts g.N.RunBrand.workers c.share.inside.place totals posted c.share.inside.counts rows _ _ _ _ c.self.invariant.3 (c.audit.ensures.known.0 ∙ all) c.give.ensures.kept.1 c.give.ensures.given.2 in (
      c.give.ensures.given.0 ∙ c.audit.ensures.own ∙ c.take_in.ensures.0 ∙ c.give-spare.ensures.kept.0 ∙ c.self.invariant.0,
      c.give.ensures.given.1,
      moved.1 ∙ (λ i. holder 1 (sym c.add.ensures i) (counted_at c.share.inside.place (sym c.add.ensures i))),
      (λ i. let z = nothing_at i in let e = ap (count_at i) c.clear.ensures in omega arith),
      (subst (AtMost _) (sym c.add.ensures) c.if-not-sums_fit.ensures),
      (λ i. let z = nothing_at i in let e = ap (count_at i) c.clear.ensures in omega arith),
      c.share.invariant.6,
      (λ _. c.clear.ensures),
      (ap (λ (t : Totals). length t.dropped) c.add.ensures ∙ length-add_each causes posted.dropped c.share.inside.counts.dropped longP longC),
      (λ _. ap (λ (t : Totals). t.dropped) c.clear.ensures),
    )
