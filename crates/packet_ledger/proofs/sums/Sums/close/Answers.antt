use Rattle.std.proofs.Common.{◌≡◌, length, rules, subst, sym, ap, ◌∙◌}
use Rattle.crossbeam_utils.specs.Seq.{cell_view}
use Rattle.process_packet.specs.Cause.{causes}
use Rattle.process_packet.specs.declared.totals.Totals.{Totals}
use Rattle.packet_ledger.specs.Amounts.{plus}
use Rattle.packet_ledger.specs.Shown.{Shown, rows_of}
use Rattle.packet_ledger.specs.Share.{AreTheirRows}
use Rattle.packet_ledger.specs.Tokens.{kept}
use Rattle.packet_ledger.proofs.Closing.{closes, gives_all}
use Rattle.packet_ledger.proofs.sums.Sums.close.Goals as goal

pub invariant_of-self : goal.invariant_of-self
invariant_of-self g c =
    let totals : Totals = c.self.inside.totals in
    let long : length totals.dropped ≡ causes = search rules in
    let rows = rows_of c.self.inside.inputs.items c.self.inside.outputs.items in
    let given = c.give.ensures.kept.1 ∙ (λ i. kept c.len-parts.result c.none.result (rows_of (c.as_slice.ensures.value i) (c.as_slice-2.ensures.value i)) (cell_view c.audit.new.keeper)) in
    let end = closes g.N.RunBrand.workers (length c.args.shares.items) c.len-parts.result totals c.none.result rows c.args.shares.items _ _ _ _ c.self.invariant.3 c.requires.shares (search rules) long c.none.ensures c.self.invariant.1 c.take_all-counts.ensures.token c.audit.ensures.known given in (
      c.give.ensures.kept.0 ∙ c.audit.ensures.own ∙ c.take_all-counts.ensures.own,
      end.0,
      c.self.invariant.2,
      c.self.invariant.3,
      c.self.invariant.4,
      c.self.invariant.5,
      c.self.invariant.6,
    )

pub returns-clause-totals : goal.returns-clause-totals
returns-clause-totals g c =
    let totals : Totals = c.self.inside.totals in
    let long : length totals.dropped ≡ causes = search rules in
    let rows = rows_of c.self.inside.inputs.items c.self.inside.outputs.items in
    let given = c.give.ensures.kept.1 ∙ (λ i. kept c.len-parts.result c.none.result (rows_of (c.as_slice.ensures.value i) (c.as_slice-2.ensures.value i)) (cell_view c.audit.new.keeper)) in
    let end = closes g.N.RunBrand.workers (length c.args.shares.items) c.len-parts.result totals c.none.result rows c.args.shares.items _ _ _ _ c.self.invariant.3 c.requires.shares (search rules) long c.none.ensures c.self.invariant.1 c.take_all-counts.ensures.token c.audit.ensures.known given in
    c.added.ensures ∙ (λ i. plus (end.1 i) (c.take_all-counts.ensures.counts i))

pub returns-clause-posted : goal.returns-clause-posted
returns-clause-posted g c =
    let totals : Totals = c.self.inside.totals in
    let long : length totals.dropped ≡ causes = search rules in
    let rows = rows_of c.self.inside.inputs.items c.self.inside.outputs.items in
    let given = c.give.ensures.kept.1 ∙ (λ i. kept c.len-parts.result c.none.result (rows_of (c.as_slice.ensures.value i) (c.as_slice-2.ensures.value i)) (cell_view c.audit.new.keeper)) in
    let end = closes g.N.RunBrand.workers (length c.args.shares.items) c.len-parts.result totals c.none.result rows c.args.shares.items _ _ _ _ c.self.invariant.3 c.requires.shares (search rules) long c.none.ensures c.self.invariant.1 c.take_all-counts.ensures.token c.audit.ensures.known given in
    ap (λ (s : Shown). s.totals) (sym c.self.view_is) ∙ end.1

pub give-requires-clause-few : goal.give-requires-clause-few
give-requires-clause-few g c =
    gives_all c.args.shares.items c.len-parts.result c.none.result (cell_view c.self.inside.token) _ _ (search rules) c.none.ensures c.take_all-counts.ensures.token c.audit.ensures.known.0 c.take_all-counts.ensures.posted

pub returns-clause-rows : goal.returns-clause-rows
returns-clause-rows g c =
    let totals : Totals = c.self.inside.totals in
    let long : length totals.dropped ≡ causes = search rules in
    let rows = rows_of c.self.inside.inputs.items c.self.inside.outputs.items in
    let given = c.give.ensures.kept.1 ∙ (λ i. kept c.len-parts.result c.none.result (rows_of (c.as_slice.ensures.value i) (c.as_slice-2.ensures.value i)) (cell_view c.audit.new.keeper)) in
    let end = closes g.N.RunBrand.workers (length c.args.shares.items) c.len-parts.result totals c.none.result rows c.args.shares.items _ _ _ _ c.self.invariant.3 c.requires.shares (search rules) long c.none.ensures c.self.invariant.1 c.take_all-counts.ensures.token c.audit.ensures.known given in
    subst (λ (s : Shown). AreTheirRows c.args.shares.items s) c.self.view_is end.2
