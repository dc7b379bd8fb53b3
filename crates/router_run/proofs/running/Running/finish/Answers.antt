use Rattle.std.proofs.Common.{IfSome, length, sym, ◌∙◌, ap, subst}
use Rattle.worker_order.proofs.Returned.{runs_as_told}
use Rattle.run_pipes.proofs.PipesLemmas.{none_are_all_back}
use Rattle.router_run.specs.Run.{RouterHasRun, Run, SentWithin}
use Rattle.router_run.proofs.Finish.{has_run, settled, shares_count}
use Rattle.router_run.proofs.Crews.{crews_end, has_ends}
use Rattle.router_run.proofs.Places.{rows_within}
use Rattle.router_run.proofs.running.Running.finish.Goals as goal

pub join_workers-joined-requires : goal.join_workers-joined-requires
join_workers-joined-requires g c = record { unmarked = c.self.invariant.1.unended }

pub part_all-takers-requires : goal.part_all-takers-requires
part_all-takers-requires g c =
    let ends = has_ends g.S.Source.same g.K.Sink.same _ _ _ _ c.self.invariant.1 c.join_workers-joined.ensures in
    (_, _, _, none_are_all_back _ _ _ _ c.self.invariant.2, ends, c.self.invariant.3)

pub settle-requires : goal.settle-requires
settle-requires g c =
    let parted = c.part_all-takers.ensures in
    let r = crews_end g.S.Source.same g.K.Sink.same _ _ _ _ c.self.invariant.1 c.join_workers-joined.ensures g.S.Source.told g.K.Sink.told g.K.Sink.failed parted.kept _ _ _ parted.takers in
    (_, _, _, _, parted.back _ (none_are_all_back _ _ _ _ c.self.invariant.2), r.0, r.1, r.2)

pub report_of-requires : goal.report_of-requires
report_of-requires g c =
    let ends = has_ends g.S.Source.same g.K.Sink.same _ _ _ _ c.self.invariant.1 c.join_workers-joined.ensures in
    ap length c.part_all-takers.ensures.shares ∙ (shares_count _ _ _ _ ends ∙ sym c.self.invariant.0)

pub returns-clause-run : goal.returns-clause-run
returns-clause-run g c =
    let parted = c.part_all-takers.ensures in
    let report = c.report_of.ensures in
    let set = settled _ _ _ _ _ parted.takers (c.settle.ensures _ _ _ _ (parted.back _ (none_are_all_back _ _ _ _ c.self.invariant.2))) in
    let told = c.report_of.result in
    subst (λ (r : Run _ _ _). RouterHasRun g.S.Source.told g.K.Sink.told g.K.Sink.failed g.S.Source.same g.K.Sink.same r told.totals told.sent.items told.sources.items told.sinks.items) c.self.view_is
    (has_run g.S.Source.told g.K.Sink.told g.K.Sink.failed g.S.Source.same g.K.Sink.same (runs_as_told c.rules_are_lawful.ensures c.links_stand_in_order.ensures c.causes_are_apart.ensures)
    _ _ _ _ _ _ _ c.self.invariant.1 c.join_workers-joined.ensures parted.kept set parted.shares report.totals (report.sent ∙ parted.sent) (report.sources ∙ parted.sources) (report.sinks ∙ parted.sinks))

pub returns-clause-rows : goal.returns-clause-rows
returns-clause-rows g c =
    let parted = c.part_all-takers.ensures in
    let report = c.report_of.ensures in
    subst (λ (r : Run _ _ _). IfSome c.args.look (λ l. SentWithin r.config l c.report_of.result.sent.items)) c.self.view_is
    (rows_within g.S.Source.same g.K.Sink.same _ _ _ _ c.self.invariant.1 c.join_workers-joined.ensures c.args.look _ _ parted.shares (report.sent ∙ parted.sent) report.rows)
