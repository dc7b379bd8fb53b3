use Rattle.std.proofs.Common.{ℕ, sym, subst}
use Rattle.process_packet.specs.declared.config.Config.{Config}
use Rattle.run_report.specs.Room.{HaveSpace}
use Rattle.router_run.specs.BareWorkers.{AreBareWorkers}
use Rattle.run_pipes.proofs.OkLemmas.{of_ok}
use Rattle.router_run.proofs.TeamLemmas.{teams_as}
use Rattle.router_run.proofs.preparing.prepare.Goals as goal

pub returns-clause-prepared : goal.returns-clause-prepared
returns-clause-prepared g c =
    let w = c.in_ok-bare_workers.bare_workers in
    let made = of_ok _ c.make_all-bare_workers.result w c.in_ok-bare_workers.ensures.0 c.make_all-bare_workers.ensures in
    let room = of_ok (λ r. HaveSpace c.link_count-links.result c.from-processors.result r) c.space_for-space.result c.in_ok-bare_workers.space c.in_ok-bare_workers.ensures.2 c.space_for-space.ensures in
    record {
      bare_workers = subst (λ (k : Config). AreBareWorkers k w) c.in_ok-base.ensures.shared made;
      teams = teams_as _ _ _ _ _ _ _ (of_ok _ _ _ c.in_ok-bare_workers.ensures.1 c.teams_for-teams.ensures) (sym c.link_count-links.ensures.count) (sym c.from-processors.ensures);
      room = subst (λ (n : ℕ). HaveSpace n c.args.config.processors c.in_ok-bare_workers.space) c.link_count-links.ensures.count
          (subst (λ (n : ℕ). HaveSpace c.link_count-links.result n c.in_ok-bare_workers.space) c.from-processors.ensures room);
    }
