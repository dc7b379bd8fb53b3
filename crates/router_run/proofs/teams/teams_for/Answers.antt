use Rattle.run_pipes.proofs.OkLemmas.{of_ok}
use Rattle.router_run.proofs.teams.teams_for.Goals as goal

pub returns : goal.returns
returns g c =
    let made = c.in_ok-receivers.ensures in
    (of_ok _ _ _ made.0 c.team_for-receivers.ensures, of_ok _ _ _ made.1 c.team_for-processors.ensures, of_ok _ _ _ made.2 c.team_for-forwarders.ensures)
