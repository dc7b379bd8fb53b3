-- What stands ready before a router has its devices, and what stays so while it runs.
use Rattle.std.specs.Prelude.{◌≡◌, ◌+◌, ◌*◌, ℕ}
use Rattle.process_packet.specs.declared.config.Config.{Config}
use Rattle.router_rules.specs.Links.{link_count}
use Rattle.worker_threads.specs.Teams.{Seated}
use Rattle.run_pipes.specs.Pipes.{piping_of}
use Rattle.run_pipes.specs.declared.pipes.Pipes.{Pipes}
use Rattle.run_report.specs.Crew.{Crew}
use Rattle.run_report.specs.Room.{HaveSpace}
use Rattle.run_report.specs.declared.space.Space.{Space}
use Rattle.router_run.specs.BareWorkers.{AllMade, AreBareWorkers}
use Rattle.router_run.specs.Teams.{AreTeamsFor}
use Rattle.router_run.specs.Wiring.{IsCrew}
use Rattle.router_run.specs.declared.bare_workers.BareWorkers.{BareWorkers}

-- the workers over their pipes, a team for each kind of which there are many, and room for what comes back
pub record IsPrepared {N G A B C S K : Type 0} (c : Config) (w : BareWorkers N G) (receivers : Seated A) (processors : Seated B) (forwarders : Seated C) (space : Space N S K) : Type 0 where
  pub bare_workers : AreBareWorkers c w
  pub teams : AreTeamsFor (link_count c) c.processors receivers processors forwarders
  pub room : HaveSpace (link_count c) c.processors space

-- There are so many workers, each with its own ends of the pipes, of which all were made and none is back; and there is room for what
-- comes back.
abbrev pub IsRunning : {N S G K X Y : Type 0} → ℕ → Config → Pipes N → Crew S G K → Space N X Y → Type 0
IsRunning workers c k crew space =
    (workers ≡ 2 * link_count c + c.processors + 1) × IsCrew c (piping_of k) crew × AllMade c (piping_of k) k × HaveSpace (link_count c) c.processors space
