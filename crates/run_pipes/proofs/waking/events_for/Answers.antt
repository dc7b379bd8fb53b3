use Rattle.run_pipes.proofs.waking.events_for.Goals as goal

pub returns-clause-processors : goal.returns-clause-processors
returns-clause-processors c = c.in_ok-so_many.ensures

pub returns-clause-forwarders : goal.returns-clause-forwarders
returns-clause-forwarders c = c.in_ok-so_many-2.ensures
