use Rattle.udp_devices.specs.Devices.{Reading, Sending}
use Rattle.udp_router.proofs.Devices.{is_new, is_no_count, own_links, own_new, own_workers, untold}
use Rattle.udp_router.proofs.Led.{fault_from_own, from_own, not_started}
use Rattle.udp_router.proofs.run.start_and_lead.Goals as goal

pub start-requires-clause-sources : goal.start-requires-clause-sources
start-requires-clause-sources g c κs within = untold Reading _ c.args.devices.sources.items

pub start-requires-clause-sinks : goal.start-requires-clause-sinks
start-requires-clause-sinks g c κs within = untold Sending _ c.args.devices.sinks.items

pub lead-requires-clause-new : goal.lead-requires-clause-new
lead-requires-clause-new g c κs within =
    own_new c.args.config c.in-Ok.running (is_new c.args.config c.in-Ok.running c.args.devices.sources.items c.args.devices.sinks.items c.requires.sources c.requires.sinks c.in-Ok.ensures)

pub lead-requires-clause-workers : goal.lead-requires-clause-workers
lead-requires-clause-workers g c κs within = own_workers c.args.config c.in-Ok.running.config g.N.RunBrand.workers c.in-Ok.ensures.config c.requires.workers

pub lead-requires-clause-links : goal.lead-requires-clause-links
lead-requires-clause-links g c κs within = own_links c.args.config c.in-Ok.running.config c.args.links.now c.in-Ok.ensures.config c.requires.links

pub returns-in-Ok-clause-ran : goal.returns-in-Ok-clause-ran
returns-in-Ok-clause-ran g c =
    from_own c.args.config c.in-Ok.running.config c.lead.result (g.I.Read.remaining c.args.reader.now) (g.O.Write.contents c.args.writer.now) (g.O.Write.contents c.lead.new.writer) c.in-Ok.ensures.config
    c.lead.ensures.ran

pub returns-in-Ok-clause-fault : goal.returns-in-Ok-clause-fault
returns-in-Ok-clause-fault g c = fault_from_own c.args.config c.in-Ok.running.config c.lead.result c.in-Ok.ensures.config c.lead.ensures.fault

pub returns-in-Err-clause-fault : goal.returns-in-Err-clause-fault
returns-in-Err-clause-fault g c =
    is_no_count c.args.config c.in-Err.fault c.unstarted.result c.args.devices.sources.items c.args.devices.sinks.items c.requires.sources c.requires.sinks c.in-Err.ensures c.unstarted.ensures

pub returns-in-Err-clause-ran : goal.returns-in-Err-clause-ran
returns-in-Err-clause-ran g c = not_started c.args.config c.in-Err.fault c.unstarted.result (g.I.Read.remaining c.args.reader.now) (g.O.Write.contents c.args.writer.now) c.unstarted.ensures
