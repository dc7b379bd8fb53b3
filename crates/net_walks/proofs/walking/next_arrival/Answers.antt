use Rattle.std.proofs.Common.{refl, sym, ◌∙◌}
use Rattle.net_laws.specs.Net.{net_of}
use Rattle.net_walks.proofs.StopsLemmas.{ends_there, sent_next}
use Rattle.net_walks.proofs.walking.next_arrival.Goals as goal

pub returns-in-Ok-clause-next : goal.returns-in-Ok-clause-next
returns-in-Ok-clause-next c =
    c.in-Some.ensures c.in-Ok.bytes.items
    ∙ sym (sent_next (net_of c.args.net.now) c.args.stop.now c.requires c.in-Send.link c.in-Send.to c.in-Send.bytes c.in-Send.is c.in-Ok.bytes.items (c.in-Ok.ensures.items ∙ c.as_slice.ensures.value))

pub returns-in-None-clause-next : goal.returns-in-None-clause-next
returns-in-None-clause-next c =
    c.in-None.ensures c.in-Send.bytes.items
    ∙ sym (sent_next (net_of c.args.net.now) c.args.stop.now c.requires c.in-Send.link c.in-Send.to c.in-Send.bytes c.in-Send.is c.in-Send.bytes.items refl)

pub returns-in_default-clause-next : goal.returns-in_default-clause-next
returns-in_default-clause-next c = ends_there (net_of c.args.net.now) c.args.stop.now c.requires c.in_default.not-Send
