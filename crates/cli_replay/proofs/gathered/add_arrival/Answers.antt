use Rattle.std.proofs.Common.{◌≡◌, ◌+◌, ◌++◌, ◌∷◌, [], length, refl, rules, arith}
use Rattle.process_packet.specs.declared.arrival.Arrival.{Arrival as Came}
use Rattle.router_rules.specs.Links.{link_index}
use Rattle.cli_replay.specs.ArriveLine.{incoming_datagram}
use Rattle.cli_replay.proofs.GatheredLemmas.{added}
use Rattle.cli_replay.proofs.gathered.add_arrival.Goals as goal

pub returns : goal.returns
returns c =
    let i = c.args.incoming in
    let xs = c.index_mut-list.result.now in
    let x : Came = record { link = i.arrival_context.link; number = c.len.result + 1; source = i.arrival_context.source; now = i.arrival_context.moment; bytes = i.bytes } in
    let after : c.push.new.self.items ≡ xs.items ++ x ∷ [] = search rules in
    let number : c.len.result + 1 ≡ 1 + length xs.items = omega arith in
    let at : c.from.result ≡ link_index c.args.config.now i.arrival_context.link = search rules in
    λ ds so_far. added c.args.config.now ds (incoming_datagram i) x c.from.result c.args.lists.now.items c.push.new.self xs at (search rules) c.index_mut-list.ensures.value
    (record { same = refl; number = number; after = after }) so_far
