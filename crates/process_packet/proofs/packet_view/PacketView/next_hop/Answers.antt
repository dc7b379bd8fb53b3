use Rattle.std.proofs.Common.{rules, ◌≡◌, ◌≢◌, ◌+◌, ◌==◌, true, false, sym, ◌∙◌, arith}
use Rattle.std.proofs.lemmas.Bool.Decides.{Decides-eqb}
use Rattle.scion_packet.specs.Path.{place_at}
use Rattle.process_packet.proofs.LeavingLemmas.{another_follows, crosses, goes_on_within}
use Rattle.process_packet.proofs.packet_view.PacketView.next_hop.Goals as goal

pub returns-then-is_last_of_segment-clause-number_fits : goal.returns-then-is_last_of_segment-clause-number_fits
returns-then-is_last_of_segment-clause-number_fits c =
    let v = c.args.self.now in
    let on = c.requires.on in
    let last : (v.current.position + 1 == v.current.hops) ≡ true = sym c.is_last_of_segment.ensures.value ∙ c.if-is_last_of_segment.true in
    let followed = another_follows v.current.position v.current.hops v.current.segment v.segments c.requires.more last in
    let next = crosses v.current on.segments (place_at v.current.segment v.current.position) on.whole on.lies ((Decides-eqb _ _).0 last) (omega (arith, followed, on.count)) in
    omega (arith, next.number_fits)

pub returns-else-is_last_of_segment-clause-number_fits : goal.returns-else-is_last_of_segment-clause-number_fits
returns-else-is_last_of_segment-clause-number_fits c =
    let v = c.args.self.now in
    let on = c.requires.on in
    let other : (v.current.position + 1 == v.current.hops) ≡ false = sym c.is_last_of_segment.ensures.value ∙ c.if-is_last_of_segment.false in
    let more : v.current.position + 1 ≢ v.current.hops = λ same. let no-way : true ≡ false = sym ((Decides-eqb _ _).1 same) ∙ other in absurd cc in
    let next = goes_on_within v.current on.segments (place_at v.current.segment v.current.position) on.whole on.lies more in
    omega (arith, next.number_fits)

pub returns-else-is_last_of_segment-clause-next : goal.returns-else-is_last_of_segment-clause-next
returns-else-is_last_of_segment-clause-next c = search rules
