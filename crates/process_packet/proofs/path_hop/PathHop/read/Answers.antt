use Rattle.std.proofs.Common.{refl, arith, ap, ◌∙◌, ◌+◌, ◌-◌, ◌*◌, ℕ}
use Rattle.scion_packet.specs.Path.{hop_at}
use Rattle.process_packet.proofs.PathHopLemmas.{small, path_hop_stands}
use Rattle.process_packet.proofs.path_hop.PathHop.read.Goals as goal

pub returns : goal.returns
returns c =
    path_hop_stands _ c.args.meta.now c.args.path.now c.args.segment c.args.number c.requires.meta (record {
      there = c.requires.there;
      begins = c.requires.begins;
      ends = c.requires.ends;
      segment = refl;
      position = ap (λ (n : ℕ). c.args.number - n) c.first_hop.ensures;
      hops = c.hops_of.ensures;
      number = refl;
      info = c.read_info.ensures;
      hop = c.read_hop.ensures ∙ ap (λ (n : ℕ). hop_at c.args.path.now (n + 12 * c.args.number)) c.hops_place.ensures;
    })

pub hops_of-requires : goal.hops_of-requires
hops_of-requires c =
    (small c.args.meta.now c.args.path.now c.args.segment c.args.number c.requires.meta c.requires.there c.requires.begins c.requires.ends).segment

pub invariant_of-result : goal.invariant_of-result
invariant_of-result c =
    let fits = small c.args.meta.now c.args.path.now c.args.segment c.args.number c.requires.meta c.requires.there c.requires.begins c.requires.ends in
    record {
      inside = omega (arith, c.first_hop.ensures, c.hops_of.ensures, c.requires.begins, c.requires.ends);
      few_hops = omega (arith, c.hops_of.ensures, fits.hops);
      few_segments = fits.segment;
      few = fits.number;
    }
