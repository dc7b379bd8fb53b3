use Rattle.std.proofs.Common.{codes, refl}
use Rattle.clap.specs.Matches.{found_of}
use Rattle.cli_words.proofs.WordsLemmas.{no_keys, no_router, no_topology, text_read}
use Rattle.cli_words.proofs.import_words.import_of.Goals as goal

pub returns-in_err-topology-clause-none : goal.returns-in_err-topology-clause-none
returns-in_err-topology-clause-none c =
    let read = text_read (found_of c.args.import.now) (codes "topology") c.get_str.result c.get_str.ensures in
    rw c.from_residual.ensures (λ asked asks. no_topology _ asked (rw c.in_err-topology.was at read) asks)

pub returns-in_err-border_router-clause-none : goal.returns-in_err-border_router-clause-none
returns-in_err-border_router-clause-none c =
    let read = text_read (found_of c.args.import.now) (codes "router") c.get_str-2.result c.get_str-2.ensures in
    rw c.from_residual-in_err-border_router.ensures (λ asked asks. no_router _ asked (rw c.in_err-border_router.was at read) asks)

pub returns-in_err-keys-clause-none : goal.returns-in_err-keys-clause-none
returns-in_err-keys-clause-none c =
    let read = text_read (found_of c.args.import.now) (codes "keys") c.get_str-3.result c.get_str-3.ensures in
    rw c.from_residual-in_err-keys.ensures (λ asked asks. no_keys _ asked (rw c.in_err-keys.was at read) asks)

pub returns-clause-found : goal.returns-clause-found
returns-clause-found c =
    let topology = text_read (found_of c.args.import.now) (codes "topology") c.get_str.result c.get_str.ensures in
    let router = text_read (found_of c.args.import.now) (codes "router") c.get_str-2.result c.get_str-2.ensures in
    let keys = text_read (found_of c.args.import.now) (codes "keys") c.get_str-3.result c.get_str-3.ensures in
    let out = text_read (found_of c.args.import.now) (codes "out") c.get_str-out.result c.get_str-out.ensures in (
      refl,
      record {
        topology_is = rw c.in_ok-topology.was at topology;
        router_is = rw c.in_ok-border_router.was at router;
        keys_is = rw c.in_ok-keys.was at keys;
        out_is = out;
        port_range_is = c.is_given-port_range.ensures;
        strict_is = c.is_given-strict.ensures;
      },
    )
