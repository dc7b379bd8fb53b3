use Rattle.std.proofs.Common.{ap, sym, ◌∙◌}
use Rattle.process_packet.specs.Rows.{Dropped, Ends}
use Rattle.process_packet.proofs.ParsedHeadersLemmas.{meta_of, path_fails, path_passes}
use Rattle.scion_packet.proofs.Parts.{path_are, path_between}
use Rattle.process_packet.proofs.parsed_headers.ParsedHeaders.faulty_path.Goals as goal

pub returns-in-Ok-clause-headers : goal.returns-in-Ok-clause-headers
returns-in-Ok-clause-headers c =
    let bytes = c.args.bytes.now in
    record {
      are = c.requires.are;
      sound = c.requires.sound;
      begin = c.requires.addresses;
      end = c.requires.header;
      order = c.requires.covers;
      inside = c.requires.whole;
      meta = meta_of c.in-Ok.meta _ _ (path_between bytes _ _ c.requires.addresses c.requires.header) (path_are bytes c.requires.are) c.in-Ok.ensures.fault c.in-Ok.ensures.lengths c.in-Ok.ensures.info c.in-Ok.ensures.hop;
    }

pub returns-in-Ok-clause-says : goal.returns-in-Ok-clause-says
returns-in-Ok-clause-says c s same =
    let bytes = c.args.bytes.now in
    path_passes s bytes _ same (path_between bytes _ _ c.requires.addresses c.requires.header) c.in-Ok.ensures.fault

pub returns-in-Err-clause-says : goal.returns-in-Err-clause-says
returns-in-Err-clause-says c s same =
    let bytes = c.args.bytes.now in
    path_fails s bytes _ _ same (path_between bytes _ _ c.requires.addresses c.requires.header) c.in-Err.ensures.fault ∙ ap (λ cause. Ends (Dropped cause)) (sym c.path_cause.ensures)
