use Rattle.std.proofs.Common.{take}
use Rattle.scion_packet.specs.Path.{hop_text}
use Rattle.path_fields.specs.Fields.{hop_field}
use Rattle.path_fields.proofs.WritingLemmas.{FieldsWritten}
use Rattle.path_fields.proofs.writing.write_hops.Given as goal

abbrev pub invariant-loop-hop : goal.invariant-loop-hop
invariant-loop-hop l = FieldsWritten 12 (λ h. hop_text (hop_field h)) l.initial.out l.out l.at l.place (take l.hop-index l.hops)
