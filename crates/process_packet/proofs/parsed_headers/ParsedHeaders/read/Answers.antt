use Rattle.std.proofs.Common.{◌≡◌, [], ◌∷◌, refl, sym, subst, ◌∙◌}
use Rattle.process_packet.specs.Rows.{RowResult, GoesOn, faulty_header, faulty_path, then_rows, too_long}
use Rattle.process_packet.specs.PacketView.{TellsRow}
use Rattle.process_packet.proofs.RowLemmas.{one_more}
use Rattle.process_packet.proofs.parsed_headers.ParsedHeaders.read.Goals as goal

pub returns-clause-says : goal.returns-clause-says
returns-clause-says c s same =
    let one : then_rows (GoesOn s) (too_long ∷ []) ≡ GoesOn s = one_more s [] too_long refl ∙ c.in_ok-too_long.ensures s same in
    let two : then_rows (GoesOn s) (too_long ∷ faulty_header ∷ []) ≡ GoesOn s = one_more s (too_long ∷ []) faulty_header one ∙ c.in_ok-ends.ensures.says s same in
    subst (λ (t : RowResult). TellsRow t s c.faulty_path.result) (sym (one_more s (too_long ∷ faulty_header ∷ []) faulty_path two)) (c.faulty_path.ensures.says s same)
