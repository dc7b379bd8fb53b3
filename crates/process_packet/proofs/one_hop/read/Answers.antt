use Rattle.std.proofs.Common.{Option, [], ◌∷◌, sym, subst, ◌∙◌}
use Rattle.process_packet.specs.OneHopRows.{OneHopVerdict, faulty_header, faulty_path, too_long}
use Rattle.process_packet.specs.OneHopView.{TellsOneHop}
use Rattle.process_packet.proofs.OneHopLemmas.{row_refused, last_one, one_ends, one_passed}
use Rattle.process_packet.proofs.one_hop.read.Goals as goal

pub returns-in_err-too_long-clause-says : goal.returns-in_err-too_long-clause-says
returns-in_err-too_long-clause-says c s same =
    row_refused _ _ _ c.from_residual.ensures.1 (one_ends s too_long (faulty_header ∷ faulty_path ∷ []) _ (c.in_err-too_long.ensures s same))

pub returns-in_err-ends-clause-says : goal.returns-in_err-ends-clause-says
returns-in_err-ends-clause-says c s same =
    row_refused _ _ _ c.from_residual-in_err-ends.ensures.1
    (one_passed s too_long (faulty_header ∷ faulty_path ∷ []) (c.in_ok-too_long.ensures s same) ∙ one_ends s faulty_header (faulty_path ∷ []) _ (c.in_err-ends.ensures.says s same))

pub returns-clause-says : goal.returns-clause-says
returns-clause-says c s same =
    let past = one_passed s too_long (faulty_header ∷ faulty_path ∷ []) (c.in_ok-too_long.ensures s same)
    ∙ one_passed s faulty_header (faulty_path ∷ []) (c.in_ok-ends.ensures.says s same)
    ∙ last_one s faulty_path in
    subst (λ (o : Option OneHopVerdict). TellsOneHop o c.faulty_path.result) (sym past) (c.faulty_path.ensures.says s same)
