use Rattle.std.proofs.Common.{Some, sym, ap, ◌∙◌}
use Rattle.cli_io.proofs.TextLemmas.{is_text, no_text}
use Rattle.cli_io.proofs.text.text_of.Goals as goal

pub returns-in-Ok : goal.returns-in-Ok
returns-in-Ok c = ap (λ t. Some t) c.in-Ok.ensures.cases.0 ∙ sym (is_text c.args.line.now c.in-Ok.ensures.cases.1)

pub returns-in-Err : goal.returns-in-Err
returns-in-Err c = sym (no_text c.args.line.now c.in-Err.ensures.cases.0)
