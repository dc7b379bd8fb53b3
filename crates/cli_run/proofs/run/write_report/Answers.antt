use Rattle.std.proofs.Common.{◌≡◌, ℕ, List, ◌++◌, take, ap, subst, ◌∙◌}
use Rattle.std.specs.Io.KnownBytes.{Appends}
use Rattle.cli_run.specs.RunReport.{run_report}
use Rattle.cli_run.proofs.run.write_report.Goals as goal

pub returns-in-Ok-send-clause-ok : goal.returns-in-Ok-send-clause-ok
returns-in-Ok-send-clause-ok g c =
    let written : c.as_slice-2.result.now ≡ run_report c.args.links.now c.args.figures.now.sent.items c.args.figures.now.totals =
    c.as_slice-2.ensures.value ∙ c.in-Ok.ensures ∙ ap (λ (text : List ℕ). text ++ run_report c.args.links.now c.as_slice.result.now c.args.figures.now.totals) c.new-text.ensures.items
    ∙ ap (λ (sent : List ℕ). run_report c.args.links.now sent c.args.figures.now.totals) c.as_slice.ensures.value in
    subst (λ (text : List ℕ). Appends (g.W.Write.contents c.args.writer.now) (g.W.Write.contents c.send.new.writer) text) written c.in-Ok-send.ensures.ok

pub returns-in-Ok-send-clause-begins : goal.returns-in-Ok-send-clause-begins
returns-in-Ok-send-clause-begins g c =
    let written : c.as_slice-2.result.now ≡ run_report c.args.links.now c.args.figures.now.sent.items c.args.figures.now.totals =
    c.as_slice-2.ensures.value ∙ c.in-Ok.ensures ∙ ap (λ (text : List ℕ). text ++ run_report c.args.links.now c.as_slice.result.now c.args.figures.now.totals) c.new-text.ensures.items
    ∙ ap (λ (sent : List ℕ). run_report c.args.links.now sent c.args.figures.now.totals) c.as_slice.ensures.value in
    subst (λ (text : List ℕ). (k : ℕ) × Appends (g.W.Write.contents c.args.writer.now) (g.W.Write.contents c.send.new.writer) (take k text)) written c.in-Ok-send.ensures.begins

pub returns-clause-begins : goal.returns-clause-begins
returns-clause-begins g c =
    let written : c.as_slice-2.result.now ≡ run_report c.args.links.now c.args.figures.now.sent.items c.args.figures.now.totals =
    c.as_slice-2.ensures.value ∙ c.in-Ok.ensures ∙ ap (λ (text : List ℕ). text ++ run_report c.args.links.now c.as_slice.result.now c.args.figures.now.totals) c.new-text.ensures.items
    ∙ ap (λ (sent : List ℕ). run_report c.args.links.now sent c.args.figures.now.totals) c.as_slice.ensures.value in
    subst (λ (text : List ℕ). (k : ℕ) × Appends (g.W.Write.contents c.args.writer.now) (g.W.Write.contents c.send.new.writer) (take k text)) written c.in-Err-send.ensures.begins
