use Rattle.std.proofs.Common.{subst, sym}
use Rattle.std.specs.Fmt.{HasWritten}
use Rattle.segment_switch.specs.declared.kind.LinkKind.{LinkKind}
use Rattle.net_check.specs.Words as words
use Rattle.net_laws.specs.Net.{opposite}
use Rattle.net_check.proofs.named.OppositeDisplay.fmt.Goals as goal

pub returns-in-Parent-clause-writes : goal.returns-in-Parent-clause-writes
returns-in-Parent-clause-writes g c = λ plain ok.
    subst (λ (k : LinkKind). HasWritten g.W.Write.write_str_gives c.args.f.now (words.kind_text (opposite k)) c.fmt-in-Parent.new.f) (sym c.in-Parent.is)
    (c.fmt-in-Parent.ensures.writes plain ok)
