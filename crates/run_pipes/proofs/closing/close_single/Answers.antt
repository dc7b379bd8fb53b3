use Rattle.std.proofs.Common.{◌∙◌}
use Rattle.run_pipes.proofs.ClosingLemmas.{closed_read, is_tried, single_already, single_pushed, single_tried}
use Rattle.run_pipes.proofs.closing.close_single.Goals as goal

pub returns-then-is_closed-clause-closes : goal.returns-then-is_closed-clause-closes
returns-then-is_closed-clause-closes g c =
    let hs = c.args.shutters.now.items in
    single_already c.args.low hs (closed_read hs c.args.low c.index.result.now c.is_closed.result c.requires.there c.index.ensures c.is_closed.ensures ∙ c.if-is_closed.true)

pub returns-then-close_at-clause-closes : goal.returns-then-close_at-clause-closes
returns-then-close_at-clause-closes g c =
    let olds = c.args.shutters.now.items in
    let news = c.close_at.new.shutters.items in
    let was = closed_read olds c.args.low c.index.result.now c.is_closed.result c.requires.there c.index.ensures c.is_closed.ensures ∙ c.if-is_closed.false in
    single_pushed c.args.low tt olds news was (c.close_at.ensures.closed ∙ c.if-close_at.true) (single_tried c.args.low olds news (is_tried _ _ olds news c.close_at.ensures) c.close_at.ensures.others)
