use Rattle.std.proofs.Common.{◌∙◌, ◌+◌, ◌<◌, true, false, length, sym, arith}
use Rattle.std.proofs.lemmas.Bool.{false≢true}
use Rattle.run_pipes.proofs.ClosingLemmas.{closed_read, double_already, double_full, double_pushed, double_tried, high_then, is_tried, used_after}
use Rattle.run_pipes.proofs.closing.close_double.Goals as goal
use Rattle.run_pipes.proofs.closing.close_double.Goals.{else-high_was-via-then-high_was+else-low_was, else-high_was-via-else-high_was, else-high-via-then-high+else-low, else-high-via-else-high}

pub returns-then-low_was-clause-closes : goal.returns-then-low_was-clause-closes
returns-then-low_was-clause-closes g c =
    let hs = c.args.shutters.now.items in
    let low = c.args.low in
    let below : low < length hs = let t = c.requires.there in omega arith in
    double_already low hs
    (closed_read hs (low + 1) c.index.result.now c.is_closed-high_was.result c.requires.there c.index.ensures c.is_closed-high_was.ensures ∙ c.if-high_was.true)
    (closed_read hs low c.index-2.result.now c.is_closed-low_was.result below c.index-2.ensures c.is_closed-low_was.ensures ∙ c.if-low_was.true)

pub close_at-low-requires-clause-there : goal.close_at-low-requires-clause-there
close_at-low-requires-clause-there g c = let t = c.requires.there in let e = c.close_at-high.ensures.long in omega arith

pub close_at-low-requires-clause-used : goal.close_at-low-requires-clause-used
close_at-low-requires-clause-used g c =
    let low = c.args.low in
    λ d. used_after (low + 1) low d c.args.shutters.now.items c.close_at-high.new.shutters.items c.close_at-high.ensures.others (λ e. absurd (omega arith)) (c.requires.used d)

pub returns-then-low-clause-closes : goal.returns-then-low-clause-closes
returns-then-low-clause-closes g c =
    let olds = c.args.shutters.now.items in
    let mids = c.close_at-high.new.shutters.items in
    let news = c.close_at-low.new.shutters.items in
    let low = c.args.low in
    let below : low < length olds = let t = c.requires.there in omega arith in
    double_pushed low tt olds news
    (λ high is. elim c.else-high_was.branch [
      | else-high_was-via-then-high_was+else-low_was w ↦ false≢true (sym w.if-low_was.false ∙ (sym (closed_read olds low c.index-2.result.now c.is_closed-low_was.result below c.index-2.ensures c.is_closed-low_was.ensures) ∙ is))
      | else-high_was-via-else-high_was w ↦ false≢true (sym w.if-high_was.false ∙ (sym (closed_read olds (low + 1) c.index.result.now c.is_closed-high_was.result c.requires.there c.index.ensures c.is_closed-high_was.ensures) ∙ high))
    ])
    (high_then low mids news true c.close_at-low.ensures.others (c.close_at-high.ensures.closed ∙ c.if-high.true))
    (c.close_at-low.ensures.closed ∙ c.if-low.true)
    (double_tried low olds mids news (is_tried _ _ olds mids c.close_at-high.ensures) c.close_at-high.ensures.others (is_tried _ _ mids news c.close_at-low.ensures) c.close_at-low.ensures.others)

pub returns-else-high-clause-closes : goal.returns-else-high-clause-closes
returns-else-high-clause-closes g c =
    let olds = c.args.shutters.now.items in
    let mids = c.close_at-high.new.shutters.items in
    let news = c.close_at-low.new.shutters.items in
    let low = c.args.low in
    double_full low olds news
    (λ high is. elim c.else-high.branch [
      | else-high-via-then-high+else-low w ↦ false≢true (sym w.if-low.false ∙ (sym c.close_at-low.ensures.closed ∙ is))
      | else-high-via-else-high w ↦ false≢true (sym (high_then low mids news false c.close_at-low.ensures.others (c.close_at-high.ensures.closed ∙ w.if-high.false)) ∙ high)
    ])
    (double_tried low olds mids news (is_tried _ _ olds mids c.close_at-high.ensures) c.close_at-high.ensures.others (is_tried _ _ mids news c.close_at-low.ensures) c.close_at-low.ensures.others)
