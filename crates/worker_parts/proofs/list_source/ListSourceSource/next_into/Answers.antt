use Rattle.std.proofs.Common.{◌<◌, ◌+◌, arith, length, sym, subst}
use Rattle.worker_laws.specs.Forwards.{AddsTo}
use Rattle.worker_order.specs.Heard.{Heard}
use Rattle.worker_parts.specs.Heard.{heard}
use Rattle.worker_parts.specs.ListSource.{Listed, gone}
use Rattle.worker_parts.proofs.Telling.{told_more}
use Rattle.worker_parts.proofs.list_source.ListSourceSource.next_into.Goals as goal

pub returns-clause-told : goal.returns-clause-told
returns-clause-told c =
    let s = c.self.inside in
    let lt : s.given < length s.answers.items = let ok = s.answers.ok in let e = c.len.ensures in let f = c.if-self-len.false in omega arith in
    let more = told_more s.answers.items s.given s.ends c.index.result.now lt c.self.invariant.1 c.index.ensures in
    let as_given = subst (λ (h : Heard). AddsTo (gone s.given s.ends s.answers.items) h (gone (s.given + 1) s.ends s.answers.items)) (sym c.give-answer.ensures.given) more in
    subst (λ (l : Listed). AddsTo l.told (heard c.give-answer.new.buffer c.give-answer.result) (gone (s.given + 1) s.ends s.answers.items)) c.self.view_is as_given
