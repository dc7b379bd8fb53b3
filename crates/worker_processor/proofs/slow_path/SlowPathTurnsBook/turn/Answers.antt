use Rattle.std.proofs.Common.{◌∙◌, refl, sym, ap, subst, rules}
use Rattle.packet_ledger.specs.Share.{HasRoom}
use Rattle.order_laws.specs.Settled.{SlowPathRequest}
use Rattle.router_rules.specs.Rules.{kinds}
use Rattle.ruled_pipe.specs.Consumer.{Taker, took}
use Rattle.ruled_pipe.specs.Producer.{entry}
use Rattle.ruled_pipe.specs.declared.entry.Load.{Load}
use Rattle.worker_processor.specs.Answering.{Answering, KeepsAnswering}
use Rattle.worker_processor.proofs.AnsweringLemmas.{keeps_replied}
use Rattle.worker_parts.proofs.RoomLemmas.{may_raise}
use Rattle.worker_processor.proofs.slow_path.SlowPathTurnsBook.turn.Goals as goal

pub reply-requires-clause-room : goal.reply-requires-clause-room
reply-requires-clause-room g c = may_raise c.self.inside.exits.share.counts (subst (λ (a : Answering). HasRoom a.side.share.counts) (sym c.self.view_is) c.requires)

pub invariant_of-self-in-Some-Payload : goal.invariant_of-self-in-Some-Payload
invariant_of-self-in-Some-Payload g c =
    let s = c.self.inside in
    let q = c.in-Some-Payload.request in
    let e = c.in-Some-Payload.ensures in
    let kept = keeps_replied g.N.RunBrand.config s.from s.exits c.self.invariant e.0 q c.reply.new.self (c.if-is_done.ensures.left refl) c.reply.ensures.some c.reply.ensures.replied in
    let is = e.2 ∙ ap (λ (l : Load (SlowPathRequest kinds)). took s.from (entry e.0 l)) c.in-Some-Payload.field-0-is in
    subst (λ (t : Taker (SlowPathRequest kinds)). KeepsAnswering g.N.RunBrand.config t c.reply.new.self) (sym is) kept

pub returns-in-None : goal.returns-in-None
returns-in-None g c = search rules
