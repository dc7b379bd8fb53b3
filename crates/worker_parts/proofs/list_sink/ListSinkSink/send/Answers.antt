use Rattle.std.proofs.Common.{sym, ◌∙◌}
use Rattle.worker_parts.specs.Told.{telling}
use Rattle.worker_parts.proofs.Sending.{sends_chosen}
use Rattle.worker_parts.proofs.list_sink.ListSinkSink.send.Goals as goal

pub returns-then-not-took-clause-sends : goal.returns-then-not-took-clause-sends
returns-then-not-took-clause-sends c =
    sends_chosen c.note-kept.result (telling c.args.out.now c.args.bytes.now c.takes_next-took.result) c.args.self.now c.takes_next-took.new.self c.note-kept.new.self c.takes_next-took.ensures.called c.note-kept.ensures c.fail.new.self
    (sym c.if-not-took.true ∙ c.takes_next-took.ensures.takes) c.fail.ensures
