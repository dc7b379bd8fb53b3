use Rattle.std.proofs.Common.{◌∙◌, ap, not}
use Rattle.replay_state.proofs.SentLemmas.{joined_pushed}
use Rattle.replay_state.proofs.sent.Outbox.push.Goals as goal

pub returns : goal.returns
returns c =
    let inside = c.self.inside in
    joined_pushed inside.ways.items c.push.new.self.items inside.entries.items c.push-2.new.self.items _ _ _ c.args.self.now
    c.self.invariant c.in_ok-push.ensures.items (c.is_err.ensures.negation ∙ ap not c.if-is_err.false) c.push-2.ensures.items c.self.view_is
