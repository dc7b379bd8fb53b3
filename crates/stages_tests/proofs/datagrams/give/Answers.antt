use Rattle.std.proofs.Common.{ℕ, List, ap, ◌∙◌}
use Rattle.worker_order.specs.Heard.{Gave}
use Rattle.sample_packets.specs.declared.datagram.TheConstants.{IN_TIME}
use Rattle.stages_tests.specs.declared.neighbour.TheConstants.{NEAR}
use Rattle.stages_tests.proofs.DatagramLemmas.{take_front}
use Rattle.stages_tests.proofs.datagrams.give.Goals as goal

pub returns-clause-gave : goal.returns-clause-gave
returns-clause-gave c =
    ap (λ (b : List ℕ). Gave NEAR IN_TIME b)
    (take_front 92 _ _ (c.copy_from_slice.ensures.len ∙ c.split_at_mut-front.ensures.front_len) ∙ c.copy_from_slice.ensures.after)
