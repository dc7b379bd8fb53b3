-- One act of one worker.
use Rattle.std.specs.Prelude.{ℕ, Bool}
use Rattle.replay_laws.specs.Worker.{Worker, Queue}

pub data Step : Type 0 where
  Receive : ℕ → Step  -- the receiver of a link asks for its next datagram
  NoBuffer : ℕ → Step  -- it found no buffer for the next: the one in hand is dropped
  Offer : Worker → Step  -- what the worker has made is pushed
  Refuse : Worker → Step  -- it found its pipe full: it is dropped
  Take : Queue → Step  -- the consumer takes the front, to work on it or to send it
  Look : ℕ → Step  -- the forwarder of a link with two bands sees its high pipe empty
  Route : ℕ → Step  -- a processor decides
  Answer : Step  -- the slow path answers
  Lack : Worker → Step  -- for a decision or an answer there was no memory
  Close : Queue → Step  -- the controller pushes a closing mark
  End : Worker → Queue → Step  -- the worker pushes its end mark
  Send : ℕ → Bool → Step  -- the forwarder of a link hands its packet over, and whether that went well
  Sweep : Queue → Step  -- the forwarder takes the front after a closing mark, and drops it
