-- Why a packet, or the answer to it, ended without being sent.
use Rattle.order_laws.specs.Kinds.{Kinds}

pub data Cause (K : Kinds) : Type 0 where
  Ruled : K.RuleCause → Cause K  -- the receiver's fault, the decision's drop, the withheld answer
  ProcessorFull : Cause K
  LinkFull : Cause K
  AnswerFull : Cause K
  NoMemory : Cause K
  Closed : Cause K
  SendFailed : Cause K
  NoBuffer : Cause K
