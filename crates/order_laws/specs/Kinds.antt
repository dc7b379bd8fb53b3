-- What the pipeline leaves open: it never looks into a packet.

pub record Kinds : Type 1 where
  pub Datagram : Type 0  -- what arrived: its bytes, its sender, the moment
  pub Parcel : Type 0  -- what leaves: its bytes, and to whom
  pub Problem : Type 0  -- what is told to a packet's source in an answer
  pub RuleCause : Type 0  -- why a packet is dropped by the rules
  pub Key : Type 0  -- of the packets that keep their order among themselves, their urgency left aside
