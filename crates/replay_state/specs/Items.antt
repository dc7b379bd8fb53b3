-- What stands in pipes and hands, as the pipeline's laws know it.
use Rattle.std.specs.Prelude.{Option, Some, None}
use Rattle.order_laws.specs.Item.{Arrival, Outgoing, Item}
use Rattle.replay_laws.specs.World.{Hand}
use Rattle.router_rules.specs.Datagram.{Parcel}
use Rattle.router_rules.specs.Rules.{kinds}
use Rattle.replay_state.specs.declared.came.Came.{Came}
use Rattle.replay_state.specs.declared.hands.Hand.{Hand as Held}
use Rattle.replay_state.specs.declared.hands.Hand.TheVariants as held
use Rattle.replay_state.specs.declared.item.Item.{Item as Kept}
use Rattle.replay_state.specs.declared.item.Item.TheVariants as kept
use Rattle.replay_state.specs.declared.item.Out.{Out}
use Rattle.replay_state.specs.declared.item.Parcel.{Parcel as Load}

abbrev pub arrival_in : Came → Arrival kinds
arrival_in x = record { link = x.link; number = x.number; datagram = record { interface = x.interface; source = x.source; moment = x.now; bytes = x.bytes } }

abbrev pub parcel_in : Load → Parcel
parcel_in y = record { came_by = y.came_by; to = y.to; bytes = y.bytes }

abbrev pub outgoing_in : Out → Outgoing kinds
outgoing_in o = record { arrived = o.arrived; number = o.number; answer = o.answer; link = o.link; parcel = parcel_in o.parcel }

abbrev pub item_in : Kept → Item kinds
item_in (kept.Arrived x) = Item.Arrived (arrival_in x)
item_in (kept.Packet x) = Item.Packet (arrival_in x.came)
item_in (kept.Request x) = Item.Request (arrival_in x.came) x.problem
item_in (kept.Out o) = Item.Out (outgoing_in o)
item_in kept.Close = Item.Close
item_in kept.End = Item.End

abbrev pub hand_in : Option Held → Hand kinds
hand_in None = Hand.Empty
hand_in (Some (held.Got x)) = Hand.Got (item_in x)
hand_in (Some (held.Owes x)) = Hand.Owes (item_in x)
