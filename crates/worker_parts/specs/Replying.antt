-- What a request came to, as the rules speak of it.
use Rattle.std.specs.Prelude.{Result, Ok, Err}
use Rattle.order_laws.specs.Item.{Outgoing}
use Rattle.order_laws.specs.Rules.{Reply, Replies, Withholds}
use Rattle.router_rules.specs.Rules.{kinds}
use Rattle.worker_parts.specs.declared.request.Withheld.{Withheld}

abbrev pub reply_of : Result (Outgoing kinds) Withheld → Reply kinds
reply_of (Ok o) = Replies o.link o.parcel
reply_of (Err w) = Withholds w.cause
