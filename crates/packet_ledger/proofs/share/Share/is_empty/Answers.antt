use Rattle.std.proofs.lemmas.Bool.{eqb-true}
use Rattle.packet_ledger.proofs.Posting.{posted_empty}
use Rattle.packet_ledger.proofs.share.Share.is_empty.Goals as goal

pub returns : goal.returns
returns g c = λ is.
    let none = c.self.invariant.7 (eqb-true c.self.inside.left 18446744073709551615 is) in
    rw (← c.self.view_is) (none, posted_empty (record { counts = c.self.inside.counts; posted = c.self.inside.posted; place = c.self.inside.place }) c.self.invariant.8 c.self.invariant.4 none)
