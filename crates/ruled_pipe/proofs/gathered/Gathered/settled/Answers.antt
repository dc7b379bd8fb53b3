use Rattle.std.proofs.Common.{◌≡◌, length, subst, arith}
use Rattle.ruled_pipe.specs.Gathered.{Views, IsSettled, EachEndsWithMark, ends_in}
use Rattle.ruled_pipe.proofs.Drained.{drained, settles}
use Rattle.ruled_pipe.proofs.gathered.Gathered.settled.Goals as goal

pub returns-clause-empty : goal.returns-clause-empty
returns-clause-empty g c = λ held whole. drained _ _ _ held whole c.requires.ended (omega (arith, c.requires.taken))

pub returns-clause-settled : goal.returns-clause-settled
returns-clause-settled g c =
    let told = c.self.invariant in
    let P : Views g.row.T.Denot → Type 0 = λ v. EachEndsWithMark v.senders → ends_in v.taker.taken ≡ length v.senders → IsSettled v.senders v.taker.taken in
    subst P c.self.view_is (λ ended taken. settles _ _ _ told.0 told.1 (drained _ _ _ told.0 told.1 ended (omega (arith, taken)))) c.requires.ended c.requires.taken
