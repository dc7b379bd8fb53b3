use Rattle.key_derivation.proofs.KeyLemmas.{first_link, first_sum, next_link, next_sum}
use Rattle.key_derivation.proofs.pbkdf2.derived_block.Goals as goal

pub loop-turn-init : goal.loop-turn-init
loop-turn-init c =
    let link = first_link c.args.password.now c.args.salt.now c.args.index in
    let sum = first_sum c.args.password.now c.args.salt.now c.args.index in
    (cc, cc)

pub loop-turn-preserved : goal.loop-turn-preserved
loop-turn-preserved c =
    let link = next_link c.args.password.now c.args.salt.now c.args.index c.loop-turn._turn in
    let sum = next_sum c.args.password.now c.args.salt.now c.args.index c.loop-turn._turn in
    (cc, cc)
