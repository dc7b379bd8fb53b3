use Rattle.std.proofs.Common.{ℕ, rules, sym, subst}
use Rattle.crossbeam_utils.specs.Seq.{cell_view}
use Rattle.crossbeam_utils.specs.Register.{Forks}
use Rattle.process_packet.specs.declared.totals.Totals.{Totals}
use Rattle.packet_ledger.specs.declared.tokens.Table.{Table}
use Rattle.packet_ledger.specs.Shown.{rows_of}
use Rattle.packet_ledger.specs.Tokens.{Balanced, given, kept}
use Rattle.packet_ledger.proofs.Moves.{gives}
use Rattle.packet_ledger.proofs.tokens.give_as.Goals as goal

pub split_pass-requires : goal.split_pass-requires
split_pass-requires g c =
    let v = cell_view c.args.keeper.now in
    let by = c.args.keeper.now.id in
    let rows = rows_of c.args.inputs.now c.args.outputs.now in
    let at = c.args.place in
    let P : ℕ → Type 0 = λ n. Forks Balanced by v (kept n c.args.counts.now rows v) (given n c.args.counts.now at v) in
    let Q : Totals → Type 0 = λ t. Forks Balanced by v (kept g.K.Amount.parts t rows v) (given g.K.Amount.parts t at v) in
    let R : ℕ → Type 0 = λ k. Forks Balanced by v (kept g.K.Amount.parts g.K.Amount.counts rows v) (given g.K.Amount.parts g.K.Amount.counts k v) in
    let T : Table → Type 0 = λ t. Forks Balanced by v (kept g.K.Amount.parts g.K.Amount.counts t v) (given g.K.Amount.parts g.K.Amount.counts g.K.Amount.place v) in
    let move = gives by v c.args.parts c.args.counts.now at rows c.requires.keeps c.requires.parts c.requires.few c.requires.long c.requires.rows in
    (search rules, (search rules, (c.requires.own, subst T (sym c.requires.pick.3) (subst R (sym c.requires.pick.2) (subst Q (sym c.requires.pick.1) (subst P (sym c.requires.pick.0) move))))))
