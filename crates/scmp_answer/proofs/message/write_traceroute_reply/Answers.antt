use Rattle.std.proofs.Common.{◌+◌, subst, arith}
use Rattle.field_rows.specs.Place.{Puts}
use Rattle.field_rows.proofs.Rows.{Puts-next}
use Rattle.scmp_answer.proofs.MessageLemmas.{interface_bytes}
use Rattle.scmp_answer.proofs.message.write_traceroute_reply.Goals as goal

pub returns : goal.returns
returns c =
    let at = c.args.at in
    let i = c.args.interface in
    let wide = Puts-next _ _ _ (at + 16) (at + 22) _ _ c.put_u48-2.ensures c.put_u16-5.ensures (omega arith) in
    let interface = subst (λ t. Puts c.put_u48.new.out c.put_u16-5.new.out (at + 16) t) (interface_bytes i (omega arith)) wide in
    Puts-next _ _ _ at (at + 1) _ _ c.put_u8.ensures (Puts-next _ _ _ (at + 1) (at + 2) _ _ c.put_u8-2.ensures
    (Puts-next _ _ _ (at + 2) (at + 4) _ _ c.put_u16.ensures (Puts-next _ _ _ (at + 4) (at + 6) _ _ c.put_u16-2.ensures
    (Puts-next _ _ _ (at + 6) (at + 8) _ _ c.put_u16-3.ensures (Puts-next _ _ _ (at + 8) (at + 10) _ _ c.put_u16-4.ensures
    (Puts-next _ _ _ (at + 10) (at + 16) _ _ c.put_u48.ensures interface
    (omega arith)) (omega arith)) (omega arith)) (omega arith)) (omega arith)) (omega arith)) (omega arith)
