use Rattle.std.proofs.Common.{◌≡◌, ◌+◌, ◌-◌, [], ◌∷◌, length, ap, ◌∙◌, subst, sym, length-append, arith}
use Rattle.crossbeam_utils.specs.Seq.{cell_view}
use Rattle.packet_ledger.specs.declared.tokens.View.{View}
use Rattle.packet_ledger.specs.Amounts.{nothing}
use Rattle.packet_ledger.specs.Shown.{no_rows}
use Rattle.packet_ledger.specs.Share.{AreNew, new_share}
use Rattle.packet_ledger.specs.Tokens.{keeper}
use Rattle.packet_ledger.proofs.Closing.{new_next}
use Rattle.packet_ledger.proofs.sums.split_shares.Goals as goal

pub loop-place-preserved : goal.loop-place-preserved
loop-place-preserved g c =
    let at = c.loop-place in
    let then = c.split_share.ensures in
    let one : (cell_view at.token).parts - 1 ≡ 65537 - (at.place + 1) = let p = ap (λ (v : View). v.parts) at.invariant.1 in omega arith in
    let pushed = c.in_ok-push.ensures.items in
    let s = c.split_share.result in
    let placed : s ≡ new_share (0 + length at.shares.items) = then.share ∙ ap new_share (let l = at.invariant.2 in omega arith) in (
      then.own,
      then.token ∙ (λ i. keeper (one i) nothing no_rows nothing no_rows),
      (let e = ap length pushed in let l = at.invariant.2 in omega (arith, length-append at.shares.items (s ∷ []))),
      subst (AreNew 0) (sym pushed) (new_next 0 at.shares.items s at.invariant.3 placed),
    )
