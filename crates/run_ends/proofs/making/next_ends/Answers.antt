use Rattle.std.proofs.Common.{◌≡◌, ℕ, suc, ◌+◌, ◌<◌, List, [], ◌∷◌, ◌++◌, length, slice_set, slice_index_or, sym, ap, subst, ◌∙◌, arith, length-append}
use Rattle.ruled_pipe.specs.Pipe.{Keeping, one_made}
use Rattle.ruled_pipe.specs.Producer.{Sender}
use Rattle.run_ends.specs.Opened.{AreMadeOf, minted, minted_ends, next_end}
use Rattle.run_ends.proofs.OpenedLemmas.{ends_next, have_next, made_of_more, minted_next, row_fresh, row_made, there_is}
use Rattle.run_ends.proofs.making.next_ends.Goals as goal

pub producer-requires : goal.producer-requires
producer-requires g c =
    let at = c.loop-at in
    let olds = c.args.pipes.now in
    let lt : at.at < length olds.items = let t = c.loop-at-test.true in let e = c.len-at-end.ensures in let o = olds.ok in omega arith in
    let d = c.index_mut.result.now in
    let same = c.index_mut.ensures.value ∙ ap (λ (l : List (Keeping g.row.T.Denot)). slice_index_or l at.at d) at.invariant.pipes in
    let P : Keeping g.row.T.Denot → Type 0 = λ o. (o.made < o.producers) × (o.senders ≡ []) in
    let was = c.requires.pipes in
    let own = subst P (sym same) (have_next was.0 was.1 was.2 olds.items was.3 was.4 was.5 at.at _ (there_is olds.items at.at lt d)) in
    record { some = own.0; none_back = own.1 }

pub make-requires-clause-fits : goal.make-requires-clause-fits
make-requires-clause-fits g c = c.requires.fits c.loop-at.at (let t = c.loop-at-test.true in let e = c.len-at-end.ensures in let o = c.args.pipes.now.ok in omega arith)

pub make-requires-clause-new : goal.make-requires-clause-new
make-requires-clause-new g c =
    let made = c.in_ok-producer.ensures.0 in (ap (λ (s : Sender g.row.T.Denot). s.offers) made, ap (λ (s : Sender g.row.T.Denot). s.refusals) made)

pub push_reserved-requires : goal.push_reserved-requires
push_reserved-requires g c =
    let at = c.loop-at in
    let long = at.invariant.room.0 in let cap = at.invariant.room.1 in
    let t = c.loop-at-test.true in let e = c.len-at-end.ensures in let o = c.args.pipes.now.ok in let r = at.row.ok in
    omega arith

pub loop-at-preserved : goal.loop-at-preserved
loop-at-preserved g c =
    let at = c.loop-at in
    let inv = at.invariant in
    let olds = c.args.pipes.now in
    let lt : at.at < length olds.items = let t = c.loop-at-test.true in let e = c.len-at-end.ensures in let o = olds.ok in omega arith in
    let d = c.index_mut.result.now in
    let same = c.index_mut.ensures.value ∙ ap (λ (l : List (Keeping g.row.T.Denot)). slice_index_or l at.at d) inv.pipes in
    let made = c.in_ok-producer.ensures in
    let makes = g.M.EndMaker.makes c.args.maker.now in
    let end = c.in_ok-end.end in
    let n : suc at.at ≡ at.at + 1 = omega arith in
    let here : at.at ≡ 0 + length at.row.items = let l = inv.room.0 in omega arith in
    let its = made_of_more makes 0 (minted_ends at.at olds.items) at.row.items c.in_ok-producer.producer end inv.ends (subst (λ (j : ℕ). makes j c.in_ok-producer.producer end) here c.in_ok-end.ensures) in
    let next = ap (λ (s : Sender g.row.T.Denot). minted_ends at.at olds.items ++ s ∷ []) (made.0 ∙ ap next_end same) ∙ (ends_next olds.items at.at d lt ∙ ap (λ (k : ℕ). minted_ends k olds.items) n) in
    record {
      pipes = ap (λ (l : List (Keeping g.row.T.Denot)). slice_set l at.at c.producer.new.self) inv.pipes
          ∙ (ap (λ (o : Keeping g.row.T.Denot). slice_set (minted at.at olds.items) at.at o) (made.1 ∙ ap one_made same) ∙ (minted_next olds.items at.at d lt ∙ ap (λ (k : ℕ). minted k olds.items) n));
      ends = subst (λ (es : List (Sender g.row.T.Denot)). AreMadeOf makes 0 es c.push_reserved.new.self.items) next (subst (λ (l : List g.row.E.Denot). AreMadeOf makes 0 (minted_ends at.at olds.items ++ c.in_ok-producer.producer ∷ []) l) (sym c.push_reserved.ensures.items) its);
      room = (let l = ap length c.push_reserved.ensures.items in let k = inv.room.0 in omega (arith, length-append at.row.items (end ∷ [])), let cap = inv.room.1 in let e = c.push_reserved.ensures.capacity in omega arith);
    }

pub returns-clause-made : goal.returns-clause-made
returns-clause-made g c = λ k ss is.
    let at = c.loop-at in
    let olds = c.args.pipes.now in
    row_made k at.at ss olds.items at.pipes.items is (let a = at.auto.at-end in let e = c.len-at-end.ensures in let o = olds.ok in let f = c.loop-at-test.false in omega arith) at.invariant.pipes

pub returns-clause-ends : goal.returns-clause-ends
returns-clause-ends g c = λ k ss is.
    let at = c.loop-at in
    let olds = c.args.pipes.now in
    row_fresh (g.M.EndMaker.makes c.args.maker.now) k at.at ss olds.items at.row.items is (let a = at.auto.at-end in let e = c.len-at-end.ensures in let o = olds.ok in let f = c.loop-at-test.false in omega arith) at.invariant.ends
