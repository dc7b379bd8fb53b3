use Rattle.std.proofs.Common.{List, [], ◌∷◌, ◌++◌, length, map, refl, sym, ap, subst, ◌∙◌, arith, length-append}
use Rattle.order_laws.specs.Deeds.{Each}
use Rattle.ruled_pipe.specs.Pipe.{Keeping}
use Rattle.run_ends.specs.TakenBack.{HaveBack, after_row}
use Rattle.run_ends.proofs.TakenBackLemmas.{back_more, row_next, taken_next, taken_room, taken_there}
use Rattle.order_laws.proofs.Turns.{each_more}
use Rattle.run_pipes.proofs.HandingLemmas.{all_taken, one_taken, with_next}
use Rattle.run_pipes.proofs.handing.take_back.Goals as goal

pub index_mut-requires : goal.index_mut-requires
index_mut-requires g c =
    let at = c.loop-end in
    let inv = at.invariant in
    let was = c.requires in
    let next = row_next was.0 was.1 (map g.E.End.sender c.args.ends.items) c.args.pipes.now.items was.2 was.3 in
    let split = with_next at.yielded _ _ c.args.ends.items c.in-Some.end c.in-Some.ensures.steps.0 inv.split in
    let lt = taken_room g.E.End.sender c.args.ends.items at.yielded _ c.in-Some.end c.args.pipes.now.items at.pipes.items at.at split next inv.back inv.at in
    let o = at.pipes.ok in
    omega arith

pub absorb-requires : goal.absorb-requires
absorb-requires g c =
    let at = c.loop-end in
    let inv = at.invariant in
    let was = c.requires in
    let next = row_next was.0 was.1 (map g.E.End.sender c.args.ends.items) c.args.pipes.now.items was.2 was.3 in
    let split = with_next at.yielded _ _ c.args.ends.items c.in-Some.end c.in-Some.ensures.steps.0 inv.split in
    taken_there g.E.End.sender c.args.ends.items at.yielded _ c.in-Some.end c.args.pipes.now.items at.pipes.items at.at _ c.index_mut.result.now c.into_end-producer.result split next inv.back inv.at c.index_mut.ensures.value c.into_end-producer.ensures.same

pub loop-end-init : goal.loop-end-init
loop-end-init g c =
    let it = c.into_iter-end-iterator in
    record { back = refl; told = tt; at = refl; split = it.ensures.into_iter_gives.0; len = it.result.rest.ok.0 }

pub loop-end-preserved : goal.loop-end-preserved
loop-end-preserved g c =
    let at = c.loop-end in
    let inv = at.invariant in
    let was = c.requires in
    let x = c.in-Some.end in
    let steps = c.in-Some.ensures.steps.0 in
    let next = row_next was.0 was.1 (map g.E.End.sender c.args.ends.items) c.args.pipes.now.items was.2 was.3 in
    let split = with_next at.yielded _ _ c.args.ends.items x steps inv.split in
    record {
      back = taken_next g.E.End.sender c.args.ends.items at.yielded _ x c.args.pipes.now.items at.pipes.items at.at _ c.index_mut.result.now c.absorb.new.self c.into_end-producer.result split next inv.back inv.at
          c.index_mut.ensures.value c.into_end-producer.ensures.same c.absorb.ensures;
      told = each_more (λ e. g.E.End.told e) at.yielded x inv.told c.into_end-producer.ensures.told;
      at = (let k = inv.at in omega (arith, length-append at.yielded (x ∷ [])));
      split = one_taken at.yielded _ _ c.args.ends.items x steps inv.split;
      len = (let was = inv.len in let gone = c.in-Some.ensures.steps.1 in let short = ap length steps in omega arith);
    }

pub returns-clause-back : goal.returns-clause-back
returns-clause-back g c = λ rows ss back.
    let at = c.loop-end in
    let was = c.requires in
    let row = map g.E.End.sender c.args.ends.items in
    let olds = c.args.pipes.now.items in
    let all = all_taken at.yielded _ c.args.ends.items _ at.invariant.split at.invariant.len c.in-None.ensures.steps.0 in
    let is = at.invariant.back ∙ ap (λ (es : List g.row.E.Denot). after_row (map g.E.End.sender es) olds) all in
    subst (λ (os : List (Keeping g.row.T.Denot)). HaveBack (rows ++ row ∷ []) ss os) (sym is) (back_more rows ss row olds (row_next was.0 was.1 row olds was.2 was.3) back)

pub returns-clause-told : goal.returns-clause-told
returns-clause-told g c =
    let at = c.loop-end in
    let all = all_taken at.yielded _ c.args.ends.items _ at.invariant.split at.invariant.len c.in-None.ensures.steps.0 in
    subst (λ (es : List g.row.E.Denot). Each (λ e. g.E.End.told e) es) all at.invariant.told
