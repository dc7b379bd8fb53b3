use Rattle.std.proofs.Common.{[], ◌∷◌, ◌++◌, List, length, refl, sym, ap, subst}
use Rattle.order_laws.specs.Item.{Outgoing}
use Rattle.ruled_pipe.specs.Producer.{Sender}
use Rattle.router_rules.specs.Rules.{kinds}
use Rattle.worker_parts.specs.Outlets.{senders}
use Rattle.run_pipes.specs.Handing.{AreMarked}
use Rattle.run_pipes.specs.Pipes.{LinkRows}
use Rattle.run_ends.specs.Rows.{AreEndsOf}
use Rattle.run_ends.specs.Shutting.{shutter_ends}
use Rattle.run_ends.specs.TakenBack.{HaveBack}
use Rattle.run_pipes.proofs.RestLemmas.{pushed_long}
use Rattle.run_report.proofs.PartLemmas.{grown}
use Rattle.run_report.proofs.parting.part_slow_path.Goals as goal

pub take_back-requires : goal.take_back-requires
take_back-requires g c =
    let was = c.requires.back in
    (was.0, was.1, was.2, subst (λ (es : List (Sender (Outgoing kinds))). AreEndsOf (length was.0) was.1 es) (sym (ap senders c.into_parts-from.ensures.parts.1)) was.3)

pub take_back-requires-2 : goal.take_back-requires-2
take_back-requires-2 g c =
    let was = c.requires.back in
    let row = senders c.into_parts-from.result.links.items in
    (was.0 ++ row ∷ [], was.1, c.take_back.ensures.back was.0 was.1 was.2, subst (λ n. AreEndsOf n was.1 (shutter_ends c.args.shutters.items)) (sym (pushed_long _ was.0 _ row refl refl)) was.4)

pub returns-clause-back : goal.returns-clause-back
returns-clause-back g c = λ ls ss was.
    subst (λ (rows : LinkRows). HaveBack rows ss c.take_back-2.new.pipes.items) (grown ls _ _ (shutter_ends c.args.shutters.items ∷ []) _ _ refl (ap senders c.into_parts-from.ensures.parts.1) refl)
    (c.take_back-2.ensures.back _ ss (c.take_back.ensures.back ls ss was))

pub returns-clause-kept : goal.returns-clause-kept
returns-clause-kept g c = (c.into_parts-from.ensures.law, subst (λ xs. AreMarked xs) c.into_parts-from.ensures.parts.1 c.take_back.ensures.told)
