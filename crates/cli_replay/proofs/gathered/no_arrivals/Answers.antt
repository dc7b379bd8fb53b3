use Rattle.std.proofs.Common.{◌≡◌, ◌∙◌, [], length, ap, rules}
use Rattle.std.proofs.Common.{◌+◌, ◌++◌, ◌∷◌, subst, sym, List, length-append}
use Rattle.std.specs.declared.alloc.Global.{Global}
use Rattle.std.specs.declared.vec.Vec.{Vec}
use Rattle.process_packet.specs.declared.arrival.Arrival.{Arrival as Came}
use Rattle.cli_replay.specs.Gathered.{AreOf}
use Rattle.cli_replay.proofs.GatheredLemmas.{one_more_list}
use Rattle.cli_replay.proofs.gathered.no_arrivals.Goals as goal

pub loop-preserved : goal.loop-preserved
loop-preserved c =
    let pushed : c.push.new.self.items ≡ c.loop.lists.items ++ c.new.result ∷ [] = search rules in
    let P : List (Vec Came Global) → Type 0 = λ ls. AreOf c.args.config.now [] 0 ls in (
      ap length pushed ∙ length-append c.loop.lists.items (c.new.result ∷ []) ∙ ap (λ n. n + 1) c.loop.invariant.0,
      subst P (sym pushed) (one_more_list c.args.config.now 0 c.loop.lists.items c.new.result c.new.ensures.items c.loop.invariant.1),
    )

pub loop-init : goal.loop-init
loop-init c = search rules
