use Rattle.std.proofs.Common.{◌∙◌, ap}
use Rattle.worker_parts.specs.Outlet.{Offering}
use Rattle.worker_parts.proofs.EndLemmas.{open_at}
use Rattle.worker_parts.proofs.outlets.offer_at.Goals as goal

pub offer-requires : goal.offer-requires
offer-requires g c =
    let o = c.index_mut.result.now in
    ap (λ (x : Offering g.row.T.Denot). x.ended) c.index_mut.ensures.value ∙ open_at c.args.ends.now.items c.args.at o c.requires.unended c.requires.there
