use Rattle.std.proofs.Common.{◌≡◌, true, false, refl, sym, subst}
use Rattle.run_ends.specs.Shutting.{Closes, Shutting}
use Rattle.run_ends.proofs.ShuttingLemmas.{closes_at, open_at}
use Rattle.run_ends.proofs.marking.close_at.Goals as goal

pub close-requires : goal.close-requires
close-requires g c =
    let d = c.index_mut.result.now in
    let olds = c.args.shutters.now.items in
    let P : Shutting g.row.T.Denot → Type 0 = λ h. (h.used ≡ true) × (h.ended ≡ false) in
    subst P (sym c.index_mut.ensures.value) (c.requires.used d, open_at olds c.args.at d c.requires.unended c.requires.there)

pub returns : goal.returns
returns g c =
    let d = c.index_mut.result.now in
    let olds = c.args.shutters.now.items in
    closes_at c.close.result olds _ c.args.at d c.close.new.self c.requires.there c.requires.unended (subst (λ (h : Shutting g.row.T.Denot). Closes c.close.result h c.close.new.self) c.index_mut.ensures.value c.close.ensures) refl
