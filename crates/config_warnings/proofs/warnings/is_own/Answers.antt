use Rattle.std.proofs.Common.{Bool, List, ◌||◌, is_some, sym, ap, ◌∙◌}
use Rattle.process_packet.specs.declared.neighbours.Link.{Link}
use Rattle.config_warnings.specs.Warnings.{twin_of}
use Rattle.config_warnings.proofs.warnings.is_own.Goals as goal

pub returns-then-is_same : goal.returns-then-is_same
returns-then-is_same c =
    let twin = is_some (twin_of c.args.config.now.links.items c.args.at.now) in
    c.if-is_same.true ∙ ap (λ (b : Bool). b || twin) (sym c.if-is_same.true ∙ c.is_same.ensures)

pub returns-else-is_same : goal.returns-else-is_same
returns-else-is_same c =
    let twin = is_some (twin_of c.args.config.now.links.items c.args.at.now) in
    c.is_some.ensures
    ∙ ap is_some (c.twin_of.ensures ∙ ap (λ (links : List Link). twin_of links c.args.at.now) c.as_slice.ensures.value)
    ∙ ap (λ (b : Bool). b || twin) (sym c.if-is_same.false ∙ c.is_same.ensures)
