use Rattle.std.proofs.Common.{List, Option, None, Vec, Global, map, sym, ap, ◌∙◌}
use Rattle.std.specs.Option.{option_map}
use Rattle.worker_parts.specs.Told.{Told}
use Rattle.worker_parts.specs.ListSink.{Kept, told_in, with_told}
use Rattle.worker_parts.specs.declared.list_sink.Sent.{Sent}
use Rattle.worker_parts.proofs.list_sink.ListSink.note.Goals as goal

abbrev tells : Option (Vec Sent Global) → Option (List Told)
tells = option_map (λ l. map told_in l.items)

pub returns-in-None : goal.returns-in-None
returns-in-None c = (
  map told_in c.in-Some.list.items,
  sym (ap (λ (k : Kept). k.told) c.self.view_is) ∙ ap tells (sym c.take.ensures.value ∙ c.in-Some.is),
  ap (λ (l : Option (Vec Sent Global)). record { fails = c.self.inside.fails.items; calls = c.self.inside.calls; told = tells l; failed = c.self.inside.failed }) c.take.ensures.after ∙ ap (with_told None) c.self.view_is,
)
