use Rattle.std.proofs.Common.{sym, ap, ◌∙◌}
use Rattle.std.specs.Prelude.{option_copied}
use Rattle.process_packet.specs.LinkControl.{answers_bfd}
use Rattle.process_packet.proofs.config.Config.answers_bfd.Goals as goal

pub returns-in-Some : goal.returns-in-Some
returns-in-Some c = ap answers_bfd (sym (ap option_copied c.in-Some.is) ∙ c.own_link.ensures)
