use Rattle.std.proofs.Common.{◌≡◌, ℕ, List, ◌++◌, Option, Some, None, ap, refl, rules, subst, sym, ◌∙◌}
use Rattle.cli_run.specs.Closing.{closing_text}
use Rattle.cli_run.specs.Command.{command_of}
use Rattle.cli_run.specs.declared.command.Command.{Command}
use Rattle.cli_run.specs.declared.command.Command.TheVariants as command
use Rattle.cli_run.specs.Run.{Obeys}
use Rattle.cli_run.proofs.RunLemmas.{closed_unwritten, no_command_unwritten}
use Rattle.cli_run.proofs.run.obey.Goals as goal

pub returns-in-Err : goal.returns-in-Err
returns-in-Err g c =
    let is : command_of c.args.line.now ≡ Some (command.Close c.in-Some-Close.link) = search rules in
    closed_unwritten g.C.Control.closes (command_of c.args.line.now) c.in-Some-Close.link c.close_link-closing.result c.args.router.now c.close_link-closing.new.self is c.close_link-closing.ensures

pub returns-in-Err-push_no_command : goal.returns-in-Err-push_no_command
returns-in-Err-push_no_command g c =
    let is : command_of c.args.line.now ≡ None = search rules in
    no_command_unwritten g.C.Control.closes (command_of c.args.line.now) c.args.router.now is

pub returns-in-Ok : goal.returns-in-Ok
returns-in-Ok g c =
    let is : command_of c.args.line.now ≡ Some (command.Close c.in-Some-Close.link) = search rules in
    let P : Option Command → Type 0 = λ told. Obeys g.C.Control.closes told c.args.router.now c.push_closing.new.text.items c.close_link-closing.new.self in
    let written : c.push_closing.new.text.items ≡ closing_text c.close_link-closing.result c.in-Some-Close.link =
    subst (λ (text : List ℕ). c.push_closing.new.text.items ≡ text ++ closing_text c.close_link-closing.result c.in-Some-Close.link) c.clear.ensures.items c.in-Ok.ensures in
    subst P (sym is) (c.close_link-closing.result, c.close_link-closing.ensures, written)

pub returns-in-Some-End : goal.returns-in-Some-End
returns-in-Some-End g c = (sym c.read_command.ensures ∙ c.in-Some-End.is ∙ ap Some c.in-Some-End.field-0-is, refl)
