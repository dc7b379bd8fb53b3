-- What the engine of `run` writes, and what becomes of the router.
use Rattle.std.specs.Prelude.{◌≡◌, ◌⊎◌, ℕ, Bool, true, false, ⊤, List, [], ◌∷◌, ◌++◌, Option, Some, None, Result, Ok, Err, take}
use Rattle.std.specs.Io.KnownBytes.{Appends}
use Rattle.std.specs.declared.alloc.AllocError.{AllocError}
use Rattle.cli_io.specs.Told.{IsCut}
use Rattle.cli_io.specs.declared.fault.LinesFault.{LinesFault}
use Rattle.cli_run.specs.Closing.{closing_text, no_command_text, ready_text}
use Rattle.cli_run.specs.Command.{command_of}
use Rattle.cli_run.specs.RunReport.{run_report}
use Rattle.cli_run.specs.declared.closing.Closing.{Closing}
use Rattle.cli_run.specs.declared.command.Command.{Command}
use Rattle.cli_run.specs.declared.command.Command.TheVariants as command
use Rattle.cli_run.specs.declared.control.Figures.{Figures}

module _ {C : Type 0} (closes : C → ℕ → Closing → C → Type 0) where
  -- what a line that doesn't tell to end makes of the router, and what is written for it
  abbrev pub Obeys : Option Command → C → List ℕ → C → Type 0
  Obeys None r text s = (text ≡ no_command_text) × (s ≡ r)
  Obeys (Some (command.Close link)) r text s = (c : Closing) × closes r link c s × (text ≡ closing_text c link)
  Obeys (Some command.End) r text s = ⊥

  -- the lines, one after the other
  abbrev pub ObeysAll : List (List ℕ) → C → List ℕ → C → Type 0
  ObeysAll [] r text s = (text ≡ []) × (s ≡ r)
  ObeysAll (line ∷ lines) r text s = (one : List ℕ) × (more : List ℕ) × (mid : C) × Obeys (command_of line) r one mid × ObeysAll lines mid more s × (text ≡ one ++ more)

  -- a line was obeyed, or tells to end; where no memory was left, the text isn't what is to be written
  abbrev pub Obeyed : Option Command → Result Bool AllocError → C → List ℕ → C → Type 0
  Obeyed told (Ok true) r text s = Obeys told r text s
  Obeyed told (Ok false) r text s = (told ≡ Some command.End) × (s ≡ r)
  Obeyed told (Err e) r text s = (whole : List ℕ) × Obeys told r whole s

  -- The lines were obeyed but for those that are left: this is what is written for them, and this became of the router.
  pub record Leads (lines left : List (List ℕ)) (r : C) (text : List ℕ) (s : C) : Type 0 where
    pub done : List (List ℕ)
    pub split : lines ≡ done ++ left
    pub obeyed : ObeysAll done r text s

  -- none is left, or the first of them tells to end
  abbrev pub IsEnd : List (List ℕ) → Type 0
  IsEnd [] = ⊤
  IsEnd (line ∷ lines) = command_of line ≡ Some command.End

  -- all lines up to the end were obeyed, and all of their text was written; after a fault, some lines, and a beginning of their text
  abbrev pub Led : Result (Unit {0}) LinesFault → List (List ℕ) → C → C → Option (List ℕ) → Option (List ℕ) → Type 0
  Led (Ok done) lines r s old new = (left : List (List ℕ)) × (text : List ℕ) × Leads lines left r text s × IsEnd left × Appends old new text
  Led (Err e) lines r s old new = IsCut e × ((left : List (List ℕ)) × (text : List ℕ) × (k : ℕ) × Leads lines left r text s × Appends old new (take k text))

  abbrev pub LedIn : Result (Unit {0}) LinesFault → Option (List (List ℕ)) → C → C → Option (List ℕ) → Option (List ℕ) → Type 0
  LedIn result None r s old new = ⊤
  LedIn result (Some lines) r s old new = Led result lines r s old new

  -- the same after `ready`
  abbrev pub LedReady : Result (Unit {0}) LinesFault → Option (List (List ℕ)) → C → C → Option (List ℕ) → Option (List ℕ) → Type 0
  LedReady result None r s old new = ⊤
  LedReady (Ok done) (Some lines) r s old new = (left : List (List ℕ)) × (text : List ℕ) × Leads lines left r text s × IsEnd left × Appends old new (ready_text ++ text)
  LedReady (Err e) (Some lines) r s old new = IsCut e × ((left : List (List ℕ)) × (text : List ℕ) × (k : ℕ) × Leads lines left r text s × Appends old new (take k (ready_text ++ text)))

  module _ (tells : C → Figures → Type 0) (ids : List ℕ) where
    abbrev pub report_of : Figures → List ℕ
    report_of figures = run_report ids figures.sent.items figures.totals

    -- no report, or that of the router that ended
    abbrev pub IsReport : C → List ℕ → Type 0
    IsReport s report = (report ≡ []) ⊎ ((figures : Figures) × tells s figures × (report ≡ report_of figures))

    -- `ready`, what is written for the lines, and the report of what became of the router; after a fault a beginning of that
    abbrev pub Ran : C → Result (Unit {0}) LinesFault → List (List ℕ) → Option (List ℕ) → Option (List ℕ) → Type 0
    Ran r (Ok done) lines old new =
        (left : List (List ℕ)) × (text : List ℕ) × (s : C) × (figures : Figures) × Leads lines left r text s × IsEnd left × tells s figures × Appends old new (ready_text ++ (text ++ report_of figures))
    Ran r (Err e) lines old new =
        IsCut e × ((left : List (List ℕ)) × (text : List ℕ) × (s : C) × (report : List ℕ) × (k : ℕ) × Leads lines left r text s × IsReport s report × Appends old new (take k (ready_text ++ (text ++ report))))
