-- A beginning of a text that was written before a fault.
use Rattle.std.proofs.Common.{◌≡◌, ℕ, List, ◌++◌, length, take, Option, Err, refl}
use Rattle.std.specs.Io.KnownBytes.{Appends}
use Rattle.std.proofs.lemmas.List.{take_at}
use Rattle.cli_io.specs.Told.{IsCut, Told}
use Rattle.cli_io.specs.declared.fault.LinesFault.{LinesFault}
use Rattle.cli_io.specs.declared.fault.LinesFault.TheVariants as faults

begins : (text done more : List ℕ) → text ≡ done ++ more → take (length done) text ≡ done
begins text done more is = rw is (take_at done more (length done) refl)

pub cut_told : (text : List ℕ) (bad : Option ℕ) (e : LinesFault) (old new : Option (List ℕ)) → IsCut e → (k : ℕ) × Appends old new (take k text) → Told text bad (Err e) old new
cut_told text bad (faults.Line n) old new cut begun = absurd cut
cut_told text bad faults.Input old new cut begun = begun
cut_told text bad faults.Output old new cut begun = begun
cut_told text bad faults.Memory old new cut begun = begun

pub part_told : (text done more : List ℕ) (bad : Option ℕ) (e : LinesFault) (old new : Option (List ℕ)) → IsCut e → text ≡ done ++ more → Appends old new done → Told text bad (Err e) old new
part_told text done more bad e old new cut is wrote =
    let front : take (length done) text ≡ done = begins text done more is in
    cut_told text bad e old new cut (length done, rw front wrote)
