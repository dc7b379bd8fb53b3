-- What comes of an import, by what comes of its steps.
use Rattle.std.proofs.Common.{◌≡◌, ◌∙◌, ℕ, Bool, true, false, List, Option, Some, None, Result, Ok, Err, ap, subst, sym, take}
use Rattle.std.specs.Prelude.{IfErr, OnOk, is_some, string_bytes}
use Rattle.std.specs.Io.KnownBytes.{Appends}
use Rattle.serde_json.specs.Data.{Data}
use Rattle.serde_json.specs.Read.{read}
use Rattle.text_values.specs.Pieces.{◌>>=◌}
use Rattle.topology.specs.Topology.{topology_of}
use Rattle.cli_faults.specs.declared.fault.Fault.{Fault}
use Rattle.cli_faults.specs.declared.fault.Fault.TheVariants as fault
use Rattle.cli_io.proofs.LinesLemmas.{Appends-nothing}
use Rattle.cli_words.specs.declared.import_words.ImportWords.{ImportWords}
use Rattle.cli_import.specs.Faults.{IsOfOut, IsOfTopology}
use Rattle.cli_import.specs.Import.{Imports, IsMadeOf, NoImportOf, NotMade, NotPut, printed_unless, said_by}
use Rattle.cli_import.specs.MasterKey.{key_of}
use Rattle.cli_import.specs.declared.made.Made.{Made}
use Rattle.cli_import.proofs.FaultLemmas.{topology_maps, topology_memory}

-- ---- why nothing is made

pub not_made_unread : (topology_text master_text : List ℕ) (words : ImportWords) (told : Fault) → IsOfTopology (read topology_text ≡ None) told → NotMade topology_text master_text words told
not_made_unread topology_text master_text words told h =
    NotMade.says_nothing (topology_maps (read topology_text ≡ None) (said_by topology_text words.border_router.now ≡ None) told (λ none. ap (λ (o : Option Data). o >>= topology_of words.border_router.now) none) h)

pub not_made_of : (topology_text master_text : List ℕ) (words : ImportWords) (d : Data) (key : List ℕ) (told : Fault)
    → read topology_text ≡ Some d → key_of master_text ≡ Some key → NoImportOf d words.border_router.now key words.port_range told → NotMade topology_text master_text words told
not_made_of topology_text master_text words d key told is key_is (NoImportOf.says_nothing h) =
    let router = words.border_router.now in
    NotMade.says_nothing (topology_maps (topology_of router d ≡ None) (said_by topology_text router ≡ None) told (λ none. ap (λ (o : Option Data). o >>= topology_of router) is ∙ none) h)
not_made_of topology_text master_text words d key told is key_is (NoImportOf.refused t says h) =
    NotMade.refused t key (ap (λ (o : Option Data). o >>= topology_of words.border_router.now) is ∙ says) key_is h

pub not_made_memory : (topology_text master_text : List ℕ) (words : ImportWords) (told : Fault) → told ≡ fault.Memory → NotMade topology_text master_text words told
not_made_memory topology_text master_text words told is = NotMade.says_nothing (topology_memory (said_by topology_text words.border_router.now ≡ None) told is)

-- ---- what is printed

-- a file is named
pub put_out : (topology_text master_text : List ℕ) (words : ImportWords) (made : Made) (r : Result (Unit {0}) Fault) (known : Option (List ℕ))
    → IsMadeOf topology_text master_text words made → is_some words.out ≡ true → IfErr r (λ told. IsOfOut true told) → Imports topology_text master_text words r known known
put_out topology_text master_text words made (Ok done) known is named h =
    let P : Bool → Type 0 = λ b. Appends known known (printed_unless b (string_bytes made.text)) in
    record { made = made; made_of = is; prints = subst P (sym named) (Appends-nothing known) }
put_out topology_text master_text words made (Err told) known is named h =
    let P : Bool → Type 0 = λ b. Appends known known (take 0 (printed_unless b (string_bytes made.text))) in
    let Q : Bool → Type 0 = λ b. IsOfOut b told in
    NotPut.not_out made 0 is (subst Q (sym named) h) (subst P (sym named) (Appends-nothing known))

-- none is named
pub put_printed : (topology_text master_text : List ℕ) (words : ImportWords) (made : Made) (r : Result (Unit {0}) Fault) (old new : Option (List ℕ)) (text : List ℕ)
    → IsMadeOf topology_text master_text words made → is_some words.out ≡ false → text ≡ string_bytes made.text
    → OnOk r (Appends old new text) → ((k : ℕ) × Appends old new (take k text)) → IfErr r (λ told. IsOfOut false told) → Imports topology_text master_text words r old new
put_printed topology_text master_text words made (Ok done) old new text is unnamed same wrote begins h =
    let P : Bool → Type 0 = λ b. Appends old new (printed_unless b (string_bytes made.text)) in
    record { made = made; made_of = is; prints = subst P (sym unnamed) (rw same at wrote) }
put_printed topology_text master_text words made (Err told) old new text is unnamed same wrote begins h =
    let P : Bool → Type 0 = λ b. Appends old new (take begins.0 (printed_unless b (string_bytes made.text))) in
    let Q : Bool → Type 0 = λ b. IsOfOut b told in
    NotPut.not_out made begins.0 is (subst Q (sym unnamed) h) (subst P (sym unnamed) (rw same at begins.1))
