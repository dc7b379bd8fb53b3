-- The configuration that is made of a topology and a master key, what of the topology isn't carried over, and why none is made.
use Rattle.std.specs.Prelude.{◌≡◌, ◌⊎◌, ℕ, Bool, true, false, ⊤, List, [], ◌∷◌, ◌++◌, Option, Some, None, Result, Ok, Err, IsErrAnd, is_some, map, string_bytes, take}
use Rattle.std.specs.Io.KnownBytes.{Appends}
use Rattle.std.specs.Str.{IsUtf8}
use Rattle.hex.specs.Hex.{encode_lower}
use Rattle.process_packet.specs.declared.config.Config.{Config}
use Rattle.process_packet.specs.declared.port_range.PortRange.{PortRange}
use Rattle.router_config.specs.Config.{values, values_of}
use Rattle.router_config.specs.declared.fault.ConfigFault.TheVariants.{NotToml}
use Rattle.config_warnings.specs.Warnings.{warnings_of}
use Rattle.serde_json.specs.Data.{Data}
use Rattle.serde_json.specs.Read.{read}
use Rattle.text_values.specs.Pieces.{◌>>=◌}
use Rattle.topology.specs.LeftOut.{Left, left, ports}
use Rattle.topology.specs.Topology.{TopologyValues, topology_of}
use Rattle.config_text.specs.Text.{config_text}
use Rattle.cli_check.specs.Check.{GivesConfig}
use Rattle.cli_faults.specs.declared.fault.Fault.{Fault}
use Rattle.cli_faults.specs.declared.fault.Fault.TheVariants as fault
use Rattle.cli_words.specs.declared.import_words.ImportWords.{ImportWords}
use Rattle.cli_import.specs.Faults.{IsOfKey, IsOfOut, IsOfTopology, IsUnread}
use Rattle.cli_import.specs.MasterKey.{key_of}
use Rattle.cli_import.specs.declared.imported.Imported.{Imported}
use Rattle.cli_import.specs.declared.made.Made.{Made}

-- the ports at which applications listen, where they are asked for
abbrev pub ports_if : Bool → Option PortRange → Option PortRange
ports_if true range = range
ports_if false range = None

-- they aren't carried over, where they aren't asked for
abbrev pub ports_left : Bool → Option PortRange → List Left
ports_left true range = []
ports_left false None = []
ports_left false (Some range) = ports range ∷ []

-- the configuration's text, under a forwarding key
abbrev pub text_of : TopologyValues → List ℕ → Bool → List ℕ
text_of t key port_range = config_text t (encode_lower key) (ports_if port_range t.ports)

-- what isn't carried over
abbrev pub left_of : TopologyValues → Bool → List Left
left_of t port_range = t.lists.left_out ++ ports_left port_range t.ports

-- Its text is this one, and the reader of configurations reads it to just this configuration.
pub record IsRead (text : List ℕ) (made : Made) : Type 0 where
  pub text_is : string_bytes made.text ≡ text
  pub read_to : values_of (string_bytes made.text) ≡ Ok (values made.config)

-- The bytes aren't UTF-8.
abbrev pub IsNoText : List ℕ → Fault → Type 0
IsNoText bytes fault.Memory = ⊤
IsNoText bytes (fault.Config why) = (why ≡ NotToml) × (IsUtf8 bytes → ⊥)
IsNoText bytes _ = ⊥

-- The reader of configurations refuses them, for the fault that is told.
abbrev pub IsRefused : List ℕ → Fault → Type 0
IsRefused bytes told = IsNoText bytes told ⊎ GivesConfig (Err told) (values_of bytes)

-- The JSON value says something to the border router of this name, and this comes of just that.
pub record IsImportOf (d : Data) (router key : List ℕ) (port_range : Bool) (it : Imported) : Type 0 where
  pub topology : TopologyValues
  pub says : topology_of router d ≡ Some topology
  pub made_of : IsRead (text_of topology key port_range) it.made
  pub left_is : map left it.left_out.items ≡ left_of topology port_range

-- Nothing comes of it: it says nothing to that router, or what it says makes no configuration.
pub data NoImportOf (d : Data) (router key : List ℕ) (port_range : Bool) (told : Fault) : Type 0 where
  says_nothing : IsOfTopology (topology_of router d ≡ None) told → NoImportOf d router key port_range told
  refused : (t : TopologyValues) → topology_of router d ≡ Some t → IsRefused (text_of t key port_range) told → NoImportOf d router key port_range told

-- ---- by the texts of the files

-- what a topology's text says to the border router of this name
abbrev pub said_by : List ℕ → List ℕ → Option TopologyValues
said_by text router = read text >>= topology_of router

-- nothing in the configuration will hurt, on a machine with some number of cores
abbrev pub IsHarmless : Config → Type 0
IsHarmless config = (cores : ℕ) × (warnings_of config cores ≡ [])

-- The texts of a topology and of a master key give this configuration to the border router of this name. Where it is to
-- be strict, nothing of the topology is left out, and nothing will hurt.
pub record IsMadeOf (topology_text master_text : List ℕ) (words : ImportWords) (made : Made) : Type 0 where
  pub topology : TopologyValues
  pub key : List ℕ
  pub says : said_by topology_text words.border_router.now ≡ Some topology
  pub key_is : key_of master_text ≡ Some key
  pub made_of : IsRead (text_of topology key words.port_range) made
  pub whole : words.strict ≡ true → left_of topology words.port_range ≡ []
  pub harmless : words.strict ≡ true → IsHarmless made.config

-- They give none: one of them says nothing, or what they say makes no configuration, or something was told and it was to
-- be strict.
pub data NotMade (topology_text master_text : List ℕ) (words : ImportWords) (told : Fault) : Type 0 where
  no_key : IsOfKey (key_of master_text ≡ None) told → NotMade topology_text master_text words told
  says_nothing : IsOfTopology (said_by topology_text words.border_router.now ≡ None) told → NotMade topology_text master_text words told
  refused : (t : TopologyValues) (key : List ℕ) → said_by topology_text words.border_router.now ≡ Some t → key_of master_text ≡ Some key
      → IsRefused (text_of t key words.port_range) told → NotMade topology_text master_text words told
  warned : told ≡ fault.Warned → words.strict ≡ true → NotMade topology_text master_text words told

-- what is printed of it: all, unless a file is named for it
abbrev pub printed_unless : Bool → List ℕ → List ℕ
printed_unless true text = []
printed_unless false text = text

abbrev pub printed : ImportWords → Made → List ℕ
printed words made = printed_unless (is_some words.out) (string_bytes made.text)

-- The texts give a configuration, and it was printed, unless a file is named for it.
pub record IsPut (topology_text master_text : List ℕ) (words : ImportWords) (old new : Option (List ℕ)) : Type 0 where
  pub made : Made
  pub made_of : IsMadeOf topology_text master_text words made
  pub prints : Appends old new (printed words made)

-- They give none, and nothing was printed; or it can't be written, and a beginning of it was printed.
pub data NotPut (topology_text master_text : List ℕ) (words : ImportWords) (told : Fault) (old new : Option (List ℕ)) : Type 0 where
  not_made : NotMade topology_text master_text words told → Appends old new [] → NotPut topology_text master_text words told old new
  not_out : (made : Made) (k : ℕ) → IsMadeOf topology_text master_text words made → IsOfOut (is_some words.out) told → Appends old new (take k (printed words made))
      → NotPut topology_text master_text words told old new

abbrev pub Imports : List ℕ → List ℕ → ImportWords → Result (Unit {0}) Fault → Option (List ℕ) → Option (List ℕ) → Type 0
Imports topology_text master_text words (Ok done) old new = IsPut topology_text master_text words old new
Imports topology_text master_text words (Err told) old new = NotPut topology_text master_text words told old new

-- ---- by the files

-- It is what comes of some texts, since no contract can say what a file has.
pub record IsOfSomeTexts (words : ImportWords) (result : Result (Unit {0}) Fault) : Type 0 where
  pub topology_text : List ℕ
  pub master_text : List ℕ
  pub old : Option (List ℕ)
  pub new : Option (List ℕ)
  pub imports : Imports topology_text master_text words result old new

-- A file can't be read, or the files' texts were imported.
abbrev pub ImportsFiles : ImportWords → Result (Unit {0}) Fault → Type 0
ImportsFiles words result = IsErrAnd result IsUnread ⊎ IsOfSomeTexts words result
