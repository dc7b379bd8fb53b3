-- A value at a key, step by step.
use Rattle.std.proofs.Common.{◌≡◌, List, ℕ, Option, Some, None, Result, Ok, Err, ap, ◌∙◌}
use Rattle.toml.specs.Data.{Data, Members, get_member}
use Rattle.router_config.specs.Entry.{value_at}
use Rattle.router_config.specs.Fault.{or_fault, ◌>>=◌}
use Rattle.router_config.specs.declared.fault.ConfigFault.{ConfigFault}
use Rattle.router_config.specs.declared.fault.ConfigFault.TheVariants.{Missing, WrongType}

-- what is read of a member
read_of : {A : Type 0} → (Data → Option A) → Option Data → Result A ConfigFault
read_of read found = or_fault Missing found >>= (λ (value : Data). or_fault WrongType (read value))

pub value_found : {A : Type 0} (read : Data → Option A) (key : List ℕ) (table : Members) (d : Data) (x : A) → Some d ≡ get_member key table → Some x ≡ read d → Ok x ≡ value_at read key table
unfolding read_of
value_found read key table d x member is = ap (λ o. or_fault WrongType o) is ∙ ap (read_of read) member

pub value_other : {A : Type 0} (read : Data → Option A) (key : List ℕ) (table : Members) (d : Data) → Some d ≡ get_member key table → None ≡ read d → Err WrongType ≡ value_at read key table
unfolding read_of
value_other read key table d member is = ap (λ o. or_fault WrongType o) is ∙ ap (read_of read) member

pub value_missing : {A : Type 0} (read : Data → Option A) (key : List ℕ) (table : Members) → None ≡ get_member key table → Err Missing ≡ value_at read key table
unfolding read_of
value_missing read key table member = ap (read_of read) member

pub value_tested : {A : Type 0} (read : Data → Option A) (key : List ℕ) (table : Members) (d : Data) (r : Result A ConfigFault) → Some d ≡ get_member key table → r ≡ or_fault WrongType (read d) → r ≡ value_at read key table
unfolding read_of
value_tested read key table d r member is = is ∙ ap (read_of read) member
