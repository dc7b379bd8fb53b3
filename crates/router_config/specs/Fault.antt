-- Faults, and steps of which the first fault is the answer.
use Rattle.std.specs.Prelude.{◌≡◌, ℕ, Option, Result, Ok, Err, ◌⊎◌}
use Rattle.std.specs.Option.{ok_or}
use Rattle.router_config.specs.declared.fault.ConfigFault.{ConfigFault}
use Rattle.router_config.specs.declared.fault.ConfigFault.TheVariants.{NotToml, Missing, WrongType, IsdAs, Key, Address, Interface, Limit, Memory}

-- the second step, where the first met no fault
infixl 10 ◌>>=◌
abbrev pub ◌>>=◌ : {A B : Type 0} → Result A ConfigFault → (A → Result B ConfigFault) → Result B ConfigFault
Ok x >>= f = f x
Err fault >>= f = Err fault

abbrev pub or_fault : {A : Type 0} → ConfigFault → Option A → Result A ConfigFault
or_fault fault found = ok_or found fault

abbrev pub on_ok : {A B : Type 0} → (A → B) → Result A ConfigFault → Result B ConfigFault
on_ok f (Ok x) = Ok (f x)
on_ok f (Err fault) = Err fault

-- this value in the place of a missing one
abbrev pub or_when_missing : {A : Type 0} → A → Result A ConfigFault → Result A ConfigFault
or_when_missing x (Err Missing) = Ok x
or_when_missing x found = found

-- the answer is what was wanted, or memory ran out
abbrev pub Answers : {A B : Type 0} → (A → B) → Result B ConfigFault → Result A ConfigFault → Type 0
Answers view wanted (Ok x) = wanted ≡ Ok (view x)
Answers view wanted (Err fault) = (fault ≡ Memory) ⊎ (wanted ≡ Err fault)

-- the number by which a fault is printed
abbrev pub number_of : ConfigFault → ℕ
number_of NotToml = 1
number_of Missing = 2
number_of WrongType = 3
number_of IsdAs = 4
number_of Key = 5
number_of Address = 6
number_of Interface = 7
number_of Limit = 8
number_of Memory = 9
