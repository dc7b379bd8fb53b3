-- What a reader's answer says of a definition's value.
use Rattle.std.specs.Prelude.{◌≡◌, ℕ, List, [], ◌++◌, Option, Some, None, Result, Ok, Err}
use Rattle.serde_json.specs.Data.{Data, Members, no_members, member}
use Rattle.topology.specs.declared.fault.TopologyFault.{TopologyFault}
use Rattle.topology.specs.declared.fault.TopologyFault.TheVariants.{Memory, Refused}

-- what is seen of an answer that isn't a refusal
abbrev pub taken : {A B E : Type 0} → (A → B) → Result A E → Option B
taken f (Ok x) = Some (f x)
taken f (Err fault) = None

-- The answer is this value, and a refusal where there is none; want of memory says nothing.
abbrev pub Gives : {A B : Type 0} → (A → B) → Result A TopologyFault → Option B → Type 0
Gives f (Ok x) value = value ≡ Some (f x)
Gives f (Err (Refused refusal)) value = value ≡ None
Gives f (Err Memory) value = Unit

-- these two lists as one, where both are there
abbrev pub joined : {A : Type 0} → Option (List A) → Option (List A) → Option (List A)
joined (Some xs) (Some ys) = Some (xs ++ ys)
joined (Some xs) None = None
joined None ys = None

-- what the members of an object give, in the order of their keys; none where one of them gives none
abbrev pub gather : {A : Type 0} → (List ℕ → Data → Option (List A)) → Members → Option (List A)
gather f no_members = Some []
gather f (member key d ms) = joined (f key d) (gather f ms)

abbrev pub each : {A : Type 0} → (List ℕ → Data → List A) → Members → List A
each f no_members = []
each f (member key d ms) = f key d ++ each f ms
