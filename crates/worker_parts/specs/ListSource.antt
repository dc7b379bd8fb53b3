-- What contracts see of a source over a list.
use Rattle.std.specs.Prelude.{◌≡◌, ◌==◌, ◌-◌, ◌^◌, ℕ, List, [], ◌∷◌, ◌++◌, map, take, drop, replicate, Option, Some, None, if◌then◌else◌}
use Rattle.worker_order.specs.Heard.{Heard, Gave, WasQuiet, HadFailed, WasAtEnd}
use Rattle.worker_parts.specs.Buffer.{buffer_len}
use Rattle.worker_parts.specs.declared.list_source.Next.{Next}
use Rattle.worker_parts.specs.declared.list_source.Next.TheVariants as next

-- what it will answer before its end, its answers so far, and how often it failed
pub record Listed : Type 0 where
  pub coming : List Heard
  pub told : Option (List Heard)
  pub failed : ℕ

abbrev pub heard_of : Next → Heard
heard_of (next.Datagram bytes from now) = Gave from now (take buffer_len bytes.items)
heard_of next.Quiet = WasQuiet
heard_of next.Failed = HadFailed
heard_of next.End = WasAtEnd

abbrev pub coming : ℕ → List Next → List Heard
coming given answers = map heard_of (drop given answers)

-- it was asked so often after its list's end
abbrev pub gone : ℕ → ℕ → List Next → Option (List Heard)
gone given ends answers = if ends == 2 ^ 64 - 1 then None else Some (map heard_of (take given answers) ++ replicate ends WasAtEnd)

-- the next of the list, and the end after them
abbrev pub Gives : List Heard → Heard → List Heard → Type 0
Gives [] h new = (h ≡ WasAtEnd) × (new ≡ [])
Gives (x ∷ xs) h new = (h ≡ x) × (new ≡ xs)
