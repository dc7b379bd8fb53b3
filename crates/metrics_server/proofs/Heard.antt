-- What the first bytes of an input ask for.
use Rattle.std.proofs.Common.{◌≡◌, ◌≤◌, ℕ, List, ◌++◌, Option, Some, None, IfSome, ap, subst, sym, ◌∙◌, length, take}
use Rattle.std.specs.Io.KnownBytes.{Consumes}
use Rattle.std.proofs.Math.Seq.{take-append_seam}
use Rattle.httparse.specs.Grammar.{HasNoRequest}
use Rattle.metrics_server.specs.declared.request.Asked.{Asked}
use Rattle.metrics_server.specs.declared.request.Asked.TheVariants.{Unfinished, Metrics, OtherPath, OtherMethod, Unreadable}
use Rattle.metrics_server.specs.Exchange.{Heard}
use Rattle.metrics_server.specs.Request.{Asks, AsksWithin, HasNoHeadWithin, most}

-- the bytes that were read are the input's first
first_of : (input left front : List ℕ) (len : ℕ) → length front ≡ len → input ≡ front ++ left → front ≡ take len input
first_of input left front len long is = sym (ap (λ (n : ℕ). take n input) (sym long) ∙ ap (λ (xs : List ℕ). take (length front) xs) is ∙ take-append_seam front left)

heard_of : (len : ℕ) (input left front : List ℕ) (asked : Asked) → len ≤ most → input ≡ front ++ left → front ≡ take len input → AsksWithin front asked → Heard input asked
heard_of len input left front Unreadable fits is same asks = subst (λ (xs : List ℕ). HasNoHeadWithin most xs) (sym is) (asks left)
heard_of len input left front Unfinished fits is same asks = (len, fits, subst (λ (xs : List ℕ). HasNoRequest xs) same asks.1)
heard_of len input left front Metrics fits is same asks = (len, fits, subst (λ (xs : List ℕ). Asks xs Metrics) same asks)
heard_of len input left front OtherPath fits is same asks = (len, fits, subst (λ (xs : List ℕ). Asks xs OtherPath) same asks)
heard_of len input left front OtherMethod fits is same asks = (len, fits, subst (λ (xs : List ℕ). Asks xs OtherMethod) same asks)

pub heard : (known left : Option (List ℕ)) (len : ℕ) (front : List ℕ) (asked : Asked) → len ≤ most → length front ≡ len → Consumes known left front → AsksWithin front asked
    → IfSome known (λ input. Heard input asked)
heard None left len front asked fits long read asks = tt
heard (Some input) None len front asked fits long read asks = absurd read
heard (Some input) (Some rest) len front asked fits long read asks = heard_of len input rest front asked fits read (first_of input rest front len long read) asks
