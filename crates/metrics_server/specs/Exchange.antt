-- One request and its response.
use Rattle.std.specs.Prelude.{◌≡◌, ◌≤◌, ℕ, List, [], Option, take}
use Rattle.httparse.specs.Grammar.{HasNoRequest}
use Rattle.std.specs.Io.KnownBytes.{Appends}
use Rattle.metrics_server.specs.declared.request.Asked.{Asked}
use Rattle.metrics_server.specs.declared.request.Asked.TheVariants.{Unfinished, Metrics, OtherPath, OtherMethod, Unreadable}
use Rattle.metrics_server.specs.Request.{Asks, HasNoHeadWithin, most}
use Rattle.metrics_server.specs.Response.{response}

-- It is what the first bytes of the input ask for, of which at most 8,192 were read. It is unfinished where no request's head is whole in
-- those that the reader gave before it ended or failed.
abbrev pub Heard : List ℕ → Asked → Type 0
Heard input Unreadable = HasNoHeadWithin most input
Heard input Unfinished = (k : ℕ) × (k ≤ most) × HasNoRequest (take k input)
Heard input Metrics = (k : ℕ) × (k ≤ most) × Asks (take k input) Metrics
Heard input OtherPath = (k : ℕ) × (k ≤ most) × Asks (take k input) OtherPath
Heard input OtherMethod = (k : ℕ) × (k ≤ most) × Asks (take k input) OtherMethod

module _ {P : Type 0} (shows : P → List ℕ → P → Type 0) where
  -- what is to be told: the page as it is then, or what stands in its place
  abbrev pub Prepares : Asked → P → P → List ℕ → Type 0
  Prepares Metrics old new text = (page : List ℕ) × shows old page new × (text ≡ response Metrics page)
  Prepares OtherPath old new text = (new ≡ old) × (text ≡ response OtherPath [])
  Prepares OtherMethod old new text = (new ≡ old) × (text ≡ response OtherMethod [])
  Prepares Unfinished old new text = (new ≡ old) × (text ≡ [])
  Prepares Unreadable old new text = (new ≡ old) × (text ≡ [])

  -- that was written
  abbrev pub Tells : Asked → P → P → Option (List ℕ) → Option (List ℕ) → Type 0
  Tells asked old new before after = (text : List ℕ) × Prepares asked old new text × Appends before after text
