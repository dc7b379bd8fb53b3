-- What bytes ask for, by the grammar of HTTP's requests.
use Rattle.std.specs.Prelude.{◌≡◌, ◌<◌, ◌⊎◌, ℕ, List, ◌++◌, codes, length}
use Rattle.httparse.specs.Grammar.{HasNoRequest, MayBecomeRequest, ReadsRequest, RequestHead, print_request}
use Rattle.metrics_server.specs.declared.request.Asked.{Asked}
use Rattle.metrics_server.specs.declared.request.Asked.TheVariants.{Unfinished, Metrics, OtherPath, OtherMethod, Unreadable}

-- the page, with a query or without
abbrev pub IsPage : List ℕ → Type 0
IsPage target = (target ≡ codes "/metrics") ⊎ ((query : List ℕ) × (target ≡ codes "/metrics?" ++ query))

abbrev pub IsGet : List ℕ → Type 0
IsGet method = method ≡ codes "GET"

-- what a request of a method for a target asks for
abbrev pub AskedBy : List ℕ → List ℕ → Asked → Type 0
AskedBy method target Metrics = IsPage target × IsGet method
AskedBy method target OtherMethod = IsPage target × (IsGet method → ⊥)
AskedBy method target OtherPath = IsPage target → ⊥
AskedBy method target Unfinished = ⊥
AskedBy method target Unreadable = ⊥

-- what begins with a request's head asks for what that says
abbrev pub IsAskedIn : List ℕ → Asked → Type 0
IsAskedIn bytes asked = (h : RequestHead) × (rest : List ℕ) × ReadsRequest bytes h rest × AskedBy h.method h.target asked

-- the longest head of a request that is read, in bytes
abbrev pub most : ℕ
most = 8192

-- they begin with no request's head of so many bytes
abbrev pub HasNoHeadWithin : ℕ → List ℕ → Type 0
HasNoHeadWithin n bytes = (h : RequestHead) (rest : List ℕ) → ReadsRequest bytes h rest → n < length (print_request h)

-- what the bytes that came so far ask for; what can't become a request of at most 8,192 bytes, whatever follows, is none
abbrev pub Asks : List ℕ → Asked → Type 0
Asks bytes Unfinished = HasNoRequest bytes × MayBecomeRequest bytes
Asks bytes Unreadable = (more : List ℕ) → HasNoHeadWithin most (bytes ++ more)
Asks bytes Metrics = IsAskedIn bytes Metrics
Asks bytes OtherPath = IsAskedIn bytes OtherPath
Asks bytes OtherMethod = IsAskedIn bytes OtherMethod

-- the same where no more bytes than that are read
abbrev pub AsksWithin : List ℕ → Asked → Type 0
AsksWithin bytes Unfinished = (length bytes < most) × HasNoRequest bytes
AsksWithin bytes Unreadable = Asks bytes Unreadable
AsksWithin bytes Metrics = Asks bytes Metrics
AsksWithin bytes OtherPath = Asks bytes OtherPath
AsksWithin bytes OtherMethod = Asks bytes OtherMethod
