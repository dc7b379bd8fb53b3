-- The page of a running router's counts.
use Rattle.std.specs.Prelude.{◌≡◌, ◌+◌, ◌-◌, ◌<◌, ℕ, List, length, slice_index, slice_index_or}
use Rattle.metrics_text.specs.declared.link_counts.LinkCounts.{LinkCounts}
use Rattle.metrics_text.specs.Families.{metrics}
use Rattle.packet_ledger.specs.Shown.{AddUp, HasGrown, Shown as Look}

-- what it shows: of the links, and the look that they are from; the version; and since when the router runs
pub record Shown : Type 0 where
  pub links : List LinkCounts
  pub look : Look
  pub version : List ℕ
  pub start : ℕ

-- The counts of the link at a place among so many: what the share at that place posted as received, and what the one at that place
-- among the last so many posted as sent or answered.
abbrev pub IsCountOf : Look → ℕ → ℕ → ℕ → LinkCounts → Type 0
IsCountOf look interface place count l =
    (l.interface ≡ interface) × (l.input ≡ slice_index look.inputs place) × (l.output ≡ slice_index look.outputs (length look.outputs - count + place))

-- each link's counts, in place of those before
pub record AreCounts (look : Look) (old new : List LinkCounts) : Type 0 where
  pub long : length new ≡ length old
  pub each : (k : ℕ) (d e : LinkCounts) → k < length old → IsCountOf look (slice_index_or old k d).interface k (length old) (slice_index_or new k e)

-- It looks again, and writes just what that shows. No count falls, and the rows add up to the sums.
pub record Shows (old : Shown) (page : List ℕ) (new : Shown) : Type 0 where
  pub grown : HasGrown old.look new.look
  pub rows : AddUp new.look
  pub counts : AreCounts new.look old.links new.links
  pub version : new.version ≡ old.version
  pub start : new.start ≡ old.start
  pub page_is : page ≡ metrics new.links new.look.totals new.version new.start
