-- A page of the counts beside the report.
use Rattle.std.proofs.Common.{◌≡◌, ◌+◌, ◌-◌, ◌*◌, ◌<◌, ◌≤◌, ℕ, List, length, Some, slice_get, slice_index, slice_index_or, ap, ◌∙◌, arith}
use Rattle.process_packet.specs.declared.config.Config.{Config}
use Rattle.packet_ledger.specs.Shown.{Shown}
use Rattle.router_rules.specs.Links.{link_count}
use Rattle.counts_page.specs.CountsPage.{AreCounts}
use Rattle.router_run.specs.Run.{SentWithin}

-- A page of a run's links shows of none of them more than the report then tells as sent there: both mean the same row of a look, which has
-- a row for each worker.
pub shown_within : (c : Config) (look : Shown) (old new : List _) (sent : List ℕ) → length old ≡ link_count c → length look.outputs ≡ 2 * link_count c + c.processors + 1 → AreCounts look old new → SentWithin c look sent
    → (l n : ℕ) (d : _) → l < link_count c → slice_get sent l ≡ Some n → (slice_index_or new l d).output ≤ n
shown_within c look old new sent links rows counts within l n d lt at =
    let is = counts.each l d d (omega arith) in
    let row : length look.outputs - length old + l ≡ link_count c + c.processors + 1 + l = omega arith in
    let shown = is.2 ∙ ap (slice_index look.outputs) row in
    let most = within l n at in omega arith
