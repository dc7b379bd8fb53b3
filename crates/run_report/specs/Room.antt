-- Room for what comes back with the workers.
use Rattle.std.specs.Prelude.{◌≡◌, ◌+◌, ◌*◌, ◌≤◌, ℕ, [], vec_capacity}
use Rattle.run_report.specs.declared.space.Space.{Space}

-- of a router with these numbers of links and processors, all of it free
pub record HaveSpace {N S K : Type 0} (links processors : ℕ) (r : Space N S K) : Type 0 where
  pub packets : (r.packets.items ≡ []) × (processors ≤ vec_capacity r.packets)
  pub egress_packets : (r.egress_packets.items ≡ []) × (2 * links ≤ vec_capacity r.egress_packets)
  pub shares : (r.shares.items ≡ []) × (2 * links + processors + 1 ≤ vec_capacity r.shares)
  pub sent : (r.sent.items ≡ []) × (links ≤ vec_capacity r.sent)
  pub sources : (r.sources.items ≡ []) × (links ≤ vec_capacity r.sources)
  pub sinks : (r.sinks.items ≡ []) × (links ≤ vec_capacity r.sinks)
