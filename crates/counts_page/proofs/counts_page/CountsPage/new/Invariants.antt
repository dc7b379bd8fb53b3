use Rattle.std.proofs.Common.{◌≡◌, length, map, take}
use Rattle.metrics_text.specs.declared.link_counts.LinkCounts.{LinkCounts}
use Rattle.counts_page.proofs.counts_page.CountsPage.new.Given as goal

abbrev pub invariant-loop-interface : goal.invariant-loop-interface
invariant-loop-interface g l = (length l.links.items ≡ l.interface-index) × (map (λ (c : LinkCounts). c.interface) l.links.items ≡ take l.interface-index l.interfaces)
