use Rattle.std.proofs.Common.{◌≡◌, length, map, take}
use Rattle.counts_page.specs.declared.closings.Link.{Link}
use Rattle.counts_page.proofs.closings.Closings.new.Given as goal

abbrev pub invariant-loop-interface : goal.invariant-loop-interface
invariant-loop-interface l = (length l.links.items ≡ l.interface-index) × (map (λ (link : Link). link.interface) l.links.items ≡ take l.interface-index l.interfaces)
