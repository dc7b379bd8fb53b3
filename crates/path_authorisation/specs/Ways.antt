-- Which way a datagram goes through a net that agrees: up to parents, then over the core, then down to children.
use Rattle.std.specs.Bool.{Decides}
use Rattle.std.specs.Prelude.{◌≡◌, ◌≢◌, ◌≤◌, ◌<◌, ℕ, Bool, List, ◌∷◌, Some, None}
use Rattle.std.specs.List.{slice_get}
use Rattle.segment_switch.specs.declared.kind.LinkKind.{LinkKind}
use Rattle.segment_switch.specs.declared.kind.LinkKind.TheVariants.{Core, Parent, Child}
use Rattle.process_packet.specs.declared.neighbours.Link.{Link}
use Rattle.process_packet.specs.Conditions.{MayFollow}
use Rattle.process_packet.specs.Network.{own_link}
use Rattle.net_laws.specs.Configured.{AreNumbered}
use Rattle.net_laws.specs.Net.{Agrees, Net}
use Rattle.path_authorisation.specs.Sendings.{ChangesSegment, IsOnLongPath, IsWalk, Sending, at_entry}

-- The datagram leaves by this link of the router.
pub record LeavesBy (s : Sending) (l : Link) : Type 0 where
  pub address : s.to ≡ None
  pub own : own_link s.here.network s.out ≡ Some l

-- It came by this link of the router.
pub record EntersBy (s : Sending) (l : Link) : Type 0 where
  pub outside : s.link ≢ 0
  pub own : own_link s.here.network s.link ≡ Some l

-- What may be crossed after what, by what the AS at the far end is to the one that is left: after a link to a parent any link, after
-- one over the core another such or one to a child, and after one to a child only one to a child.
pub data MayComeLater : LinkKind → LinkKind → Type 0 where
  after_up : {later : LinkKind} → MayComeLater Parent later
  over_core : MayComeLater Core Core
  core_to_down : MayComeLater Core Child
  down : MayComeLater Child Child

-- Of a walk, sending by sending:
pub record IsValleyFree (walk : List Sending) : Type 0 where
  -- what is sent to no address within the AS leaves by a link of the router
  pub own : (i : ℕ) (s : Sending) → slice_get walk i ≡ Some s → s.to ≡ None → (l : Link) × LeavesBy s l
  -- the link by which it comes into an AS and the one by which it leaves it are a lawful pair, for a packet that
  -- changes its segment there or for one that doesn't, also where the links are of two routers
  pub pair : (i j : ℕ) (s t : Sending) (from to : Link) → i ≤ j → slice_get walk i ≡ Some s → slice_get walk j ≡ Some t
      → ((k : ℕ) (u : Sending) → i ≤ k → k < j → slice_get walk k ≡ Some u → u.to ≢ None)
      → EntersBy s from → LeavesBy t to → (changed : Bool) → Decides changed (ChangesSegment (at_entry s)) → MayFollow changed (Some from.kind) to.kind
  -- over the whole walk
  pub order : (i j : ℕ) (s t : Sending) (l m : Link) → i < j → slice_get walk i ≡ Some s → slice_get walk j ≡ Some t → LeavesBy s l → LeavesBy t m
      → MayComeLater l.kind m.kind

abbrev pub WalksAreValleyFree : Type 0
WalksAreValleyFree = (net : Net) (s : Sending) (walk : List Sending) → Agrees net → AreNumbered net → IsWalk net (s ∷ walk) → IsOnLongPath s → IsValleyFree (s ∷ walk)
