-- A walk, sending by sending.
use Rattle.std.proofs.Common.{◌≡◌, ◌≢◌, ◌≤◌, ◌+◌, ℕ, zero, suc, List, [], ◌∷◌, Some, slice_index, slice_get, refl, sym, ap, subst, ◌∙◌, arith}
use Rattle.std.proofs.lemmas.Option.{same_Some}
use Rattle.scion_packet.specs.Header.{one_hop_path}
use Rattle.process_packet.specs.declared.decision.Decision.TheVariants as decision
use Rattle.process_packet.specs.Decide.{scion_decide, scion_moved}
use Rattle.process_packet.specs.OneHopLaws.{IsDecidedAsScion}
use Rattle.process_packet.proofs.KindLemmas.{decided_as_scion, has_scion_path, other_kind}
use Rattle.net_laws.specs.Net.{Net}
use Rattle.path_authorisation.specs.Links.{LinksAreFew, crossed, links_crossed}
use Rattle.path_authorisation.specs.Sendings.{ComesFrom, IsOnLongPath, IsSending, IsWalk, Sending, left}
use Rattle.path_authorisation.proofs.CursorLemmas.{cursor_at, farther, left_below, whole}

pub rest_is : (net : Net) (s : Sending) (walk : List Sending) → IsWalk net (s ∷ walk) → IsWalk net walk
rest_is net s walk is = record { sent = λ i t at. is.sent (suc i) t at; next = λ i t u at after. is.next (suc i) t u at after }

-- ---- what is on a path of more than one hop

module _ (net : Net) (s : Sending) (is : IsSending net s) (long : IsOnLongPath s) where
  as_scion : IsDecidedAsScion s.here.network s.link s.source s.moment s.bytes
  as_scion = decided_as_scion s.here.network s.link s.source s.moment s.bytes (other_kind s.here.network s.link s.bytes long)

  pub says : scion_decide s.here.network s.link s.source s.moment s.bytes ≡ decision.Send s.out s.to
  says = sym as_scion.decision ∙ is.decision

  pub left_is : left s ≡ scion_moved s.here.network s.link s.source s.moment s.bytes
  left_is = as_scion.bytes_are

  pub moves_on : cursor_at s.bytes + crossed s.to ≤ cursor_at (left s)
  moves_on =
      let moved : cursor_at (left s) ≡ cursor_at (scion_moved s.here.network s.link s.source s.moment s.bytes) = ap cursor_at left_is in
      let more = farther s.here.network s.link s.source s.moment s.bytes s.out s.to is.are says in
      omega arith

  pub stays_below : cursor_at (left s) ≤ 63
  stays_below =
      let moved : cursor_at (left s) ≡ cursor_at (scion_moved s.here.network s.link s.source s.moment s.bytes) = ap cursor_at left_is in
      let below = left_below s.here.network s.link s.source s.moment s.bytes s.out s.to is.are says in
      omega arith

  -- what leaves is on such a path too
  pub long_left : slice_index (left s) 8 ≢ one_hop_path
  long_left =
      subst (λ (bytes : List ℕ). slice_index bytes 8 ≢ one_hop_path) (sym left_is)
      (has_scion_path (scion_moved s.here.network s.link s.source s.moment s.bytes) (whole s.here.network s.link s.source s.moment s.bytes s.out s.to is.are says).sound)

pub long_next : (net : Net) (s t : Sending) → IsSending net s → IsOnLongPath s → ComesFrom net s t → IsOnLongPath t
long_next net s t is long comes = subst (λ (bytes : List ℕ). slice_index bytes 8 ≢ one_hop_path) (sym comes.bytes) (long_left net s is long)

-- ---- at each place

pub long_at : (net : Net) (s : Sending) (walk : List Sending) → IsWalk net (s ∷ walk) → IsOnLongPath s → (i : ℕ) (t : Sending) → slice_get (s ∷ walk) i ≡ Some t → IsOnLongPath t
long_at net s walk is long zero t at = subst IsOnLongPath (same_Some s t at) long
long_at net s [] is long (suc i) t at = absurd cc
long_at net s (v ∷ walk) is long (suc i) t at =
    long_at net v walk (rest_is net s (v ∷ walk) is) (long_next net s v (is.sent 0 s refl) long (is.next 0 s v refl refl)) i t at

-- ---- the links that it crosses

few_from : (net : Net) (walk : List Sending) (s : Sending) → IsWalk net (s ∷ walk) → IsOnLongPath s → cursor_at s.bytes + links_crossed (s ∷ walk) ≤ 63
few_from net [] s is long =
    let here = is.sent 0 s refl in
    let more = moves_on net s here long in
    let below = stays_below net s here long in
    omega arith
few_from net (t ∷ walk) s is long =
    let here = is.sent 0 s refl in
    let comes : ComesFrom net s t = is.next 0 s t refl refl in
    let more = moves_on net s here long in
    let same : cursor_at t.bytes ≡ cursor_at (left s) = ap cursor_at comes.bytes in
    let after = few_from net walk t (rest_is net s (t ∷ walk) is) (long_next net s t here long comes) in
    omega arith

pub few_links : LinksAreFew
few_links net s walk is long = let few = few_from net walk s is long in omega arith
