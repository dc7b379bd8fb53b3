-- The address that a text spells is the one that its reader gives, and where it spells none, there is none.
use Rattle.std.proofs.Common.{◌≡◌, ℕ, List, [], ◌∷◌, Some, None, refl, sym, ◌∙◌, subst, append-nil, length, ne_eqb, arith}
use Rattle.std.specs.Net.Grammar.{IsSocketText, IsSocketV4Text, IsSocketV6Text}
use Rattle.std.specs.Net.Reader.{Read, read_socket_v4, read_socket_v6, whole_value}
use Rattle.std.specs.declared.net.socket_addr.SocketAddr.{SocketAddr}
use Rattle.std.specs.declared.net.socket_addr.SocketAddr.TheVariants as socket
use Rattle.std.specs.declared.net.socket_addr.SocketAddrV4.{SocketAddrV4}
use Rattle.std.specs.declared.net.socket_addr.SocketAddrV6.{SocketAddrV6}
use Rattle.std.proofs.NetLemmas.Sockets.{read_socket_v4_complete, read_socket_v4_sound, read_socket_v6_complete, read_socket_v6_sound, IsSocketV4Text-not_v6}
use Rattle.topology.specs.Address.{address_of, underlay_of}

at_v4 : (text : List ℕ) → ((a : SocketAddrV4) → IsSocketV4Text text a → ⊥) → (r : Read (List ℕ × ℕ)) → read_socket_v4 text ≡ r → whole_value r ≡ None
at_v4 text none None e = refl
at_v4 text none (Some (parts, [])) e =
    let a : SocketAddrV4 = record { ip = record { octets = parts.0 }; port = parts.1 } in
    let (front, split, is) = read_socket_v4_sound text [] a e in
    absurd (none a (subst (λ t. IsSocketV4Text t a) (sym (split ∙ append-nil front)) is))
at_v4 text none (Some (parts, c ∷ rest)) e = rw (ne_eqb (length (c ∷ rest)) 0 (omega arith))

at_v6 : (text : List ℕ) → ((a : SocketAddrV6) → IsSocketV6Text text a → ⊥) → (r : Read (List ℕ × ℕ × ℕ × ℕ)) → read_socket_v6 text ≡ r → whole_value r ≡ None
at_v6 text none None e = refl
at_v6 text none (Some (parts, [])) e =
    let a : SocketAddrV6 = record { ip = record { segments = parts.0 }; port = parts.1; flowinfo = parts.2; scope_id = parts.3 } in
    let (front, split, is) = read_socket_v6_sound text [] a e in
    absurd (none a (subst (λ t. IsSocketV6Text t a) (sym (split ∙ append-nil front)) is))
at_v6 text none (Some (parts, c ∷ rest)) e = rw (ne_eqb (length (c ∷ rest)) 0 (omega arith))

pub address_of-spelled : (text : List ℕ) (a : SocketAddr) → IsSocketText text a → address_of text ≡ underlay_of a
unfolding address_of
address_of-spelled text (socket.V4 a) h = rw (read_socket_v4_complete text a h)
address_of-spelled text (socket.V6 a) h =
    rw (at_v4 text (λ b k. IsSocketV4Text-not_v6 text b a k h) _ refl, read_socket_v6_complete text a h)

pub address_of-none : (text : List ℕ) → ((a : SocketAddr) → IsSocketText text a → ⊥) → address_of text ≡ None
unfolding address_of
address_of-none text none =
    rw (at_v4 text (λ a h. none (socket.V4 a) h) _ refl, at_v6 text (λ a h. none (socket.V6 a) h) _ refl)
