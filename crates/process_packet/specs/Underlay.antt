-- The underlay: the longest datagram that it carries, and addresses that are the same.
use Rattle.std.specs.Prelude.{ℕ, Bool, false, ◌&&◌, ◌==◌, length}
use Rattle.std.specs.Str.{bytes_eq}
use Rattle.process_packet.specs.declared.underlay.Ip.{Ip}
use Rattle.process_packet.specs.declared.underlay.Ip.TheVariants.{V4, V6}
use Rattle.process_packet.specs.declared.underlay.Underlay.{Underlay}

-- in bytes, of any link and of the internal network
abbrev pub longest_datagram : ℕ
longest_datagram = 9216

-- four bytes in version 4, sixteen in version 6
abbrev pub is_whole : Ip → Bool
is_whole (V4 a) = length a == 4
is_whole (V6 a) = length a == 16

abbrev pub same_ip : Ip → Ip → Bool
same_ip (V4 a) (V4 b) = bytes_eq a b
same_ip (V4 a) (V6 b) = false
same_ip (V6 a) (V4 b) = false
same_ip (V6 a) (V6 b) = bytes_eq a b

abbrev pub same_underlay : Underlay → Underlay → Bool
same_underlay a b = a.port == b.port && same_ip a.ip b.ip
