-- A router answers from an IP address of its AS.
use Rattle.std.proofs.Common.{◌≡◌, ◌⊎◌, true, length, refl, inl, inr, arith}
use Rattle.std.proofs.lemmas.Bool.{eqb-true}
use Rattle.process_packet.specs.Underlay.{is_whole}
use Rattle.process_packet.specs.declared.config.Config.{Config}
use Rattle.process_packet.specs.declared.underlay.Ip.{Ip}
use Rattle.process_packet.specs.declared.underlay.Ip.TheVariants.{V4, V6}
use Rattle.scmp_answer.specs.Reply.{ip_bytes, local_address}
use Rattle.net_laws.specs.LawfulStart.{IsIpHost}
use Rattle.net_walks.specs.Returns.{CanAnswer, RoutersAnswerFromHome}

bytes_of : (ip : Ip) → is_whole ip ≡ true → (length (ip_bytes ip) ≡ 4) ⊎ (length (ip_bytes ip) ≡ 16)
bytes_of (V4 a) is = inl (eqb-true (length a) 4 is)
bytes_of (V6 a) is = inr (eqb-true (length a) 16 is)

can_by : (c : Config) → (length (ip_bytes c.internal.ip) ≡ 4) ⊎ (length (ip_bytes c.internal.ip) ≡ 16) → CanAnswer (local_address c)
can_by c (inl four) =
    let isd = c.isd_fits in
    let autonomous_system = c.autonomous_system_fits in
    record { address = (((omega arith, tt), ((omega arith, tt), tt)), omega arith); ip = IsIpHost.ip_4 refl (omega arith) }
can_by c (inr sixteen) =
    let isd = c.isd_fits in
    let autonomous_system = c.autonomous_system_fits in
    record { address = (((omega arith, tt), ((omega arith, tt), tt)), omega arith); ip = IsIpHost.ip_6 refl (omega arith) }

pub from_home : RoutersAnswerFromHome
from_home c = record { home = record { isd = refl; autonomous_system = refl }; can = can_by c (bytes_of c.internal.ip c.internal_ip_is_whole) }
