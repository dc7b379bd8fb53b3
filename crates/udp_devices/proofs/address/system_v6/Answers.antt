use Rattle.std.proofs.Common.{◌∙◌, ap}
use Rattle.std.specs.Net.Addr.{octets_of}
use Rattle.udp_devices.proofs.Octets.{octets_back}
use Rattle.udp_devices.proofs.address.system_v6.Goals as goal

pub returns : goal.returns
returns c = ap octets_of c.from_octets.ensures ∙ octets_back 8 c.args.bytes.now c.told-bytes c.fits-bytes
