use Rattle.hop_check.proofs.BlockLemmas.{input_is}
use Rattle.hop_check.proofs.mac.mac_halves.Goals as goal

pub returns : goal.returns
returns c =
    let info = c.args.info.now in
    let hop = c.args.hop.now in
    input_is _ _ _ _ _ info.segment_id info.timestamp hop.expiry hop.construction_ingress hop.construction_egress
    c.from.ensures c.from-2.ensures c.from-3.ensures c.from-4.ensures c.from-5.ensures
    info.segment_id_fits info.timestamp_fits hop.expiry_fits hop.construction_ingress_fits hop.construction_egress_fits
