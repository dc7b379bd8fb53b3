use Rattle.std.proofs.Common.{rules, true}
use Rattle.hop_check.proofs.BeaconingLemmas.{mac_of_timestamp}
use Rattle.path_fields.specs.Fields.{hop_field}
use Rattle.hop_check.proofs.beaconing.write_mac.Goals as goal

pub returns-clause-mac : goal.returns-clause-mac
returns-clause-mac c info same =
    mac_of_timestamp c.args.key.now c.hop_mac-mac.result c.args.segment_id
    (record { reserved_flags = 0; along = true; reserved = 0; segment_id = c.args.segment_id; timestamp = c.args.timestamp })
    info (hop_field c.args.hop.now) c.hop_mac-mac.ensures.mac same

pub returns-clause-others : goal.returns-clause-others
returns-clause-others c = search rules
