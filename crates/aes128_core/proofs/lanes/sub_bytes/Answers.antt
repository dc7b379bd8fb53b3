use Rattle.std.proofs.Common.{ap, ◌∙◌, length}
use Rattle.std.proofs.lemmas.List.{length-map}
use Rattle.aes128_core.specs.Lanes.{coordinates_of, last_of}
use Rattle.aes128_core.proofs.SubstitutionLemmas.{s_box_of}
use Rattle.aes128_core.proofs.lanes.sub_bytes.Goals as goal

pub returns : goal.returns
returns c =
    s_box_of c.args.x _ _ c.fits-x.1
    (ap length c.last_substituted.ensures ∙ length-map c.coordinates.result last_of ∙ ap length c.coordinates.ensures ∙ length-map c.args.x coordinates_of ∙ c.fits-x.0)
    c.coordinates.ensures c.last_substituted.ensures
