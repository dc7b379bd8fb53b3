use Rattle.std.proofs.Common.{◌≡◌, ◌+◌, ◌<◌, ℕ, List, [], length, map, set, slice_index_or, slice_set, ap, ap₂, sym, subst, ◌∙◌, arith}
use Rattle.std.proofs.Math.Seq.{map-set_same}
use Rattle.std.proofs.lemmas.List.{get_or_read, length-map, map-set}
use Rattle.hop_check.proofs.BeaconingLemmas.{AreMadeBelow, chained_more, made_more}
use Rattle.hop_check.specs.Beaconing.{beta_at, without_mac}
use Rattle.hop_check.specs.Mac.{chain, mac6}
use Rattle.path_fields.specs.Fields.{hop_field}
use Rattle.path_fields.specs.declared.fields.Hop.{Hop}
use Rattle.scion_packet.specs.Path.{HopField}
use Rattle.hop_check.proofs.beaconing.beacon.Goals as goal

pub loop-k-preserved : goal.loop-k-preserved
loop-k-preserved c =
    let keys = c.args.keys.now in
    let beta = c.args.beta in
    let k = c.loop-k.k in
    let hops = c.loop-k.hops in
    let new : Hop = c.write_mac-chained.new.hop in
    let there : k < length hops = omega arith in
    let within : k < length (map hop_field hops) = rw length-map there in
    let with_key : k < length keys = omega arith in
    let written : map hop_field (slice_set hops k new) ≡ set (map hop_field hops) k (hop_field new) = map-set hop_field hops k new in
    let key : c.index-keys-k.result ≡ slice_index_or keys k [] = get_or_read keys k c.index-keys-k.result with_key c.index-keys-k.is [] in
    record {
      made = λ info same.
          subst (λ (hs : List HopField). AreMadeBelow (k + 1) keys beta info hs) (sym written)
          (made_more keys beta info (map hop_field hops) k (hop_field new) within
          (c.write_mac-chained.ensures.mac info same ∙ ap₂ (λ (x : List ℕ) (b : ℕ). mac6 x b info (hop_field new)) key c.loop-k.invariant.chained)
          (c.loop-k.invariant.made info same));
      chained =
          c.write_mac-chained.ensures.chained
          ∙ ap (λ (b : ℕ). chain b new.mac) c.loop-k.invariant.chained
          ∙ sym (chained_more beta (map hop_field hops) k (hop_field new) within)
          ∙ ap (λ (hs : List HopField). beta_at beta hs (k + 1)) (sym written);
      others = map-set_same without_mac hops k new c.index-hops-k.result c.write_mac-chained.ensures.others ∙ c.loop-k.invariant.others;
    }
