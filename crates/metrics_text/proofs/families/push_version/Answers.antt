use Rattle.std.proofs.Common.{◌≡◌, ◌++◌, codes, rules}
use Rattle.std.specs.Prelude.{OnOk}
use Rattle.metrics_text.specs.Families.{version_sample}
use Rattle.metrics_text.specs.Samples.{escaped}
use Rattle.metrics_text.proofs.Joined.{last_part, three_parts}
use Rattle.metrics_text.proofs.families.push_version.Goals as goal

pub returns : goal.returns
unfolding version_sample
returns c =
    let value : c.push_escaped.new.text.items ≡ c.extend_from_slice.new.self.items ++ escaped c.args.version.now = search rules in
    let last : OnOk c.extend_from_slice-2.result (c.extend_from_slice-2.new.self.items ≡ c.push_escaped.new.text.items ++ codes "\"} 1\n") =
    last_part c.extend_from_slice-2.result c.push_escaped.new.text.items c.extend_from_slice-2.new.self.items (codes "\"} 1\n") c.extend_from_slice-2.ensures.items in
    three_parts c.extend_from_slice-2.result c.args.text.now.items c.extend_from_slice.new.self.items c.push_escaped.new.text.items c.extend_from_slice-2.new.self.items (codes "yewpleat_build_info{version=\"") (escaped c.args.version.now) (codes "\"} 1\n")
    c.in_ok-extend_from_slice.ensures.items value last
