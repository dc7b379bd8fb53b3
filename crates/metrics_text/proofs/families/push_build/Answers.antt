use Rattle.std.proofs.Common.{codes}
use Rattle.metrics_text.specs.Families.{build_family, version_sample}
use Rattle.metrics_text.specs.Samples.{heading}
use Rattle.metrics_text.proofs.Joined.{two_parts}
use Rattle.metrics_text.proofs.families.push_build.Goals as goal

pub returns : goal.returns
unfolding build_family
returns c =
    two_parts c.push_version.result c.args.text.now.items c.push_heading.new.text.items c.push_version.new.text.items (heading (codes "yewpleat_build_info") (codes "The version that runs; its value is 1.") (codes "gauge")) (version_sample c.args.version.now)
    c.in_ok-push_heading.ensures c.push_version.ensures
