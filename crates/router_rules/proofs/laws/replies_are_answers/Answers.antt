use Rattle.std.proofs.Common.{ap}
use Rattle.router_rules.specs.Rules.{by_outcome}
use Rattle.router_rules.proofs.ReplyLemmas.{scmp_answers}
use Rattle.router_rules.proofs.laws.replies_are_answers.Goals as goal

pub returns : goal.returns
returns c = λ r. record {
  by_bfd = λ d p own there kind listed named. ap (by_outcome r d.interface) (c.control_packets_are_answered.ensures r d.interface d.source d.moment d.bytes p own there kind listed named);
  by_scmp = λ d p other. ap (by_outcome r d.interface) (scmp_answers r d.interface d.source d.moment d.bytes p other);
}
