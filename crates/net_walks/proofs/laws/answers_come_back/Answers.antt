use Rattle.scmp_answer.specs.Reply.{local_address}
use Rattle.net_laws.specs.Net.{router_of}
use Rattle.net_walks.proofs.HomeLemmas.{from_home}
use Rattle.net_walks.proofs.ReturnLemmas.{comes_back}
use Rattle.net_walks.proofs.laws.answers_come_back.Goals as goal

pub returns : goal.returns
returns c net w moment a config problem agrees route stands at_x under may =
    let here = from_home config in
    comes_back net w moment a (router_of config) (local_address config) problem route stands at_x under here.home agrees may here.can
