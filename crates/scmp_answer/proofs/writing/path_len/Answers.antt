use Rattle.std.proofs.Common.{arith}
use Rattle.scmp_answer.proofs.writing.path_len.Goals as goal

pub returns-clause-text : goal.returns-clause-text
returns-clause-text c =
    let path = c.args.path.now in
    omega (arith, c.path_is_lawful.ensures.len path, path.has_infos, path.has_hops, c.len.ensures, c.len-2.ensures)
