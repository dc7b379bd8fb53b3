use Rattle.metrics_server.proofs.Heads.{no_room}
use Rattle.metrics_server.proofs.request.request_of.Goals as goal

pub returns-in-Err : goal.returns-in-Err
returns-in-Err c = no_room c.args.bytes.now c.in-Err.ensures.no_room
