use Rattle.std.proofs.Common.{◌≡◌, is_err, false}
use Rattle.run_pipes.proofs.FillingLemmas.{put_more}
use Rattle.run_pipes.proofs.OkLemmas.{of_no_err}
use Rattle.run_pipes.proofs.filling.fill_one.Goals as goal

pub loop-put-preserved : goal.loop-put-preserved
loop-put-preserved g c =
    let pushed : is_err c.offer.result ≡ false = cc in
    let more = of_no_err _ _ c.offer.result pushed c.offer.ensures.step in
    put_more c.loop-put.put c.args.end c.loop-put.end c.offer.new.self c.in_ok-buffer.buffer more c.loop-put.invariant
