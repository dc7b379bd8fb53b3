use Rattle.std.proofs.Common.{◌≡◌, drop}
use Rattle.order_laws.specs.Item.{is_one}
use Rattle.replay_laws.specs.Place.{in_fates}
use Rattle.replay_state.specs.Sent.{first}
use Rattle.pipe_model.proofs.place.find_in_fates.Given as goal

abbrev pub invariant-loop-fate : goal.invariant-loop-fate
invariant-loop-fate l = first (in_fates (is_one l.link l.number) (drop l.fate-index l.fate-items)) ≡ first (in_fates (is_one l.link l.number) l.fates)
