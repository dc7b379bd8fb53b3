-- How long a hop field is good for (draft-dekater-scion-dataplane, "Hop Field").
use Rattle.std.specs.Prelude.{ℕ, Bool, ◌+◌, ◌*◌, nat_lt}
use Rattle.scion_packet.specs.Path.{HopField, InfoField}

-- 337.5 seconds for each unit of its expiry and one more, in half seconds, and the last moment counts
abbrev pub is_expired : InfoField → HopField → ℕ → Bool
is_expired info hop now = nat_lt (2 * info.timestamp + 675 * (1 + hop.expiry)) (2 * now)
