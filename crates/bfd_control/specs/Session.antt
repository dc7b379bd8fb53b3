-- The states of a BFD session, and how it goes from one to the next by what it hears (RFC 5880, 6.2 and 6.8.6).
use Rattle.std.specs.Prelude.{ℕ, zero, suc, Bool, true, false, ◌==◌, if◌then◌else◌}
use Rattle.bfd_control.specs.declared.state.State.{State}
use Rattle.bfd_control.specs.declared.state.State.TheVariants.{AdminDown, Down, Init, Up}

-- a state's number in a control packet, two bits
abbrev pub number_of : State → ℕ
number_of AdminDown = 0
number_of Down = 1
number_of Init = 2
number_of Up = 3

abbrev pub state_of : ℕ → State
state_of n = if n == 0 then AdminDown else if n == 1 then Down else if n == 2 then Init else Up

-- by an administrator or not
abbrev pub is_down : State → Bool
is_down AdminDown = true
is_down Down = true
is_down Init = false
is_down Up = false

-- The state of a session after it has heard one in the second state. One that is held down by an administrator hears
-- nothing.
abbrev pub next_state : State → State → State
next_state AdminDown heard = AdminDown
next_state Down AdminDown = Down
next_state Down Down = Init
next_state Down Init = Up
next_state Down Up = Down
next_state Init AdminDown = Down
next_state Init Down = Init
next_state Init Init = Up
next_state Init Up = Up
next_state Up AdminDown = Down
next_state Up Down = Down
next_state Up Init = Up
next_state Up Up = Up

-- the state that is told in answer to a packet with this one
abbrev pub answered_state : State → State
answered_state AdminDown = Down
answered_state Down = Init
answered_state Init = Up
answered_state Up = Up

-- the state of a session that was in this one and hears the answer to its packet
abbrev pub after_answer : State → State
after_answer own = next_state own (answered_state own)

-- and of one that has heard the answer to each of so many packets
abbrev pub after_answers : ℕ → State → State
after_answers zero own = own
after_answers (suc n) own = after_answer (after_answers n own)
