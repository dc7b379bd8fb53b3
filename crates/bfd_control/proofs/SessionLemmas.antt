-- How sessions go, and what answers do to them: each state is looked at.
use Rattle.std.proofs.Common.{◌≡◌, ◌≢◌, ◌≤◌, ◌⊎◌, ℕ, zero, suc, refl, sym, ap, ◌∙◌, arith, inl, inr}
use Rattle.bfd_control.specs.declared.state.State.{State}
use Rattle.bfd_control.specs.declared.state.State.TheVariants.{AdminDown, Down, Init, Up}
use Rattle.bfd_control.specs.Laws.{AnswersBringUp, AnswersTellStates, SessionsGoSo}
use Rattle.bfd_control.specs.Session.{after_answer, after_answers, answered_state, next_state}

-- ---- one packet heard

neighbor_held_down : (own : State) → own ≢ AdminDown → next_state own AdminDown ≡ Down
neighbor_held_down AdminDown other = absurd (other refl)
neighbor_held_down Down other = refl
neighbor_held_down Init other = refl
neighbor_held_down Up other = refl

init_to_up : (heard : State) → (heard ≡ Init) ⊎ (heard ≡ Up) → next_state Init heard ≡ Up
init_to_up heard (inl is) = ap (next_state Init) is
init_to_up heard (inr is) = ap (next_state Init) is

up_stays : (heard : State) → (heard ≡ Init) ⊎ (heard ≡ Up) → next_state Up heard ≡ Up
up_stays heard (inl is) = ap (next_state Up) is
up_stays heard (inr is) = ap (next_state Up) is

pub go_so : SessionsGoSo
go_so = record {
  held_down = λ heard. refl;
  neighbor_held_down = neighbor_held_down;
  down_to_init = refl;
  down_to_up = refl;
  down_stays = refl;
  init_to_up = init_to_up;
  init_stays = refl;
  up_to_down = refl;
  up_stays = up_stays;
}

-- a session that isn't held down isn't afterwards
not_held_down : (own heard : State) → own ≢ AdminDown → next_state own heard ≢ AdminDown
not_held_down AdminDown heard other = absurd (other refl)
not_held_down Down AdminDown other = λ is. cc
not_held_down Down Down other = λ is. cc
not_held_down Down Init other = λ is. cc
not_held_down Down Up other = λ is. cc
not_held_down Init AdminDown other = λ is. cc
not_held_down Init Down other = λ is. cc
not_held_down Init Init other = λ is. cc
not_held_down Init Up other = λ is. cc
not_held_down Up AdminDown other = λ is. cc
not_held_down Up Down other = λ is. cc
not_held_down Up Init other = λ is. cc
not_held_down Up Up other = λ is. cc

-- ---- what an answer tells

begins : (received : State) → received ≢ Up → answered_state received ≡ next_state Down received
begins AdminDown other = refl
begins Down other = refl
begins Init other = refl
begins Up other = absurd (other refl)

goes_on : (own : State) → (own ≡ Init) ⊎ (own ≡ Up) → answered_state Up ≡ next_state own Up
goes_on own (inl is) = ap (λ (s : State). next_state s Up) (sym is)
goes_on own (inr is) = ap (λ (s : State). next_state s Up) (sym is)

pub tell_states : AnswersTellStates
tell_states = record { begins = begins; goes_on = goes_on }

-- ---- what the answers do

first_answer : (own : State) → own ≢ AdminDown → after_answer own ≡ Up
first_answer AdminDown other = absurd (other refl)
first_answer Down other = refl
first_answer Init other = refl
first_answer Up other = refl

stays_up : (n : ℕ) → after_answers n Up ≡ Up
stays_up zero = refl
stays_up (suc n) = ap after_answer (stays_up n)

-- the first answer, and then the others
first_and_others : (n : ℕ) (own : State) → after_answers (suc n) own ≡ after_answers n (after_answer own)
first_and_others zero own = refl
first_and_others (suc n) own = ap after_answer (first_and_others n own)

comes_up : (own : State) (n : ℕ) → own ≢ AdminDown → 1 ≤ n → after_answers n own ≡ Up
comes_up own zero other some = absurd (omega arith)
comes_up own (suc n) other some = first_and_others n own ∙ ap (after_answers n) (first_answer own other) ∙ stays_up n

pub bring_up : AnswersBringUp
bring_up = record {
  up = comes_up;
  late = λ own earlier n other some. comes_up (next_state own (answered_state earlier)) n (not_held_down own (answered_state earlier) other) some;
}
