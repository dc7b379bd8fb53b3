-- An answer is a control packet that the neighbour takes.
use Rattle.std.proofs.Common.{◌≡◌, ◌≢◌, ◌≤◌, ◌<◌, ℕ, Bool, List, [], ◌∷◌, subst, refl, arith}
use Rattle.std.proofs.Math.Nat.{le-max_right}
use Rattle.field_rows.specs.Row.{field, rows}
use Rattle.bfd_control.specs.declared.state.State.{State}
use Rattle.bfd_control.specs.declared.state.State.TheVariants.{AdminDown, Down, Init, Up}
use Rattle.bfd_control.specs.Answer.{answer, answer_text, min_tx}
use Rattle.bfd_control.specs.ControlPacket.{ControlPacket, SpellsControlPacket, bit, control_packet_of, control_text}
use Rattle.bfd_control.specs.Laws.{AnswersAreOrderly, AnswersAreTaken, PassesTests}
use Rattle.bfd_control.specs.Session.{answered_state, number_of}
use Rattle.bfd_control.proofs.PacketLemmas.{bit_fits, packet_only, packet_spelled, state_fits}
use Rattle.bfd_control.proofs.ReceptionLemmas.{tests_so}

-- ---- its text

-- by what of it changes from answer to answer
abbrev pub answer_rows : State → Bool → ℕ → ℕ → ℕ → List ℕ
answer_rows state final mine yours tx =
    rows (
    (field 3 1 ∷ field 5 0 ∷ [])
    ∷ (field 2 (number_of state) ∷ field 1 0 ∷ field 1 (bit final) ∷ field 1 0 ∷ field 1 0 ∷ field 1 0 ∷ field 1 0 ∷ [])
    ∷ (field 8 3 ∷ [])
    ∷ (field 8 24 ∷ [])
    ∷ (field 32 mine ∷ [])
    ∷ (field 32 yours ∷ [])
    ∷ (field 32 tx ∷ [])
    ∷ (field 32 200000 ∷ [])
    ∷ (field 32 0 ∷ [])
    ∷ [])

pub rows_are : (own : ℕ) (p : ControlPacket) (state : State) (final : Bool) (mine yours tx : ℕ) → state ≡ (answer own p).state → final ≡ (answer own p).final
    → mine ≡ (answer own p).my_discriminator → yours ≡ (answer own p).your_discriminator → tx ≡ (answer own p).desired_min_tx
    → answer_rows state final mine yours tx ≡ control_text (answer own p)
rows_are own p state final mine yours tx state-is final-is mine-is yours-is tx-is = rw (state-is, final-is, mine-is, yours-is, tx-is) refl

-- ---- a packet that is taken

min_tx_fits : (s : State) (neighbors : ℕ) → neighbors < 4294967296 → min_tx s neighbors < 4294967296
min_tx_fits AdminDown neighbors fits = grind arith
min_tx_fits Down neighbors fits = grind arith
min_tx_fits Init neighbors fits = grind arith
min_tx_fits Up neighbors fits = grind arith

seldom : (s : State) (neighbors : ℕ) → s ≢ Up → 1000000 ≤ min_tx s neighbors
seldom AdminDown neighbors other = le-max_right neighbors 1000000
seldom Down neighbors other = le-max_right neighbors 1000000
seldom Init neighbors other = le-max_right neighbors 1000000
seldom Up neighbors other = absurd (other refl)

pub orderly : AnswersAreOrderly
orderly own p = record {
  state_is = refl;
  ends_poll = refl;
  begins_none = refl;
  seldom = seldom (answered_state p.state) p.desired_min_tx;
}

-- by numbers that fit their fields
answer_spelled : (own : ℕ) (p : ControlPacket) → own < 4294967296 → p.my_discriminator < 4294967296 → p.desired_min_tx < 4294967296
    → SpellsControlPacket (control_text (answer own p)) (answer own p)
answer_spelled own p own-fits mine-fits tx-fits = record {
  fits = (
    (omega arith, (omega arith, tt)),
    (
      (state_fits (answered_state p.state), (omega arith, (bit_fits (answer own p).final, (omega arith, (omega arith, (omega arith, (omega arith, tt))))))),
      (
        (omega arith, tt),
        ((omega arith, tt), ((omega arith, tt), ((omega arith, tt), ((min_tx_fits (answered_state p.state) p.desired_min_tx tx-fits, tt), ((omega arith, tt), ((omega arith, tt), tt)))))),
      ),
    ),
  );
  text = record { read = refl };
}

pub taken_back : AnswersAreTaken
taken_back own bytes some own-fits are taken =
    let p = control_packet_of bytes in
    let text = answer_text own bytes in
    let passes : PassesTests own bytes p = (tests_so own bytes).0 taken in
    let read = packet_spelled bytes are passes.long_enough in
    let spelled : SpellsControlPacket text (answer own p) =
    answer_spelled own p own-fits read.fits.1.1.1.1.0.0 read.fits.1.1.1.1.1.1.0.0 in
    let same : answer own p ≡ control_packet_of text = packet_only text (answer own p) spelled in
    let passed : PassesTests p.my_discriminator text (answer own p) = record {
      long_enough = omega arith;
      version = refl;
      covers = omega arith;
      inside = omega arith;
      not_authenticated = refl;
      multiplier = λ is. absurd (omega arith);
      one_receiver = refl;
      sender = λ is. absurd (omega arith);
      receiver = λ named. refl;
      begins = λ none. absurd (passes.sender none);
    } in
    record {
      spelled = spelled;
      len = refl;
      taken = (tests_so p.my_discriminator text).1 (subst (λ (q : ControlPacket). PassesTests p.my_discriminator text q) same passed);
    }
