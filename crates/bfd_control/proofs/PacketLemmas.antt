-- A control packet: what is read of bytes is spelled by them, and what is spelled is read.
use Rattle.std.proofs.Common.{◌≡◌, ◌≤◌, ◌<◌, ◌==◌, ◌+◌, ◌*◌, ◌/◌, ◌%◌, ◌^◌, ℕ, zero, suc, Bool, true, false, List, [], ◌∷◌, ◌++◌, length, slice_index, get_or, drop, refl, sym, ap, subst, ◌∙◌, arith, inl, inr}
use Rattle.std.proofs.lemmas.Bool.{cases_eq, eq-eqb, ne_eqb}
use Rattle.std.proofs.lemmas.List.{get_or-drop}
use Rattle.byteorder.specs.Endian.{big_bytes}
use Rattle.byteorder.specs.Numbers.{big_from-lt}
use Rattle.field_rows.specs.Row.{field, row}
use Rattle.field_rows.specs.Place.{IsBytes, StandsAt, number_at}
use Rattle.field_rows.proofs.Numbers.{bytes_of_number, number_of_bytes}
use Rattle.field_rows.proofs.Rows.{StandsAt-back, StandsAt-front, StandsAt-next, cell_stands}
use Rattle.field_rows.proofs.Unique.{byte_of}
use Rattle.bfd_control.specs.declared.state.State.{State}
use Rattle.bfd_control.specs.declared.state.State.TheVariants.{AdminDown, Down, Init, Up}
use Rattle.bfd_control.specs.ControlPacket.{ControlPacket, SpellsControlPacket, bit, control_packet_of, control_text}
use Rattle.bfd_control.specs.Session.{number_of, state_of}

-- ---- states and flags

pub state_number : (s : State) → state_of (number_of s) ≡ s
state_number AdminDown = refl
state_number Down = refl
state_number Init = refl
state_number Up = refl

pub state_fits : (s : State) → number_of s < 4
state_fits AdminDown = omega arith
state_fits Down = omega arith
state_fits Init = omega arith
state_fits Up = omega arith

number_state : (n : ℕ) → n < 4 → number_of (state_of n) ≡ n
number_state zero below = refl
number_state (suc zero) below = refl
number_state (suc (suc zero)) below = refl
number_state (suc (suc (suc zero))) below = refl
number_state (suc (suc (suc (suc n)))) below = absurd (omega arith)

bit_of : (n : ℕ) → bit (n % 2 == 1) ≡ n % 2
bit_of n =
    elim (cases_eq (n % 2) 1) [
      | inl one ↦ rw (eq-eqb (n % 2) 1 one, one) refl
      | inr other ↦ let none : n % 2 ≡ 0 = omega arith in rw (ne_eqb (n % 2) 1 other, none) refl
    ]

flag_back : (b : Bool) (n : ℕ) → n ≡ bit b → (n == 1) ≡ b
flag_back false n is = ap (λ (k : ℕ). k == 1) is
flag_back true n is = ap (λ (k : ℕ). k == 1) is

pub bit_fits : (b : Bool) → bit b < 2
bit_fits false = omega arith
bit_fits true = omega arith

-- ---- read and spelled

number-lt : (bytes : List ℕ) (at n : ℕ) → IsBytes bytes → number_at bytes at n < 256 ^ n
number-lt bytes at n are = big_from-lt 0 n (drop at bytes) (λ k. rw (get_or-drop at bytes k 0) (are (at + k)))

-- the state and the six flags of a byte
bits_of : (b : ℕ) → b / 64 * 64 + (b / 32 % 2 * 32 + (b / 16 % 2 * 16 + (b / 8 % 2 * 8 + (b / 4 % 2 * 4 + (b / 2 % 2 * 2 + b / 1 % 2))))) ≡ b
bits_of b =
    let d : b / 2 ≡ b / 4 * 2 + b / 2 % 2 = omega arith in
    let a : b / 4 ≡ b / 8 * 2 + b / 4 % 2 = omega arith in
    let c : b / 8 ≡ b / 16 * 2 + b / 8 % 2 = omega arith in
    let f : b / 16 ≡ b / 32 * 2 + b / 16 % 2 = omega arith in
    let p : b / 32 ≡ b / 64 * 2 + b / 32 % 2 = omega arith in
    let m : b ≡ b / 2 * 2 + b / 1 % 2 = omega arith in
    omega (arith, d, a, c, f, p, m)

pub packet_spelled : (bytes : List ℕ) → IsBytes bytes → 24 ≤ length bytes → SpellsControlPacket bytes (control_packet_of bytes)
packet_spelled bytes are inside =
    let q = control_packet_of bytes in
    let b = slice_index bytes 1 in
    let b0-fits : slice_index bytes 0 < 256 = are 0 in
    let b1-fits : b < 256 = are 1 in
    let b2-fits : slice_index bytes 2 < 256 = are 2 in
    let b3-fits : slice_index bytes 3 < 256 = are 3 in
    let state-is : number_of q.state ≡ b / 64 = number_state (b / 64) (omega arith) in
    let poll-is : bit q.poll ≡ b / 32 % 2 = bit_of (b / 32) in
    let final-is : bit q.final ≡ b / 16 % 2 = bit_of (b / 16) in
    let independent-is : bit q.control_plane_independent ≡ b / 8 % 2 = bit_of (b / 8) in
    let authentication-is : bit q.authentication_present ≡ b / 4 % 2 = bit_of (b / 4) in
    let demand-is : bit q.demand ≡ b / 2 % 2 = bit_of (b / 2) in
    let multipoint-is : bit q.multipoint ≡ b / 1 % 2 = bit_of (b / 1) in
    let flags : number_of q.state * 64 + (bit q.poll * 32 + (bit q.final * 16 + (bit q.control_plane_independent * 8 + (bit q.authentication_present * 4 + (bit q.demand * 2 + bit q.multipoint))))) ≡ b =
    omega (arith, bits_of b, state-is, poll-is, final-is, independent-is, authentication-is, demand-is, multipoint-is) in
    let n4 : number_at bytes 4 4 < 4294967296 = number-lt bytes 4 4 are in
    let n8 : number_at bytes 8 4 < 4294967296 = number-lt bytes 8 4 are in
    let n12 : number_at bytes 12 4 < 4294967296 = number-lt bytes 12 4 are in
    let n16 : number_at bytes 16 4 < 4294967296 = number-lt bytes 16 4 are in
    let n20 : number_at bytes 20 4 < 4294967296 = number-lt bytes 20 4 are in
    let r0 : StandsAt bytes 0 (row (field 3 q.version ∷ field 5 q.diagnostic ∷ [])) = cell_stands bytes _ 0 b0-fits (omega arith) (omega arith) in
    let r1 : StandsAt bytes 1 (row (field 2 (number_of q.state) ∷ field 1 (bit q.poll) ∷ field 1 (bit q.final) ∷ field 1 (bit q.control_plane_independent)
    ∷ field 1 (bit q.authentication_present) ∷ field 1 (bit q.demand) ∷ field 1 (bit q.multipoint) ∷ [])) = cell_stands bytes _ 1 b1-fits flags (omega arith) in
    let r2 : StandsAt bytes 2 (row (field 8 q.detect_multiplier ∷ [])) = cell_stands bytes _ 2 b2-fits refl (omega arith) in
    let r3 : StandsAt bytes 3 (row (field 8 q.packet_length ∷ [])) = cell_stands bytes _ 3 b3-fits refl (omega arith) in
    let r4 : StandsAt bytes 4 (big_bytes 4 q.my_discriminator) = bytes_of_number bytes 4 4 are (omega arith) in
    let r8 : StandsAt bytes 8 (big_bytes 4 q.your_discriminator) = bytes_of_number bytes 8 4 are (omega arith) in
    let r12 : StandsAt bytes 12 (big_bytes 4 q.desired_min_tx) = bytes_of_number bytes 12 4 are (omega arith) in
    let r16 : StandsAt bytes 16 (big_bytes 4 q.required_min_rx) = bytes_of_number bytes 16 4 are (omega arith) in
    let r20 : StandsAt bytes 20 (big_bytes 4 q.required_min_echo_rx) = bytes_of_number bytes 20 4 are (omega arith) in
    let end : StandsAt bytes 24 [] = record { read = refl } in
    let from16 = StandsAt-next bytes 16 20 _ _ r16 (StandsAt-next bytes 20 24 _ _ r20 end (omega arith)) (omega arith) in
    let from8 = StandsAt-next bytes 8 12 _ _ r8 (StandsAt-next bytes 12 16 _ _ r12 from16 (omega arith)) (omega arith) in
    let from3 = StandsAt-next bytes 3 4 _ _ r3 (StandsAt-next bytes 4 8 _ _ r4 from8 (omega arith)) (omega arith) in
    let from1 = StandsAt-next bytes 1 2 _ _ r1 (StandsAt-next bytes 2 3 _ _ r2 from3 (omega arith)) (omega arith) in
    record {
      text = StandsAt-next bytes 0 1 _ _ r0 from1 (omega arith);
      fits = (
        (omega arith, (omega arith, tt)),
        (
          (omega (arith, state-is), (bit_fits q.poll, (bit_fits q.final, (bit_fits q.control_plane_independent, (bit_fits q.authentication_present, (bit_fits q.demand, (bit_fits q.multipoint, tt))))))),
          ((b2-fits, tt), ((b3-fits, tt), ((n4, tt), ((n8, tt), ((n12, tt), ((n16, tt), ((n20, tt), tt))))))),
        ),
      );
    }

-- ---- spelled and read

-- packets with the same fields
same_packet : (p q : ControlPacket) → p.version ≡ q.version → p.diagnostic ≡ q.diagnostic → p.state ≡ q.state → p.poll ≡ q.poll → p.final ≡ q.final → p.control_plane_independent ≡ q.control_plane_independent → p.authentication_present ≡ q.authentication_present → p.demand ≡ q.demand
    → p.multipoint ≡ q.multipoint → p.detect_multiplier ≡ q.detect_multiplier → p.packet_length ≡ q.packet_length → p.my_discriminator ≡ q.my_discriminator → p.your_discriminator ≡ q.your_discriminator → p.desired_min_tx ≡ q.desired_min_tx → p.required_min_rx ≡ q.required_min_rx → p.required_min_echo_rx ≡ q.required_min_echo_rx → p ≡ q
same_packet p q e0 e1 e2 e3 e4 e5 e6 e7 e8 e9 e10 e11 e12 e13 e14 e15 =
    ap (λ (x : ℕ). record p { version = x }) e0
    ∙ ap (λ (x : ℕ). record p { version = q.version; diagnostic = x }) e1
    ∙ ap (λ (x : State). record p { version = q.version; diagnostic = q.diagnostic; state = x }) e2
    ∙ ap (λ (x : Bool). record p { version = q.version; diagnostic = q.diagnostic; state = q.state; poll = x }) e3
    ∙ ap (λ (x : Bool). record p { version = q.version; diagnostic = q.diagnostic; state = q.state; poll = q.poll; final = x }) e4
    ∙ ap (λ (x : Bool). record p { version = q.version; diagnostic = q.diagnostic; state = q.state; poll = q.poll; final = q.final; control_plane_independent = x }) e5
    ∙ ap (λ (x : Bool). record p { version = q.version; diagnostic = q.diagnostic; state = q.state; poll = q.poll; final = q.final; control_plane_independent = q.control_plane_independent; authentication_present = x }) e6
    ∙ ap (λ (x : Bool). record p { version = q.version; diagnostic = q.diagnostic; state = q.state; poll = q.poll; final = q.final; control_plane_independent = q.control_plane_independent; authentication_present = q.authentication_present; demand = x }) e7
    ∙ ap (λ (x : Bool). record q { multipoint = x; detect_multiplier = p.detect_multiplier; packet_length = p.packet_length; my_discriminator = p.my_discriminator; your_discriminator = p.your_discriminator; desired_min_tx = p.desired_min_tx; required_min_rx = p.required_min_rx; required_min_echo_rx = p.required_min_echo_rx }) e8
    ∙ ap (λ (x : ℕ). record q { detect_multiplier = x; packet_length = p.packet_length; my_discriminator = p.my_discriminator; your_discriminator = p.your_discriminator; desired_min_tx = p.desired_min_tx; required_min_rx = p.required_min_rx; required_min_echo_rx = p.required_min_echo_rx }) e9
    ∙ ap (λ (x : ℕ). record q { packet_length = x; my_discriminator = p.my_discriminator; your_discriminator = p.your_discriminator; desired_min_tx = p.desired_min_tx; required_min_rx = p.required_min_rx; required_min_echo_rx = p.required_min_echo_rx }) e10
    ∙ ap (λ (x : ℕ). record q { my_discriminator = x; your_discriminator = p.your_discriminator; desired_min_tx = p.desired_min_tx; required_min_rx = p.required_min_rx; required_min_echo_rx = p.required_min_echo_rx }) e11
    ∙ ap (λ (x : ℕ). record q { your_discriminator = x; desired_min_tx = p.desired_min_tx; required_min_rx = p.required_min_rx; required_min_echo_rx = p.required_min_echo_rx }) e12
    ∙ ap (λ (x : ℕ). record q { desired_min_tx = x; required_min_rx = p.required_min_rx; required_min_echo_rx = p.required_min_echo_rx }) e13
    ∙ ap (λ (x : ℕ). record q { required_min_rx = x; required_min_echo_rx = p.required_min_echo_rx }) e14
    ∙ ap (λ (x : ℕ). record q { required_min_echo_rx = x }) e15

-- the number of a row of whole bytes that stands at a place, where other text follows it
number_back : (bytes : List ℕ) (at n x : ℕ) (rest : List ℕ) → x < 256 ^ n → StandsAt bytes at (big_bytes n x ++ rest) → number_at bytes at n ≡ x
number_back bytes at n x rest below stands = number_of_bytes bytes at n x below (StandsAt-front bytes at (big_bytes n x) rest stands)

-- what stands after a text of known length
stands_after : (bytes : List ℕ) (at n : ℕ) (a b : List ℕ) → StandsAt bytes at (a ++ b) → at + length a ≡ n → StandsAt bytes n b
stands_after bytes at n a b stands place = subst (λ (k : ℕ). StandsAt bytes k b) place (StandsAt-back bytes at a b stands)

pub packet_only : (bytes : List ℕ) (p : ControlPacket) → SpellsControlPacket bytes p → p ≡ control_packet_of bytes
packet_only bytes p spells =
    let text = control_text p in
    let fits = spells.fits in
    let stands : StandsAt bytes 0 text = spells.text in
    let s-fits : number_of p.state < 4 = state_fits p.state in
    let p-fits : bit p.poll < 2 = bit_fits p.poll in
    let f-fits : bit p.final < 2 = bit_fits p.final in
    let c-fits : bit p.control_plane_independent < 2 = bit_fits p.control_plane_independent in
    let a-fits : bit p.authentication_present < 2 = bit_fits p.authentication_present in
    let d-fits : bit p.demand < 2 = bit_fits p.demand in
    let m-fits : bit p.multipoint < 2 = bit_fits p.multipoint in
    let version-fits : p.version < 8 = fits.0.0 in
    let diagnostic-fits : p.diagnostic < 32 = fits.0.1.0 in
    let multiplier-fits : p.detect_multiplier < 256 = fits.1.1.0.0 in
    let length-fits : p.packet_length < 256 = fits.1.1.1.0.0 in
    let b0 : slice_index bytes 0 ≡ get_or text 0 0 = byte_of bytes 0 0 text stands (omega arith) in
    let b1 : slice_index bytes 1 ≡ get_or text 1 0 = byte_of bytes 0 1 text stands (omega arith) in
    let b2 : slice_index bytes 2 ≡ get_or text 2 0 = byte_of bytes 0 2 text stands (omega arith) in
    let b3 : slice_index bytes 3 ≡ get_or text 3 0 = byte_of bytes 0 3 text stands (omega arith) in
    let b = slice_index bytes 1 in
    let b-is : b ≡ number_of p.state * 64 + (bit p.poll * 32 + (bit p.final * 16 + (bit p.control_plane_independent * 8 + (bit p.authentication_present * 4 + (bit p.demand * 2 + bit p.multipoint))))) = omega arith in
    let state : number_of p.state ≡ b / 64 = omega (arith, b-is, p-fits, f-fits, c-fits, a-fits, d-fits, m-fits) in
    let poll : b / 32 % 2 ≡ bit p.poll = omega (arith, b-is, p-fits, f-fits, c-fits, a-fits, d-fits, m-fits) in
    let final : b / 16 % 2 ≡ bit p.final = omega (arith, b-is, p-fits, f-fits, c-fits, a-fits, d-fits, m-fits) in
    let independent : b / 8 % 2 ≡ bit p.control_plane_independent = omega (arith, b-is, p-fits, f-fits, c-fits, a-fits, d-fits, m-fits) in
    let authentication : b / 4 % 2 ≡ bit p.authentication_present = omega (arith, b-is, p-fits, f-fits, c-fits, a-fits, d-fits, m-fits) in
    let demand : b / 2 % 2 ≡ bit p.demand = omega (arith, b-is, p-fits, f-fits, c-fits, a-fits, d-fits, m-fits) in
    let multipoint : b / 1 % 2 ≡ bit p.multipoint = omega (arith, b-is, p-fits, f-fits, c-fits, a-fits, d-fits, m-fits) in
    let front = get_or text 0 0 ∷ get_or text 1 0 ∷ get_or text 2 0 ∷ get_or text 3 0 ∷ [] in
    let from20-text = big_bytes 4 p.required_min_echo_rx ++ [] in
    let from16-text = big_bytes 4 p.required_min_rx ++ from20-text in
    let from12-text = big_bytes 4 p.desired_min_tx ++ from16-text in
    let from8-text = big_bytes 4 p.your_discriminator ++ from12-text in
    let from4-text = big_bytes 4 p.my_discriminator ++ from8-text in
    let from4 : StandsAt bytes 4 from4-text = stands_after bytes 0 4 front from4-text stands refl in
    let from8 : StandsAt bytes 8 from8-text = stands_after bytes 4 8 (big_bytes 4 p.my_discriminator) from8-text from4 refl in
    let from12 : StandsAt bytes 12 from12-text = stands_after bytes 8 12 (big_bytes 4 p.your_discriminator) from12-text from8 refl in
    let from16 : StandsAt bytes 16 from16-text = stands_after bytes 12 16 (big_bytes 4 p.desired_min_tx) from16-text from12 refl in
    let from20 : StandsAt bytes 20 from20-text = stands_after bytes 16 20 (big_bytes 4 p.required_min_rx) from20-text from16 refl in
    same_packet p (control_packet_of bytes) (omega arith) (omega arith) (sym (state_number p.state) ∙ ap state_of state)
    (sym (flag_back p.poll (b / 32 % 2) poll)) (sym (flag_back p.final (b / 16 % 2) final)) (sym (flag_back p.control_plane_independent (b / 8 % 2) independent))
    (sym (flag_back p.authentication_present (b / 4 % 2) authentication)) (sym (flag_back p.demand (b / 2 % 2) demand)) (sym (flag_back p.multipoint (b / 1 % 2) multipoint))
    (omega arith) (omega arith)
    (sym (number_back bytes 4 4 p.my_discriminator from8-text fits.1.1.1.1.0.0 from4))
    (sym (number_back bytes 8 4 p.your_discriminator from12-text fits.1.1.1.1.1.0.0 from8))
    (sym (number_back bytes 12 4 p.desired_min_tx from16-text fits.1.1.1.1.1.1.0.0 from12))
    (sym (number_back bytes 16 4 p.required_min_rx from20-text fits.1.1.1.1.1.1.1.0.0 from16))
    (sym (number_back bytes 20 4 p.required_min_echo_rx [] fits.1.1.1.1.1.1.1.1.0.0 from20))
