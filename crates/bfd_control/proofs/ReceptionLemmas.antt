-- The test on reception says what the standard's tests say.
use Rattle.std.proofs.Common.{◌≡◌, ◌≢◌, ◌≤◌, ◌⊎◌, ◌==◌, ◌&&◌, not, ℕ, Bool, true, false, length, refl, sym, ◌∙◌, inl, inr}
use Rattle.std.specs.Bool.{Decides}
use Rattle.std.specs.Prelude.{nat_le}
use Rattle.std.proofs.lemmas.Bool.{cases_eq, cond-false, cond-true, eq-eqb, eqb-true, le-leb, leb-true, ne_eqb, not-true, not_from_false}
use Rattle.std.proofs.lemmas.Bool.Decides.{Decides-and, Decides-eqb, Decides-not}
use Rattle.bfd_control.specs.declared.state.State.{State}
use Rattle.bfd_control.specs.declared.state.State.TheVariants.{AdminDown, Down, Init, Up}
use Rattle.bfd_control.specs.ControlPacket.{ControlPacket, control_packet_of}
use Rattle.bfd_control.specs.Laws.{ReceptionTests}
use Rattle.bfd_control.specs.Reception.{is_for, is_sound, is_taken}
use Rattle.bfd_control.specs.Session.{is_down}

clear : (b : Bool) → Decides (not b) (b ≡ false)
clear b = (not-true b, not_from_false b)

at_most : (a b : ℕ) → Decides (nat_le a b) (a ≤ b)
at_most a b = (leb-true a b, le-leb a b)

some : (n : ℕ) → Decides (not (n == 0)) (n ≢ 0)
some n = Decides-not (n == 0) (Decides-eqb n 0)

is_down_so : (s : State) → Decides (is_down s) ((s ≡ Down) ⊎ (s ≡ AdminDown))
is_down_so AdminDown = (λ is. inr refl, λ is. refl)
is_down_so Down = (λ is. inl refl, λ is. refl)
is_down_so Init = (λ is. absurd cc, λ is. elim is [ inl e ↦ absurd cc | inr e ↦ absurd cc ])
is_down_so Up = (λ is. absurd cc, λ is. elim is [ inl e ↦ absurd cc | inr e ↦ absurd cc ])

abbrev IsFor : ℕ → ControlPacket → Type 0
IsFor own p = (p.your_discriminator ≢ 0 → p.your_discriminator ≡ own) × (p.your_discriminator ≡ 0 → (p.state ≡ Down) ⊎ (p.state ≡ AdminDown))

for_so : (own : ℕ) (p : ControlPacket) → Decides (is_for own p) (IsFor own p)
for_so own p =
    let yours = p.your_discriminator in
    elim (cases_eq yours 0) [
      | inl none ↦
          let e : (yours == 0) ≡ true = eq-eqb yours 0 none in (
            λ is. (λ other. absurd (other none), λ zero. (is_down_so p.state).0 (sym (cond-true (yours == 0) (is_down p.state) (yours == own) e) ∙ is)),
            λ h. cond-true (yours == 0) (is_down p.state) (yours == own) e ∙ (is_down_so p.state).1 (h.1 none),
          )
      | inr other ↦
          let e : (yours == 0) ≡ false = ne_eqb yours 0 other in (
            λ is. (λ named. eqb-true yours own (sym (cond-false (yours == 0) (is_down p.state) (yours == own) e) ∙ is), λ none. absurd (other none)),
            λ h. cond-false (yours == 0) (is_down p.state) (yours == own) e ∙ eq-eqb yours own (h.0 other),
          )
    ]

abbrev IsSound : ℕ → ControlPacket → Type 0
IsSound len p =
    ((((((p.version ≡ 1) × (24 ≤ p.packet_length)) × (p.packet_length ≤ len)) × (p.authentication_present ≡ false)) × (p.detect_multiplier ≢ 0)) × (p.multipoint ≡ false)) × (p.my_discriminator ≢ 0)

sound_so : (len : ℕ) (p : ControlPacket) → Decides (is_sound len p) (IsSound len p)
sound_so len p =
    let d1 = Decides-and _ _ (Decides-eqb p.version 1) (at_most 24 p.packet_length) in
    let d2 = Decides-and _ _ d1 (at_most p.packet_length len) in
    let d3 = Decides-and _ _ d2 (clear p.authentication_present) in
    let d4 = Decides-and _ _ d3 (some p.detect_multiplier) in
    let d5 = Decides-and _ _ d4 (clear p.multipoint) in
    Decides-and _ _ d5 (some p.my_discriminator)

pub tests_so : ReceptionTests
tests_so own bytes =
    let p = control_packet_of bytes in
    let len = length bytes in
    let all : Decides (is_taken own bytes) ((24 ≤ len) × (IsSound len p × IsFor own p)) =
    Decides-and (nat_le 24 len) (is_sound len p && is_for own p) (at_most 24 len) (Decides-and (is_sound len p) (is_for own p) (sound_so len p) (for_so own p)) in (
      λ is.
          let f = all.0 is in
          let s = f.1.0 in
          record {
            long_enough = f.0;
            version = s.0.0.0.0.0.0;
            covers = s.0.0.0.0.0.1;
            inside = s.0.0.0.0.1;
            not_authenticated = s.0.0.0.1;
            multiplier = s.0.0.1;
            one_receiver = s.0.1;
            sender = s.1;
            receiver = f.1.1.0;
            begins = f.1.1.1;
          },
      λ h.
          all.1 (
            h.long_enough,
            (((((((h.version, h.covers), h.inside), h.not_authenticated), h.multiplier), h.one_receiver), h.sender), (h.receiver, h.begins)),
          ),
    )
