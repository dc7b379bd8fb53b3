-- Rows one after the other.
use Rattle.std.proofs.Common.{◌≡◌, List, [], ◌∷◌, ◌++◌, refl, sym, ap, ◌∙◌}
use Rattle.std.specs.Prelude.{IsErrAnd, Result, Ok, Err}
use Rattle.scion_packet.specs.Packet.{Packet}
use Rattle.process_packet.specs.declared.departure.Departure.{Departure}
use Rattle.process_packet.specs.declared.refusal.Refusal.{Refusal}
use Rattle.process_packet.specs.Departure.{TellsVerdict}
use Rattle.process_packet.specs.PacketView.{refused}
use Rattle.process_packet.specs.Decide.{ends_as, verdict_of}
use Rattle.process_packet.specs.Rows.{Verdict, RowResult, GoesOn, Ends, Row, then_rows}
use Rattle.process_packet.specs.PacketState.{PacketState}

then_append : (t : RowResult) (rows more : List Row) → then_rows t (rows ++ more) ≡ then_rows (then_rows t rows) more
then_append (Ends v) rows more = refl
then_append (GoesOn s) [] more = refl
then_append (GoesOn s) (r ∷ rows) more = then_append (r s) rows more

-- a packet that passed these rows stands before the others
pub passed : (s t : PacketState) (rows more : List Row) → then_rows (GoesOn s) rows ≡ GoesOn t → ends_as s (rows ++ more) ≡ ends_as t more
passed s t rows more goes = ap verdict_of (then_append (GoesOn s) rows more ∙ ap (λ (u : RowResult). then_rows u more) goes)

pub stopped : (s : PacketState) (v : Verdict) (rows more : List Row) → then_rows (GoesOn s) rows ≡ Ends v → ends_as s (rows ++ more) ≡ v
stopped s v rows more ends = ap verdict_of (then_append (GoesOn s) rows more ∙ ap (λ (u : RowResult). then_rows u more) ends)

no_more : (t : RowResult) → then_rows t [] ≡ t
no_more (Ends v) = refl
no_more (GoesOn s) = refl

pub last_row : (s : PacketState) (r : Row) → ends_as s (r ∷ []) ≡ verdict_of (r s)
last_row s r = ap verdict_of (no_more (r s))

-- past one row, and at the row that ends the decision
pub went_on : (s t : PacketState) (r : Row) (rows : List Row) → r s ≡ GoesOn t → ends_as s (r ∷ rows) ≡ ends_as t rows
went_on s t r rows goes = ap (λ (u : RowResult). verdict_of (then_rows u rows)) goes

pub ended : (s : PacketState) (v : Verdict) (r : Row) (rows : List Row) → r s ≡ Ends v → ends_as s (r ∷ rows) ≡ v
ended s v r rows ends = ap (λ (u : RowResult). verdict_of (then_rows u rows)) ends

-- a refusal that is handed on tells the verdict that it is
pub refusal_told : (v : Verdict) (p : Packet) (result : Result Departure Refusal) (r : Refusal) → IsErrAnd result (λ e. e ≡ r) → v ≡ refused r → TellsVerdict v p result
refusal_told v p (Ok d) r is ends = absurd is
refusal_told v p (Err e) r is ends = ends ∙ ap refused (sym is)

-- after rows that a packet passed unchanged, one more row says what it says
pub one_more : (s : PacketState) (rows : List Row) (r : Row) → then_rows (GoesOn s) rows ≡ GoesOn s → then_rows (GoesOn s) (rows ++ (r ∷ [])) ≡ r s
one_more s rows r goes = then_append (GoesOn s) rows (r ∷ []) ∙ ap (λ (u : RowResult). then_rows u (r ∷ [])) goes ∙ no_more (r s)
