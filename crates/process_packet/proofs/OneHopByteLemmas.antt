-- The bytes of what the table of one-hop paths sends: read back they are the packet that it sends, and they differ in place.
use Rattle.std.proofs.Common.{◌≡◌, ◌≢◌, ◌⊎◌, ◌≤◌, ◌<◌, ◌+◌, ◌-◌, ◌^◌, ◌==◌, ℕ, zero, suc, List, ◌++◌, length, take, slice_index, Option, None, refl, sym, ap, subst, ◌∙◌, arith, inl, inr, append_assoc, length-append}
use Rattle.std.proofs.lemmas.Bool.{cases_Bool, cases_lt, eqb-true}
use Rattle.std.proofs.lemmas.Bool.Decides.{Decides-eqb, not_from_Decides}
use Rattle.std.proofs.lemmas.List.{get_or-append_right, get_or_append_left, get_or-take, get_or_past, length-take, length-take-le}
use Rattle.std.proofs.lemmas.Nat.{xor_of_16}
use Rattle.field_rows.specs.Place.{IsBytes, number_at}
use Rattle.field_rows.specs.Row.{rows}
use Rattle.cmac_core.specs.Cmac.{tag}
use Rattle.cmac_core.proofs.TagBytes.{tag-are, tag_len}
use Rattle.hop_check.specs.Mac.{chain, mac6, mac_input}
use Rattle.scion_packet.specs.Header.{HeaderFields, front_end, front_len, header_text, one_hop_path}
use Rattle.scion_packet.specs.OneHop.{IsOneHopPath, OneHopPacket, OneHopPath, SpellsOneHop, one_hop_fault, one_hop_packet_of, one_hop_spelling, one_hop_text}
use Rattle.scion_packet.specs.Packet.{path_bytes}
use Rattle.scion_packet.specs.Path.{HopField, InfoField, hop_text, info_table}
use Rattle.scion_packet.proofs.Fields.{number-lt}
use Rattle.scion_packet.proofs.OneHopLaws.{one_hop_both_pass, one_hop_only, one_hop_packet_passes, one_hop_spelled}
use Rattle.scion_packet.proofs.PacketLaws.{part-are}
use Rattle.scion_packet.proofs.Parts.{path_are, path_lies_as}
use Rattle.process_packet.specs.declared.decision.Decision.TheVariants as decision
use Rattle.process_packet.specs.declared.underlay.Underlay.{Underlay}
use Rattle.process_packet.specs.Decide.{decide, moved}
use Rattle.process_packet.specs.Network.{Network}
use Rattle.process_packet.specs.OneHopLaws.{DiffersInPlace, HasPathOf, IsChained, IsCompleted, IsOneHop, LeavesAs, OneHopsDifferInPlace, OneHopsEnter, OneHopsLeave}
use Rattle.process_packet.specs.OneHopState.{OneHopState, chained, completed, first, info, one_hop_arrives, second, with_identifier, with_second}
use Rattle.process_packet.proofs.ByteLemmas.{AfterFront, IsRewritten, bytes_stay, datagram_rewritten}
use Rattle.process_packet.proofs.OneHopLawLemmas.{SentIn, SentOut, TableSends, enters_if, leaves_if, sent_in, sent_out, table_sends}

-- ---- what the table makes of a packet

is_chained : (s : OneHopState) → IsChained s (chained s)
is_chained s = record { same = record { header = refl; payload = refl }; info_is = refl; first_is = refl; second_is = refl }

is_completed : (s : OneHopState) → IsCompleted s (completed s)
is_completed s = record {
  same = record { header = refl; payload = refl };
  info_is = refl;
  first_is = refl;
  hop = second s;
  second_is = refl;
  plain = (refl, (refl, refl));
  expiry = refl;
  ingress = refl;
  egress = refl;
  authentic = refl;
}

same_packet : (p q : OneHopPacket) → HasPathOf p q → (i : InfoField) (t : List ℕ) → q.path.info ≡ i → q.path.first ≡ p.path.first → q.path.second ≡ t
    → q ≡ record p { path = record p.path { info = i; second = t } }
same_packet p q same i t info first second =
    ap (λ (x : HeaderFields). record q { header = x }) same.header
    ∙ ap (λ (x : List ℕ). record q { header = p.header; payload = x }) same.payload
    ∙ ap (λ (x : InfoField). record p { path = record q.path { info = x } }) info
    ∙ ap (λ (x : HopField). record p { path = record q.path { info = i; first = x } }) first
    ∙ ap (λ (x : List ℕ). record p { path = record p.path { info = i; second = x } }) second

-- so it is the packet that came with another identifier, or with another second hop field
chained_is : (s : OneHopState) (q : OneHopPacket) → IsChained s q → q ≡ record s.packet { path = with_identifier (chain (info s).segment_id (first s).mac) s.packet.path }
chained_is s q is = same_packet s.packet q is.same (record (info s) { segment_id = chain (info s).segment_id (first s).mac }) s.packet.path.second is.info_is is.first_is is.second_is

completed_is : (s : OneHopState) (q : OneHopPacket) (is : IsCompleted s q) → q ≡ record s.packet { path = with_second is.hop s.packet.path }
completed_is s q is = same_packet s.packet q is.same (info s) (hop_text is.hop) is.info_is is.first_is is.second_is

-- ---- a path

path_len : (p : OneHopPath) → IsOneHopPath p → length (one_hop_text p) ≡ 32
path_len p lawful =
    let hop-len : length (hop_text p.first) ≡ 12 = omega (arith, lawful.first.mac_len) in
    omega (arith, length-append (hop_text p.first) p.second, hop-len, lawful.second_len)

-- with another identifier of two bytes
identified : (p : OneHopPath) (id : ℕ) → IsOneHopPath p → id < 2 ^ 16 → IsOneHopPath (with_identifier id p)
identified p id lawful fits =
    let info = lawful.info in
    record { info = (info.0, (info.1.0, ((fits, tt), info.1.1.1))); along = lawful.along; first = lawful.first; second_len = lawful.second_len }

-- with another second hop field
seconded : (p : OneHopPath) (hop : HopField) → IsOneHopPath p → length hop.mac ≡ 6 → IsOneHopPath (with_second hop p)
seconded p hop lawful long = record { info = lawful.info; along = lawful.along; first = lawful.first; second_len = omega (arith, long) }

-- ---- a MAC

mac_len : (key : List ℕ) (beta : ℕ) (i : InfoField) (h : HopField) → length (mac6 key beta i h) ≡ 6
mac_len key beta i h =
    let all : length (tag key (mac_input beta i h)) ≡ 16 = tag_len key (mac_input beta i h) refl in
    length-take-le 6 (tag key (mac_input beta i h)) (omega (arith, all))

-- ---- a datagram without a fault, and its packet with another path

module _ (bytes : List ℕ) (are : IsBytes bytes) (sound : one_hop_fault bytes ≡ None) where
  abbrev old : OneHopPacket
  old = one_hop_packet_of bytes

  abbrev front : List ℕ
  front = header_text old.header

  text : SpellsOneHop bytes old
  text = one_hop_spelled bytes are sound

  id_fits : old.path.info.segment_id < 2 ^ 16
  id_fits = text.lawful.path.info.1.1.0.0

  mac-are : IsBytes old.path.first.mac
  mac-are = part-are (path_bytes bytes) 14 6 (path_are bytes are)

  chain_fits : chain old.path.info.segment_id old.path.first.mac < 2 ^ 16
  chain_fits =
      let two : number_at old.path.first.mac 0 2 < 256 ^ 2 = number-lt old.path.first.mac 0 2 mac-are in
      xor_of_16 old.path.info.segment_id (number_at old.path.first.mac 0 2) id_fits (omega arith)

  spelled_so : (q : OneHopPath) → IsOneHopPath q → SpellsOneHop (one_hop_spelling (record old { path = q })) (record old { path = q })
  spelled_so q lawful =
      let is = text.lawful in
      record {
        lawful = record {
          header = is.header;
          path_type = is.path_type;
          path = lawful;
          whole = omega (arith, is.whole, path_len old.path is.path, path_len q lawful);
        };
        text = refl;
      }

  leaves : (such : OneHopPacket → Type 0) (q : OneHopPath) → IsOneHopPath q → such (record old { path = q }) → LeavesAs (one_hop_spelling (record old { path = q })) such
  leaves such q lawful given =
      let p : OneHopPacket = record old { path = q } in
      let reads = spelled_so q lawful in
      record { packet = subst such (one_hop_only (one_hop_spelling p) p reads) given; sound = one_hop_packet_passes (one_hop_spelling p) p reads }

  front_is : length front ≡ front_end bytes
  front_is =
      let d = old.header.destination.host in
      let s = old.header.source.host in
      let len : length front ≡ front_len old.header = omega (arith, length-append d s) in
      len ∙ (path_lies_as one_hop_path bytes old.header are (one_hop_both_pass bytes sound).0 refl).begin

  -- ---- with another identifier

  abbrev IdPlace : ℕ → Type 0
  IdPlace i = (i ≡ 2) ⊎ (i ≡ 3)

  id_byte : (id i : ℕ)
      → (slice_index (one_hop_text (with_identifier id old.path)) i ≡ slice_index (one_hop_text old.path) i) ⊎ (IdPlace i × (slice_index (one_hop_text (with_identifier id old.path)) i < 256))
  id_byte id zero = inl refl
  id_byte id (suc zero) = inl refl
  id_byte id (suc (suc zero)) = inr (inl refl, omega arith)
  id_byte id (suc (suc (suc zero))) = inr (inr refl, omega arith)
  id_byte id (suc (suc (suc (suc i)))) = inl refl

  id_rewritten : (id : ℕ) → id < 2 ^ 16 → IsRewritten (AfterFront (length front) IdPlace) bytes (one_hop_spelling (record old { path = with_identifier id old.path }))
  id_rewritten id fits =
      let q = with_identifier id old.path in
      let same : length (one_hop_text old.path) ≡ length (one_hop_text q) = path_len old.path text.lawful.path ∙ sym (path_len q (identified old.path id text.lawful.path fits)) in
      subst (λ (came : List ℕ). IsRewritten (AfterFront (length front) IdPlace) came (one_hop_spelling (record old { path = q }))) (sym text.text)
      (datagram_rewritten IdPlace front (one_hop_text old.path) (one_hop_text q) old.payload same (record { each = id_byte id }))

  no_id_place : (i : ℕ) → i ≢ front_end bytes + 2 → i ≢ front_end bytes + 3 → AfterFront (length front) IdPlace i → ⊥
  no_id_place i high low (after, inl is) = high (omega (arith, front_is, after, is))
  no_id_place i high low (after, inr is) = low (omega (arith, front_is, after, is))

  id_in_place : (id : ℕ) → id < 2 ^ 16 → (i : ℕ) → i ≢ front_end bytes + 2 → i ≢ front_end bytes + 3
      → slice_index (one_hop_spelling (record old { path = with_identifier id old.path })) i ≡ slice_index bytes i
  id_in_place id fits i high low =
      elim ((id_rewritten id fits).each i) [ inl same ↦ same | inr changed ↦ absurd (no_id_place i high low changed.0) ]

  -- ---- with another second hop field

  -- what stands before it
  abbrev before : List ℕ
  before = front ++ (rows (info_table old.path.info) ++ hop_text old.path.first)

  before_len : length before ≡ front_end bytes + 20
  before_len =
      let first-len : length (hop_text old.path.first) ≡ 12 = omega (arith, text.lawful.path.first.mac_len) in
      omega (arith, length-append front (rows (info_table old.path.info) ++ hop_text old.path.first), first-len, front_is)

  -- its datagram, cut there
  cut : (second : List ℕ) → one_hop_spelling (record old { path = record old.path { second = second } }) ≡ before ++ (second ++ old.payload)
  cut second =
      let i = rows (info_table old.path.info) in
      let h = hop_text old.path.first in
      ap (λ (t : List ℕ). front ++ t) (append_assoc i (h ++ second) old.payload ∙ ap (λ (t : List ℕ). i ++ t) (append_assoc h second old.payload) ∙ sym (append_assoc i h (second ++ old.payload)))
      ∙ sym (append_assoc front (i ++ h) (second ++ old.payload))

  came_cut : bytes ≡ before ++ (old.path.second ++ old.payload)
  came_cut = text.text ∙ cut old.path.second

  same_before : (second : List ℕ) (i : ℕ) → i < front_end bytes + 20
      → slice_index (one_hop_spelling (record old { path = record old.path { second = second } })) i ≡ slice_index bytes i
  same_before second i below =
      let inside : i < length before = omega (arith, before_len) in
      ap (λ (t : List ℕ). slice_index t i) (cut second)
      ∙ get_or_append_left before (second ++ old.payload) 0 i inside
      ∙ sym (get_or_append_left before (old.path.second ++ old.payload) 0 i inside)
      ∙ ap (λ (t : List ℕ). slice_index t i) (sym came_cut)

  -- behind twelve bytes
  behind : (second : List ℕ) (i : ℕ) → length second ≡ 12 → length before + 12 ≤ i
      → slice_index (before ++ (second ++ old.payload)) i ≡ slice_index old.payload (i - length before - 12)
  behind second i long above =
      get_or-append_right before (second ++ old.payload) (length before) i 0 refl (omega arith)
      ∙ get_or-append_right second old.payload 12 (i - length before) 0 long (omega arith)

  same_after : (second : List ℕ) (i : ℕ) → length second ≡ 12 → front_end bytes + 20 + 12 ≤ i
      → slice_index (one_hop_spelling (record old { path = record old.path { second = second } })) i ≡ slice_index bytes i
  same_after second i long above =
      let past : length before + 12 ≤ i = omega (arith, before_len) in
      ap (λ (t : List ℕ). slice_index t i) (cut second)
      ∙ behind second i long past
      ∙ sym (behind old.path.second i text.lawful.path.second_len past)
      ∙ ap (λ (t : List ℕ). slice_index t i) (sym came_cut)

  -- bytes stay bytes
  second_stays : (second : List ℕ) → length second ≡ 12 → IsBytes second → IsBytes (one_hop_spelling (record old { path = record old.path { second = second } }))
  second_stays second long new =
      let any : ℕ → Type 0 = λ (i : ℕ). Unit {0} in
      let same : length old.path.second ≡ length second = text.lawful.path.second_len ∙ sym long in
      let put = datagram_rewritten any before old.path.second second old.payload same (record { each = λ i. inr (tt, new i) }) in
      let are-cut : IsBytes (before ++ (old.path.second ++ old.payload)) = subst IsBytes came_cut are in
      subst IsBytes (sym (cut second)) (bytes_stay (AfterFront (length before) any) (before ++ (old.path.second ++ old.payload)) (before ++ (second ++ old.payload)) put are-cut)

  -- as many bytes
  as_many : (q : OneHopPath) → IsOneHopPath q → length (one_hop_spelling (record old { path = q })) ≡ length bytes
  as_many q lawful =
      let was = length-append front (one_hop_text old.path ++ old.payload) in
      let was-path = length-append (one_hop_text old.path) old.payload in
      let is = length-append front (one_hop_text q ++ old.payload) in
      let is-path = length-append (one_hop_text q) old.payload in
      let same : length (one_hop_spelling (record old { path = q })) ≡ length (one_hop_spelling old) = omega (arith, path_len old.path text.lawful.path, path_len q lawful, was, was-path, is, is-path) in
      same ∙ ap length (sym text.text)

-- ---- the text of a hop field

hop_byte : (hop : HopField) → IsBytes hop.mac → IsBytes (hop_text hop)
hop_byte hop are zero = omega arith
hop_byte hop are (suc zero) = omega arith
hop_byte hop are (suc (suc zero)) = omega arith
hop_byte hop are (suc (suc (suc zero))) = omega arith
hop_byte hop are (suc (suc (suc (suc zero)))) = omega arith
hop_byte hop are (suc (suc (suc (suc (suc zero))))) = omega arith
hop_byte hop are (suc (suc (suc (suc (suc (suc i)))))) = are i

mac_byte : (key : List ℕ) (beta : ℕ) (i : InfoField) (h : HopField) → IsBytes key → IsBytes (mac6 key beta i h)
mac_byte key beta i h are k =
    let all = tag key (mac_input beta i h) in
    elim (cases_lt k 6) [
      | inl below ↦ subst (λ (n : ℕ). n < 256) (sym (get_or-take 6 all k 0 below)) (tag-are key (mac_input beta i h) refl are k)
      | inr above ↦ let none : slice_index (take 6 all) k ≡ 0 = get_or_past (take 6 all) k 0 (omega (arith, length-take 6 all)) in omega (arith, none)
    ]

-- ---- what the table sends

module _ (n : Network) (link : ℕ) (source : Underlay) (moment : ℕ) (bytes : List ℕ) (out : ℕ) (to : Option Underlay)
    (are : IsBytes bytes) (one : IsOneHop bytes) (says : decide n link source moment bytes ≡ decision.Send out to) where
  abbrev s : OneHopState
  s = one_hop_arrives n link source moment bytes

  sends : TableSends n link source moment bytes out to
  sends = table_sends n link source moment bytes out to one says

  -- ---- from inside

  module _ (within : link ≡ 0) where
    is_out : SentOut s out to sends.packet
    is_out = sent_out n link source moment bytes out to sends.packet within sends.verdict

    no_fault_out : one_hop_fault bytes ≡ None
    no_fault_out = is_out.may.usable.sound

    abbrev id : ℕ
    id = chain (info s).segment_id (first s).mac

    abbrev left_out : OneHopPacket
    left_out = record s.packet { path = with_identifier id s.packet.path }

    same_out : chained s ≡ left_out
    same_out = chained_is s (chained s) (is_chained s)

    left_chained : one_hop_spelling left_out ≡ moved n link source moment bytes
    left_chained = ap one_hop_spelling (sym same_out ∙ is_out.packet) ∙ sym sends.left

    fits : id < 2 ^ 16
    fits = chain_fits bytes are no_fault_out

    lawful_out : IsOneHopPath left_out.path
    lawful_out = identified s.packet.path id (text bytes are no_fault_out).lawful.path fits

    pub leaves_chained : LeavesAs (moved n link source moment bytes) (IsChained s)
    leaves_chained =
        subst (λ (left : List ℕ). LeavesAs left (IsChained s)) left_chained
        (leaves bytes are no_fault_out (IsChained s) left_out.path lawful_out (subst (λ (q : OneHopPacket). IsChained s q) same_out (is_chained s)))

    pub chained_are : IsBytes (moved n link source moment bytes)
    chained_are =
        subst IsBytes left_chained
        (bytes_stay (AfterFront (length (front bytes are no_fault_out)) (IdPlace bytes are no_fault_out)) bytes (one_hop_spelling left_out) (id_rewritten bytes are no_fault_out id fits) are)

    pub chained_in_place : DiffersInPlace link bytes (moved n link source moment bytes)
    chained_in_place =
        subst (λ (left : List ℕ). DiffersInPlace link bytes left) left_chained
        (record {
          count = as_many bytes are no_fault_out left_out.path lawful_out;
          from_inside = λ is i high low. id_in_place bytes are no_fault_out id fits i high low;
          before = λ other i below. absurd (other within);
          after = λ other i above. absurd (other within);
        })

  -- ---- from outside

  module _ (other : link ≢ 0) where
    is_in : SentIn s out to sends.packet
    is_in = sent_in n link source moment bytes out to sends.packet other sends.verdict

    no_fault_in : one_hop_fault bytes ≡ None
    no_fault_in = is_in.may.entered.usable.sound

    abbrev made : IsCompleted s (completed s)
    made = is_completed s

    abbrev left_in : OneHopPacket
    left_in = record s.packet { path = with_second made.hop s.packet.path }

    same_in : completed s ≡ left_in
    same_in = completed_is s (completed s) made

    left_completed : one_hop_spelling left_in ≡ moved n link source moment bytes
    left_completed = ap one_hop_spelling (sym same_in ∙ is_in.packet) ∙ sym sends.left

    lawful_in : IsOneHopPath left_in.path
    lawful_in = seconded s.packet.path made.hop (text bytes are no_fault_in).lawful.path (ap length made.authentic ∙ mac_len n.key (info s).segment_id (info s) made.hop)

    pub leaves_completed : LeavesAs (moved n link source moment bytes) (IsCompleted s)
    leaves_completed =
        subst (λ (left : List ℕ). LeavesAs left (IsCompleted s)) left_completed
        (leaves bytes are no_fault_in (IsCompleted s) left_in.path lawful_in (subst (λ (q : OneHopPacket). IsCompleted s q) same_in made))

    pub completed_are : IsBytes n.key → IsBytes (moved n link source moment bytes)
    completed_are key =
        let mac : IsBytes made.hop.mac = subst IsBytes (sym made.authentic) (mac_byte n.key (info s).segment_id (info s) made.hop key) in
        subst IsBytes left_completed (second_stays bytes are no_fault_in (hop_text made.hop) lawful_in.second_len (hop_byte made.hop mac))

    pub completed_in_place : DiffersInPlace link bytes (moved n link source moment bytes)
    completed_in_place =
        subst (λ (left : List ℕ). DiffersInPlace link bytes left) left_completed
        (record {
          count = as_many bytes are no_fault_in left_in.path lawful_in;
          from_inside = λ within i high low. absurd (other within);
          before = λ is i below. same_before bytes are no_fault_in (hop_text made.hop) i below;
          after = λ is i above. same_after bytes are no_fault_in (hop_text made.hop) i lawful_in.second_len (omega (arith, above));
        })

-- ---- the laws

pub all_leave : OneHopsLeave
all_leave = record {
  only = λ n link source moment bytes out to one within says.
      let sends = table_sends n link source moment bytes out to one says in
      let is = sent_out n link source moment bytes out to sends.packet within sends.verdict in
      (is.address, is.may);
  every = leaves_if;
  chained = λ n link source moment bytes out to are one within says. leaves_chained n link source moment bytes out to are one says within;
  are = λ n link source moment bytes out to are one within says. chained_are n link source moment bytes out to are one says within;
}

pub all_enter : OneHopsEnter
all_enter = record {
  only = λ n link source moment bytes out to one other says.
      let sends = table_sends n link source moment bytes out to one says in
      let is = sent_in n link source moment bytes out to sends.packet other sends.verdict in
      (is.link, is.may);
  every = enters_if;
  completed = λ n link source moment bytes out to are one other says. leaves_completed n link source moment bytes out to are one says other;
  are = λ n link source moment bytes out to key are one other says. completed_are n link source moment bytes out to are one says other key;
}

pub differ_in_place : OneHopsDifferInPlace
differ_in_place n link source moment bytes out to are one says =
    elim (cases_Bool (link == 0)) [
      | inl within ↦ chained_in_place n link source moment bytes out to are one says (eqb-true link 0 within)
      | inr other ↦ completed_in_place n link source moment bytes out to are one says (not_from_Decides (link == 0) (Decides-eqb link 0) other)
    ]
