-- What is written one after the other is the text of the answer.
use Rattle.std.proofs.Common.{◌≡◌, ℕ, ◌+◌, ◌-◌, List, ◌++◌, length, refl, sym, subst, ap, ap₂, ◌∙◌, append_assoc, arith, length-append}
use Rattle.byteorder.specs.Endian.{big_bytes}
use Rattle.field_rows.specs.Place.{Puts, StandsAt, text_at}
use Rattle.field_rows.specs.Row.{rows}
use Rattle.field_rows.proofs.Rows.{Puts-next, Puts-stands, StandsAt-back, StandsAt-front}
use Rattle.process_packet.specs.Request.{request}
use Rattle.process_packet.specs.declared.decision.Problem.{Problem}
use Rattle.scion_packet.specs.Header.{HeaderFields, HostAddress, common_table, front_len, header_text}
use Rattle.scion_packet.specs.Packet.{Packet, spelling}
use Rattle.scion_packet.specs.Path.{PathFields, path_text}
use Rattle.scmp_answer.specs.Checksum.{address_text, checksum, pseudo_table, summed}
use Rattle.scmp_answer.specs.Message.{message, message_table, numbers_of, quote, table_of}
use Rattle.scmp_answer.specs.Reply.{answer_header, answer_packet, header_len}
use Rattle.scmp_answer.proofs.PlaceLemmas.{written_over}
use Rattle.scmp_answer.proofs.TableLemmas.{parts}

pub header_text_len : (h : HeaderFields) → length (header_text h) ≡ front_len h
header_text_len h =
    let d = h.destination.host in
    let s = h.source.host in
    omega (arith, length-append d s)

pub address_text_len : (h : HeaderFields) → length (address_text h) ≡ front_len h - 12
address_text_len h =
    let d = h.destination.host in
    let s = h.source.host in
    omega (arith, length-append d s)

five_parts : (a f z r q : List ℕ) → a ++ ((f ++ (z ++ r)) ++ q) ≡ (a ++ f) ++ (z ++ (r ++ q))
five_parts a f z r q = simp append_assoc

-- the message with its checksum in place of 0
pub sealed : (front : List ℕ) (here : HostAddress) (n : ℕ × ℕ) (problem : Problem) (q s2 s3 : List ℕ) (at c : ℕ)
    → StandsAt s2 0 (front ++ (rows (table_of here n problem 0) ++ q)) → at ≡ length front → Puts s2 s3 (at + 2) (big_bytes 2 c)
    → StandsAt s3 0 (front ++ (rows (table_of here n problem c) ++ q))
sealed front here n problem q s2 s3 at c stands at-is puts =
    let ps = parts here n problem in
    let before : front ++ (rows (table_of here n problem 0) ++ q) ≡ (front ++ ps.first) ++ (big_bytes 2 0 ++ (ps.rest ++ q)) =
    ap (λ (t : List ℕ). front ++ (t ++ q)) (ps.are 0) ∙ five_parts front ps.first (big_bytes 2 0) ps.rest q in
    let after : front ++ (rows (table_of here n problem c) ++ q) ≡ (front ++ ps.first) ++ (big_bytes 2 c ++ (ps.rest ++ q)) =
    ap (λ (t : List ℕ). front ++ (t ++ q)) (ps.are c) ∙ five_parts front ps.first (big_bytes 2 c) ps.rest q in
    let place : at + 2 ≡ length (front ++ ps.first) = omega (arith, at-is, ps.two, length-append front ps.first) in
    subst (λ (t : List ℕ). StandsAt s3 0 t) (sym after)
    (written_over s2 s3 (front ++ ps.first) (big_bytes 2 c) (big_bytes 2 0) (ps.rest ++ q) (at + 2) (subst (λ (t : List ℕ). StandsAt s2 0 t) before stands) puts place refl)

-- what the checksum is taken over stands in the buffer
pub summed_there : (h : HeaderFields) (path message s : List ℕ) (front at len : ℕ) → StandsAt s 0 ((header_text h ++ path) ++ message)
    → front ≡ front_len h → at ≡ length (header_text h ++ path) → len ≡ length message
    → text_at s 12 (front - 12) ++ (rows (pseudo_table len) ++ text_at s at len) ≡ summed h message
summed_there h path message s front at len stands front-is at-is len-is =
    let whole = header_text h ++ path in
    let header : StandsAt s 0 (header_text h) = StandsAt-front s 0 (header_text h) path (StandsAt-front s 0 whole message stands) in
    let addresses : StandsAt s 12 (address_text h) = StandsAt-back s 0 (rows (common_table h)) (address_text h) header in
    let n : front - 12 ≡ length (address_text h) = ap (λ (k : ℕ). k - 12) front-is ∙ sym (address_text_len h) in
    let first : text_at s 12 (front - 12) ≡ address_text h = ap (λ (k : ℕ). text_at s 12 k) n ∙ addresses.read in
    let later : StandsAt s (0 + length whole) message = StandsAt-back s 0 whole message stands in
    let place : at ≡ 0 + length whole = omega (arith, at-is) in
    let last : text_at s at len ≡ message = ap₂ (λ (p k : ℕ). text_at s p k) place len-is ∙ later.read in
    ap₂ (λ (a b : List ℕ). a ++ b) first (ap₂ (λ (k : ℕ) (m : List ℕ). rows (pseudo_table k) ++ m) len-is last)

-- the whole answer
pub answer_stands : (h : HeaderFields) (w : PathFields) (here : HostAddress) (n : ℕ × ℕ) (problem : Problem) (q s0 s1 s2 s3 : List ℕ) (front at len : ℕ)
    → Puts s0 s1 0 (header_text h ++ path_text w) → Puts s1 s2 at (rows (table_of here n problem 0) ++ q)
    → Puts s2 s3 (at + 2) (big_bytes 2 (checksum (text_at s2 12 (front - 12) ++ (rows (pseudo_table len) ++ text_at s2 at len))))
    → front ≡ front_len h → at ≡ front + length (path_text w) → len ≡ length (rows (table_of here n problem 0) ++ q)
    → StandsAt s3 0 (header_text h ++ (path_text w ++ (rows (table_of here n problem (checksum (summed h (rows (table_of here n problem 0) ++ q)))) ++ q)))
answer_stands h w here n problem q s0 s1 s2 s3 front at len first second third front-is at-is len-is =
    let begin = header_text h ++ path_text w in
    let message = rows (table_of here n problem 0) ++ q in
    let at-len : at ≡ length begin = omega (arith, at-is, front-is, header_text_len h, length-append (header_text h) (path_text w)) in
    let at-zero : at ≡ 0 + length begin = omega (arith, at-len) in
    let all : StandsAt s2 0 (begin ++ message) = Puts-stands s0 s2 0 (begin ++ message) (Puts-next s0 s1 s2 0 at begin message first second at-zero) in
    let over = summed_there h (path_text w) message s2 front at len all front-is at-len len-is in
    let c = checksum (summed h message) in
    let puts : Puts s2 s3 (at + 2) (big_bytes 2 c) = subst (λ (t : List ℕ). Puts s2 s3 (at + 2) (big_bytes 2 (checksum t))) over third in
    subst (λ (t : List ℕ). StandsAt s3 0 t) (append_assoc (header_text h) (path_text w) (rows (table_of here n problem c) ++ q))
    (sealed begin here n problem q s2 s3 at c all at-len puts)

-- ---- the answer as a packet

pub answer_is : (here : HostAddress) (p : Packet) (w : PathFields) (bytes : List ℕ) (problem : Problem) (h : HeaderFields) (q s0 s1 s2 s3 : List ℕ) (front at len : ℕ)
    → at ≡ header_len here p.header w → len ≡ length (message here p at problem bytes 0) → q ≡ quote at problem bytes → h ≡ answer_header here p.header at len
    → Puts s0 s1 0 (header_text h ++ path_text w) → Puts s1 s2 at (rows (message_table here p problem 0) ++ q)
    → Puts s2 s3 (at + 2) (big_bytes 2 (checksum (text_at s2 12 (front - 12) ++ (rows (pseudo_table len) ++ text_at s2 at len))))
    → front ≡ front_len h → at ≡ front + length (path_text w)
    → StandsAt s3 0 (spelling (answer_packet here p w bytes problem))
answer_is here p w bytes problem h q s0 s1 s2 s3 front at len at-is len-is q-is h-is first second third front-is path-is =
    let n = numbers_of (request p.header.next_header p.payload) in
    let all = header_len here p.header w in
    let lens : len ≡ length (rows (message_table here p problem 0) ++ q) = len-is ∙ ap (λ (t : List ℕ). length (rows (message_table here p problem 0) ++ t)) (sym q-is) in
    let stands = answer_stands h w here n problem q s0 s1 s2 s3 front at len first second third front-is path-is lens in
    let text = λ (g : HeaderFields) (t : List ℕ).
    header_text g ++ (path_text w ++ (rows (message_table here p problem (checksum (summed g (rows (message_table here p problem 0) ++ t)))) ++ t)) in
    let q-there : q ≡ quote all problem bytes = q-is ∙ ap (λ (k : ℕ). quote k problem bytes) at-is in
    let len-there : len ≡ length (message here p all problem bytes 0) = len-is ∙ ap (λ (k : ℕ). length (message here p k problem bytes 0)) at-is in
    let h-there : h ≡ answer_header here p.header all (length (message here p all problem bytes 0)) = h-is ∙ ap₂ (λ (a l : ℕ). answer_header here p.header a l) at-is len-there in
    subst (λ (t : List ℕ). StandsAt s3 0 t) (ap₂ text h-there q-there) stands
