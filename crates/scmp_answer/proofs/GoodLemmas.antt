-- What is written is a good answer.
use Rattle.std.proofs.Common.{◌≡◌, ◌≤◌, ℕ, Bool, true, false, ◌+◌, ◌-◌, ◌*◌, ◌/◌, ◌%◌, List, [], ◌++◌, length, take, cond, eqb, refl, sym, subst, ap, ap₂, ◌∙◌, append_assoc, arith, length-append, length-take}
use Rattle.byteorder.specs.Endian.{big_bytes}
use Rattle.field_rows.specs.Place.{IsBytes, Puts, StandsAt, text_at}
use Rattle.field_rows.specs.Row.{rows}
use Rattle.field_rows.proofs.Rows.{Puts-next, Puts-stands}
use Rattle.process_packet.specs.Request.{request}
use Rattle.process_packet.specs.declared.decision.Problem.{Problem}
use Rattle.scion_packet.specs.Header.{HeaderFields, HostAddress, IsHeader, front_len, header_text}
use Rattle.scion_packet.specs.Packet.{IsPacket, Packet, spelling}
use Rattle.scion_packet.specs.Path.{IsPath, PathFields, path_text}
use Rattle.scion_packet.proofs.PacketLaws.{packet_passes, part-are}
use Rattle.scmp_answer.specs.Checksum.{address_text, checksum, ones_complement_sum, pseudo_table, summed, words}
use Rattle.scmp_answer.specs.Message.{fixed_len, message, message_table, numbers_of, quote, table_of}
use Rattle.scmp_answer.specs.Outcome.{IsWritten}
use Rattle.scmp_answer.specs.Reply.{answer_header, answer_packet, header_len}
use Rattle.scmp_answer.proofs.AnswerLemmas.{address_text_len, answer_is, header_text_len, summed_there}
use Rattle.scmp_answer.proofs.ChecksumLemmas.{bytes-append, pseudo_bytes, verifies}
use Rattle.scmp_answer.proofs.TableLemmas.{parts, table_len}

fits_of : (x : Bool) (all : ℕ) (bytes : List ℕ) → all + 24 ≤ 1232 → all + cond x 24 8 + length (cond x [] (take (1232 - all - 8) bytes)) ≤ 1232
fits_of true all bytes room = omega arith
fits_of false all bytes room = omega (arith, length-take (1232 - all - 8) bytes)

pub quote_fits : (all : ℕ) (problem : Problem) (bytes : List ℕ) → all + 24 ≤ 1232 → all + fixed_len problem + length (quote all problem bytes) ≤ 1232
quote_fits all problem bytes room = fits_of (eqb problem.kind 131) all bytes room

-- the bytes of a buffer are bytes, and so is what stands there
bytes_there : (h : HeaderFields) (path m s : List ℕ) (front at len : ℕ) → IsBytes s → StandsAt s 0 ((header_text h ++ path) ++ m)
    → front ≡ front_len h → at ≡ length (header_text h ++ path) → len ≡ length m → IsBytes (summed h m)
bytes_there h path m s front at len are stands front-is at-is len-is =
    let message = text_at s at len in
    let all = bytes-append (text_at s 12 (front - 12)) (rows (pseudo_table len) ++ message) (part-are s 12 (front - 12) are) (pseudo_bytes len message (part-are s at len are)) in
    subst IsBytes (summed_there h path m s front at len stands front-is at-is len-is) all

sound_sum : (h : HeaderFields) (here : HostAddress) (n : ℕ × ℕ) (problem : Problem) (q : List ℕ) (c : ℕ) → front_len h % 2 ≡ 0
    → length (rows (table_of here n problem 0) ++ q) ≤ 1232
    → IsBytes (summed h (rows (table_of here n problem 0) ++ q)) → IsBytes (summed h (rows (table_of here n problem c) ++ q))
    → c ≡ checksum (summed h (rows (table_of here n problem 0) ++ q))
    → ones_complement_sum (words (summed h (rows (table_of here n problem c) ++ q))) ≡ 65535
sound_sum h here n problem q c even short are-0 are-c c-is =
    let ps = parts here n problem in
    let t = ps.rest ++ q in
    let shape : (k : ℕ) → rows (table_of here n problem k) ++ q ≡ ps.first ++ (big_bytes 2 k ++ t) =
    λ k. ap (λ (r : List ℕ). r ++ q) (ps.are k) ∙ append_assoc ps.first (big_bytes 2 k ++ ps.rest) q ∙ ap (λ (r : List ℕ). ps.first ++ r) (append_assoc (big_bytes 2 k) ps.rest q) in
    let even-text : length (address_text h) % 2 ≡ 0 = omega (arith, address_text_len h, even) in
    let len0 : length (ps.first ++ (big_bytes 2 0 ++ t)) ≡ length ps.first + (2 + length t) = omega (arith, length-append ps.first (big_bytes 2 0 ++ t)) in
    let room : length ps.first + 2 + length t ≤ 1232 = omega (arith, len0, short, ap length (shape 0)) in
    subst (λ (m : List ℕ). ones_complement_sum (words (summed h m)) ≡ 65535) (sym (shape c))
    (verifies (address_text h) ps.first t c even-text ps.two room (subst (λ (m : List ℕ). IsBytes (summed h m)) (shape 0) are-0) (subst (λ (m : List ℕ). IsBytes (summed h m)) (shape c) are-c)
    (subst (λ (m : List ℕ). c ≡ checksum (summed h m)) (shape 0) c-is))

-- ---- the whole answer

pub is_written : (here : HostAddress) (p : Packet) (w : PathFields) (bytes : List ℕ) (problem : Problem) (h : HeaderFields) (q s0 s1 s2 s3 : List ℕ) (front at len : ℕ)
    → at ≡ header_len here p.header w → len ≡ length (message here p at problem bytes 0) → q ≡ quote at problem bytes → h ≡ answer_header here p.header at len
    → Puts s0 s1 0 (header_text h ++ path_text w) → Puts s1 s2 at (rows (message_table here p problem 0) ++ q)
    → Puts s2 s3 (at + 2) (big_bytes 2 (checksum (text_at s2 12 (front - 12) ++ (rows (pseudo_table len) ++ text_at s2 at len))))
    → front ≡ front_len h → at ≡ front + length (path_text w)
    → IsBytes s2 → IsBytes s3 → IsHeader h → IsPath w → at ≡ 4 * (at / 4) → front % 2 ≡ 0 → at + 24 ≤ 1232
    → IsWritten (answer_packet here p w bytes problem) (at + len) s3
is_written here p w bytes problem h q s0 s1 s2 s3 front at len at-is len-is q-is h-is first second third front-is path-is are-2 are-3 lawful path-lawful fours even room =
    let a = answer_packet here p w bytes problem in
    let g = a.header in
    let n = numbers_of (request p.header.next_header p.payload) in
    let c = checksum (summed g (message here p (header_len here p.header w) problem bytes 0)) in
    let m0 = message here p (header_len here p.header w) problem bytes 0 in
    let there = answer_is here p w bytes problem h q s0 s1 s2 s3 front at len at-is len-is q-is h-is first second third front-is path-is in
    let len-there : len ≡ length m0 = len-is ∙ ap (λ (k : ℕ). length (message here p k problem bytes 0)) at-is in
    let h-there : h ≡ g = h-is ∙ ap₂ (λ (x y : ℕ). answer_header here p.header x y) at-is len-there in
    let q-there : q ≡ quote (header_len here p.header w) problem bytes = q-is ∙ ap (λ (k : ℕ). quote k problem bytes) at-is in
    let front-g : front ≡ front_len g = front-is ∙ ap front_len h-there in
    let begin = header_text g ++ path_text w in
    let at-len : at ≡ length begin = omega (arith, path-is, front-g, header_text_len g, length-append (header_text g) (path_text w)) in
    let at-zero : at ≡ 0 + length begin = omega (arith, at-len) in
    let first-g : Puts s0 s1 0 begin = subst (λ (x : HeaderFields). Puts s0 s1 0 (header_text x ++ path_text w)) h-there first in
    let second-g : Puts s1 s2 at m0 = subst (λ (t : List ℕ). Puts s1 s2 at (rows (message_table here p problem 0) ++ t)) q-there second in
    let all-2 : StandsAt s2 0 (begin ++ m0) = Puts-stands s0 s2 0 (begin ++ m0) (Puts-next s0 s1 s2 0 at begin m0 first-g second-g at-zero) in
    let all-3 : StandsAt s3 0 (begin ++ a.payload) = subst (λ (t : List ℕ). StandsAt s3 0 t) (sym (append_assoc (header_text g) (path_text w) a.payload)) there in
    let l0 : length m0 ≡ fixed_len problem + length (quote (header_len here p.header w) problem bytes) =
    length-append (rows (message_table here p problem 0)) (quote (header_len here p.header w) problem bytes)
    ∙ ap (λ (k : ℕ). k + length (quote (header_len here p.header w) problem bytes)) (table_len here n problem 0) in
    let lc : length a.payload ≡ fixed_len problem + length (quote (header_len here p.header w) problem bytes) =
    length-append (rows (message_table here p problem c)) (quote (header_len here p.header w) problem bytes)
    ∙ ap (λ (k : ℕ). k + length (quote (header_len here p.header w) problem bytes)) (table_len here n problem c) in
    let len-c : len ≡ length a.payload = len-there ∙ l0 ∙ sym lc in
    let are-m0 = bytes_there g (path_text w) m0 s2 front at len are-2 all-2 front-g at-len len-there in
    let are-mc = bytes_there g (path_text w) a.payload s3 front at len are-3 all-3 front-g at-len len-c in
    let whole : at + len ≡ length (spelling a) =
    omega (arith, at-len, len-c, length-append (header_text g) (path_text w), length-append (header_text g) (path_text w ++ a.payload), length-append (path_text w) a.payload) in
    let fits : at + fixed_len problem + length (quote (header_len here p.header w) problem bytes) ≤ 1232 =
    subst (λ (k : ℕ). at + fixed_len problem + length (quote k problem bytes) ≤ 1232) at-is (quote_fits at problem bytes room) in
    let short : length (spelling a) ≤ 1232 = omega (arith, whole, len-c, lc, fits) in
    let small : length m0 ≤ 1232 = omega (arith, l0, fits) in
    let even-g : front_len g % 2 ≡ 0 = ap (λ (k : ℕ). k % 2) (sym front-g) ∙ even in
    let packet : IsPacket a = record {
      header = subst IsHeader h-there lawful;
      path_type = refl;
      path = path-lawful;
      whole = ap (λ (k : ℕ). 4 * (k / 4)) (sym at-is) ∙ sym fours ∙ path-is ∙ ap (λ (k : ℕ). k + length (path_text w)) front-g;
    } in
    record {
      whole = whole;
      text = ap (λ (k : ℕ). take k s3) whole ∙ there.read;
      good = record {
        lawful = packet;
        no_fault = packet_passes (spelling a) a (record { lawful = packet; text = refl });
        short = short;
        sound = sound_sum g here n problem (quote (header_len here p.header w) problem bytes) c even-g small are-m0 are-mc refl;
      };
    }
