-- The upper layer behind extensions is found there, also where the end of its packet is missing.
use Rattle.std.proofs.Common.{◌≡◌, ◌<◌, ◌==◌, ℕ, ◌+◌, ◌*◌, Bool, true, false, List, ◌++◌, length, take, drop, slice_index, nat_le, Option, Some, None, if◌then◌else◌, refl, sym, ap, ap₂, ◌∙◌, arith, length-append}
use Rattle.std.proofs.lemmas.Bool.{le-leb}
use Rattle.std.proofs.lemmas.List.{drop_at}
use Rattle.std.proofs.Math.Seq.{take-append-add}
use Rattle.scion_packet.specs.Extensions.{Layer, extension_len, layer, next_layer, skip_end_to_end, upper_layer}
use Rattle.host_ports.specs.Packets.{AreExtensions, Extension, Extensions, IsExtension, IsLawful, behind, behind_one, extension_text, extensions_len, len_of}

-- ---- one extension

text_len : (protocol : ℕ) (e : Extension) → IsExtension e → length (extension_text protocol e) ≡ 4 * (e.len + 1)
text_len protocol e lawful = omega (arith, lawful.whole)

pub passed_over : (protocol : ℕ) (e : Extension) (bytes : List ℕ) → protocol < 256 → IsExtension e
    → next_layer (extension_text protocol e ++ bytes) ≡ Some (layer protocol bytes)
passed_over protocol e bytes small lawful =
    let text = extension_text protocol e in
    let all = text ++ bytes in
    let none : Option Layer = None in
    let fits : e.len < 256 = lawful.fits in
    let len : extension_len all ≡ length text = omega (arith, text_len protocol e lawful) in
    let inside : nat_le (length text) (length all) ≡ true = le-leb (length text) (length all) (omega (arith, length-append text bytes)) in
    let first : slice_index all 0 ≡ protocol = omega arith in
    let rest : drop (length text) all ≡ bytes = drop_at text bytes (length text) refl in
    ap (λ (n : ℕ). if nat_le n (length all) then Some (layer (slice_index all 0) (drop n all)) else none) len
    ∙ ap (λ (b : Bool). if b then Some (layer (slice_index all 0) (drop (length text) all)) else none) inside
    ∙ ap₂ (λ (k : ℕ) (t : List ℕ). Some (layer k t)) first rest

-- ---- all of them

found_by : (hop end : Option Extension) (protocol : ℕ) (bytes : List ℕ) → IsLawful hop → IsLawful end → protocol < 256
    → (protocol == 200) ≡ false → (protocol == 201) ≡ false
    → (let l = behind_one 200 hop (behind_one 201 end (layer protocol bytes)) in upper_layer l.protocol l.bytes ≡ Some (layer protocol bytes))
found_by None None protocol bytes a b small no-hop no-end =
    let here : Option Layer = Some (layer protocol bytes) in
    ap (λ (x : Bool). skip_end_to_end (if x then next_layer bytes else here)) no-hop
    ∙ ap (λ (x : Bool). if x then next_layer bytes else here) no-end
found_by None (Some e) protocol bytes a b small no-hop no-end = passed_over protocol e bytes small b
found_by (Some e) None protocol bytes a b small no-hop no-end =
    let here : Option Layer = Some (layer protocol bytes) in
    ap skip_end_to_end (passed_over protocol e bytes small a)
    ∙ ap (λ (x : Bool). if x then next_layer bytes else here) no-end
found_by (Some e) (Some f) protocol bytes a b small no-hop no-end =
    ap skip_end_to_end (passed_over 201 e (extension_text protocol f ++ bytes) (omega arith) a) ∙ passed_over protocol f bytes small b

pub upper_found : (es : Extensions) (protocol : ℕ) (bytes : List ℕ) → AreExtensions es → protocol < 256 → (protocol == 200) ≡ false → (protocol == 201) ≡ false
    → upper_layer (behind es (layer protocol bytes)).protocol (behind es (layer protocol bytes)).bytes ≡ Some (layer protocol bytes)
upper_found es protocol bytes lawful small no-hop no-end =
    found_by es.hop_by_hop es.end_to_end protocol bytes lawful.0 lawful.1 small no-hop no-end

-- ---- the first bytes of what stands behind them

front_of_one : (kind : ℕ) (e : Option Extension) (l : Layer) (n : ℕ) → IsLawful e
    → take (len_of e + n) (behind_one kind e l).bytes ≡ (behind_one kind e (layer l.protocol (take n l.bytes))).bytes
front_of_one kind None l n lawful = let same : 0 + n ≡ n = omega arith in ap (λ (k : ℕ). take k l.bytes) same
front_of_one kind (Some e) l n lawful =
    let text = extension_text l.protocol e in
    let len : 4 * (e.len + 1) + n ≡ length text + n = omega (arith, text_len l.protocol e lawful) in
    ap (λ (k : ℕ). take k (text ++ l.bytes)) len ∙ take-append-add text l.bytes n

same_protocol : (kind : ℕ) (e : Option Extension) (protocol : ℕ) (bytes short : List ℕ)
    → behind_one kind e (layer protocol short) ≡ layer (behind_one kind e (layer protocol bytes)).protocol (behind_one kind e (layer protocol short)).bytes
same_protocol kind None protocol bytes short = refl
same_protocol kind (Some e) protocol bytes short = refl

pub front_of : (es : Extensions) (protocol : ℕ) (bytes : List ℕ) (n : ℕ) → AreExtensions es
    → take (extensions_len es + n) (behind es (layer protocol bytes)).bytes ≡ (behind es (layer protocol (take n bytes))).bytes
front_of es protocol bytes n lawful =
    let hop = es.hop_by_hop in
    let end = es.end_to_end in
    let inner = behind_one 201 end (layer protocol bytes) in
    let short = behind_one 201 end (layer protocol (take n bytes)) in
    let place : len_of hop + len_of end + n ≡ len_of hop + (len_of end + n) = omega arith in
    let below : take (len_of end + n) inner.bytes ≡ short.bytes = front_of_one 201 end (layer protocol bytes) n lawful.1 in
    let same : layer inner.protocol short.bytes ≡ short = sym (same_protocol 201 end protocol bytes (take n bytes)) in
    ap (λ (k : ℕ). take k (behind_one 200 hop inner).bytes) place
    ∙ front_of_one 200 hop inner (len_of end + n) lawful.0
    ∙ ap (λ (t : List ℕ). (behind_one 200 hop (layer inner.protocol t)).bytes) below
    ∙ ap (λ (l : Layer). (behind_one 200 hop l).bytes) same

next_by : (hop end : Option Extension) (protocol : ℕ) (bytes short : List ℕ)
    → (behind_one 200 hop (behind_one 201 end (layer protocol bytes))).protocol ≡ (behind_one 200 hop (behind_one 201 end (layer protocol short))).protocol
next_by None None protocol bytes short = refl
next_by None (Some f) protocol bytes short = refl
next_by (Some e) end protocol bytes short = refl

-- cutting a layer keeps the protocol that a header before it names
pub next_of : (es : Extensions) (protocol : ℕ) (bytes short : List ℕ) → (behind es (layer protocol bytes)).protocol ≡ (behind es (layer protocol short)).protocol
next_of es protocol bytes short = next_by es.hop_by_hop es.end_to_end protocol bytes short
