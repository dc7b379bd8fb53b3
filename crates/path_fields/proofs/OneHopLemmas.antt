-- A field of a path of one hop written over the one that stood there: the bytes then spell the path with that field.
use Rattle.std.proofs.Common.{◌≡◌, ℕ, ◌+◌, List, [], ◌∷◌, ◌++◌, length, drop, refl, sym, subst, ap, ◌∙◌, arith, append_assoc, length-append}
use Rattle.std.proofs.lemmas.List.{append-nil, drop_all}
use Rattle.field_rows.specs.Place.{Puts}
use Rattle.field_rows.specs.Row.{field, row, rows}
use Rattle.scion_packet.specs.OneHop.{IsOneHopPath, OneHopPath, one_hop_text}
use Rattle.scion_packet.specs.Path.{hop_text, info_table}
use Rattle.path_fields.proofs.InPlaceLemmas.{after, same_write}

pub one_hop_id_changed : (p : OneHopPath) (id : ℕ) (old new : List ℕ) → Puts old new 2 (row (field 16 id ∷ [])) → old ≡ one_hop_text p
    → new ≡ one_hop_text (record p { info = record p.info { segment_id = id } })
one_hop_id_changed p id old new puts old-is =
    let text = row (field 16 id ∷ []) in
    let changed = one_hop_text (record p { info = record p.info { segment_id = id } }) in
    let named : Puts (one_hop_text p) changed 2 text = record { parts = refl; room = omega arith } in
    same_write (one_hop_text p) new changed 2 text (subst (λ (t : List ℕ). Puts t new 2 text) old-is puts) named

-- a text written over all of another one of its length
all_written : (old text : List ℕ) → length old ≡ length text → Puts old text 0 text
all_written old text same =
    let none : drop (0 + length text) old ≡ [] = drop_all (0 + length text) old (omega arith) in
    record { parts = sym (ap (λ (t : List ℕ). text ++ t) none ∙ append-nil text); room = omega arith }

pub second_hop_written : (p : OneHopPath) (text old new : List ℕ) → IsOneHopPath p → length text ≡ 12 → Puts old new 20 text → old ≡ one_hop_text p
    → new ≡ one_hop_text (record p { second = text })
second_hop_written p text old new lawful len puts old-is =
    let info = rows (info_table p.info) in
    let first = hop_text p.first in
    let front = info ++ first in
    let front-len : length front + 0 ≡ 20 = omega (arith, length-append info first, lawful.first.mac_len) in
    let within : Puts (front ++ p.second) (front ++ text) (length front + 0) text = after front p.second text 0 text (all_written p.second text (omega (arith, lawful.second_len, len))) in
    let here : Puts (front ++ p.second) (front ++ text) 20 text = subst (λ (n : ℕ). Puts (front ++ p.second) (front ++ text) n text) front-len within in
    let joined : old ≡ front ++ p.second = old-is ∙ sym (append_assoc info first p.second) in
    same_write (front ++ p.second) new (front ++ text) 20 text (subst (λ (t : List ℕ). Puts t new 20 text) joined puts) here ∙ append_assoc info first text
