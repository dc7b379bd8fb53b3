-- An answer is a lawful packet, and short, by what is answered and who answers alone.
use Rattle.std.proofs.Common.{◌≡◌, ◌≤◌, ◌<◌, ◌+◌, ◌-◌, ◌*◌, ◌/◌, ◌^◌, ◌++◌, ℕ, zero, suc, Bool, true, false, not, nat_lt, List, [], ◌∷◌, length, map, reverse, Option, Some, None, refl, sym, ap, subst, ◌∙◌, arith, if◌then◌else◌, inl, inr, length-append}
use Rattle.std.specs.List.{AllByRecursion}
use Rattle.std.proofs.lemmas.Bool.{cases_lt}
use Rattle.std.proofs.lemmas.Bool.Decides.{Decides-ltb}
use Rattle.std.proofs.lemmas.List.{length-map, length-reverse, reverse-append}
use Rattle.std.proofs.lemmas.List.Sums.{sum_by_more_le}
use Rattle.field_rows.specs.Row.{rows}
use Rattle.scion_packet.specs.Header.{HostAddress, IsAddress, IsHeader, front_len, header_text, host_code}
use Rattle.scion_packet.specs.Packet.{IsPacket, Packet, spelling}
use Rattle.scion_packet.specs.Path.{HopField, IsHop, IsPath, IsSegment, PathFields, Place, Segment, count_hops, hop_number, hops_in, hops_text, infos_text, path_text, place_at}
use Rattle.scion_packet.specs.Places.{is_followed, mirrored, next, no_segment}
use Rattle.scion_packet.specs.Reversed.{cleared_hop, reversed_path, reversed_segment}
use Rattle.scion_packet.proofs.Fields.{bit_fits}
use Rattle.scion_packet.proofs.Offsets.{hops_in_is}
use Rattle.scion_packet.proofs.Runs.{hops_len, infos_len}
use Rattle.process_packet.specs.Request.{request}
use Rattle.process_packet.specs.declared.decision.Problem.{Problem}
use Rattle.process_packet.proofs.KeptLemmas.{kept_place}
use Rattle.process_packet.proofs.LawfulLemmas.{IsOnPath, is_on, some_hop}
use Rattle.net_laws.specs.LawfulStart.{IsIpHost}
use Rattle.net_laws.proofs.BackLemmas.{back, back_count, back_len, back_size}
use Rattle.scmp_answer.specs.Checksum.{checksum, summed}
use Rattle.scmp_answer.specs.Message.{message, message_table, numbers_of, quote}
use Rattle.scmp_answer.specs.Reply.{answer_header, answer_packet, header_len}
use Rattle.scmp_answer.specs.WayBack.{leaves_the_hop, moved_to, one_hop_on, way_back}
use Rattle.scmp_answer.proofs.GoodLemmas.{quote_fits}
use Rattle.scmp_answer.proofs.TableLemmas.{table_len}

-- ---- lists

all_append : {X : Type 0} (P : X → Type 0) (xs ys : List X) → AllByRecursion P xs → AllByRecursion P ys → AllByRecursion P (xs ++ ys)
all_append P [] ys all more = more
all_append P (x ∷ xs) ys all more = (all.0, all_append P xs ys all.1 more)

all_reverse : {X : Type 0} (P : X → Type 0) (xs : List X) → AllByRecursion P xs → AllByRecursion P (reverse xs)
all_reverse P [] all = tt
all_reverse P (x ∷ xs) all =
    subst (λ ys. AllByRecursion P ys) (sym (reverse-append (x ∷ []) xs)) (all_append P (reverse xs) (x ∷ []) (all_reverse P xs all.1) (all.0, tt))

cleared_hops : (hs : List HopField) → AllByRecursion IsHop hs → AllByRecursion IsHop (map cleared_hop hs)
cleared_hops [] all = tt
cleared_hops (h ∷ hs) all = (record { fits = ((omega arith, (omega arith, (omega arith, tt))), all.0.fits.1); mac_len = all.0.mac_len }, cleared_hops hs all.1)

turned_segment : (s : Segment) → IsSegment s → IsSegment (reversed_segment s)
turned_segment s is =
    let some = is.some in
    let along = bit_fits (not s.info.along) in
    record {
      info = ((omega arith, (omega arith, (along, tt))), ((omega arith, tt), is.info.1.1));
      hops = cleared_hops (reverse s.hops) (all_reverse IsHop s.hops is.hops);
      some = omega (arith, length-map (reverse s.hops) cleared_hop, length-reverse s.hops);
    }

turned_segments : (ss : List Segment) → AllByRecursion IsSegment ss → AllByRecursion IsSegment (map reversed_segment ss)
turned_segments [] all = tt
turned_segments (s ∷ ss) all = (turned_segment s all.0, turned_segments ss all.1)

-- ---- the way back

no_hops : (ss : List Segment) (k : ℕ) → length ss ≤ k → hops_in ss k ≡ 0
no_hops [] k past = refl
no_hops (s ∷ ss) zero past = absurd (omega arith)
no_hops (s ∷ ss) (suc k) past = no_hops ss k (omega arith)

-- each segment's length has six bits
few_in : (p : PathFields) → IsPath p → (k : ℕ) → hops_in p.segments k < 2 ^ 6
few_in p lawful zero = lawful.meta.1.0.1.0
few_in p lawful (suc zero) = lawful.meta.1.0.1.1.0
few_in p lawful (suc (suc zero)) = lawful.meta.1.0.1.1.1.0
few_in p lawful (suc (suc (suc k))) = let few = lawful.few in let none = no_hops p.segments (suc (suc (suc k))) (omega arith) in omega arith

few_back : (p : PathFields) → IsPath p → (j : ℕ) → hops_in (back p.segments) j < 2 ^ 6
few_back p lawful j =
    elim (cases_lt j (length p.segments)) [
      | inl there ↦ subst (λ (n : ℕ). n < 2 ^ 6) (sym (back_size p.segments j there)) (few_in p lawful (length p.segments - 1 - j))
      | inr past ↦ let len = back_len p.segments in let none = no_hops (back p.segments) j (omega arith) in omega arith
    ]

number_fits : (ss : List Segment) (at : Place) → count_hops ss ≤ 64 → IsOnPath ss at → hop_number ss at < 64
number_fits ss at few on =
    let more = sum_by_more_le (λ (s : Segment). length s.hops) ss at.segment no_segment on.there in
    let size = hops_in_is ss at.segment in
    let inside = on.inside in
    omega arith

mirrored_on : (p : PathFields) → IsPath p → IsOnPath (back p.segments) (mirrored p.segments p.place)
mirrored_on p lawful =
    let on = is_on p lawful in
    let there = on.there in
    let inside = on.inside in
    let len = back_len p.segments in
    let j = length p.segments - 1 - p.place.segment in
    let other : length p.segments - 1 - j ≡ p.place.segment = omega arith in
    let size : hops_in (back p.segments) j ≡ hops_in p.segments p.place.segment = back_size p.segments j (omega arith) ∙ ap (hops_in p.segments) other in
    record { there = omega arith; inside = omega arith }

reversed_lawful : (p : PathFields) → IsPath p → IsPath (reversed_path p)
reversed_lawful p lawful =
    let on = mirrored_on p lawful in
    let len = back_len p.segments in
    let count = back_count p.segments in
    let some = lawful.some in
    let few = lawful.few in
    let hops = lawful.hops in
    let there = on.there in
    let number = number_fits (back p.segments) (mirrored p.segments p.place) (omega arith) on in
    record {
      meta = ((omega arith, (number, tt)), ((omega arith, (few_back p lawful 0, (few_back p lawful 1, (few_back p lawful 2, tt)))), tt));
      segments = turned_segments (reverse p.segments) (all_reverse IsSegment p.segments lawful.segments);
      some = omega arith;
      few = omega arith;
      hops = omega arith;
      inside = on.inside;
    }

next_by : (b c : Bool) (ss : List Segment) (at to : Place) → AllByRecursion IsSegment ss → IsOnPath ss at → nat_lt (at.position + 1) (hops_in ss at.segment) ≡ b → is_followed ss at ≡ c
    → (if b then Some (place_at at.segment (at.position + 1)) else if c then Some (place_at (at.segment + 1) 0) else None) ≡ Some to → IsOnPath ss to
next_by true c ss at to all on within followed is =
    let same : place_at at.segment (at.position + 1) ≡ to = cc in
    subst (λ (x : Place). IsOnPath ss x) same (record { there = on.there; inside = (Decides-ltb (at.position + 1) (hops_in ss at.segment)).0 within })
next_by false true ss at to all on within followed is =
    let same : place_at (at.segment + 1) 0 ≡ to = cc in
    let there : at.segment + 1 < length ss = (Decides-ltb (at.segment + 1) (length ss)).0 followed in
    subst (λ (x : Place). IsOnPath ss x) same (record { there = there; inside = some_hop ss (at.segment + 1) all there })
next_by false false ss at to all on within followed is = absurd cc

moved_lawful : (o : Option Place) (p : PathFields) → IsPath p → next p.segments p.place ≡ o → IsPath (moved_to o p)
moved_lawful None p lawful is = lawful
moved_lawful (Some to) p lawful is =
    let on = next_by (nat_lt (p.place.position + 1) (hops_in p.segments p.place.segment)) (is_followed p.segments p.place) p.segments p.place to lawful.segments (is_on p lawful) refl refl is in
    kept_place p to on.there on.inside lawful

way_by : (b : Bool) (p : PathFields) → IsPath p → IsPath (if b then one_hop_on p else p)
way_by true p lawful = moved_lawful (next p.segments p.place) p lawful refl
way_by false p lawful = lawful

pub way_lawful : (link : ℕ) (p : PathFields) → IsPath p → IsPath (way_back link p)
way_lawful link p lawful = way_by (leaves_the_hop link p) (reversed_path p) (reversed_lawful p lawful)

-- ---- the answer

path_len : (p : PathFields) → IsPath p → length (path_text p) ≡ 4 + 8 * length p.segments + 12 * count_hops p.segments
path_len p lawful =
    let infos = infos_len p.segments in
    let hops = hops_len p.segments lawful.segments in
    omega (arith, length-append (infos_text p.segments) (hops_text p.segments))

record IsRoomy (h : HostAddress) : Type 0 where
  kind : h.kind < 2 ^ 2
  code : host_code h < 2 ^ 2

roomy : (h : HostAddress) → IsIpHost h → IsRoomy h
roomy h (IsIpHost.ip_4 kind code) = record { kind = omega arith; code = omega arith }
roomy h (IsIpHost.ip_6 kind code) = record { kind = omega arith; code = omega arith }

pub record IsShort (q : Packet) : Type 0 where
  pub lawful : IsPacket q
  pub short : length (spelling q) ≤ 1232

module _ (here : HostAddress) (p : Packet) (w : PathFields) (bytes : List ℕ) (problem : Problem) (lawful : IsPacket p) (address : IsAddress here) (ip : IsIpHost here) (way : IsPath w) where
  abbrev at : ℕ
  at = header_len here p.header w

  abbrev unsummed : List ℕ
  unsummed = message here p at problem bytes 0

  abbrev answer : Packet
  answer = answer_packet here p w bytes problem

  small : at + 24 ≤ 1232
  small =
      let room = roomy here ip in
      let code = room.code in
      let own = address.1 in
      let other = lawful.header.source.1 in
      let source_code = lawful.header.common.1.1.1.1.1.0.1.1.1.0 in
      let len = path_len w way in
      let few = way.few in
      let hops = way.hops in
      omega arith

  message_len : (c : ℕ) → at + length (message here p at problem bytes c) ≤ 1232
  message_len c =
      let numbers = numbers_of (request p.header.next_header p.payload) in
      let fits = quote_fits at problem bytes small in
      let table = table_len here numbers problem c in
      let whole = length-append (rows (message_table here p problem c)) (quote at problem bytes) in
      omega arith

  header : IsHeader (answer_header here p.header at (length unsummed))
  header =
      let room = roomy here ip in
      let c = lawful.header.common in
      let kinds = c.1.1.1.1.1.0 in
      let code = room.code in
      let own = address.1 in
      let other = lawful.header.source.1 in
      let source_code = kinds.1.1.1.0 in
      let len = path_len w way in
      let near = small in
      let text = message_len 0 in
      record {
        common = (c.0, ((omega arith, tt), ((omega arith, tt), ((omega arith, tt), ((omega arith, tt), ((kinds.1.1.0, (kinds.1.1.1.0, (room.kind, (room.code, tt)))), ((omega arith, tt), tt)))))));
        destination = lawful.header.source;
        source = address;
        covers = omega arith;
      }

  whole : 4 * (at / 4) ≡ front_len (answer_header here p.header at (length unsummed)) + length (path_text w)
  whole =
      let own = address.1 in
      let other = lawful.header.source.1 in
      let len = path_len w way in
      omega arith

  text_len : length (header_text answer.header) ≡ front_len answer.header
  text_len =
      let d = answer.header.destination.host in
      let s = answer.header.source.host in
      omega (arith, length-append d s)

  pub is_short : IsShort answer
  is_short =
      let c = checksum (summed (answer_header here p.header at (length unsummed)) unsummed) in
      let text = message_len c in
      let front = text_len in
      let a = length-append (header_text answer.header) (path_text w ++ answer.payload) in
      let b = length-append (path_text w) answer.payload in
      record { lawful = record { header = header; path_type = refl; path = way; whole = whole }; short = omega arith }
