-- What is read at a hop's offsets stands at the hop's place.
use Rattle.std.proofs.Common.{◌≡◌, ◌≢◌, ◌<◌, ◌≤◌, ℕ, ◌+◌, ◌-◌, List, length, slice_index, sym, ap, subst, ◌∙◌, arith}
use Rattle.path_fields.specs.Fields.{hop_field, info_field}
use Rattle.path_fields.specs.declared.meta.Meta.{Meta}
use Rattle.scion_packet.specs.Laws.{FieldsStand}
use Rattle.scion_packet.specs.Lengths.{first_hop, hop_place, info_place, segment_count}
use Rattle.scion_packet.specs.Path as packet
use Rattle.scion_packet.specs.Path.{Place, Segment, hop_at, hops_in, info_at, lengths_of, path_of, place_at}
use Rattle.scion_packet.proofs.Offsets.{fields_stand}
use Rattle.process_packet.specs.Departure.{IsOnPath}
use Rattle.process_packet.specs.PacketView.{IsWhole}
use Rattle.process_packet.specs.PathHop.{IsMetaOf, IsPathHop, LiesOn}
use Rattle.process_packet.specs.declared.packet_view.PacketView.{PacketView}
use Rattle.process_packet.specs.declared.path_hop.PathHop.{PathHop}

-- What was read of the hop with number n, of segment k.
pub record IsRead (v : PathHop) (path lengths : List ℕ) (k n : ℕ) : Type 0 where
  pub there : k < segment_count lengths
  pub begins : first_hop lengths k ≤ n
  pub ends : n < first_hop lengths k + slice_index lengths k
  pub segment : v.segment ≡ k
  pub position : v.position ≡ n - first_hop lengths k
  pub hops : v.hops ≡ slice_index lengths k
  pub number : v.number ≡ n
  pub info : info_field v.info ≡ info_at path (info_place k)
  pub hop : hop_field v.hop ≡ hop_at path (hop_place lengths n)

stands : (v : PathHop) (path : List ℕ) (k n : ℕ) → FieldsStand path → IsRead v path (lengths_of path) k n → IsPathHop v (path_of path).segments (place_at k (n - first_hop (lengths_of path) k))
stands v path k n stand read =
    let first = first_hop (lengths_of path) k in
    let i = n - first in
    let same : first + i ≡ n = omega (arith, read.begins) in
    let inside : i < slice_index (lengths_of path) k = omega (arith, read.begins, read.ends) in
    let hops = stand.hops k read.there in
    record {
      place = record {
        segment = read.segment;
        position = read.position;
        hops = read.hops ∙ sym hops;
        number = read.number ∙ sym same ∙ sym (stand.number k i read.there);
        there = omega (arith, read.there, stand.count);
        inside = omega (arith, inside, hops);
      };
      info = read.info ∙ sym (stand.info k i read.there);
      hop = read.hop ∙ ap (λ (j : ℕ). hop_at path (hop_place (lengths_of path) j)) (sym same) ∙ sym (stand.hop k i read.there inside);
    }

pub path_hop_stands : (v : PathHop) (m : Meta) (path : List ℕ) (k n : ℕ) → IsMetaOf m path → IsRead v path m.lengths k n
    → IsPathHop v (path_of path).segments (place_at k (n - first_hop m.lengths k))
path_hop_stands v m path k n meta read =
    let P : List ℕ → Type 0 = λ ls. IsRead v path ls k n → IsPathHop v (path_of path).segments (place_at k (n - first_hop ls k)) in
    subst P (sym meta.lengths) (stands v path k n (fields_stand path meta.are meta.lawful)) read

-- ---- numbers

pub record IsSmall (lengths : List ℕ) (k n : ℕ) : Type 0 where
  pub segment : k < 3
  pub hops : slice_index lengths k ≤ 64
  pub number : n < 64

small_by : (path : List ℕ) (k n : ℕ) → FieldsStand path → k < segment_count (lengths_of path) → first_hop (lengths_of path) k ≤ n
    → n < first_hop (lengths_of path) k + slice_index (lengths_of path) k → IsSmall (lengths_of path) k n
small_by path k n stand there begins ends =
    let below = stand.within k (n - first_hop (lengths_of path) k) there (omega (arith, begins, ends)) in
    let last = stand.within k (slice_index (lengths_of path) k - 1) there (omega (arith, begins, ends)) in
    record {
      segment = omega (arith, there, stand.count, stand.few);
      hops = omega (arith, last, stand.few_hops);
      number = omega (arith, below, begins, stand.few_hops);
    }

pub small : (m : Meta) (path : List ℕ) (k n : ℕ) → IsMetaOf m path → k < segment_count m.lengths → first_hop m.lengths k ≤ n
    → n < first_hop m.lengths k + slice_index m.lengths k → IsSmall m.lengths k n
small m path k n meta =
    let P : List ℕ → Type 0 = λ ls. k < segment_count ls → first_hop ls k ≤ n → n < first_hop ls k + slice_index ls k → IsSmall ls k n in
    subst P (sym meta.lengths) (small_by path k n (fields_stand path meta.are meta.lawful))

-- ---- the last hop of the segment before

-- segment j is the one before, and n the number of the first hop after it
pub record HasBefore (lengths : List ℕ) (ss : List Segment) (j n : ℕ) : Type 0 where
  pub some : 1 ≤ n
  pub there : j < segment_count lengths
  pub begins : first_hop lengths j ≤ n - 1
  pub ends : n - 1 < first_hop lengths j + slice_index lengths j
  pub position : n - 1 - first_hop lengths j ≡ hops_in ss j - 1

has_before_by : (v : PathHop) (path : List ℕ) (j : ℕ) → FieldsStand path → LiesOn v (path_of path).segments → v.position ≡ 0 → v.segment ≡ j + 1
    → HasBefore (lengths_of path) (path_of path).segments j v.number
has_before_by v path j stand is first later =
    let lengths = lengths_of path in
    let there : j + 1 < segment_count lengths = omega (arith, is.there, later, stand.count) in
    let own : v.segment < segment_count lengths = omega (arith, is.there, stand.count) in
    let at : v.number ≡ first_hop lengths v.segment + v.position = is.number ∙ stand.number v.segment v.position own in
    let from : first_hop lengths v.segment ≡ first_hop lengths (j + 1) = ap (first_hop lengths) later in
    let follows = stand.follows j there in
    let some = stand.some j (omega (arith, there)) in
    let hops = stand.hops j (omega (arith, there)) in
    let number : v.number ≡ first_hop lengths j + slice_index lengths j = omega (arith, at, from, follows, first) in
    record {
      some = omega (arith, number, some);
      there = omega (arith, there);
      begins = omega (arith, number, some);
      ends = omega (arith, number, some);
      position = omega (arith, number, some, hops);
    }

pub has_before : (v : PathHop) (m : Meta) (path : List ℕ) → IsMetaOf m path → LiesOn v (path_of path).segments → v.position ≡ 0 → v.segment ≢ 0
    → HasBefore m.lengths (path_of path).segments (v.segment - 1) v.number
has_before v m path meta is first other =
    let P : List ℕ → Type 0 = λ ls. HasBefore ls (path_of path).segments (v.segment - 1) v.number in
    let later : v.segment ≡ v.segment - 1 + 1 = omega (arith, other) in
    subst P (sym meta.lengths) (has_before_by v path (v.segment - 1) (fields_stand path meta.are meta.lawful) is first later)

-- ---- the first hop of the segment after

pub record HasNext (lengths : List ℕ) (k n : ℕ) : Type 0 where
  pub there : k < segment_count lengths
  pub begins : first_hop lengths k ≤ n
  pub ends : n < first_hop lengths k + slice_index lengths k
  pub first : n - first_hop lengths k ≡ 0

has_next_by : (v : PathHop) (path : List ℕ) → FieldsStand path → LiesOn v (path_of path).segments → v.position + 1 ≡ v.hops → v.segment + 1 < length (path_of path).segments
    → HasNext (lengths_of path) (v.segment + 1) (v.number + 1)
has_next_by v path stand is last followed =
    let lengths = lengths_of path in
    let own : v.segment < segment_count lengths = omega (arith, is.there, stand.count) in
    let there : v.segment + 1 < segment_count lengths = omega (arith, followed, stand.count) in
    let at : v.number ≡ first_hop lengths v.segment + v.position = is.number ∙ stand.number v.segment v.position own in
    let hops : v.hops ≡ slice_index lengths v.segment = is.hops ∙ stand.hops v.segment own in
    let follows = stand.follows v.segment there in
    let some = stand.some (v.segment + 1) there in
    record {
      there = there;
      begins = omega (arith, at, hops, last, follows);
      ends = omega (arith, at, hops, last, follows, some);
      first = omega (arith, at, hops, last, follows);
    }

pub has_next : (v : PathHop) (m : Meta) (path : List ℕ) → IsMetaOf m path → LiesOn v (path_of path).segments → v.position + 1 ≡ v.hops
    → v.segment + 1 < length (path_of path).segments → HasNext m.lengths (v.segment + 1) (v.number + 1)
has_next v m path meta is last followed =
    let P : List ℕ → Type 0 = λ ls. HasNext ls (v.segment + 1) (v.number + 1) in
    subst P (sym meta.lengths) (has_next_by v path (fields_stand path meta.are meta.lawful) is last followed)

-- ---- a lawful path

pub whole_path : (path : List ℕ) → FieldsStand path → IsWhole (path_of path).segments
whole_path path stand = record {
  some = λ k below. let there : k < segment_count (lengths_of path) = omega (arith, below, stand.count) in let some = stand.some k there in omega (arith, some, stand.hops k there);
  segments = stand.few;
  hops = omega (arith, stand.few_hops, stand.all_hops);
}

pub on_path : (v : PacketView) (m : Meta) (path : List ℕ) → IsMetaOf m path → LiesOn v.current (path_of path).segments → v.segments ≡ length (path_of path).segments → IsOnPath v
on_path v m path meta lies count =
    record { segments = (path_of path).segments; whole = whole_path path (fields_stand path meta.are meta.lawful); lies = lies; count = count }

-- ---- the current hop

pub record HasCurrent (m : Meta) : Type 0 where
  pub there : m.current_info < segment_count m.lengths
  pub begins : first_hop m.lengths m.current_info ≤ m.current_hop
  pub ends : m.current_hop < first_hop m.lengths m.current_info + slice_index m.lengths m.current_info

record Current (lengths : List ℕ) (k n : ℕ) : Type 0 where
  there : k < segment_count lengths
  begins : first_hop lengths k ≤ n
  ends : n < first_hop lengths k + slice_index lengths k

current_of : (path : List ℕ) → FieldsStand path → Current (lengths_of path) (packet.current_info path) (packet.current_hop path)
current_of path stand = record { there = omega (arith, stand.there, stand.count); begins = stand.begins; ends = stand.ends }

pub has_current : (m : Meta) (path : List ℕ) → IsMetaOf m path → HasCurrent m
has_current m path meta =
    let named : Current m.lengths m.current_info m.current_hop =
    subst (λ (ls : List ℕ). Current ls m.current_info m.current_hop) (sym meta.lengths)
    (subst (λ (k : ℕ). Current (lengths_of path) k m.current_hop) (sym meta.info)
    (subst (λ (n : ℕ). Current (lengths_of path) (packet.current_info path) n) (sym meta.hop) (current_of path (fields_stand path meta.are meta.lawful)))) in
    record { there = named.there; begins = named.begins; ends = named.ends }

-- what is read at the cursor stands at the path's place
pub first_path_hop : (v : PathHop) (m : Meta) (path other : List ℕ) (k n : ℕ) → path ≡ other → IsMetaOf m other → k ≡ m.current_info → n ≡ m.current_hop
    → IsPathHop v (path_of path).segments (place_at k (n - first_hop m.lengths k)) → IsPathHop v (path_of other).segments (path_of other).place
first_path_hop v m path other k n same meta k-is n-is is =
    let place : place_at k (n - first_hop m.lengths k) ≡ (path_of other).place =
    ap (λ (j : ℕ). place_at j (n - first_hop m.lengths j)) (k-is ∙ meta.info)
    ∙ ap (λ (h : ℕ). place_at (packet.current_info other) (h - first_hop m.lengths (packet.current_info other))) (n-is ∙ meta.hop)
    ∙ ap (λ (ls : List ℕ). place_at (packet.current_info other) (packet.current_hop other - first_hop ls (packet.current_info other))) meta.lengths in
    subst (λ (at : Place). IsPathHop v (path_of other).segments at) place
    (subst (λ (t : List ℕ). IsPathHop v (path_of t).segments (place_at k (n - first_hop m.lengths k))) same is)

pub count_of : (m : Meta) (path : List ℕ) (count : ℕ) → IsMetaOf m path → count ≡ segment_count m.lengths → count ≡ length (path_of path).segments
count_of m path count meta is =
    is ∙ ap segment_count meta.lengths ∙ sym (fields_stand path meta.are meta.lawful).count
