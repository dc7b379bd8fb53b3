-- A pipeline before its first step.
use Rattle.std.proofs.Common.{◌≡◌, ℕ, zero, suc, ◌+◌, ◌*◌, ◌<◌, List, [], ◌∷◌, ◌++◌, map, replicate, length, get_or, refl, sym, subst, ap, ap₂, ◌∙◌, arith}
use Rattle.std.specs.List.{Contains}
use Rattle.std.proofs.lemmas.List.{ext_get_or}
use Rattle.std.proofs.lemmas.List.FromFn.{get_or-map-range_with_len, length-map-range_with_len}
use Rattle.std.specs.declared.alloc.Global.{Global}
use Rattle.std.specs.declared.vec.Vec.{Vec}
use Rattle.order_laws.specs.Item.{Arrival, Arrived, Item}
use Rattle.replay_laws.specs.Pipe.{Entry, Pipe, empty_pipe, items}
use Rattle.replay_laws.specs.Start.{AreSources, HasArrival, Numbered, arrivals, first_world}
use Rattle.replay_laws.specs.World.{World}
use Rattle.replay_laws.proofs.Begins.{begins}
use Rattle.process_packet.specs.declared.arrival.Arrival.{Arrival as Came}
use Rattle.process_packet.specs.declared.config.Config.{Config}
use Rattle.router_rules.specs.Links.{link_count, link_index}
use Rattle.router_rules.specs.Rules.{Arrives, kinds, rules}
use Rattle.pipe_model.specs.Begun.{AreArrivals, AreFrom, AreNumbered, arriving, entry_of, sources_of}
use Rattle.replay_state.specs.Arrivals.{arrived_in, source, source_entry, sources_from}
use Rattle.replay_steps.proofs.SourceLemmas.{length-sources_from}
use Rattle.pipe_model.specs.Headline.{IsReached}

abbrev Lists : Type 0
Lists = List (Vec Came Global)

numbered : (c : Config) (a n : ℕ) (xs : List Came) → AreNumbered c a n xs → Numbered a n (items (map (source_entry a) xs))
numbered c a n [] h = tt
numbered c a n (x ∷ xs) h = (refl, h.1, numbered c a (n + 1) xs h.2)

pub are_sources : (c : Config) (a : ℕ) (ls : Lists) → AreFrom c a ls → AreSources a (sources_from a ls)
are_sources c a [] h = tt
are_sources c a (xs ∷ ls) h = ((refl, refl, numbered c a 1 xs.items h.0), are_sources c (a + 1) ls h.1)

-- what stands in a source came by its link
abbrev CameBy : Config → ℕ → Arrival kinds → Type 0
CameBy c a x = (link_index c x.datagram.interface ≡ a) × (x.link ≡ a)

abbrev at_or : List (Item kinds) → ℕ → Item kinds → Item kinds
at_or = get_or

came_at : (c : Config) (a n : ℕ) (xs : List Came) → AreNumbered c a n xs → (k : ℕ) → k < length (items (map (source_entry a) xs)) → (x : Arrival kinds) → get_or (items (map (source_entry a) xs)) k (Arrived x) ≡ Arrived x → CameBy c a x
came_at c a n [] h k i x e = absurd (omega arith)
came_at c a n (y ∷ ys) h zero i x e =
    let f : arrived_in a y ≡ x = cc in
    let P : Arrival kinds → Type 0 = CameBy c a in
    subst P f (h.0, refl)
came_at c a n (y ∷ ys) h (suc k) i x e = came_at c a (n + 1) ys h.2 k (omega arith) x e

abbrev history_at : List (Pipe kinds) → ℕ → List (Item kinds)
history_at ps j = items (get_or ps j (empty_pipe 0)).history

none_in : (m capacity j : ℕ) → history_at (replicate m (empty_pipe capacity)) j ≡ []
none_in zero capacity j = refl
none_in (suc m) capacity zero = refl
none_in (suc m) capacity (suc j) = none_in m capacity j

none_there : (xs : List (Item kinds)) (x : Item kinds) → xs ≡ [] → Contains xs x → ⊥
none_there xs x e h = let f : length xs ≡ 0 = ap length e in omega (arith, h.1)

came_from : (c : Config) (a : ℕ) (ls : Lists) (m capacity : ℕ) → AreFrom c a ls → (j : ℕ) (x : Arrival kinds) → Contains (history_at (sources_from a ls ++ replicate m (empty_pipe capacity)) j) (Arrived x) → CameBy c (a + j) x × (j < length ls)
came_from c a [] m capacity h j x there = absurd (none_there _ (Arrived x) (none_in m capacity j) there)
came_from c a (xs ∷ ls) m capacity h zero x there =
    let e : a ≡ a + 0 = omega arith in
    let P : ℕ → Type 0 = λ k. CameBy c k x in
    (subst P e (came_at c a 1 xs.items h.0 there.0 there.1 x there.2), omega arith)
came_from c a (xs ∷ ls) m capacity h (suc j) x there =
    let e : (a + 1) + j ≡ a + suc j = omega arith in
    let P : ℕ → Type 0 = λ k. CameBy c k x in
    let r = came_from c (a + 1) ls m capacity h.1 j x there in
    (subst P e r.0, omega (arith, r.1))

arrives : (c : Config) (ls : Lists) → AreArrivals c ls → (x : Arrival kinds) → HasArrival (first_world (rules c) c.capacity (sources_from 0 ls)) x → Arrives c x
arrives c ls h x there =
    let r = came_from c 0 ls ((rules c).processors + 1 + 2 * (rules c).links) c.capacity h.1 x.link x there in
    let e : 0 + x.link ≡ x.link = omega arith in
    (r.0.0 ∙ e, omega (arith, r.1, h.0))

-- ---- the start, read off the world

abbrev lists_of : ℕ → Lists → List (List (Item kinds))
lists_of a [] = []
lists_of a (xs ∷ ls) = items (map (source_entry a) xs.items) ∷ lists_of (a + 1) ls

length-lists_of : (a : ℕ) (ls : Lists) → length (lists_of a ls) ≡ length ls
length-lists_of a [] = refl
length-lists_of a (xs ∷ ls) = ap suc (length-lists_of (a + 1) ls)

entries_back : (a : ℕ) (xs : List Came) → map (entry_of a) (items (map (source_entry a) xs)) ≡ map (source_entry a) xs
entries_back a [] = refl
entries_back a (x ∷ xs) = ap (λ (es : List (Entry kinds)). source_entry a x ∷ es) (entries_back a xs)

sources_back : (a : ℕ) (ls : Lists) → sources_of a (lists_of a ls) ≡ sources_from a ls
sources_back a [] = refl
sources_back a (xs ∷ ls) =
    ap₂ (λ (es : List (Entry kinds)) (ps : List (Pipe kinds)). record { history = es; taken = 0; capacity = 0; refusals = [] } ∷ ps) (entries_back a xs.items) (sources_back (a + 1) ls)

list_at : (a : ℕ) (ls : Lists) (rest : List (Pipe kinds)) (i : ℕ) → i < length ls → history_at (sources_from a ls ++ rest) i ≡ get_or (lists_of a ls) i []
list_at a [] rest i there = absurd (omega (arith, there))
list_at a (xs ∷ ls) rest zero there = refl
list_at a (xs ∷ ls) rest (suc i) there = list_at (a + 1) ls rest i (omega (arith, there))

arriving_first : (c : Config) (ls : Lists) → length ls ≡ link_count c → arriving c (first_world (rules c) c.capacity (sources_from 0 ls)) ≡ lists_of 0 ls
arriving_first c ls count = ext_get_or [] _ _ (long ∙ sym (length-lists_of 0 ls ∙ count)) at
  where
    w : World kinds
    w = first_world (rules c) c.capacity (sources_from 0 ls)

    long : length (arriving c w) ≡ link_count c
    long = length-map-range_with_len (arrivals w) 0 (link_count c)

    at : (i : ℕ) → i < length (arriving c w) → get_or (arriving c w) i [] ≡ get_or (lists_of 0 ls) i []
    at i below =
        let same : 0 + i ≡ i = omega arith in
        get_or-map-range_with_len (arrivals w) 0 (link_count c) i i [] (omega (arith, below, long)) same
        ∙ list_at 0 ls (replicate ((rules c).processors + 1 + 2 * (rules c).links) (empty_pipe c.capacity)) i (omega (arith, below, long, count))

pub begun_is_reached : (c : Config) (ls : Lists) → AreArrivals c ls → IsReached c (first_world (rules c) c.capacity (sources_from 0 ls))
begun_is_reached c ls h = record {
  way = record {
    start = first_world (rules c) c.capacity (sources_from 0 ls);
    steps = [];
    is_start = begins kinds (rules c) c.capacity (sources_from 0 ls) (length-sources_from 0 ls ∙ h.0) (are_sources c 0 ls h.1);
    by_steps = refl;
  };
  begins = ap (first_world (rules c) c.capacity) (sym (ap (sources_of 0) (arriving_first c ls h.0) ∙ sources_back 0 ls));
  arrives = arrives c ls h;
}
