-- The router's pipes before a worker has its ends, and before the first is back.
use Rattle.std.proofs.Common.{◌≡◌, ℕ, ◌+◌, ◌<◌, List, [], length, map, refl, sym, ap, subst, ◌∙◌}
use Rattle.order_laws.specs.Settled.{SlowPathRequest}
use Rattle.process_packet.specs.declared.config.Config.{Config}
use Rattle.ruled_pipe.specs.Producer.{Sender}
use Rattle.ruled_pipe.specs.Pipe.{Keeping, Shape, IsNext, IsEndOf, shape_of}
use Rattle.router_rules.specs.Links.{link_count}
use Rattle.router_rules.specs.Rules.{kinds}
use Rattle.run_ends.specs.Opened.{made_pipe, made_pipes}
use Rattle.run_ends.specs.TakenBack.{back_pipe}
use Rattle.run_ends.proofs.TakenBackLemmas.{made_shapes, none_are_back}
use Rattle.run_pipes.specs.Piping.{Piping}
use Rattle.run_pipes.specs.Pipes.{HaveAllBack, HaveMade, piping_of}
use Rattle.run_pipes.specs.declared.pipes.Pipes.{Pipes}

shapes_are : {T : Type 0} (n : ℕ) (ss : List Shape) (os : List (Keeping T)) → os ≡ made_pipes n ss → map shape_of os ≡ ss
shapes_are {T = T} n ss os is = ap (map shape_of) is ∙ made_shapes T n ss

module _ {N : Type 0} where
  -- by their own name
  pub own_piping : (c : Config) (a m o f : ℕ) (p : Piping) (k : Pipes N) → HaveMade c a m o f p k → piping_of k ≡ p
  own_piping c a m o f p k made =
      let i = shapes_are a p.packets k.packets.items made.packets in
      let u = shapes_are o p.egress_packets k.egress_packets.items made.egress_packets in
      let e = shapes_are f p.free k.free.items made.free in
      let s : shape_of k.requests ≡ p.requests = ap (λ (x : Keeping (SlowPathRequest kinds)). shape_of x) made.requests in
      ap (λ (x : List Shape). record { packets = x; requests = shape_of k.requests; egress_packets = map shape_of k.egress_packets.items; free = map shape_of k.free.items }) i
      ∙ (ap (λ (x : Shape). record { packets = p.packets; requests = x; egress_packets = map shape_of k.egress_packets.items; free = map shape_of k.free.items }) s
      ∙ (ap (λ (x : List Shape). record { packets = p.packets; requests = p.requests; egress_packets = x; free = map shape_of k.free.items }) u
      ∙ ap (λ (x : List Shape). record { packets = p.packets; requests = p.requests; egress_packets = p.egress_packets; free = x }) e))

  -- all were made, and none is back yet
  pub none_are_all_back : (c : Config) (p : Piping) (k : Pipes N) (f : ℕ) → HaveMade c (link_count c) c.processors (c.processors + 2) f p k → HaveAllBack [] [] [] p k
  none_are_all_back c p k f made = record {
    packets = none_are_back (link_count c) p.packets k.packets.items made.packets made.piping.packets;
    requests = made.requests ∙ ap (λ (m : ℕ). made_pipe m p.requests) (sym made.piping.requests);
    egress_packets = none_are_back (c.processors + 2) p.egress_packets k.egress_packets.items made.egress_packets made.piping.egress_packets;
  }

-- one more is to be made of the slow path's pipe; and the next processor's is to be taken back
pub one_to_make : (k : ℕ) (s : Shape) (o : Keeping (SlowPathRequest kinds)) → o ≡ made_pipe k s → k < s.producers → (o.made < o.producers) × (o.senders ≡ [])
one_to_make k s o is lt = subst (λ (x : Keeping (SlowPathRequest kinds)). (x.made < x.producers) × (x.senders ≡ [])) (sym is) (lt, refl)

pub request_next : (n : ℕ) (row : List (Sender (SlowPathRequest kinds))) (s : Shape) (o : Keeping (SlowPathRequest kinds)) (e : Sender (SlowPathRequest kinds)) → o ≡ back_pipe row s → IsEndOf s n e → length row ≡ n → IsNext o e
request_next n row s o e is end long = subst (λ (x : Keeping (SlowPathRequest kinds)). IsNext x e) (sym is) (end.0, end.1 ∙ sym long, end.2, end.3)
