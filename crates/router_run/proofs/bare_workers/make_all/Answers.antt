use Rattle.std.proofs.Common.{◌≡◌, ◌+◌, ◌-◌, ℕ, List, length, sym, ◌∙◌, ap, subst, arith}
use Rattle.std.specs.Arc.{arc_value}
use Rattle.packet_ledger.specs.Share.{AreNew, Held}
use Rattle.router_rules.specs.Links.{link_count}
use Rattle.router_rules.specs.declared.shared.Shared.{Shared}
use Rattle.run_ends.specs.Opened.{made_pipes}
use Rattle.run_pipes.specs.Filling.{AreFilled}
use Rattle.run_pipes.specs.Piping.{Piping}
use Rattle.run_pipes.specs.Pipes.{HaveReceivers}
use Rattle.run_pipes.proofs.PipesLemmas.{own_piping}
use Rattle.run_pipes.specs.declared.pipes.Pipes.{Pipes}
use Rattle.router_run.specs.BareWorkers.{AllMade, AreOver}
use Rattle.run_workers.proofs.Making.{left_new}
use Rattle.router_run.proofs.bare_workers.make_all.Goals as goal

pub all_entering-requires-clause-pipes : goal.all_entering-requires-clause-pipes
all_entering-requires-clause-pipes g c =
    let open_ = c.in_ok-pipes.ensures in
    (open_.0, subst (λ (s : Shared). HaveReceivers s.config 0 open_.0 c.in_ok-pipes.pipes) c.deref.ensures open_.1, open_.2.free_buffers)

pub all_entering-requires-clause-shares : goal.all_entering-requires-clause-shares
all_entering-requires-clause-shares g c =
    let is = c.of-shares.ensures in
    record {
      each = subst (λ (xs : List Held). AreNew 0 xs) (sym is) c.requires.shares.each;
      enough = let e = c.requires.shares.enough in let l = ap length is in omega arith;
    }

pub after_receivers-requires-clause-pipes : goal.after_receivers-requires-clause-pipes
after_receivers-requires-clause-pipes g c =
    let open_ = c.in_ok-pipes.ensures in
    let have = subst (λ (s : Shared). HaveReceivers s.config 0 open_.0 c.in_ok-pipes.pipes) c.deref.ensures open_.1 in
    let takers = open_.2 in
    (open_.0, (c.in_ok-receivers.ensures.made open_.0 have takers.free_buffers).0, takers.packets, takers.requests, takers.egress_packets)

pub after_receivers-requires-clause-shares : goal.after_receivers-requires-clause-shares
after_receivers-requires-clause-shares g c =
    let config = (arc_value c.args.common.now.shared).config in
    left_new 0 (link_count config) (config.processors + 1 + link_count config) (link_count config) _ _ c.in_ok-receivers.ensures.shares (omega arith) (let e = c.requires.shares.enough in let l = ap length c.of-shares.ensures in omega arith)

pub fill-requires : goal.fill-requires
fill-requires g c =
    let config = (arc_value c.args.common.now.shared).config in
    let open_ = c.in_ok-pipes.ensures in
    let p = open_.0 in
    let takers = open_.2 in
    let have = subst (λ (s : Shared). HaveReceivers s.config 0 p c.in_ok-pipes.pipes) c.deref.ensures open_.1 in
    let all = (c.in_ok-after.ensures p (c.in_ok-receivers.ensures.made p have takers.free_buffers).0 takers.packets takers.requests takers.egress_packets).0 in
    (config.processors + 1 + link_count config, config.processors + 2 + link_count config, p.free, all.free, all.piping.free, omega arith)

pub returns : goal.returns
returns g c =
    let config = (arc_value c.args.common.now.shared).config in
    let m = config.processors in
    let n = link_count config in
    let open_ = c.in_ok-pipes.ensures in
    let p = open_.0 in
    let takers = open_.2 in
    let have = subst (λ (s : Shared). HaveReceivers s.config 0 p c.in_ok-pipes.pipes) c.deref.ensures open_.1 in
    let first = c.in_ok-receivers.ensures.made p have takers.free_buffers in
    let then = c.in_ok-after.ensures p first.0 takers.packets takers.requests takers.egress_packets in
    let all = then.0 in
    let after = c.in_ok-after.after in
    let fillers = c.in_ok-fillers.fillers.items in
    let more : m + 1 + n + 1 ≡ m + 2 + n = omega arith in
    let was = c.after_receivers.new.pipes in
    let pipes : Pipes g.row.N.Denot = record { packets = was.packets; requests = was.requests; egress_packets = was.egress_packets; free = c.fill.new.pipes } in
    let made : AllMade config p pipes = record { piping = all.piping; packets = all.packets; requests = all.requests; egress_packets = all.egress_packets; free = c.in_ok-fillers.ensures.made (m + 1 + n) p.free all.free ∙ ap (λ (k : ℕ). made_pipes k p.free) more } in
    let put = subst (λ (s : Shared). AreFilled (m + 1 + n) (s.config.buffers - 1) p.free fillers) c.deref-2.ensures (c.in_ok-fillers.ensures.ends (m + 1 + n) p.free all.free) in
    subst (λ (q : Piping). AreOver q config pipes c.in_ok-receivers.receivers.items after.processors.items after.slow after.forwarders.items after.shutters.items fillers) (sym (own_piping config n m (m + 2) (m + 2 + n) p pipes made))
    (record { made = made; entering = first.1; after = then.1; filled = put })
