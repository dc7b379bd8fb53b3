use Rattle.std.proofs.Common.{◌≡◌, ◌<◌, ◌∙◌, ℕ, List, Some, None, length, take, sym, ap, subst, arith, false}
use Rattle.std.specs.Arc.{arc_value}
use Rattle.flow_key.specs.Flow.{flow_at}
use Rattle.flow_key.specs.Hash.{processor_of}
use Rattle.packet_ledger.specs.Share.{MayRaise}
use Rattle.order_laws.specs.Item.{Arrival}
use Rattle.process_packet.specs.declared.cause.Cause.TheVariants as cause
use Rattle.worker_order.specs.Heard.{arrival}
use Rattle.router_rules.specs.Rules.{inspected, kinds}
use Rattle.router_rules.specs.declared.shared.Shared.{Shared}
use Rattle.worker_parts.specs.Outlets.{GaveAt, KeptAt}
use Rattle.worker_parts.proofs.EndLemmas.{gave_long, kept_long}
use Rattle.worker_receiver.specs.Pool.{Stock, Another, stock}
use Rattle.worker_receiver.specs.Intake.{Intake, Taking}
use Rattle.worker_receiver.proofs.Passing.{may_fate, in_fault, in_lack, in_accepted, in_refused, seen_as}
use Rattle.worker_receiver.proofs.intake.Intake.pass_in.Goals as goal

pub fate-requires : goal.fate-requires
fate-requires g c =
    may_fate c.self.inside.share c.received.new.self c.in-Err.why (subst (λ (t : Taking). MayRaise t.side.share.counts) (sym c.self.view_is) c.requires.room) c.received.ensures

pub returns-in-Err-clause-passed : goal.returns-in-Err-clause-passed
returns-in-Err-clause-passed g c =
    let s = c.self.inside in
    let side : Intake = record { config = (arc_value s.shared).config; link = s.link; interface = s.interface; stock = s.pool.stock; processors = s.processors.items; share = s.share } in
    let x = arrival s.link s.interface c.args.number c.args.from c.args.now (take c.args.len s.pool.room) in
    let why = subst (λ (t : List ℕ). inspected (arc_value s.shared).config s.interface t ≡ Some c.in-Err.why) c.front.ensures
    (subst (λ (h : Shared). inspected h.config s.interface c.front.result.now ≡ Some c.in-Err.why) c.deref.ensures (subst (λ (l : ℕ). inspected c.deref.result.now.config l c.front.result.now ≡ Some c.in-Err.why) c.id.ensures c.in-Err.ensures.cause)) in
    seen_as (record { room = s.pool.room; side = side }) c.args.self.now c.self.view_is c.args.number c.args.from c.args.now c.args.len _
    (in_fault side x c.received.new.self c.received.ensures c.in-Err.why c.fate.new.self why c.fate.ensures)

pub fate-requires-in_default : goal.fate-requires-in_default
fate-requires-in_default g c =
    may_fate c.self.inside.share c.received.new.self cause.NoBuffer (subst (λ (t : Taking). MayRaise t.side.share.counts) (sym c.self.view_is) c.requires.room) c.received.ensures

pub returns-in_default-clause-passed : goal.returns-in_default-clause-passed
returns-in_default-clause-passed g c =
    let s = c.self.inside in
    let side : Intake = record { config = (arc_value s.shared).config; link = s.link; interface = s.interface; stock = s.pool.stock; processors = s.processors.items; share = s.share } in
    let x = arrival s.link s.interface c.args.number c.args.from c.args.now (take c.args.len s.pool.room) in
    let clear = subst (λ (t : List ℕ). inspected (arc_value s.shared).config s.interface t ≡ None) c.front.ensures
    (subst (λ (h : Shared). inspected h.config s.interface c.front.result.now ≡ None) c.deref.ensures (subst (λ (l : ℕ). inspected c.deref.result.now.config l c.front.result.now ≡ None) c.id.ensures c.in-Ok.ensures.clear)) in
    seen_as (record { room = s.pool.room; side = side }) c.args.self.now c.self.view_is c.args.number c.args.from c.args.now c.args.len _
    (in_lack side x c.received.new.self c.received.ensures c.another.new.self.stock c.fate-in_default.new.self clear c.in_default.ensures.got c.fate-in_default.ensures)

pub fate-requires-in-Err-offer_at : goal.fate-requires-in-Err-offer_at
fate-requires-in-Err-offer_at g c =
    may_fate c.self.inside.share c.received.new.self cause.ProcessorFull (subst (λ (t : Taking). MayRaise t.side.share.counts) (sym c.self.view_is) c.requires.room) c.received.ensures

pub invariant_of-self-in-Err-offer_at : goal.invariant_of-self-in-Err-offer_at
invariant_of-self-in-Err-offer_at g c =
    let inv = c.self.invariant in
    let there : c.in-Ok.at < length c.self.inside.processors.items = let l = inv.2 in let t = c.in-Ok.ensures.there in let d = ap (λ (h : Shared). h.config.processors) c.deref.ensures in omega arith in
    (inv.0, inv.1, kept_long c.in-Ok.at c.new-packet.result c.self.inside.processors.items c.offer_at.new.ends.items there c.in-Err-offer_at.ensures.1 ∙ inv.2)

pub invariant_of-self-in_default-offer_at : goal.invariant_of-self-in_default-offer_at
invariant_of-self-in_default-offer_at g c =
    let inv = c.self.invariant in
    let there : c.in-Ok.at < length c.self.inside.processors.items = let l = inv.2 in let t = c.in-Ok.ensures.there in let d = ap (λ (h : Shared). h.config.processors) c.deref.ensures in omega arith in
    let gave : GaveAt c.in-Ok.at c.new-packet.result c.self.inside.processors.items c.offer_at.new.ends.items = c.in_default-offer_at.ensures in
    (inv.0, inv.1, gave_long c.in-Ok.at c.new-packet.result c.self.inside.processors.items c.offer_at.new.ends.items there gave ∙ inv.2)

pub returns-in-Err-offer_at-clause-passed : goal.returns-in-Err-offer_at-clause-passed
returns-in-Err-offer_at-clause-passed g c =
    let s = c.self.inside in
    let side : Intake = record { config = (arc_value s.shared).config; link = s.link; interface = s.interface; stock = s.pool.stock; processors = s.processors.items; share = s.share } in
    let F : List ℕ → Arrival kinds = λ room. arrival s.link s.interface c.args.number c.args.from c.args.now (take c.args.len room) in
    let x = F s.pool.room in
    let clear = subst (λ (t : List ℕ). inspected (arc_value s.shared).config s.interface t ≡ None) c.front.ensures
    (subst (λ (h : Shared). inspected h.config s.interface c.front.result.now ≡ None) c.deref.ensures (subst (λ (l : ℕ). inspected c.deref.result.now.config l c.front.result.now ≡ None) c.id.ensures c.in-Ok.ensures.clear)) in
    let here = subst (λ (t : List ℕ). c.in-Ok.at ≡ processor_of (flow_at false t) (arc_value s.shared).config.seed (arc_value s.shared).config.processors) c.front.ensures
    (subst (λ (h : Shared). c.in-Ok.at ≡ processor_of (flow_at false c.front.result.now) h.config.seed h.config.processors) c.deref.ensures c.in-Ok.ensures.place) in
    let is : c.new-packet.result ≡ x = c.new-packet.ensures ∙ ap F (c.exchange-read.ensures.bytes ∙ c.another.ensures.room) in
    let kept = subst (λ (p : Arrival kinds). KeptAt c.in-Ok.at p s.processors.items c.offer_at.new.ends.items) is c.in-Err-offer_at.ensures.1 in
    let reserve = c.keep.ensures ∙ ap (λ (t : Stock). stock (Some c.into_buffer.result) t.free) c.exchange-read.ensures.stock in
    seen_as (record { room = s.pool.room; side = side }) c.args.self.now c.self.view_is c.args.number c.args.from c.args.now c.args.len _
    (in_refused side x c.received.new.self c.received.ensures c.another.new.self.stock c.keep.new.self.stock c.in-Ok.at c.offer_at.new.ends.items c.fate-in-Err-offer_at.new.self clear here kept c.in-Some.buffer c.in-Some.ensures.got c.into_buffer.result reserve c.fate-in-Err-offer_at.ensures)

pub returns-in_default-offer_at-clause-passed : goal.returns-in_default-offer_at-clause-passed
returns-in_default-offer_at-clause-passed g c =
    let s = c.self.inside in
    let side : Intake = record { config = (arc_value s.shared).config; link = s.link; interface = s.interface; stock = s.pool.stock; processors = s.processors.items; share = s.share } in
    let F : List ℕ → Arrival kinds = λ room. arrival s.link s.interface c.args.number c.args.from c.args.now (take c.args.len room) in
    let x = F s.pool.room in
    let clear = subst (λ (t : List ℕ). inspected (arc_value s.shared).config s.interface t ≡ None) c.front.ensures
    (subst (λ (h : Shared). inspected h.config s.interface c.front.result.now ≡ None) c.deref.ensures (subst (λ (l : ℕ). inspected c.deref.result.now.config l c.front.result.now ≡ None) c.id.ensures c.in-Ok.ensures.clear)) in
    let here = subst (λ (t : List ℕ). c.in-Ok.at ≡ processor_of (flow_at false t) (arc_value s.shared).config.seed (arc_value s.shared).config.processors) c.front.ensures
    (subst (λ (h : Shared). c.in-Ok.at ≡ processor_of (flow_at false c.front.result.now) h.config.seed h.config.processors) c.deref.ensures c.in-Ok.ensures.place) in
    let is : c.new-packet.result ≡ x = c.new-packet.ensures ∙ ap F (c.exchange-read.ensures.bytes ∙ c.another.ensures.room) in
    let is_gave : GaveAt c.in-Ok.at c.new-packet.result s.processors.items c.offer_at.new.ends.items = c.in_default-offer_at.ensures in
    let gave = subst (λ (p : Arrival kinds). GaveAt c.in-Ok.at p s.processors.items c.offer_at.new.ends.items) is is_gave in
    let got = subst (λ (t : Stock). Another s.pool.stock (Some c.in-Some.buffer) t) (sym c.exchange-read.ensures.stock) c.in-Some.ensures.got in
    seen_as (record { room = s.pool.room; side = side }) c.args.self.now c.self.view_is c.args.number c.args.from c.args.now c.args.len _
    (in_accepted side x c.received.new.self c.received.ensures c.exchange-read.new.self.stock c.in-Ok.at c.offer_at.new.ends.items clear here gave c.in-Some.buffer got)
