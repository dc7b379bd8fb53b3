use Rattle.std.proofs.Common.{◌≡◌, ◌+◌, ◌||◌, min, Bool, sym, ap, ap₂, ◌∙◌, arith}
use Rattle.order_laws.specs.Item.{Outgoing}
use Rattle.router_rules.specs.Rules.{kinds}
use Rattle.ruled_pipe.specs.Consumer.{Taker, took}
use Rattle.ruled_pipe.specs.Producer.{entry}
use Rattle.ruled_pipe.specs.Gathered.{end_of}
use Rattle.ruled_pipe.specs.declared.entry.Load.{Load}
use Rattle.ruled_pipe.specs.declared.entry.Load.TheVariants.{Payload, Marked}
use Rattle.worker_forwarder.specs.Forwarding.{Band, after_mark, after_egress_packet, band, closes, end_mark}
use Rattle.worker_forwarder.proofs.ForwardingLemmas.{band_more, marks_end}
use Rattle.worker_forwarder.proofs.band.Band.take.Goals as goal

pub invariant_of-self-in-Payload : goal.invariant_of-self-in-Payload
invariant_of-self-in-Payload g c =
    let s = c.self.inside in
    let e = c.in_ok-load.field-0 in
    let none : 0 ≡ end_of e.load = sym (ap end_of c.in-Payload.is) in
    let inv = c.self.invariant in
    let same : s.ends ≡ min (s.ends + 0) s.producers = let i = inv.1 in omega arith in
    band_more s.consumer c.take.new.self e s.producers s.ends s.ends 0 c.in_ok-load.ensures.step none same inv

pub invariant_of-self-in-Marked : goal.invariant_of-self-in-Marked
invariant_of-self-in-Marked g c =
    let s = c.self.inside in
    let e = c.in_ok-load.field-0 in
    let one : end_mark c.in-Marked.mark ≡ end_of e.load = sym (ap end_of c.in-Marked.is ∙ marks_end c.in-Marked.mark) in
    band_more s.consumer c.take.new.self e s.producers s.ends c.counted-self-inside.result (end_mark c.in-Marked.mark) c.in_ok-load.ensures.step one c.counted-self-inside.ensures c.self.invariant

pub returns-in-Payload : goal.returns-in-Payload
returns-in-Payload g c =
    let s = c.self.inside in
    let e = c.in_ok-load.field-0 in
    let step : c.take.new.self ≡ took s.consumer (entry e.from (Payload c.in-Payload.egress_packet)) = c.in_ok-load.ensures.step ∙ ap (λ (l : Load (Outgoing kinds)). took s.consumer (entry e.from l)) c.in-Payload.is in
    (e.from, ap (λ (t : Taker (Outgoing kinds)). band t s.shut) step ∙ ap (λ (b : Band). after_egress_packet e.from c.in-Payload.egress_packet b) c.self.view_is)

pub returns-in-Marked : goal.returns-in-Marked
returns-in-Marked g c =
    let s = c.self.inside in
    let e = c.in_ok-load.field-0 in
    let m = c.in-Marked.mark in
    let step : c.take.new.self ≡ took s.consumer (entry e.from (Marked m)) = c.in_ok-load.ensures.step ∙ ap (λ (l : Load (Outgoing kinds)). took s.consumer (entry e.from l)) c.in-Marked.is in
    let shut : c.is_either-self-inside.result ≡ (s.shut || closes m) = c.is_either-self-inside.ensures ∙ ap (λ (b : Bool). s.shut || b) c.closes.ensures in
    (e.from, m, ap₂ band step shut ∙ ap (λ (b : Band). after_mark e.from m b) c.self.view_is)
