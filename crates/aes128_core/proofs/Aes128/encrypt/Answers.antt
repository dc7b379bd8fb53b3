use Rattle.std.proofs.Common.{◌∙◌, map, ap}
use Rattle.aes128_core.specs.Columns.{word_bytes}
use Rattle.aes128_core.specs.KeyExpansion.{key_expansion}
use Rattle.aes128_core.specs.State.{state_from}
use Rattle.aes128_core.proofs.RoundLemmas.{last_round_more, no_round, round_more}
use Rattle.aes128_core.proofs.Aes128.encrypt.Goals as goal

pub returns : goal.returns
returns c =
    let w = map word_bytes c.self.inside.words in
    let b = state_from c.args.block.now in
    let s0 = no_round w b _ c.first_round-state.ensures in
    let s1 = round_more w b 0 _ _ s0 c.round-state.ensures in
    let s2 = round_more w b 1 _ _ s1 c.round-state-2.ensures in
    let s3 = round_more w b 2 _ _ s2 c.round-state-3.ensures in
    let s4 = round_more w b 3 _ _ s3 c.round-state-4.ensures in
    let s5 = round_more w b 4 _ _ s4 c.round-state-5.ensures in
    let s6 = round_more w b 5 _ _ s5 c.round-state-6.ensures in
    let s7 = round_more w b 6 _ _ s6 c.round-state-7.ensures in
    let s8 = round_more w b 7 _ _ s7 c.round-state-8.ensures in
    let s9 = round_more w b 8 _ _ s8 c.round-state-9.ensures in
    let words = c.self.invariant ∙ ap key_expansion c.self.view_is in
    c.block_of.ensures ∙ last_round_more c.args.self.now c.args.block.now w _ _ words s9 c.last_round.ensures
