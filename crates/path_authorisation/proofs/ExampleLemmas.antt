-- The example's sendings are a walk, and no MAC of theirs is forged.
use Rattle.std.proofs.Common.{◌≡◌, ◌≢◌, ◌⊎◌, ◌<◌, ℕ, zero, suc, true, List, [], ◌∷◌, length, nat_lt, slice_get, slice_index_or, Contains, Some, None, refl, sym, ap, subst, ◌∙◌, arith, inl, inr}
use Rattle.std.specs.List.{list_all}
use Rattle.std.proofs.lemmas.Bool.Decides.{Decides-ltb}
use Rattle.std.proofs.lemmas.Option.{same_Some}
use Rattle.aes128_core.specs.Aes128.{cipher}
use Rattle.aes128_core.specs.Field.{inverse, times}
use Rattle.aes128_core.specs.KeyExpansion.{key_words, word_change, x_power}
use Rattle.aes128_core.specs.Rounds.{add_round_key, mix_column, mix_columns, rounds, shift_rows, sub_bytes}
use Rattle.aes128_core.specs.SBox.{s_box}
use Rattle.cmac_core.specs.Block.{doubled, xor_blocks}
use Rattle.cmac_core.specs.Cmac.{first_blocks, last_block, tag_from}
use Rattle.field_rows.specs.Place.{IsBytes}
use Rattle.process_packet.specs.declared.decision.Decision.TheVariants as decision
use Rattle.process_packet.specs.declared.neighbours.Link.{Link}
use Rattle.process_packet.specs.Decide.{decide, is_one_hop, verdict}
use Rattle.process_packet.specs.HostPort.{host_port_of}
use Rattle.process_packet.specs.Network.{own_link}
use Rattle.process_packet.specs.PacketState.{PacketState, hop, info}
use Rattle.process_packet.proofs.PassingLemmas.{both_true}
use Rattle.segment_switch.specs.declared.kind.LinkKind.TheVariants.{Child, Core}
use Rattle.net_laws.specs.Configured.{AreNumbered}
use Rattle.net_laws.specs.Example.{address, link_to}
use Rattle.net_laws.specs.Examples.{moment}
use Rattle.net_laws.specs.ExampleTurn.{descent, down, family, neighbour, one_child, other_child, over, parent, second_parent}
use Rattle.net_laws.specs.Net.{Router}
use Rattle.net_laws.specs.PathSegments.{IsBeaconed, PathSegment}
use Rattle.net_laws.specs.Stop.{IsCarried}
use Rattle.net_laws.proofs.ExampleDescent.{agrees, descent_is}
use Rattle.path_authorisation.specs.Beaconed.{AreAllBeaconed, IsAfter, IsMade, LooksAt, NoIdentifierCollides, identifier_at}
use Rattle.path_authorisation.specs.Example.{PremiseIsMet, datagram, first_sending, from_host, last_sending, later_sendings, second_sending, third_sending}
use Rattle.path_authorisation.specs.Sendings.{ComesFrom, IsSending, Sending, at_entry, at_exit, left}

-- ---- what each router does

first_sends : decide neighbour.network 0 first_sending.source moment first_sending.bytes ≡ decision.Send 19 None
unfolding times inverse s_box x_power word_change key_words sub_bytes shift_rows mix_column mix_columns add_round_key rounds cipher xor_blocks doubled last_block first_blocks tag_from is_one_hop verdict
first_sends = refl

first_left : left first_sending ≡ second_sending.bytes
unfolding times inverse s_box x_power word_change key_words sub_bytes shift_rows mix_column mix_columns add_round_key rounds cipher xor_blocks doubled last_block first_blocks tag_from is_one_hop verdict
first_left = refl

second_sends : decide parent.network 3 second_sending.source moment second_sending.bytes ≡ decision.Send 0 (Some (address 0 2 30000))
unfolding times inverse s_box x_power word_change key_words sub_bytes shift_rows mix_column mix_columns add_round_key rounds cipher xor_blocks doubled last_block first_blocks tag_from is_one_hop verdict
second_sends = refl

second_left : left second_sending ≡ third_sending.bytes
unfolding times inverse s_box x_power word_change key_words sub_bytes shift_rows mix_column mix_columns add_round_key rounds cipher xor_blocks doubled last_block first_blocks tag_from is_one_hop verdict
second_left = refl

third_sends : decide second_parent.network 0 third_sending.source moment third_sending.bytes ≡ decision.Send 2 None
unfolding times inverse s_box x_power word_change key_words sub_bytes shift_rows mix_column mix_columns add_round_key rounds cipher xor_blocks doubled last_block first_blocks tag_from is_one_hop verdict
third_sends = refl

third_left : left third_sending ≡ last_sending.bytes
unfolding times inverse s_box x_power word_change key_words sub_bytes shift_rows mix_column mix_columns add_round_key rounds cipher xor_blocks doubled last_block first_blocks tag_from is_one_hop verdict
third_left = refl

last_sends : decide other_child.network 18 last_sending.source moment last_sending.bytes ≡ decision.Send 0 last_sending.to
unfolding host_port_of times inverse s_box x_power word_change key_words sub_bytes shift_rows mix_column mix_columns add_round_key rounds cipher xor_blocks doubled last_block first_blocks tag_from is_one_hop verdict
last_sends = refl

refused : decide neighbour.network 0 from_host moment (datagram 0x00 0x33 0x33 0x22 0x22 0x7e) ≡ decision.Answer (record { kind = 4; code = 51; pointer = 56 })
unfolding times inverse s_box x_power word_change key_words sub_bytes shift_rows mix_column mix_columns add_round_key rounds cipher xor_blocks doubled last_block first_blocks tag_from is_one_hop verdict
refused = refl

-- ---- the walk

are_bytes : (bytes : List ℕ) → list_all (λ (b : ℕ). nat_lt b 256) bytes ≡ true → IsBytes bytes
are_bytes [] all i = omega arith
are_bytes (b ∷ bytes) all zero = (Decides-ltb b 256).0 (both_true (nat_lt b 256) (list_all (λ (x : ℕ). nat_lt x 256) bytes) all).0
are_bytes (b ∷ bytes) all (suc i) = are_bytes bytes (both_true (nat_lt b 256) (list_all (λ (x : ℕ). nat_lt x 256) bytes) all).1 i

sent : (i : ℕ) (s : Sending) → slice_get (first_sending ∷ later_sendings) i ≡ Some s → IsSending family s
sent zero s at = subst (IsSending family) (same_Some first_sending s at) (record { here_is = refl; are = are_bytes first_sending.bytes refl; decision = first_sends })
sent (suc zero) s at = subst (IsSending family) (same_Some second_sending s at) (record { here_is = refl; are = are_bytes second_sending.bytes refl; decision = second_sends })
sent (suc (suc zero)) s at = subst (IsSending family) (same_Some third_sending s at) (record { here_is = refl; are = are_bytes third_sending.bytes refl; decision = third_sends })
sent (suc (suc (suc zero))) s at = subst (IsSending family) (same_Some last_sending s at) (record { here_is = refl; are = are_bytes last_sending.bytes refl; decision = last_sends })
sent (suc (suc (suc (suc i)))) s at = absurd cc

comes : (s t u v : Sending) → s ≡ u → t ≡ v → ComesFrom family s t → ComesFrom family u v
comes s t u v one other is = subst (λ (x : Sending). ComesFrom family x v) one (subst (ComesFrom family s) other is)

over_first : ComesFrom family first_sending second_sending
over_first = record {
  carried = IsCarried.over_wire (link_to 19 Core (address 3 2 40000) (address 3 1 40000)) refl (inl (2, omega arith, refl)) refl;
  bytes = sym first_left;
}

within_second : ComesFrom family second_sending third_sending
within_second = record {
  carried = IsCarried.within second_parent refl (record { isd = refl; autonomous_system = refl }) refl refl refl;
  bytes = sym second_left;
}

over_third : ComesFrom family third_sending last_sending
over_third = record {
  carried = IsCarried.over_wire (link_to 2 Child (address 2 1 40000) (address 2 2 40000)) refl (inl (1, omega arith, refl)) refl;
  bytes = sym third_left;
}

next : (i : ℕ) (s t : Sending) → slice_get (first_sending ∷ later_sendings) i ≡ Some s → slice_get (first_sending ∷ later_sendings) (suc i) ≡ Some t → ComesFrom family s t
next zero s t at after = comes first_sending second_sending s t (same_Some first_sending s at) (same_Some second_sending t after) over_first
next (suc zero) s t at after = comes second_sending third_sending s t (same_Some second_sending s at) (same_Some third_sending t after) within_second
next (suc (suc zero)) s t at after = comes third_sending last_sending s t (same_Some third_sending s at) (same_Some last_sending t after) over_third
next (suc (suc (suc i))) s t at after = absurd cc

-- ---- the identifiers

over_next : identifier_at over 1 ≡ 0xa0b7
unfolding times inverse s_box x_power word_change key_words sub_bytes shift_rows mix_column mix_columns add_round_key rounds cipher xor_blocks doubled last_block first_blocks tag_from
over_next = refl

over_end : identifier_at over 2 ≡ 0x7f7a
unfolding times inverse s_box x_power word_change key_words sub_bytes shift_rows mix_column mix_columns add_round_key rounds cipher xor_blocks doubled last_block first_blocks tag_from
over_end = refl

down_next : identifier_at down 1 ≡ 0x8413
unfolding times inverse s_box x_power word_change key_words sub_bytes shift_rows mix_column mix_columns add_round_key rounds cipher xor_blocks doubled last_block first_blocks tag_from
down_next = refl

down_end : identifier_at down 2 ≡ 0x906c
unfolding times inverse s_box x_power word_change key_words sub_bytes shift_rows mix_column mix_columns add_round_key rounds cipher xor_blocks doubled last_block first_blocks tag_from
down_end = refl

follows_itself : (t : PathSegment) (j : ℕ) → IsAfter t t j (suc j)
follows_itself t j = record { before = j; next = refl; same = record { home = refl; identifier = refl; expiry = refl; ingress = refl; egress = refl } }

differ : (m n a b : ℕ) → m ≡ a → n ≡ b → a ≢ b → m ≡ n → ⊥
differ m n a b one other apart same = apart (sym one ∙ same ∙ other)

-- no other entry has the identifier to which one chains
abbrev Apart : PathSegment → PathSegment → Type 0
Apart s t = (j k : ℕ) → j < length s.made → k < length t.made → identifier_at s (suc j) ≡ identifier_at t k → IsAfter s t j k

over_over : Apart over over
over_over zero zero _ _ same = absurd (differ _ _ 0xa0b7 0x3333 over_next refl (omega arith) same)
over_over zero (suc zero) _ _ same = follows_itself over 0
over_over (suc zero) zero _ _ same = absurd (differ _ _ 0x7f7a 0x3333 over_end refl (omega arith) same)
over_over (suc zero) (suc zero) _ _ same = absurd (differ _ _ 0x7f7a 0xa0b7 over_end over_next (omega arith) same)
over_over (suc (suc j)) k there _ same = absurd (omega arith)
over_over j (suc (suc k)) _ there same = absurd (omega arith)

over_down : Apart over down
over_down zero zero _ _ same = absurd (differ _ _ 0xa0b7 0x2222 over_next refl (omega arith) same)
over_down zero (suc zero) _ _ same = absurd (differ _ _ 0xa0b7 0x8413 over_next down_next (omega arith) same)
over_down (suc zero) zero _ _ same = absurd (differ _ _ 0x7f7a 0x2222 over_end refl (omega arith) same)
over_down (suc zero) (suc zero) _ _ same = absurd (differ _ _ 0x7f7a 0x8413 over_end down_next (omega arith) same)
over_down (suc (suc j)) k there _ same = absurd (omega arith)
over_down j (suc (suc k)) _ there same = absurd (omega arith)

down_over : Apart down over
down_over zero zero _ _ same = absurd (differ _ _ 0x8413 0x3333 down_next refl (omega arith) same)
down_over zero (suc zero) _ _ same = absurd (differ _ _ 0x8413 0xa0b7 down_next over_next (omega arith) same)
down_over (suc zero) zero _ _ same = absurd (differ _ _ 0x906c 0x3333 down_end refl (omega arith) same)
down_over (suc zero) (suc zero) _ _ same = absurd (differ _ _ 0x906c 0xa0b7 down_end over_next (omega arith) same)
down_over (suc (suc j)) k there _ same = absurd (omega arith)
down_over j (suc (suc k)) _ there same = absurd (omega arith)

down_down : Apart down down
down_down zero zero _ _ same = absurd (differ _ _ 0x8413 0x2222 down_next refl (omega arith) same)
down_down zero (suc zero) _ _ same = follows_itself down 0
down_down (suc zero) zero _ _ same = absurd (differ _ _ 0x906c 0x2222 down_end refl (omega arith) same)
down_down (suc zero) (suc zero) _ _ same = absurd (differ _ _ 0x906c 0x8413 down_end down_next (omega arith) same)
down_down (suc (suc j)) k there _ same = absurd (omega arith)
down_down j (suc (suc k)) _ there same = absurd (omega arith)

-- ---- the set

which_at : (s : PathSegment) (k : ℕ) → k < 2 → slice_index_or descent k s ≡ s → (over ≡ s) ⊎ (down ≡ s)
which_at s zero there is = inl is
which_at s (suc zero) there is = inr is
which_at s (suc (suc k)) there is = absurd (omega arith)

which : (s : PathSegment) → Contains descent s → (over ≡ s) ⊎ (down ≡ s)
which s there = which_at s there.0 there.1 there.2

for_both : (a b s t : PathSegment) → a ≡ s → b ≡ t → Apart a b → Apart s t
for_both a b s t one other apart = subst (λ (x : PathSegment). Apart x t) one (subst (λ (x : PathSegment). Apart a x) other apart)

apart : NoIdentifierCollides descent
apart s t j k in_s in_t timestamp = elim (which s in_s) [
  | inl one ↦ elim (which t in_t) [ inl other ↦ for_both over over s t one other over_over j k | inr other ↦ for_both over down s t one other over_down j k ]
  | inr one ↦ elim (which t in_t) [ inl other ↦ for_both down over s t one other down_over j k | inr other ↦ for_both down down s t one other down_down j k ]
]

beaconed : AreAllBeaconed family descent
beaconed t in_t = elim (which t in_t) [
  | inl is ↦ subst (IsBeaconed family) is (descent_is.beaconed 0 (omega arith))
  | inr is ↦ subst (IsBeaconed family) is (descent_is.beaconed 1 (omega arith))
]

-- ---- what is accepted was made

abbrev IsOfSet : Sending → PacketState → Type 0
IsOfSet s u = IsMade descent s.here (info u) (hop u)

abbrev AreOfSet : Sending → Type 0
AreOfSet s = IsOfSet s (at_entry s) × IsOfSet s (at_exit s)

over_0 : IsOfSet first_sending (at_entry first_sending)
over_0 = record {
  segment = over;
  beaconed = (0, omega arith, refl);
  number = 0;
  entry = record { there = omega arith; home = record { isd = refl; autonomous_system = refl }; identifier = refl; timestamp = refl; expiry = refl; ingress = refl; egress = refl };
}

over_1 : IsOfSet second_sending (at_entry second_sending)
over_1 = record {
  segment = over;
  beaconed = (0, omega arith, refl);
  number = 1;
  entry = record { there = omega arith; home = record { isd = refl; autonomous_system = refl }; identifier = sym over_next; timestamp = refl; expiry = refl; ingress = refl; egress = refl };
}

down_0 : IsOfSet second_sending (at_exit second_sending)
down_0 = record {
  segment = down;
  beaconed = (1, omega arith, refl);
  number = 0;
  entry = record { there = omega arith; home = record { isd = refl; autonomous_system = refl }; identifier = refl; timestamp = refl; expiry = refl; ingress = refl; egress = refl };
}

down_0_again : IsOfSet third_sending (at_entry third_sending)
down_0_again = record {
  segment = down;
  beaconed = (1, omega arith, refl);
  number = 0;
  entry = record { there = omega arith; home = record { isd = refl; autonomous_system = refl }; identifier = refl; timestamp = refl; expiry = refl; ingress = refl; egress = refl };
}

down_1 : IsOfSet last_sending (at_entry last_sending)
down_1 = record {
  segment = down;
  beaconed = (1, omega arith, refl);
  number = 1;
  entry = record { there = omega arith; home = record { isd = refl; autonomous_system = refl }; identifier = sym down_next; timestamp = refl; expiry = refl; ingress = refl; egress = refl };
}

made : (i : ℕ) (s : Sending) → slice_get (first_sending ∷ later_sendings) i ≡ Some s → AreOfSet s
made zero s at = subst AreOfSet (same_Some first_sending s at) (over_0, over_0)
made (suc zero) s at = subst AreOfSet (same_Some second_sending s at) (over_1, down_0)
made (suc (suc zero)) s at = subst AreOfSet (same_Some third_sending s at) (down_0_again, down_0_again)
made (suc (suc (suc zero))) s at = subst AreOfSet (same_Some last_sending s at) (down_1, down_1)
made (suc (suc (suc (suc i)))) s at = absurd cc

looked_at : (s : Sending) (u : PacketState) → AreOfSet s → LooksAt s u → IsOfSet s u
looked_at s _ both LooksAt.where_it_comes = both.0
looked_at s _ both LooksAt.where_it_leaves = both.1

-- ---- the net's links

no_zero : (y x : Router) (l : Link) → own_link y.network 0 ≡ None → y ≡ x → own_link x.network 0 ≡ Some l → ⊥
no_zero y x l none same own = let never : None ≡ Some l = sym none ∙ ap (λ (z : Router). own_link z.network 0) same ∙ own in absurd cc

numbered : AreNumbered family
numbered r x (suc id) l is own = omega arith
numbered zero x zero l is own = absurd (no_zero one_child x l refl (same_Some one_child x is) own)
numbered (suc zero) x zero l is own = absurd (no_zero parent x l refl (same_Some parent x is) own)
numbered (suc (suc zero)) x zero l is own = absurd (no_zero second_parent x l refl (same_Some second_parent x is) own)
numbered (suc (suc (suc zero))) x zero l is own = absurd (no_zero other_child x l refl (same_Some other_child x is) own)
numbered (suc (suc (suc (suc zero)))) x zero l is own = absurd (no_zero neighbour x l refl (same_Some neighbour x is) own)
numbered (suc (suc (suc (suc (suc r))))) x zero l is own = absurd cc

pub premise_met : PremiseIsMet
premise_met = record {
  agrees = agrees;
  numbered = numbered;
  beaconed = beaconed;
  apart = apart;
  walk = record { sent = sent; next = next };
  long = λ same. absurd (omega arith);
  unforged = λ i s u at looks carries. looked_at s u (made i s at) looks;
  refused = refused;
}
