use Rattle.std.proofs.Common.{◌≡◌, ◌≤◌, ◌∙◌, ℕ, Some, ap, codes, decimal, refl, rules, sym}
use Rattle.std.specs.Prelude.{◌≢◌}
use Rattle.cli_words.proofs.WordsLemmas.{no_config, no_link, no_now, other_from, other_link, other_now, text_read}
use Rattle.cli_words.specs.Words.{address_of}
use Rattle.clap.specs.Matches.{found_of}
use Rattle.cli_words.proofs.words.route_of.Goals as goal

pub returns-in_err-config-clause-none : goal.returns-in_err-config-clause-none
returns-in_err-config-clause-none c =
    let read = text_read (found_of c.args.route.now) (codes "config") c.get_str.result c.get_str.ensures in
    rw c.from_residual.ensures (λ config link now from asks. no_config _ config link now from (rw c.in_err-config.was at read) asks)

pub returns-in_err-get_str-clause-none : goal.returns-in_err-get_str-clause-none
returns-in_err-get_str-clause-none c =
    let read = text_read (found_of c.args.route.now) (codes "link") c.get_str-2.result c.get_str-2.ensures in
    rw c.from_residual-in_err-get_str.ensures (λ config link now from asks. no_link _ config link now from (rw c.in_err-get_str.was at read) asks)

pub returns-in_err-link-clause-none : goal.returns-in_err-link-clause-none
returns-in_err-link-clause-none c =
    let read = text_read (found_of c.args.route.now) (codes "link") c.get_str-2.result c.get_str-2.ensures in
    let limit : c.into.result ≡ 65535 = search rules in
    let other : (n : ℕ) → n ≤ 65535 → c.in_ok-get_str.field-0.now ≢ decimal n = rw (← limit) (rw c.in_err-link.was at c.read_decimal.ensures.none) in
    rw c.from_residual-in_err-link.ensures (λ config link now from asks. other_link _ config _ link now from (rw c.in_ok-get_str.was at read) other asks)

pub returns-in_err-get_str-2-clause-none : goal.returns-in_err-get_str-2-clause-none
returns-in_err-get_str-2-clause-none c =
    let read = text_read (found_of c.args.route.now) (codes "now") c.get_str-3.result c.get_str-3.ensures in
    rw c.from_residual-in_err-get_str-2.ensures (λ config link now from asks. no_now _ config link now from (rw c.in_err-get_str-2.was at read) asks)

pub returns-in_err-now-clause-none : goal.returns-in_err-now-clause-none
returns-in_err-now-clause-none c =
    let read = text_read (found_of c.args.route.now) (codes "now") c.get_str-3.result c.get_str-3.ensures in
    let other : (n : ℕ) → n ≤ 1099511627775 → c.in_ok-get_str-2.field-0.now ≢ decimal n = rw c.in_err-now.was at c.read_decimal-2.ensures.none in
    rw c.from_residual-in_err-now.ensures (λ config link now from asks. other_now _ config _ link now from (rw c.in_ok-get_str-2.was at read) other asks)

pub returns-in_err-from-clause-none : goal.returns-in_err-from-clause-none
returns-in_err-from-clause-none c =
    let read = text_read (found_of c.args.route.now) (codes "from") c.get_str-4.result c.get_str-4.ensures in
    let none = sym (rw c.in_err-from.was at c.read_address.ensures) in
    rw c.from_residual-in_err-from.ensures (λ config link now from asks. other_from _ config link now from _ read none asks)

pub returns-clause-found : goal.returns-clause-found
returns-clause-found c =
    let config = text_read (found_of c.args.route.now) (codes "config") c.get_str.result c.get_str.ensures in
    let link = text_read (found_of c.args.route.now) (codes "link") c.get_str-2.result c.get_str-2.ensures in
    let now = text_read (found_of c.args.route.now) (codes "now") c.get_str-3.result c.get_str-3.ensures in
    let from = text_read (found_of c.args.route.now) (codes "from") c.get_str-4.result c.get_str-4.ensures in
    let link_found = rw c.in_ok-link.was at c.read_decimal.ensures.found in
    let now_found = rw c.in_ok-now.was at c.read_decimal-2.ensures.found in
    let limit : c.into.result ≡ 65535 = search rules in (
      refl,
      record {
        config_is = rw c.in_ok-config.was at config;
        link_is = (rw c.in_ok-get_str.was at link) ∙ ap (λ t. Some t) link_found.1;
        now_is = (rw c.in_ok-get_str-2.was at now) ∙ ap (λ t. Some t) now_found.1;
        from_is = rw c.in_ok-from.was at (ap address_of from ∙ sym c.read_address.ensures);
        link_fits = rw limit at link_found.0;
        now_fits = now_found.0;
      },
    )
