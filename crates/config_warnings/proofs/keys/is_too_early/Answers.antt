use Rattle.std.proofs.Common.{sym, ◌∙◌}
use Rattle.config_warnings.specs.Keys.{is_version_2}
use Rattle.config_warnings.proofs.KeyLemmas.{early_where_first}
use Rattle.config_warnings.proofs.keys.is_too_early.Goals as goal

pub returns-then-is_version_2 : goal.returns-then-is_version_2
returns-then-is_version_2 c = early_where_first c.args.is_first (is_version_2 c.args.key.now) (sym c.is_version_2.ensures ∙ c.if-is_version_2.true)
