-- What names a running router.
use Rattle.std.specs.Prelude.{◌≡◌, ◌+◌, ◌*◌, ℕ, Option, Some}
use Rattle.atomic_table.specs.Seated.{TableId}
use Rattle.process_packet.specs.declared.config.Config.{Config}
use Rattle.router_rules.specs.Links.{link_count}

-- A name's book, number of workers and configuration are those of a router with this book and configuration.
pub record IsNamed (table : TableId) (workers : ℕ) (named : Option Config) (book : TableId) (config : Config) : Type 0 where
  pub name : book ≡ table
  pub config_is : named ≡ Some config
  pub workers_are : workers ≡ 2 * link_count config + config.processors + 1
