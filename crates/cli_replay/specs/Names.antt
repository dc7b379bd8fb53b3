-- What the words of a replay name: links, workers and pipes of a configuration.
use Rattle.std.specs.Prelude.{ℕ, nat_lt, if◌then◌else◌, List, Option, Some, None, codes, option_map}
use Rattle.std.specs.Option.{option_or}
use Rattle.std.specs.Str.{bytes_eq}
use Rattle.replay_places.specs.declared.queue.Queue.{Queue}
use Rattle.replay_places.specs.declared.queue.Queue.TheVariants.{Of, High}
use Rattle.router_rules.specs.declared.worker.Worker.{Worker}
use Rattle.router_rules.specs.declared.worker.Worker.TheVariants.{Receiver, Processor, Slow, Forwarder, Controller}
use Rattle.process_packet.specs.Network.{has_link, network}
use Rattle.process_packet.specs.declared.config.Config.{Config}
use Rattle.text_values.specs.Pieces.{strip_prefix, number_up_to, ◌>>=◌}
use Rattle.router_rules.specs.Links.{has_two_bands, link_index}

-- ---- links

abbrev pub if_link : Config → ℕ → Option ℕ
if_link c id = if has_link (network c) id then Some id else None

-- a link, by its interface
unfoldable pub link_of : Config → List ℕ → Option ℕ
link_of c text = number_up_to 65535 text >>= if_link c

-- a letter and a link
unfoldable pub link_after : Config → ℕ → List ℕ → Option ℕ
link_after c letter text = strip_prefix letter text >>= link_of c

abbrev pub if_two_bands : Config → ℕ → Option ℕ
if_two_bands c id = if has_two_bands c (link_index c id) then Some id else None

-- `h` and a link with two bands
unfoldable pub high_link_of : Config → List ℕ → Option ℕ
high_link_of c text = link_after c 104 text >>= if_two_bands c

-- ---- workers

abbrev pub if_processor : Config → ℕ → Option ℕ
if_processor c i = if nat_lt i c.processors then Some i else None

-- `p` and a processor, counted from 0
unfoldable pub processor_of : Config → List ℕ → Option ℕ
processor_of c text = strip_prefix 112 text >>= number_up_to 255 >>= if_processor c

-- `r` and the link of a receiver, a processor, `f` and the link of a forwarder
unfoldable pub numbered_worker_of : Config → List ℕ → Option Worker
numbered_worker_of c text =
    option_or (option_map Receiver (link_after c 114 text)) (option_or (option_map Processor (processor_of c text)) (option_map Forwarder (link_after c 102 text)))

-- `s` is the slow path, `c` the controller
unfoldable pub worker_of : Config → List ℕ → Option Worker
worker_of c text = if bytes_eq text (codes "s") then Some Slow
    else if bytes_eq text (codes "c") then Some Controller
    else numbered_worker_of c text

-- ---- pipes

abbrev pub forwarder_pipe : ℕ → Queue
forwarder_pipe id = Of (Forwarder id)

-- a pipe has its consumer's name; `h` and a link is that of the link's high band
unfoldable pub queue_of : Config → List ℕ → Option Queue
queue_of c text = option_or (option_map High (high_link_of c text)) (option_map Of (worker_of c text))

-- a link's pipe by the link alone, or that of its high band
unfoldable pub link_queue_of : Config → List ℕ → Option Queue
link_queue_of c text = option_or (option_map High (high_link_of c text)) (option_map forwarder_pipe (link_of c text))
