-- Inside: what a poll of mio told.
use Rattle.std.specs.Prelude.{◌==◌, List, [], map, Option, None, Some, if◌then◌else◌}
use Rattle.mio.specs.Event.{event_token, is_read_closed}
use Rattle.mio.specs.Events.{items}
use Rattle.mio.specs.declared.event.event.Event.{Event}
use Rattle.conn_tasks.specs.declared.woke.Woke.{Woke}
use Rattle.conn_tasks.specs.declared.woke.Woke.TheVariants.{Listener, Link}
use Rattle.mio_links.specs.declared.mio_listen.Port.{Port}
use Rattle.mio_links.specs.declared.mio_listen.TheConstants.{LISTENER}

-- of the listener, or of the link of a place, whose peer may have ended it
abbrev pub woke_of : Event → Woke
woke_of event = if (event_token event).0 == LISTENER then Listener else Link (event_token event).0 (is_read_closed event)

-- all that it told
abbrev pub told_by : Option Port → List Woke
told_by None = []
told_by (Some port) = map woke_of (items port.events)
