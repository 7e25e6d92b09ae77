-- The lines that serving prints: the port that it listens at, and how each connection ended.
use Rattle.std.specs.Prelude.{ℕ, List, codes}
use Rattle.serde_json.specs.Data.{Data, string, object, member, no_members}
use Rattle.serde_json.specs.Written.{compact_text}
use Rattle.reply_text.specs.Texts.{whole}
use Rattle.http_endpoint.specs.declared.link_end.LinkCause.{LinkCause}
use Rattle.http_endpoint.specs.declared.link_end.LinkCause.TheVariants.{Closed, Ended, CutShort, ReadFault, WriteFault}
use Rattle.http_endpoint.specs.declared.link_end.LinkEnd.{LinkEnd}

-- the name of a cause
abbrev pub cause_name : LinkCause → List ℕ
cause_name Closed = codes "CLOSED"
cause_name Ended = codes "ENDED"
cause_name CutShort = codes "CUT_SHORT"
cause_name ReadFault = codes "READ_FAULT"
cause_name WriteFault = codes "WRITE_FAULT"

-- the port
unfoldable pub listening_data : ℕ → Data
listening_data port = object (member (codes "listening") (whole port) no_members)

-- the number of answers of a connection, its number, and why it ended
unfoldable pub link_end_data : ℕ → ℕ → List ℕ → Data
link_end_data answers connection cause = object (member (codes "answers") (whole answers)
    (member (codes "connection") (whole connection) (member (codes "end") (string cause) no_members)))

-- the line of the port
abbrev pub listening_line : ℕ → List ℕ
listening_line port = compact_text (listening_data port)

-- the line of a connection
abbrev pub link_end_line : ℕ → LinkEnd → List ℕ
link_end_line connection link_end = compact_text (link_end_data link_end.answers connection (cause_name link_end.cause))
