-- Inside: the count of bytes of a call of a stream.
use Rattle.std.specs.Prelude.{ℕ}
use Rattle.mio_links.specs.declared.mio_link.Came.{Came}
use Rattle.mio_links.specs.declared.mio_link.Came.TheVariants.{Count, Wait, Failed}

abbrev pub counted : Came → ℕ
counted (Count count) = count
counted Wait = 0
counted Failed = 0
