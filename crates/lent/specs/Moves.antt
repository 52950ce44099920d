-- What a tick and a commit make of a clock.
use Rattle.book.specs.declared.Reading.{Reading}
use Rattle.book.specs.declared.Timestamp.{Timestamp}
use Rattle.book.specs.declared.Clock.{Clock}
use Rattle.book.specs.CommitSteps.{committed_time}

abbrev pub ticked_clock : Clock → Reading → Clock
ticked_clock c x = record { reading = x; hybrid = c.hybrid; version = c.version }

abbrev pub committed_hybrid : Clock → Timestamp → Timestamp
committed_hybrid c time = record { 0 = committed_time c.hybrid.0 time.0 c.reading.0 }

abbrev pub committed_clock : Clock → Timestamp → Clock
committed_clock c time = record { reading = c.reading; hybrid = committed_hybrid c time; version = c.version }
