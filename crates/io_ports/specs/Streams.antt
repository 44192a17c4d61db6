-- What the adapters of std's readers and writers show.
use Rattle.std.specs.Prelude.{ℕ, List, Option, None, false}
use Rattle.io_ports.specs.Reads.{SourceShows}
use Rattle.io_ports.specs.Writes.{SinkShows}
use Rattle.io_ports.specs.declared.streams.StdSource.{StdSource}
use Rattle.io_ports.specs.declared.streams.StdSink.{StdSink}

-- the reader below a source
abbrev pub reader_of : {R : Type 0} → StdSource R → R
reader_of source = source.reader

-- how many of the reader's calls failed
abbrev pub read_faults : {R : Type 0} → StdSource R → ℕ
read_faults source = source.faults

-- bytes are told as the reader tells them; no reader is known to be steady
abbrev pub source_shows : {R : Type 0} → (R → Option (List ℕ)) → StdSource R → SourceShows
source_shows remaining source = record {
  left = remaining (reader_of source);
  faults = read_faults source;
  is_steady = false;
}

-- the writer below a sink
abbrev pub writer_of : {W : Type 0} → StdSink W → W
writer_of sink = sink.writer

-- how many of the writer's calls failed
abbrev pub write_faults : {W : Type 0} → StdSink W → ℕ
write_faults sink = sink.faults

-- bytes are told as the writer tells them; no writer is known to have room
abbrev pub sink_shows : {W : Type 0} → (W → Option (List ℕ)) → StdSink W → SinkShows
sink_shows contents sink = record { taken = contents (writer_of sink); faults = write_faults sink; limit = None }
