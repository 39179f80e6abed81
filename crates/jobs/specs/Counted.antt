-- The reader or writer of a counted stream (our profile).
use Rattle.jobs.specs.declared.streams.CountedReader.{CountedReader}
use Rattle.jobs.specs.declared.streams.CountedWriter.{CountedWriter}

abbrev pub reader_in : {R : Type 0} → CountedReader R → R
reader_in counted = counted.reader

abbrev pub writer_in : {W : Type 0} → CountedWriter W → W
writer_in counted = counted.writer
