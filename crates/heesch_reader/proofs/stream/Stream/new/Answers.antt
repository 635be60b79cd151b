use Rattle.heesch_reader.proofs.Reading.{nothing_read}
use Rattle.heesch_reader.proofs.stream.Stream.new.Goals as goal

pub returns : goal.returns
returns c = rw c.new.ensures (λ left. nothing_read left)
