use Rattle.heesch_reader.proofs.Following.{takes_room}
use Rattle.heesch_reader.proofs.laws.pieces_leave_room.Goals as goal

pub returns : goal.returns
returns c = takes_room
