use Rattle.std.proofs.Common.{take}
use Rattle.heesch_corona.specs.Searches.{IsNextMeeting}
use Rattle.heesch_corona.proofs.meetings.next_meeting.Given as goal

abbrev pub invariant-loop-c : goal.invariant-loop-c
invariant-loop-c l = IsNextMeeting l.index (take l.c-index l.c-items) l.number l.least
