-- The laws, without premises.
use Rattle.heesch_written.proofs.Shapes.{shapes_are_near}
use Rattle.heesch_written.proofs.Coronas.{coronas_are_near}
use Rattle.heesch_written.proofs.Holes.{holes_are_near}
use Rattle.heesch_written.proofs.Classes.{classes_are_near}
use Rattle.heesch_written.specs.Statements.{TrueEntriesHaveLines, TrueEntriesHaveBriefLines}
use Rattle.heesch_written.proofs.Written.{lines_hold, brief_lines_hold}

pub entries_have_lines : TrueEntriesHaveLines
entries_have_lines = lines_hold shapes_are_near coronas_are_near holes_are_near classes_are_near

pub entries_have_brief_lines : TrueEntriesHaveBriefLines
entries_have_brief_lines = brief_lines_hold shapes_are_near
