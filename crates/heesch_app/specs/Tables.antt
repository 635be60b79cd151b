-- The status and the text that come with an answer to `table`.
use Rattle.std.specs.Prelude.{ℕ, List}
use Rattle.heesch_table.specs.declared.answers.Tabulated.{Tabulated}
use Rattle.heesch_table.specs.declared.answers.Tabulated.TheVariants.{Tally, Fault}
use Rattle.heesch_app.specs.declared.status.Status.{Status}
use Rattle.heesch_app.specs.declared.status.Status.TheVariants.{Done, BadInput}
use Rattle.heesch_app.specs.Inputs.{bad_input_text}

-- Done with a tally, BadInput with a fault
abbrev pub table_status : Tabulated → Status
table_status (Tally text) = Done
table_status (Fault line number) = BadInput

-- the tally's text, or the line of the fault
abbrev pub table_text : Tabulated → List ℕ
table_text (Tally text) = text.items
table_text (Fault line number) = bad_input_text line number
