-- The status and the line that come with an answer to `check`.
use Rattle.std.specs.Prelude.{ℕ, List}
use Rattle.heesch_check.specs.declared.answers.Checked.{Checked}
use Rattle.heesch_check.specs.declared.answers.Checked.TheVariants.{Valid, TooLong}
use Rattle.heesch_check.specs.Answers.{checked_text}
use Rattle.heesch_app.specs.declared.status.Status.{Status}
use Rattle.heesch_app.specs.declared.status.Status.TheVariants.{Done, Invalid, BadInput}
use Rattle.heesch_app.specs.Inputs.{bad_input_text}

-- Done for a valid catalogue, BadInput for one that is too long, and else Invalid
abbrev pub check_status : Checked → Status
check_status (Valid count) = Done
check_status (TooLong line) = BadInput
check_status _ = Invalid

-- the answer's line; of a text that is too long, that of fault 8
abbrev pub check_text : Checked → List ℕ
check_text (TooLong line) = bad_input_text line 8
check_text checked = checked_text checked
