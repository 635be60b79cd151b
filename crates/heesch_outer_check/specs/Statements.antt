-- What holds of outer texts and of answers, as statements. A contract that cites one of them claims it.
use Rattle.std.specs.Prelude.{◌≡◌, ℕ, List, length}
use Rattle.heesch_cert.specs.declared.header.Header.{Header}
use Rattle.heesch_cert.specs.Limits.{AreLimits}
use Rattle.heesch_check.specs.declared.answers.Checked.{Checked}
use Rattle.heesch_check.specs.Catalogues.{AreAll}
use Rattle.heesch_outer.specs.declared.answers.OuterEntry.{OuterEntry}
use Rattle.heesch_outer.specs.Outers.{outers_text}
use Rattle.heesch_outer_check.specs.Records.{AreGoodRecords}
use Rattle.heesch_outer_check.specs.Answers.{IsOutersChecked, IsValidOuters}

-- an input has at most one answer
abbrev pub OneAnswer : Type 0
OneAnswer = (header : Header) (input : List ℕ) (c d : Checked) → IsOutersChecked header input c → IsOutersChecked header input d → c ≡ d

-- the outer text of good records that are all is valid
abbrev pub OuterTextsAreValid : Type 0
OuterTextsAreValid = (header : Header) (es : List OuterEntry) → AreLimits header.limits → AreGoodRecords header 0 es → AreAll header header.subject (length es) → IsValidOuters header (outers_text es) (length es)
