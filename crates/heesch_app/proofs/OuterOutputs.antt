-- What was written of outer numbers.
use Rattle.std.proofs.Common.{◌≡◌, ℕ, List, subst, inl, inr}
use Rattle.std.specs.Prelude.{Option}
use Rattle.std.specs.Io.KnownBytes.{Appends}
use Rattle.heesch_cert.specs.declared.header.Subject.{Subject}
use Rattle.heesch_cert.specs.declared.header.Subject.TheVariants.{Size, Given}
use Rattle.heesch_cert.specs.declared.limits.Limits.{Limits}
use Rattle.heesch_grid.specs.declared.GridName.{GridName}
use Rattle.heesch_words.specs.declared.requests.Request.TheVariants.{Outer as OuterRequest}
use Rattle.heesch_words.specs.Requests.{Asks}
use Rattle.heesch_app.specs.declared.status.Status.TheVariants.{Done, BadInput}
use Rattle.heesch_app.specs.OuterNumbers.{WritesOuters}
use Rattle.heesch_app.specs.Outputs.{IsOutput, Writes}
use Rattle.heesch_app.proofs.Endings.{asked_output}

outers_of : (grid : GridName) (subject : Subject) (limits : Limits) (workers : ℕ) (left : Option (List ℕ)) (text : List ℕ) (old new : Option (List ℕ))
    → IsOutput (OuterRequest grid subject limits workers) left Done text → Appends old new text → WritesOuters grid subject limits left old new
outers_of grid (Size n) limits workers left text old new (_, (shapes, free, (es, are, readable, is))) appends =
    record { shapes = shapes; asked = free; entries = es; answered = are; written = subst (λ t. Appends old new t) is appends }
outers_of grid Given limits workers left text old new (input, all, inl (_, (shapes, given, (es, are, readable, is)))) appends =
    record { shapes = shapes; asked = (input, all, given); entries = es; answered = are; written = subst (λ t. Appends old new t) is appends }
outers_of grid Given limits workers left text old new (input, all, inr (bad, told)) appends = absurd (let no : Done ≡ BadInput = bad in cc)

-- where the words ask for an outer text, what was written is one
pub writes_outers : (words : List (List ℕ)) (left old new : Option (List ℕ)) (grid : GridName) (subject : Subject) (limits : Limits) (workers : ℕ)
    → Asks words (OuterRequest grid subject limits workers) → Writes words left Done old new → WritesOuters grid subject limits left old new
writes_outers words left old new grid subject limits workers asks (text, is, appends) =
    outers_of grid subject limits workers left text old new (asked_output words (OuterRequest grid subject limits workers) left Done text asks is) appends
