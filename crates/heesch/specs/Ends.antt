-- How the process ends: by the words, and by a run over them.
use Rattle.std.specs.Prelude.{◌≡◌, ◌≢◌, ◌⊎◌, ℕ, List, drop, Option}
use Rattle.std.specs.Io.KnownBytes.{IsAtEnd}
use Rattle.std.specs.IoError.{error_kind}
use Rattle.std.specs.Vec.Iter.{into_iter_items}
use Rattle.std.specs.declared.io.Error.{Error}
use Rattle.std.specs.declared.io.ErrorKind.TheVariants.{OutOfMemory}
use Rattle.std.specs.declared.vec.IntoIter.{IntoIter}
use Rattle.heesch_io.specs.Causes.{Rose}
use Rattle.heesch_words.specs.declared.requests.Request.{Request}
use Rattle.heesch_words.specs.Requests.{Asks}
use Rattle.heesch_app.specs.declared.status.Status.{Status}
use Rattle.heesch_app.specs.declared.status.Status.TheVariants.{Done, Invalid, Usage, BadInput, ReadFault, WriteFault, NoMemory}
use Rattle.heesch_app.specs.Inputs.{ConsumesSome}
use Rattle.heesch_app.specs.Outputs.{AreReading, HasOneText, IsAccepted, ReadsToEnd, Writes, WritesPrefix}

-- the words are the arguments behind the first, which is the program's name: all of them, in their order
abbrev pub AreWords : {X Z : Type 0} → IntoIter X Z → List X → Type 0
AreWords args words = words ≡ drop 1 (into_iter_items args)

-- how the process ends without the arguments: NoMemory where memory for them was refused, and else Usage, as one isn't UTF-8
abbrev pub IsMissing : Error → Status → Type 0
IsMissing error status = ((error_kind error ≡ OutOfMemory) × (status ≡ NoMemory)) ⊎ ((error_kind error ≢ OutOfMemory) × (status ≡ Usage))

-- What `run` promises of the status with which it ended over these words, of what it left of a source and of a sink: in the words of its clauses.
pub record HasRun {R W : Type 0} (left : R → Option (List ℕ)) (failed : R → ℕ) (held : W → Option (List ℕ)) (refused : W → ℕ) (words : List (List ℕ)) (source source_after : R) (sink sink_after : W) (status : Status) : Type 0 where
  pub refused_words : status ≡ Usage → ¬ IsAccepted words
  pub accepted : status ≢ Usage → IsAccepted words
  pub untouched : status ≡ Usage → sink_after ≡ sink
  pub unread : ¬ AreReading words → source_after ≡ source
  pub consumed : ConsumesSome (left source) (left source_after)
  pub read_to_end : status ≡ Done → (request : Request) → Asks words request → ReadsToEnd request → IsAtEnd (left source_after)
  pub done : status ≡ Done → Writes words (left source) Done (held sink) (held sink_after)
  pub bad_input : status ≡ BadInput → Writes words (left source) BadInput (held sink) (held sink_after)
  pub invalid : status ≡ Invalid → Writes words (left source) Invalid (held sink) (held sink_after)
  pub read_fault : status ≡ ReadFault → AreReading words × (sink_after ≡ sink)
  pub read_cause : status ≡ ReadFault → Rose (failed source) (failed source_after)
  pub write_fault : status ≡ WriteFault → WritesPrefix words (left source) (held sink) (held sink_after)
  pub write_cause : status ≡ WriteFault → Rose (refused sink) (refused sink_after)
  pub no_memory : status ≡ NoMemory → WritesPrefix words (left source) (held sink) (held sink_after)
  pub unwritten : status ≡ NoMemory → (request : Request) → Asks words request → HasOneText request → sink_after ≡ sink
