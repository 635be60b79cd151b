-- What reading a line says of its answer.
use Rattle.std.proofs.Common.{◌≡◌, ◌≢◌, ℕ, List, None, Result, Ok, Err}
use Rattle.std.specs.Prelude.{IfOk}
use Rattle.heesch_text.specs.declared.line.Line.{Line}
use Rattle.heesch_text.specs.Lines.{words_of}
use Rattle.heesch_line.specs.declared.fault.LineFault.{LineFault}
use Rattle.heesch_line.specs.declared.fault.LineFault.TheVariants.{NotALine, NoMemory}
use Rattle.heesch_line.specs.Forms.{IsLine}
use Rattle.heesch_line.specs.Reading.{Gives, Fails}
use Rattle.heesch_line.specs.LineReading.{line_at}
use Rattle.heesch_line.proofs.LinesRead.{line_read}
use Rattle.heesch_line.proofs.LinesAgain.{no_line}

abbrev pub Answer : Type 0
Answer = Result Line LineFault

pub read_ok : (bytes : List ℕ) (r : Answer) → Gives (λ (l : Line). l) r (line_at bytes) → IfOk r (λ line. IsLine line × (words_of line ≡ bytes))
read_ok bytes (Ok line) gives = line_read bytes line gives
read_ok bytes (Err e) gives = tt

abbrev failed : LineFault → Answer
failed e = Err e

fails_none : (bytes : List ℕ) (e : LineFault) → failed e ≡ Err NotALine → Fails e (line_at bytes) → line_at bytes ≡ None
fails_none bytes NotALine same fails = fails
fails_none bytes NoMemory same fails = absurd cc

pub read_not : (bytes : List ℕ) (r : Answer) → Gives (λ (l : Line). l) r (line_at bytes) → r ≡ Err NotALine → (line : Line) → IsLine line → words_of line ≢ bytes
read_not bytes (Ok line) gives same = absurd cc
read_not bytes (Err e) gives same = no_line bytes (fails_none bytes e same gives)
