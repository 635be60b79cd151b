-- How far the lines of a joined text lead, and the faults of its lines.
use Rattle.std.specs.Prelude.{◌≡◌, ◌⊎◌, ℕ, ◌+◌, ◌==◌, ◌&&◌, not, Bool, true, false, if◌then◌else◌, List, [], ◌∷◌, Option, Some, None, option_and_then, Result, Ok, Err}
use Rattle.std.specs.Bool.{MatchBool}
use Rattle.heesch_cert.specs.declared.header.Header.{Header}
use Rattle.heesch_cert.specs.declared.header.Subject.{Subject}
use Rattle.heesch_cert.specs.declared.header.Subject.TheVariants as subjects
use Rattle.heesch_text.specs.declared.line.Line.{Line}
use Rattle.heesch_text.specs.declared.line.Line.TheVariants as lines
use Rattle.heesch_grammar.specs.Statements.{start as first_spot}
use Rattle.heesch_reader.specs.declared.progress.Progress.{Progress}
use Rattle.heesch_reader.specs.declared.progress.Progress.TheVariants as stages
use Rattle.heesch_reader.specs.Progress.{next}
use Rattle.heesch_parts.specs.declared.part_line.PartLine.{PartLine}
use Rattle.heesch_parts.specs.declared.part_line.PartLine.TheVariants as parts
use Rattle.heesch_parts.specs.declared.stage.Stage.{Stage}

-- before the first line
abbrev pub start : Stage
start = record { shares = None; share = 0; header = None; entries = 0; progress = None }

-- ---- a `share` line

-- no share came before, or there were so many shares then too
abbrev pub may_be : Option ℕ → ℕ → Bool
may_be None k = true
may_be (Some shares) k = k == shares

-- between two shares share i of k may stand where it is the next one of as many; amid a share no `share` line may
abbrev pub share_behind : Option Progress → Stage → (i k : ℕ) → Result Stage ℕ
share_behind (Some progress) s i k = Err 6
share_behind None s i k =
    if (i == s.share + 1) && may_be s.shares k then Ok (record { shares = Some k; share = i; header = s.header; entries = s.entries; progress = Some stages.Start }) else Err 9

-- share i of k, by what stood before
abbrev pub share_step : Stage → (i k : ℕ) → Result Stage ℕ
share_step s i k = share_behind s.progress s i k

-- ---- a header

-- the catalogue is of all polyforms of a size
abbrev pub has_size : Subject → Bool
has_size (subjects.Size n) = true
has_size subjects.Given = false

-- the header is of a full text, with a size for its subject
abbrev pub may_join : Header → Bool
may_join header = not header.brief && has_size header.subject

-- a header is awaited: the `share` line stands last
abbrev pub awaits_header : Option Progress → Bool
awaits_header (Some stages.Start) = true
awaits_header progress = false

-- no header came before, or it is the first one again
abbrev pub Agrees : Option Header → Header → Type 0
Agrees None header = Unit {0}
Agrees (Some first) header = header ≡ first

-- behind this header
abbrev pub with_header : Stage → Header → Stage
with_header s header = record { shares = s.shares; share = s.share; header = Some header; entries = s.entries; progress = Some (stages.Behind header.brief first_spot) }

-- a header that may not be joined has fault 10 wherever it stands; another one has fault 6 where none is awaited, and fault 10 where it isn't the first
abbrev pub HeaderStep : Stage → Header → Result Stage ℕ → Type 0
HeaderStep s header result =
    MatchBool (may_join header)
    (MatchBool (awaits_header s.progress) ((Agrees s.header header × (result ≡ Ok (with_header s header))) ⊎ ((Agrees s.header header → ⊥) × (result ≡ Err 10))) (result ≡ Err 6))
    (result ≡ Err 10)

-- ---- another line of a catalogue

-- behind a line that leads there in its catalogue: a shape is counted, up to 4,294,967,295 of them, and an end ends the share
abbrev pub led : Stage → Line → Progress → Result Stage ℕ
led s (lines.Shape cells) reached =
    if s.entries == 4294967295 then Err 12 else Ok (record { shares = s.shares; share = s.share; header = s.header; entries = s.entries + 1; progress = Some reached })
led s (lines.End count) reached = Ok (record { shares = s.shares; share = s.share; header = s.header; entries = s.entries; progress = None })
led s line reached = Ok (record { shares = s.shares; share = s.share; header = s.header; entries = s.entries; progress = Some reached })

-- where the grammar of a catalogue leads there, or nowhere
abbrev pub led_to : Stage → Line → Option Progress → Result Stage ℕ
led_to s line None = Err 6
led_to s line (Some reached) = led s line reached

-- where a line of a catalogue that is no header leads, or its fault: 6 where it may not stand by the grammar of a catalogue
abbrev pub line_step : Stage → Line → Result Stage ℕ
line_step s line = led_to s line (option_and_then (λ p. next p line) s.progress)

-- ---- any line

-- where a line of a catalogue leads, or its fault
abbrev pub CatalogueStep : Stage → Line → Result Stage ℕ → Type 0
CatalogueStep s (lines.Header header) result = HeaderStep s header result
CatalogueStep s line result = result ≡ line_step s line

-- where a line leads, or its fault
abbrev pub Step : Stage → PartLine → Result Stage ℕ → Type 0
Step s (parts.Share i k) result = result ≡ share_step s i k
Step s (parts.Catalogue line) result = CatalogueStep s line result

-- each of the lines may stand behind those before it, and they lead from the one stage to the other
abbrev pub Walk : Stage → List PartLine → Stage → Type 0
Walk s [] t = s ≡ t
Walk s (line ∷ ls) t = (u : Stage) × Step s line (Ok u) × Walk u ls t

-- ---- the end of the input

-- the fault of an end of input behind whole shares, if it is one: 6 where there is none, and 11 where there are fewer than K
abbrev pub fault_between : Option ℕ → ℕ → Option ℕ
fault_between None share = Some 6
fault_between (Some shares) share = if share == shares then None else Some 11

-- the fault of an end of input behind a line, by what that one is of: 6 amid a share
abbrev pub fault_at_end : Option Progress → Stage → Option ℕ
fault_at_end (Some progress) s = Some 6
fault_at_end None s = fault_between s.shares s.share

-- the fault of an end of input behind these lines, if it is one: the input may end behind the last share alone
abbrev pub end_fault : Stage → Option ℕ
end_fault s = fault_at_end s.progress s
