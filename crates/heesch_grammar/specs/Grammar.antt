-- Which line may stand after those before it, in a brief or a full text.
-- A `shape` line and the `end` line may stand at the same places, those of `is_whole`; `next` says where every other line may stand.
use Rattle.std.specs.Prelude.{ℕ, zero, suc, ◌+◌, ◌&&◌, ◌==◌, nat_lt, not, Bool, true, false, List, [], ◌∷◌, Option, Some, None, option_map, option_and_then}
use Rattle.std.specs.Bool.{then_some}
use Rattle.heesch_cert.specs.declared.verdict.Verdict.{Verdict}
use Rattle.heesch_cert.specs.declared.verdict.Verdict.TheVariants as verdicts
use Rattle.heesch_text.specs.declared.line.Outcome.{Outcome}
use Rattle.heesch_text.specs.declared.line.Outcome.TheVariants as outcomes
use Rattle.heesch_text.specs.declared.line.BareOutcome.{BareOutcome}
use Rattle.heesch_text.specs.declared.line.BareOutcome.TheVariants as bare_outcomes
use Rattle.heesch_text.specs.declared.line.Line.{Line}
use Rattle.heesch_text.specs.declared.line.Line.TheVariants as lines
use Rattle.heesch_cert.specs.TrueEntry.{last_number}
use Rattle.heesch_grammar.specs.declared.place.AfterProof.{AfterProof}
use Rattle.heesch_grammar.specs.declared.place.AfterProof.TheVariants as afters
use Rattle.heesch_grammar.specs.declared.place.Place.{Place}
use Rattle.heesch_grammar.specs.declared.place.Place.TheVariants as places
use Rattle.heesch_grammar.specs.declared.spot.Spot.{Spot}

-- where triples may follow
abbrev pub may_search : Line → Option Place
may_search (lines.Triple triple refuted) = Some (places.Proof refuted afters.Triples)
may_search line = None

-- after a verdict
abbrev pub judged : Bool → Verdict → Place
judged true verdict = places.Between
judged false (verdicts.Tiles kind domain classes) = places.Tiling
judged false verdict = places.Search (last_number verdict)

-- before so many layers of `coronas`
abbrev pub layers : (left count last : ℕ) → Place
layers zero count last = places.Coronas count last
layers (suc more) count last = places.Layers more count last

-- before so many layers of `open`
abbrev pub wider : ℕ → Place
wider zero = places.Triples
wider (suc more) = places.Wider more

-- after `wall`
abbrev pub walled : (level last : ℕ) → Outcome → Place
walled level last outcomes.Refuted = places.Proof true (afters.Wall level last)
walled level last outcomes.Spent = places.Proof false afters.Triples
walled level last outcomes.Size = places.Triples

-- after `bare` with the end of a search of its own
abbrev pub searched : Outcome → Place
searched outcomes.Refuted = places.Proof true afters.MayOpen
searched outcomes.Spent = places.Proof false afters.MayOpen
searched outcomes.Size = places.MayOpen

-- after `bare` with `open`
abbrev pub opened : ℕ → Place
opened zero = places.OpenNone
opened (suc more) = places.MustOpen (suc more)

-- after `bare` with the number `at`, behind a wall at this level and a verdict with this last number
abbrev pub bared : (level last at : ℕ) → BareOutcome → Option Place
bared level last at bare_outcomes.Same = then_some (at == level) places.Triples
bared level last at bare_outcomes.Open = Some (opened at)
bared level last at (bare_outcomes.Searched outcome) = then_some (at == last) (searched outcome)

-- after a proof
abbrev pub behind : AfterProof → Place
behind (afters.Wall level last) = places.Wall level last
behind afters.MayOpen = places.MayOpen
behind afters.Triples = places.Triples

-- ---- the table, but for `shape` and `end`

-- after `shape`
abbrev pub after_shape : Bool → Line → Option Place
after_shape brief (lines.Verdict verdict) = Some (judged brief verdict)
after_shape brief line = None

-- after `verdict tiles` in a full text
abbrev pub after_tiling : Line → Option Place
after_tiling (lines.Lattice triple) = Some places.Lattice
after_tiling line = None

-- after `lattice`, and after `tile`
abbrev pub after_tile : Line → Option Place
after_tile (lines.Tile place member) = Some places.Tile
after_tile line = None

-- after any other `verdict` in a full text, with its last number
abbrev pub after_verdict : ℕ → Line → Option Place
after_verdict last (lines.Coronas count) = Some (layers count count last)
after_verdict last line = None

-- before a layer of `coronas` that so many more follow
abbrev pub in_layers : (more count last : ℕ) → Line → Option Place
in_layers more count last (lines.Layer isos) = Some (layers more count last)
in_layers more count last line = None

-- after `coronas` with this number and its layers
abbrev pub after_coronas : (count last : ℕ) → Line → Option Place
after_coronas count last (lines.Wall level outcome) = then_some (level == count + 1) (walled level last outcome)
after_coronas count last line = may_search line

-- in a proof: step lines, and at last `empty` where it refutes and else `spent`
abbrev pub in_proof : Bool → AfterProof → Line → Option Place
in_proof refuted after (lines.Learn clause hints) = Some (places.Proof refuted after)
in_proof refuted after (lines.Cut cut) = Some (places.Proof refuted after)
in_proof refuted after (lines.Empty hints) = then_some refuted (behind after)
in_proof refuted after lines.Spent = then_some (not refuted) (behind after)
in_proof refuted after line = None

-- after a refuted wall at this level and its proof
abbrev pub after_wall : (level last : ℕ) → Line → Option Place
after_wall level last (lines.Bare at outcome) = bared level last at outcome
after_wall level last line = may_search line

-- after `bare` with the end of a search of its own, and its proof
abbrev pub may_open : Line → Option Place
may_open (lines.Open count) = Some (wider count)
may_open line = may_search line

-- after `bare 0 open`
abbrev pub open_none : Line → Option Place
open_none (lines.Open count) = then_some (count == 0) places.Triples
open_none line = may_search line

-- after `bare` with `open` and this number, which is at least 1
abbrev pub must_open : ℕ → Line → Option Place
must_open count (lines.Open found) = then_some (found == count) (wider count)
must_open count line = None

-- before a layer of `open` that so many more follow
abbrev pub in_wider : ℕ → Line → Option Place
in_wider more (lines.Layer isos) = Some (wider more)
in_wider more line = None

-- where a line leads that is neither `shape` nor `end`, if it may stand here
abbrev pub next : Bool → Place → Line → Option Place
next brief places.Between line = None
next brief places.Shape line = after_shape brief line
next brief places.Tiling line = after_tiling line
next brief places.Lattice line = after_tile line
next brief places.Tile line = after_tile line
next brief (places.Search last) line = after_verdict last line
next brief (places.Layers more count last) line = in_layers more count last line
next brief (places.Coronas count last) line = after_coronas count last line
next brief (places.Proof refuted after) line = in_proof refuted after line
next brief (places.Wall level last) line = after_wall level last line
next brief places.MayOpen line = may_open line
next brief places.OpenNone line = open_none line
next brief (places.MustOpen count) line = must_open count line
next brief (places.Wider more) line = in_wider more line
next brief places.Triples line = may_search line
next brief places.Ended line = None

-- whether a `shape` line or the `end` line may stand here: an entry may end here
abbrev pub is_whole : Place → Bool
is_whole places.Between = true
is_whole places.Tile = true
is_whole (places.Coronas count last) = true
is_whole (places.Wall level last) = true
is_whole places.MayOpen = true
is_whole places.OpenNone = true
is_whole places.Triples = true
is_whole place = false

-- ---- the machine

-- where a line leads, if it may stand: a `shape` line stands only after fewer than 4,294,967,295 of them, and `end` has their number
abbrev pub step : Bool → Spot → Line → Option Spot
step brief s (lines.Shape cells) = then_some (is_whole s.place && nat_lt s.shapes 4294967295) (record { shapes = s.shapes + 1; place = places.Shape })
step brief s (lines.End count) = then_some (is_whole s.place && count == s.shapes) (record { shapes = s.shapes; place = places.Ended })
step brief s line = option_map (λ p. record { shapes = s.shapes; place = p }) (next brief s.place line)

-- where lines lead, one after the other, if each of them may stand
abbrev pub steps : Bool → Spot → List Line → Option Spot
steps brief s [] = Some s
steps brief s (line ∷ ls) = option_and_then (λ t. steps brief t ls) (step brief s line)
