-- A line that is neither `shape` nor `end` doesn't lead behind the end.
use Rattle.std.proofs.Common.{◌≡◌, ℕ, zero, suc, ◌+◌, ◌==◌, not, Bool, true, false, Some}
use Rattle.std.specs.Bool.{then_some}
use Rattle.heesch_cert.specs.declared.verdict.Verdict.{Verdict}
use Rattle.heesch_cert.specs.declared.verdict.Verdict.TheVariants as verdicts
use Rattle.heesch_text.specs.declared.line.Outcome.{Outcome}
use Rattle.heesch_text.specs.declared.line.Outcome.TheVariants as outcomes
use Rattle.heesch_text.specs.declared.line.BareOutcome.{BareOutcome}
use Rattle.heesch_text.specs.declared.line.BareOutcome.TheVariants as bare_outcomes
use Rattle.heesch_text.specs.declared.line.Line.{Line}
use Rattle.heesch_text.specs.declared.line.Line.TheVariants as lines
use Rattle.heesch_grammar.specs.declared.place.AfterProof.{AfterProof}
use Rattle.heesch_grammar.specs.declared.place.AfterProof.TheVariants as afters
use Rattle.heesch_grammar.specs.declared.place.Place.{Place}
use Rattle.heesch_grammar.specs.declared.place.Place.TheVariants as places
use Rattle.heesch_grammar.specs.Grammar.{next, may_search, judged, layers, wider, walled, searched, opened, bared, behind}

judged_open : (brief : Bool) (v : Verdict) → judged brief v ≡ places.Ended → ⊥
judged_open true v e = absurd cc
judged_open false (verdicts.Tiles kind domain classes) e = absurd cc
judged_open false v e = absurd cc

layers_open : (left count last : ℕ) → layers left count last ≡ places.Ended → ⊥
layers_open zero count last e = absurd cc
layers_open (suc more) count last e = absurd cc

wider_open : (left : ℕ) → wider left ≡ places.Ended → ⊥
wider_open zero e = absurd cc
wider_open (suc more) e = absurd cc

walled_open : (level last : ℕ) (o : Outcome) → walled level last o ≡ places.Ended → ⊥
walled_open level last outcomes.Refuted e = absurd cc
walled_open level last outcomes.Spent e = absurd cc
walled_open level last outcomes.Size e = absurd cc

searched_open : (o : Outcome) → searched o ≡ places.Ended → ⊥
searched_open outcomes.Refuted e = absurd cc
searched_open outcomes.Spent e = absurd cc
searched_open outcomes.Size e = absurd cc

opened_open : (count : ℕ) → opened count ≡ places.Ended → ⊥
opened_open zero e = absurd cc
opened_open (suc more) e = absurd cc

behind_open : (after : AfterProof) → behind after ≡ places.Ended → ⊥
behind_open (afters.Wall level last) e = absurd cc
behind_open afters.MayOpen e = absurd cc
behind_open afters.Triples e = absurd cc

some_place : (p : Place) → (p ≡ places.Ended → ⊥) → Some p ≡ Some places.Ended → ⊥
some_place p h e = h cc

guarded : (b : Bool) (p : Place) → (p ≡ places.Ended → ⊥) → then_some b p ≡ Some places.Ended → ⊥
guarded true p h e = h cc
guarded false p h e = absurd cc

bared_open : (level last at : ℕ) (o : BareOutcome) → bared level last at o ≡ Some places.Ended → ⊥
bared_open level last at bare_outcomes.Same e = guarded (at == level) places.Triples (λ f. cc) e
bared_open level last at bare_outcomes.Open e = some_place (opened at) (opened_open at) e
bared_open level last at (bare_outcomes.Searched outcome) e = guarded (at == last) (searched outcome) (searched_open outcome) e

search_open : (line : Line) → may_search line ≡ Some places.Ended → ⊥
search_open (lines.Triple triple refuted) e = absurd cc
search_open line e = absurd cc

pub not_ended : (brief : Bool) (p : Place) (line : Line) → next brief p line ≡ Some places.Ended → ⊥
not_ended brief places.Between line e = absurd cc
not_ended brief places.Shape (lines.Verdict verdict) e = some_place (judged brief verdict) (judged_open brief verdict) e
not_ended brief places.Shape line e = absurd cc
not_ended brief places.Tiling (lines.Lattice triple) e = absurd cc
not_ended brief places.Tiling line e = absurd cc
not_ended brief places.Lattice (lines.Tile place member) e = absurd cc
not_ended brief places.Lattice line e = absurd cc
not_ended brief places.Tile (lines.Tile place member) e = absurd cc
not_ended brief places.Tile line e = absurd cc
not_ended brief (places.Search last) (lines.Coronas count) e = some_place (layers count count last) (layers_open count count last) e
not_ended brief (places.Search last) line e = absurd cc
not_ended brief (places.Layers more count last) (lines.Layer isos) e = some_place (layers more count last) (layers_open more count last) e
not_ended brief (places.Layers more count last) line e = absurd cc
not_ended brief (places.Coronas count last) (lines.Wall level outcome) e = guarded (level == count + 1) (walled level last outcome) (walled_open level last outcome) e
not_ended brief (places.Coronas count last) (lines.Triple triple refuted) e = absurd cc
not_ended brief (places.Coronas count last) line e = absurd cc
not_ended brief (places.Proof refuted after) (lines.Learn clause hints) e = absurd cc
not_ended brief (places.Proof refuted after) (lines.Cut cut) e = absurd cc
not_ended brief (places.Proof refuted after) (lines.Empty hints) e = guarded refuted (behind after) (behind_open after) e
not_ended brief (places.Proof refuted after) lines.Spent e = guarded (not refuted) (behind after) (behind_open after) e
not_ended brief (places.Proof refuted after) line e = absurd cc
not_ended brief (places.Wall level last) (lines.Bare at outcome) e = bared_open level last at outcome e
not_ended brief (places.Wall level last) (lines.Triple triple refuted) e = absurd cc
not_ended brief (places.Wall level last) line e = absurd cc
not_ended brief places.MayOpen (lines.Open count) e = some_place (wider count) (wider_open count) e
not_ended brief places.MayOpen (lines.Triple triple refuted) e = absurd cc
not_ended brief places.MayOpen line e = absurd cc
not_ended brief places.OpenNone (lines.Open count) e = guarded (count == 0) places.Triples (λ f. cc) e
not_ended brief places.OpenNone (lines.Triple triple refuted) e = absurd cc
not_ended brief places.OpenNone line e = absurd cc
not_ended brief (places.MustOpen count) (lines.Open found) e = guarded (found == count) (wider count) (wider_open count) e
not_ended brief (places.MustOpen count) line e = absurd cc
not_ended brief (places.Wider more) (lines.Layer isos) e = some_place (wider more) (wider_open more) e
not_ended brief (places.Wider more) line e = absurd cc
not_ended brief places.Triples line e = search_open line e
not_ended brief places.Ended line e = absurd cc
