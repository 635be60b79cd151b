-- What stands behind the coronas of a search, from its end to its start.
use Rattle.std.proofs.Common.{◌≡◌, ℕ, zero, suc, ◌+◌, ◌==◌, true, false, List, [], ◌∷◌, ◌++◌, length, None, Result, IfOk, refl, sym, ap, subst, ◌∙◌, append_assoc}
use Rattle.std.specs.List.{flat_map}
use Rattle.std.proofs.lemmas.Bool.{eqb-true}
use Rattle.std.proofs.lemmas.Result.{IfOk-weaker}
use Rattle.heesch_io.specs.declared.fault.NoMemory.{NoMemory}
use Rattle.heesch_grid.specs.Lattice.{Triple}
use Rattle.heesch_cert.specs.declared.verdict.Kind.{Kind}
use Rattle.heesch_cert.specs.declared.verdict.Verdict.{Verdict}
use Rattle.heesch_cert.specs.declared.verdict.Verdict.TheVariants as verdicts
use Rattle.heesch_cert.specs.declared.entry.Evidence.{Evidence}
use Rattle.heesch_cert.specs.declared.entry.Evidence.TheVariants as evidences
use Rattle.heesch_text.specs.declared.line.Outcome.{Outcome}
use Rattle.heesch_text.specs.declared.line.Outcome.TheVariants as outcomes
use Rattle.heesch_text.specs.declared.line.BareOutcome.{BareOutcome}
use Rattle.heesch_text.specs.declared.line.BareOutcome.TheVariants as bare_outcomes
use Rattle.heesch_text.specs.declared.line.Line.{Line}
use Rattle.heesch_text.specs.declared.line.Line.TheVariants as lines
use Rattle.heesch_text.specs.Catalogue.{proof_lines, layer_lines, triple_lines, wall_lines, bare_lines, wider_lines, wider_count, after_layers, evidence_lines}
use Rattle.heesch_grammar.specs.declared.place.AfterProof.TheVariants as afters
use Rattle.heesch_grammar.specs.declared.place.Place.TheVariants as places
use Rattle.heesch_grammar.specs.Grammar.{layers, wider, opened, judged}
use Rattle.heesch_grammar.specs.Parts.{proof_at, behind_proof, layers_at, behind_layers, places_at, members_at, wall_end, wall_at, behind_wall, bare_end, bare_at, behind_bare, open_count, wider_at, behind_wider, triples_at, search_at}
use Rattle.heesch_grammar.specs.Entries.{Lead, HasLattice, HasCoronas, IsCoverAt, IsSearchAt, HoldsEvidence}
use Rattle.heesch_grammar.proofs.Inside.{lead_whole, lead_given, proof_parts, layers_parts, wider_parts, tiles_parts, triples_parts}

-- ---- open layers and triples

abbrev tail_of : List Line → List Line
tail_of ls = wider_lines (wider_at ls) ++ flat_map triple_lines (triples_at (behind_wider ls))

-- where triples may follow, nothing else does
record IsTriples (ls : List Line) : Type 0 where
  no_wall : wall_end ls ≡ None
  no_bare : bare_end ls ≡ None
  no_open : open_count ls ≡ None

only_triples : (ls : List Line) → Lead places.Triples ls → IsTriples ls
only_triples [] l = record { no_wall = refl; no_bare = refl; no_open = refl }
only_triples (lines.Triple triple refuted ∷ ls) l = record { no_wall = refl; no_bare = refl; no_open = refl }
only_triples (line ∷ ls) l = let e = l.reached in absurd cc

triples_tail : (ls : List Line) → Lead places.Triples ls → ls ≡ tail_of ls
triples_tail ls l = let o = (only_triples ls l).no_open in rw o (triples_parts ls l)

triples_count : (ls : List Line) → Lead places.Triples ls → wider_count (wider_at ls) ≡ 0
triples_count ls l = let o = (only_triples ls l).no_open in rw o refl

record HasTail (count : ℕ) (ls : List Line) : Type 0 where
  split : ls ≡ tail_of ls
  count_is : wider_count (wider_at ls) ≡ count

open_tail : (count : ℕ) (ls : List Line) → Lead (wider count) ls → HasTail count (lines.Open count ∷ ls)
open_tail count ls l =
    let w = wider_parts count ls l in
    let t = triples_parts (behind_layers count ls) w.onward in
    record {
      split = ap (λ (x : ℕ). lines.Open x ∷ ls) (sym w.all) ∙ ap (λ (x : List Line). lines.Open (length (layers_at count ls)) ∷ x) (w.split ∙ ap (λ (x : List Line). layer_lines (layers_at count ls) ++ x) t);
      count_is = w.all;
    }

none_tail : (ls : List Line) → Lead places.Triples ls → HasTail 0 ls
none_tail ls l = record { split = triples_tail ls l; count_is = triples_count ls l }

may_open_tail : (ls : List Line) → Lead places.MayOpen ls → ls ≡ tail_of ls
may_open_tail [] l = refl
may_open_tail (lines.Open count ∷ ls) l = (open_tail count ls (record { end = l.end; reached = l.reached; whole = l.whole })).split
may_open_tail (lines.Triple triple refuted ∷ ls) l = triples_tail (lines.Triple triple refuted ∷ ls) (record { end = l.end; reached = l.reached; whole = l.whole })
may_open_tail (line ∷ ls) l = let e = l.reached in absurd cc

open_none_tail : (ls : List Line) → Lead places.OpenNone ls → HasTail 0 ls
open_none_tail [] l = record { split = refl; count_is = refl }
open_none_tail (lines.Open count ∷ ls) l =
    let g = lead_given (count == 0) places.Triples ls l.end l.reached l.whole in
    let e = eqb-true count 0 g.0 in
    subst (λ (x : ℕ). HasTail 0 (lines.Open x ∷ ls)) (sym e) (open_tail 0 ls g.1)
open_none_tail (lines.Triple triple refuted ∷ ls) l = none_tail (lines.Triple triple refuted ∷ ls) (record { end = l.end; reached = l.reached; whole = l.whole })
open_none_tail (line ∷ ls) l = let e = l.reached in absurd cc

must_open_tail : (count : ℕ) (ls : List Line) → Lead (places.MustOpen count) ls → HasTail count ls
must_open_tail count [] l = let w = lead_whole (places.MustOpen count) l in absurd cc
must_open_tail count (lines.Open found ∷ ls) l =
    let g = lead_given (found == count) (wider count) ls l.end l.reached l.whole in
    let e = eqb-true found count g.0 in
    subst (λ (x : ℕ). HasTail count (lines.Open x ∷ ls)) (sym e) (open_tail count ls g.1)
must_open_tail count (line ∷ ls) l = let e = l.reached in absurd cc

opened_tail : (count : ℕ) (ls : List Line) → Lead (opened count) ls → HasTail count ls
opened_tail zero ls l = open_none_tail ls l
opened_tail (suc n) ls l = must_open_tail (suc n) ls l

-- ---- a search with holes allowed, and what stands behind it

abbrev bare_tail : (level last : ℕ) → List Line → List Line
bare_tail level last ls = bare_lines level (wider_count (wider_at (behind_bare ls))) last (bare_at ls) ++ tail_of (behind_bare ls)

triples_bare : (level last : ℕ) (ls : List Line) → Lead places.Triples ls → ls ≡ bare_tail level last ls
triples_bare level last ls l = let o = (only_triples ls l).no_bare in rw o (triples_tail ls l)

bared_tail : (level last at : ℕ) (outcome : BareOutcome) (ls : List Line) → Lead (places.Wall level last) (lines.Bare at outcome ∷ ls) → lines.Bare at outcome ∷ ls ≡ bare_tail level last (lines.Bare at outcome ∷ ls)
bared_tail level last at bare_outcomes.Same ls l =
    let g = lead_given (at == level) places.Triples ls l.end l.reached l.whole in
    ap (λ (x : ℕ). lines.Bare x bare_outcomes.Same ∷ ls) (eqb-true at level g.0) ∙ ap (λ (x : List Line). lines.Bare level bare_outcomes.Same ∷ x) (triples_tail ls g.1)
bared_tail level last at bare_outcomes.Open ls l =
    let t = opened_tail at ls (record { end = l.end; reached = l.reached; whole = l.whole }) in
    ap (λ (x : ℕ). lines.Bare x bare_outcomes.Open ∷ ls) (sym t.count_is) ∙ ap (λ (x : List Line). lines.Bare (wider_count (wider_at ls)) bare_outcomes.Open ∷ x) t.split
bared_tail level last at (bare_outcomes.Searched outcomes.Refuted) ls l =
    let g = lead_given (at == last) (places.Proof true afters.MayOpen) ls l.end l.reached l.whole in
    let p = proof_parts true afters.MayOpen ls g.1 in
    ap (λ (x : ℕ). lines.Bare x (bare_outcomes.Searched outcomes.Refuted) ∷ ls) (eqb-true at last g.0)
    ∙ ap (λ (x : List Line). lines.Bare last (bare_outcomes.Searched outcomes.Refuted) ∷ x) (p.split ∙ ap (λ (x : List Line). proof_lines (proof_at ls) ++ x) (may_open_tail (behind_proof ls) p.onward))
bared_tail level last at (bare_outcomes.Searched outcomes.Spent) ls l =
    let g = lead_given (at == last) (places.Proof false afters.MayOpen) ls l.end l.reached l.whole in
    let p = proof_parts false afters.MayOpen ls g.1 in
    ap (λ (x : ℕ). lines.Bare x (bare_outcomes.Searched outcomes.Spent) ∷ ls) (eqb-true at last g.0)
    ∙ ap (λ (x : List Line). lines.Bare last (bare_outcomes.Searched outcomes.Spent) ∷ x) (p.split ∙ ap (λ (x : List Line). proof_lines (proof_at ls) ++ x) (may_open_tail (behind_proof ls) p.onward))
bared_tail level last at (bare_outcomes.Searched outcomes.Size) ls l =
    let g = lead_given (at == last) places.MayOpen ls l.end l.reached l.whole in
    ap (λ (x : ℕ). lines.Bare x (bare_outcomes.Searched outcomes.Size) ∷ ls) (eqb-true at last g.0) ∙ ap (λ (x : List Line). lines.Bare last (bare_outcomes.Searched outcomes.Size) ∷ x) (may_open_tail ls g.1)

after_wall_tail : (level last : ℕ) (ls : List Line) → Lead (places.Wall level last) ls → ls ≡ bare_tail level last ls
after_wall_tail level last [] l = refl
after_wall_tail level last (lines.Bare at outcome ∷ ls) l = bared_tail level last at outcome ls l
after_wall_tail level last (lines.Triple triple refuted ∷ ls) l = triples_bare level last (lines.Triple triple refuted ∷ ls) (record { end = l.end; reached = l.reached; whole = l.whole })
after_wall_tail level last (line ∷ ls) l = let e = l.reached in absurd cc

-- ---- a wall, and what stands behind it

abbrev wall_tail : (level last : ℕ) → List Line → List Line
wall_tail level last ls = wall_lines level (wall_at ls) ++ bare_tail level last (behind_wall ls)

triples_wall : (level last : ℕ) (ls : List Line) → Lead places.Triples ls → ls ≡ wall_tail level last ls
triples_wall level last ls l = let o = (only_triples ls l).no_wall in rw o (triples_bare level last ls l)

walled_tail : (count last level : ℕ) (outcome : Outcome) (ls : List Line) → Lead (places.Coronas count last) (lines.Wall level outcome ∷ ls) → lines.Wall level outcome ∷ ls ≡ wall_tail (count + 1) last (lines.Wall level outcome ∷ ls)
walled_tail count last level outcomes.Refuted ls l =
    let g = lead_given (level == count + 1) (places.Proof true (afters.Wall level last)) ls l.end l.reached l.whole in
    let e = eqb-true level (count + 1) g.0 in
    let p = proof_parts true (afters.Wall level last) ls g.1 in
    let t = after_wall_tail (count + 1) last (behind_proof ls) (subst (λ (x : ℕ). Lead (places.Wall x last) (behind_proof ls)) e p.onward) in
    ap (λ (x : ℕ). lines.Wall x outcomes.Refuted ∷ ls) e ∙ ap (λ (x : List Line). lines.Wall (count + 1) outcomes.Refuted ∷ x) (p.split ∙ ap (λ (x : List Line). proof_lines (proof_at ls) ++ x) t)
walled_tail count last level outcomes.Spent ls l =
    let g = lead_given (level == count + 1) (places.Proof false afters.Triples) ls l.end l.reached l.whole in
    let e = eqb-true level (count + 1) g.0 in
    let p = proof_parts false afters.Triples ls g.1 in
    let t = triples_bare (count + 1) last (behind_proof ls) p.onward in
    ap (λ (x : ℕ). lines.Wall x outcomes.Spent ∷ ls) e ∙ ap (λ (x : List Line). lines.Wall (count + 1) outcomes.Spent ∷ x) (p.split ∙ ap (λ (x : List Line). proof_lines (proof_at ls) ++ x) t)
walled_tail count last level outcomes.Size ls l =
    let g = lead_given (level == count + 1) places.Triples ls l.end l.reached l.whole in
    let e = eqb-true level (count + 1) g.0 in
    ap (λ (x : ℕ). lines.Wall x outcomes.Size ∷ ls) e ∙ ap (λ (x : List Line). lines.Wall (count + 1) outcomes.Size ∷ x) (triples_bare (count + 1) last ls g.1)

after_coronas_tail : (count last : ℕ) (ls : List Line) → Lead (places.Coronas count last) ls → ls ≡ wall_tail (count + 1) last ls
after_coronas_tail count last [] l = refl
after_coronas_tail count last (lines.Wall level outcome ∷ ls) l = walled_tail count last level outcome ls l
after_coronas_tail count last (lines.Triple triple refuted ∷ ls) l = triples_wall (count + 1) last (lines.Triple triple refuted ∷ ls) (record { end = l.end; reached = l.reached; whole = l.whole })
after_coronas_tail count last (line ∷ ls) l = let e = l.reached in absurd cc

-- ---- the evidence

regroup : (a b c d : List Line) → a ++ (b ++ (c ++ d)) ≡ ((a ++ b) ++ c) ++ d
regroup a b c d = sym (simp append_assoc)

search_split : (last count : ℕ) (ls : List Line) → Lead (layers count count last) ls
    → lines.Coronas (length (layers_at count ls)) ∷ (layer_lines (layers_at count ls) ++ after_layers (length (layers_at count ls) + 1) last (wall_at (behind_layers count ls)) (bare_at (behind_wall (behind_layers count ls)))
    (wider_at (behind_bare (behind_wall (behind_layers count ls)))) (triples_at (behind_wider (behind_bare (behind_wall (behind_layers count ls))))))
    ≡ lines.Coronas count ∷ ls
search_split last count ls l =
    let p = layers_parts count last count ls l in
    let rest = behind_layers count ls in
    let t = after_coronas_tail count last rest p.onward in
    let w = behind_wall rest in
    let b = behind_bare w in
    let n = length (layers_at count ls) in
    let whole : ls ≡ layer_lines (layers_at count ls) ++ after_layers (count + 1) last (wall_at rest) (bare_at w) (wider_at b) (triples_at (behind_wider b)) =
    p.split ∙ ap (λ (x : List Line). layer_lines (layers_at count ls) ++ x)
    (t ∙ regroup (wall_lines (count + 1) (wall_at rest)) (bare_lines (count + 1) (wider_count (wider_at b)) last (bare_at w)) (wider_lines (wider_at b)) (flat_map triple_lines (triples_at (behind_wider b)))) in
    ap (λ (x : ℕ). lines.Coronas x ∷ (layer_lines (layers_at count ls) ++ after_layers (x + 1) last (wall_at rest) (bare_at w) (wider_at b) (triples_at (behind_wider b)))) p.all
    ∙ ap (λ (x : List Line). lines.Coronas count ∷ x) (sym whole)

coronas_first : (last : ℕ) (ls : List Line) → Lead (places.Search last) ls → HasCoronas ls
coronas_first last [] l = let w = lead_whole (places.Search last) l in absurd cc
coronas_first last (lines.Coronas count ∷ ls) l = record { count = count; rest = ls; split = refl }
coronas_first last (line ∷ ls) l = let e = l.reached in absurd cc

-- the lines behind a verdict that isn't a tiling's
pub has_coronas : (verdict : Verdict) (ls : List Line) → ((kind : Kind) (domain classes : ℕ) → verdict ≡ verdicts.Tiles kind domain classes → ⊥) → Lead (judged false verdict) ls → HasCoronas ls
has_coronas (verdicts.Tiles kind domain classes) ls n l = absurd (n kind domain classes refl)
has_coronas (verdicts.Heesch h m) ls n l = coronas_first m ls l
has_coronas (verdicts.Levels h) ls n l = coronas_first h ls l
has_coronas (verdicts.Holes h) ls n l = coronas_first h ls l
has_coronas (verdicts.Turns h phase at) ls n l = coronas_first at ls l
has_coronas (verdicts.Size h phase at) ls n l = coronas_first at ls l

pub has_lattice : (ls : List Line) → Lead places.Tiling ls → HasLattice ls
has_lattice [] l = let w = lead_whole places.Tiling l in absurd cc
has_lattice (lines.Lattice triple ∷ ls) l = record { triple = triple; rest = ls; split = refl }
has_lattice (line ∷ ls) l = let e = l.reached in absurd cc

-- what is read behind a verdict has the lines that stand there, and holds nothing beyond them
pub record Reads (verdict : Verdict) (ls : List Line) (e : Evidence) : Type 0 where
  pub same : evidence_lines verdict e ≡ ls
  pub holds : HoldsEvidence verdict e

cover_reads : (kind : Kind) (domain classes : ℕ) (triple : Triple) (ls : List Line) → Lead places.Lattice ls
    → Reads (verdicts.Tiles kind domain classes) (lines.Lattice triple ∷ ls) (evidences.Cover (record { triple = triple; places = places_at ls }) (record { count = classes; members = members_at ls }))
cover_reads kind domain classes triple [] l = let w = lead_whole places.Lattice l in absurd cc
cover_reads kind domain classes triple (lines.Tile place member ∷ ls) l =
    let t = tiles_parts (lines.Tile place member ∷ ls) (record { end = l.end; reached = l.reached; whole = l.whole }) in
    record { same = ap (λ (x : List Line). lines.Lattice triple ∷ x) (sym t.0); holds = (refl, t.1) }
cover_reads kind domain classes triple (line ∷ ls) l = let e = l.reached in absurd cc

pub reads_cover : (kind : Kind) (domain classes : ℕ) (ls : List Line) (e : Evidence) → IsCoverAt classes ls e → Lead places.Tiling ls → Reads (verdicts.Tiles kind domain classes) ls e
reads_cover kind domain classes ls e c l =
    let m : Lead places.Tiling (lines.Lattice c.triple ∷ c.rest) = subst (λ (x : List Line). Lead places.Tiling x) c.split l in
    let r = cover_reads kind domain classes c.triple c.rest (record { end = m.end; reached = m.reached; whole = m.whole }) in
    let V = verdicts.Tiles kind domain classes in
    subst (λ (x : List Line). Reads V x e) (sym c.split) (subst (λ (x : Evidence). Reads V (lines.Lattice c.triple ∷ c.rest) x) (sym c.is_cover) r)

search_reads : (verdict : Verdict) (count : ℕ) (ls : List Line) → Lead (judged false verdict) (lines.Coronas count ∷ ls) → Reads verdict (lines.Coronas count ∷ ls) (search_at count ls)
search_reads (verdicts.Tiles kind domain classes) count ls l = let e = l.reached in absurd cc
search_reads (verdicts.Heesch h m) count ls l = record { same = search_split m count ls (record { end = l.end; reached = l.reached; whole = l.whole }); holds = tt }
search_reads (verdicts.Levels h) count ls l = record { same = search_split h count ls (record { end = l.end; reached = l.reached; whole = l.whole }); holds = tt }
search_reads (verdicts.Holes h) count ls l = record { same = search_split h count ls (record { end = l.end; reached = l.reached; whole = l.whole }); holds = tt }
search_reads (verdicts.Turns h phase at) count ls l = record { same = search_split at count ls (record { end = l.end; reached = l.reached; whole = l.whole }); holds = tt }
search_reads (verdicts.Size h phase at) count ls l = record { same = search_split at count ls (record { end = l.end; reached = l.reached; whole = l.whole }); holds = tt }

pub reads_search : (verdict : Verdict) (ls : List Line) (e : Evidence) → IsSearchAt ls e → Lead (judged false verdict) ls → Reads verdict ls e
reads_search verdict ls e s l =
    let r = search_reads verdict s.count s.rest (subst (λ (x : List Line). Lead (judged false verdict) x) s.split l) in
    subst (λ (x : List Line). Reads verdict x e) (sym s.split) (subst (λ (x : Evidence). Reads verdict (lines.Coronas s.count ∷ s.rest) x) (sym s.is_search) r)

-- ---- of an answer

reads_tiling : (verdict : Verdict) (kind : Kind) (domain classes : ℕ) (ls : List Line) (e : Evidence) → verdict ≡ verdicts.Tiles kind domain classes → Lead (judged false verdict) ls → IsCoverAt classes ls e → Reads verdict ls e
reads_tiling verdict kind domain classes ls e v l c =
    subst (λ (x : Verdict). Reads x ls e) (sym v) (reads_cover kind domain classes ls e c (subst (λ (x : Verdict). Lead (judged false x) ls) v l))

pub cover_read : (verdict : Verdict) (kind : Kind) (domain classes : ℕ) (ls : List Line) (r : Result Evidence NoMemory) → verdict ≡ verdicts.Tiles kind domain classes → Lead (judged false verdict) ls
    → IfOk r (IsCoverAt classes ls) → IfOk r (λ e. evidence_lines verdict e ≡ ls)
cover_read verdict kind domain classes ls r v l h = IfOk-weaker r (IsCoverAt classes ls) (λ e. evidence_lines verdict e ≡ ls) (λ e c. (reads_tiling verdict kind domain classes ls e v l c).same) h

pub cover_holds : (verdict : Verdict) (kind : Kind) (domain classes : ℕ) (ls : List Line) (r : Result Evidence NoMemory) → verdict ≡ verdicts.Tiles kind domain classes → Lead (judged false verdict) ls
    → IfOk r (IsCoverAt classes ls) → IfOk r (HoldsEvidence verdict)
cover_holds verdict kind domain classes ls r v l h = IfOk-weaker r (IsCoverAt classes ls) (HoldsEvidence verdict) (λ e c. (reads_tiling verdict kind domain classes ls e v l c).holds) h

pub search_read : (verdict : Verdict) (ls : List Line) (r : Result Evidence NoMemory) → Lead (judged false verdict) ls → IfOk r (IsSearchAt ls) → IfOk r (λ e. evidence_lines verdict e ≡ ls)
search_read verdict ls r l h = IfOk-weaker r (IsSearchAt ls) (λ e. evidence_lines verdict e ≡ ls) (λ e s. (reads_search verdict ls e s l).same) h

pub search_holds : (verdict : Verdict) (ls : List Line) (r : Result Evidence NoMemory) → Lead (judged false verdict) ls → IfOk r (IsSearchAt ls) → IfOk r (HoldsEvidence verdict)
search_holds verdict ls r l h = IfOk-weaker r (IsSearchAt ls) (HoldsEvidence verdict) (λ e s. (reads_search verdict ls e s l).holds) h
