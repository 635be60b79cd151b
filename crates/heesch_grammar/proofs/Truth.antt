-- True entries: what they hold, and that their lines may stand.
use Rattle.std.proofs.Common.{◌≡◌, ℕ, ◌+◌, ◌<◌, ◌≤◌, ◌⊎◌, inl, inr, ◌&&◌, nat_lt, Bool, true, false, List, [], ◌∷◌, length, Option, Some, None, is_some, refl, sym, ap, subst, ◌∙◌, arith}
use Rattle.std.specs.Prelude.{option_and_then, option_map}
use Rattle.std.proofs.lemmas.Bool.{lt-ltb}
use Rattle.heesch_grid.specs.declared.Cell.{Cell}
use Rattle.heesch_grid.specs.Geometry.{Geometry}
use Rattle.heesch_cnf.specs.declared.literal.Lit.{Lit}
use Rattle.heesch_cnf.specs.Lines.{HasFinal}
use Rattle.heesch_cert.specs.declared.limits.Limits.{Limits}
use Rattle.heesch_cert.specs.declared.verdict.Kind.{Kind}
use Rattle.heesch_cert.specs.declared.verdict.Kind.TheVariants as kinds
use Rattle.heesch_cert.specs.declared.verdict.Phase.TheVariants as phases
use Rattle.heesch_cert.specs.declared.verdict.Verdict.{Verdict}
use Rattle.heesch_cert.specs.declared.verdict.Verdict.TheVariants as verdicts
use Rattle.heesch_cert.specs.declared.tiling.Tiling.{Tiling}
use Rattle.heesch_cert.specs.declared.entry.Layers.{Layers}
use Rattle.heesch_cert.specs.declared.entry.Wall.{Wall}
use Rattle.heesch_cert.specs.declared.entry.Wall.TheVariants as walls
use Rattle.heesch_cert.specs.declared.entry.Bare.{Bare}
use Rattle.heesch_cert.specs.declared.entry.Bare.TheVariants as bares
use Rattle.heesch_cert.specs.declared.entry.Evidence.{Evidence}
use Rattle.heesch_cert.specs.declared.entry.Evidence.TheVariants as evidences
use Rattle.heesch_cert.specs.declared.entry.Entry.{Entry}
use Rattle.heesch_cert.specs.TrueEntry.{IsOfKind, IsWallRefuted, IsWallSpent, IsBareRefuted, IsBareSpent, IsBelow, FitsVerdict, FormFits, ClassesHold, WallShows, WallHolds, BareShows, BareHolds, IsTrueEntry}
use Rattle.heesch_text.specs.declared.line.Line.{Line}
use Rattle.heesch_text.specs.declared.line.Line.TheVariants as lines
use Rattle.heesch_text.specs.Catalogue.{evidence_lines}
use Rattle.heesch_grammar.specs.declared.place.Place.{Place}
use Rattle.heesch_grammar.specs.declared.place.Place.TheVariants as places
use Rattle.heesch_grammar.specs.declared.spot.Spot.{Spot}
use Rattle.heesch_grammar.specs.Grammar.{next, is_whole, step, steps, judged}
use Rattle.heesch_grammar.specs.Entries.{follow, Lead, LeadOver, HoldsEvidence}
use Rattle.heesch_grammar.specs.Statements.{MayStand}
use Rattle.heesch_grammar.proofs.Heading.{bind_some}
use Rattle.heesch_grammar.proofs.Standing.{FitsBare, FitsWall, lead_from, lead_lattice, lead_search, given_true}

-- ---- proofs end as their outcome says

final_there : (clauses : List (List Lit)) (last : Option (List ℕ)) → HasFinal clauses last → is_some last ≡ true
final_there clauses None h = absurd h
final_there clauses (Some hints) h = refl

refuted_wall : (g : Geometry) (limits : Limits) (shape : List Cell) (j : ℕ) (wall : Wall) (b : Bare) (w : Option Layers) → IsWallRefuted wall → WallShows g limits shape j wall → FitsBare b w → FitsWall wall b w
refuted_wall g limits shape j (walls.Refuted proof) b w i s f = (final_there _ proof.last s.refutes.final, f)
refuted_wall g limits shape j wall b w i s f = absurd i

spent_wall : (g : Geometry) (limits : Limits) (shape : List Cell) (j : ℕ) (wall : Wall) (b : Bare) (w : Option Layers) → IsWallSpent wall → WallShows g limits shape j wall → b ≡ bares.Absent → w ≡ None → FitsWall wall b w
spent_wall g limits shape j (walls.Spent proof) b w i s e f = (ap (λ (x : Option (List ℕ)). is_some x) s.is_spent.unfinished, e, f)
spent_wall g limits shape j wall b w i s e f = absurd i

refuted_bare : (g : Geometry) (limits : Limits) (shape : List Cell) (m : ℕ) (b : Bare) (w : Option Layers) → IsBareRefuted b → BareShows g limits shape m b → FitsBare b w
refuted_bare g limits shape m (bares.Refuted proof) w i s = final_there _ proof.last s.0.refutes.final
refuted_bare g limits shape m b w i s = absurd i

spent_bare : (g : Geometry) (limits : Limits) (shape : List Cell) (m : ℕ) (b : Bare) (w : Option Layers) → IsBareSpent b → BareShows g limits shape m b → FitsBare b w
spent_bare g limits shape m (bares.Spent proof) w i s = ap (λ (x : Option (List ℕ)). is_some x) s.0.is_spent.unfinished
spent_bare g limits shape m b w i s = absurd i

-- ---- the evidence

fits : (g : Geometry) (limits : Limits) (shape : List Cell) (j m : ℕ) (wall : Wall) (b : Bare) (w : Option Layers) (verdict : Verdict)
    → FitsVerdict limits wall b w verdict → WallShows g limits shape j wall → BareShows g limits shape m b → FitsWall wall b w
fits g limits shape j m wall b w (verdicts.Tiles kind domain classes) f s t = absurd f
fits g limits shape j m wall b w (verdicts.Levels h) f s t = subst (λ (x : Wall). FitsWall x b w) (sym f.1) (f.2, f.3)
fits g limits shape j m wall b w (verdicts.Turns h phases.Free at) f s t = spent_wall g limits shape j wall b w f.2 s f.3 f.4
fits g limits shape j m wall b w (verdicts.Size h phases.Free at) f s t = subst (λ (x : Wall). FitsWall x b w) (sym f.2) (f.3, f.4)
fits g limits shape j m wall b w (verdicts.Heesch h n) f s t = refuted_wall g limits shape j wall b w f.2 s (by_end f.3)
  where
    by_end : ((n ≡ h + 1) × (b ≡ bares.Same) × (w ≡ None)) ⊎ (IsBareRefuted b × IsBelow h n w) → FitsBare b w
    by_end (inl x) = subst (λ (y : Bare). FitsBare y w) (sym x.1) x.2
    by_end (inr x) = refuted_bare g limits shape m b w x.0 t
fits g limits shape j m wall b w (verdicts.Turns h phases.Bare at) f s t = refuted_wall g limits shape j wall b w f.2 s (spent_bare g limits shape m b w f.3 t)
fits g limits shape j m wall b w (verdicts.Size h phases.Bare at) f s t = refuted_wall g limits shape j wall b w f.2 s (subst (λ (y : Bare). FitsBare y w) (sym f.3) tt)
fits g limits shape j m wall b w (verdicts.Holes h) f s t = refuted_wall g limits shape j wall b w f.1 s (subst (λ (y : Bare). FitsBare y w) (sym f.2) tt)

one_place : (g : Geometry) (limits : Limits) (shape : List Cell) (tiling : Tiling) (kind : Kind) → IsOfKind g limits shape tiling kind → 1 ≤ length tiling.places
one_place g limits shape tiling kinds.Translation i = let e = ap length i.1 in omega arith
one_place g limits shape tiling kinds.HalfTurn i = let e = ap length i.1.2 in omega arith
one_place g limits shape tiling kinds.Periodic i = let e = i.1 in omega arith

-- the lines of the evidence lead to the end of the entry, and it holds nothing beyond them
record Stands (verdict : Verdict) (e : Evidence) : Type 0 where
  lead : Lead (judged false verdict) (evidence_lines verdict e)
  holds : HoldsEvidence verdict e

stands : (g : Geometry) (limits : Limits) (shape : List Cell) (verdict : Verdict) (e : Evidence)
    → FormFits g limits shape verdict e → ClassesHold g shape verdict e → WallHolds g limits shape verdict e → BareHolds g limits shape verdict e → Stands verdict e
stands g limits shape (verdicts.Tiles kind domain count) (evidences.Cover tiling classes) f c s b =
    let l = lead_lattice tiling.places classes.members (one_place g limits shape tiling kind f.3) c.0.one_each in
    record { lead = lead_from places.Tiling places.Lattice _ _ refl l; holds = (sym c.1, c.0.one_each) }
stands g limits shape verdict (evidences.Cover tiling classes) f c s b = absurd f
stands g limits shape (verdicts.Tiles kind domain count) (evidences.Search free wall bare wider triples) f c s b = absurd f.1
stands g limits shape (verdicts.Heesch h m) (evidences.Search free wall bare wider triples) f c s b =
    record { lead = lead_search m free.layers wall bare wider triples (fits g limits shape (h + 1) m wall bare wider (verdicts.Heesch h m) f.1 s b.1); holds = tt }
stands g limits shape (verdicts.Levels h) (evidences.Search free wall bare wider triples) f c s b =
    record { lead = lead_search h free.layers wall bare wider triples (fits g limits shape (h + 1) h wall bare wider (verdicts.Levels h) f.1 s b.1); holds = tt }
stands g limits shape (verdicts.Holes h) (evidences.Search free wall bare wider triples) f c s b =
    record { lead = lead_search h free.layers wall bare wider triples (fits g limits shape (h + 1) h wall bare wider (verdicts.Holes h) f.1 s b.1); holds = tt }
stands g limits shape (verdicts.Turns h phase at) (evidences.Search free wall bare wider triples) f c s b =
    record { lead = lead_search at free.layers wall bare wider triples (fits g limits shape (h + 1) at wall bare wider (verdicts.Turns h phase at) f.1 s b.1); holds = tt }
stands g limits shape (verdicts.Size h phase at) (evidences.Search free wall bare wider triples) f c s b =
    record { lead = lead_search at free.layers wall bare wider triples (fits g limits shape (h + 1) at wall bare wider (verdicts.Size h phase at) f.1 s b.1); holds = tt }

-- ---- the machine

no_shape : (brief : Bool) (p : Place) (cells : List Cell) → next brief p (lines.Shape cells) ≡ None
no_shape brief places.Between cells = refl
no_shape brief p cells = refl

no_end : (brief : Bool) (p : Place) (count : ℕ) → next brief p (lines.End count) ≡ None
no_end brief places.Between count = refl
no_end brief p count = refl

-- where lines lead inside an entry, the machine leads
outside : (brief : Bool) (s : Spot) (ls : List Line) (end : Place) → follow brief s.place ls ≡ Some end → steps brief s ls ≡ Some (record { shapes = s.shapes; place = end })
outside brief s [] end e = let f : s.place ≡ end = cc in ap (λ (x : Place). Some (record { shapes = s.shapes; place = x })) f
outside brief s (lines.Shape cells ∷ ls) end e =
    let b = bind_some (next brief s.place (lines.Shape cells)) (λ q. follow brief q ls) end e in
    let f = sym (no_shape brief s.place cells) ∙ b.1 in
    absurd cc
outside brief s (lines.End count ∷ ls) end e =
    let b = bind_some (next brief s.place (lines.End count)) (λ q. follow brief q ls) end e in
    let f = sym (no_end brief s.place count) ∙ b.1 in
    absurd cc
outside brief s (line ∷ ls) end e =
    let b = bind_some (next brief s.place line) (λ q. follow brief q ls) end e in
    let h = outside brief (record { shapes = s.shapes; place = b.0 }) ls end b.2 in
    subst (λ (o : Option Place). option_and_then (λ t. steps brief t ls) (option_map (λ p. record { shapes = s.shapes; place = p }) o) ≡ Some (record { shapes = s.shapes; place = end })) (sym b.1) h

shape_stands : (brief : Bool) (s : Spot) (cells : List Cell) → is_whole s.place ≡ true → s.shapes < 4294967295 → step brief s (lines.Shape cells) ≡ Some (record { shapes = s.shapes + 1; place = places.Shape })
shape_stands brief s cells w h = given_true _ _ (ap (λ (x : Bool). x && nat_lt s.shapes 4294967295) w ∙ lt-ltb s.shapes 4294967295 h)

over : (brief : Bool) (s : Spot) (cells : List Cell) (ls : List Line) (end : Place) → is_whole s.place ≡ true → s.shapes < 4294967295 → follow brief places.Shape ls ≡ Some end → is_whole end ≡ true → LeadOver brief s (lines.Shape cells ∷ ls)
over brief s cells ls end w h e v =
    let o = outside brief (record { shapes = s.shapes + 1; place = places.Shape }) ls end e in
    record {
      behind = record { shapes = s.shapes + 1; place = end };
      reached = subst (λ (x : Option Spot). option_and_then (λ t. steps brief t ls) x ≡ Some (record { shapes = s.shapes + 1; place = end })) (sym (shape_stands brief s cells w h)) o;
      whole = v;
      one_more = refl;
    }

pub may_stand : (g : Geometry) (limits : Limits) (e : Entry) → IsTrueEntry g limits e → MayStand e
may_stand g limits e t =
    let s = stands g limits e.cells e.verdict e.evidence t.form t.classes t.wall t.bare in
    record {
      holds = s.holds;
      full = λ p w h. over false p e.cells (lines.Verdict e.verdict ∷ evidence_lines e.verdict e.evidence) s.lead.end w h s.lead.reached s.lead.whole;
      brief = λ p w h. over true p e.cells (lines.Verdict e.verdict ∷ []) places.Between w h refl refl;
    }
