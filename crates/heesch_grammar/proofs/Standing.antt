-- The lines of a true entry may stand, from its end to its start.
use Rattle.std.proofs.Common.{◌≡◌, ℕ, suc, ◌+◌, ◌≤◌, ◌==◌, Bool, true, false, List, [], ◌∷◌, ◌++◌, map, length, Option, Some, None, is_some, refl, sym, ap, subst, ◌∙◌, append_assoc, arith}
use Rattle.std.specs.Bool.{then_some}
use Rattle.std.specs.Prelude.{option_and_then}
use Rattle.std.specs.List.{flat_map}
use Rattle.std.proofs.lemmas.Bool.{eq-eqb}
use Rattle.heesch_grid.specs.declared.isometries.Iso.{Iso}
use Rattle.heesch_grid.specs.Symmetry.{Member}
use Rattle.heesch_cert.specs.declared.proof.Step.{Step}
use Rattle.heesch_cert.specs.declared.proof.Step.TheVariants as steps
use Rattle.heesch_cert.specs.declared.proof.Proof.{Proof}
use Rattle.heesch_cert.specs.declared.entry.Layers.{Layers}
use Rattle.heesch_cert.specs.declared.entry.Wall.{Wall}
use Rattle.heesch_cert.specs.declared.entry.Wall.TheVariants as walls
use Rattle.heesch_cert.specs.declared.entry.Bare.{Bare}
use Rattle.heesch_cert.specs.declared.entry.Bare.TheVariants as bares
use Rattle.heesch_cert.specs.declared.entry.TripleProof.{TripleProof}
use Rattle.heesch_text.specs.declared.line.Line.{Line}
use Rattle.heesch_text.specs.declared.line.Line.TheVariants as lines
use Rattle.heesch_text.specs.Catalogue.{step_line, last_line, proof_lines, layer_lines, tile_lines, triple_lines, wall_lines, bare_lines, wider_lines, wider_count, after_layers}
use Rattle.heesch_grammar.specs.declared.place.AfterProof.{AfterProof}
use Rattle.heesch_grammar.specs.declared.place.AfterProof.TheVariants as afters
use Rattle.heesch_grammar.specs.declared.place.Place.{Place}
use Rattle.heesch_grammar.specs.declared.place.Place.TheVariants as places
use Rattle.heesch_grammar.specs.Grammar.{next, is_whole, behind, layers, wider, opened}
use Rattle.heesch_grammar.specs.Entries.{follow, Lead}

-- lines that lead as others do from another place lead to the end of an entry where they do
pub lead_as : (p q : Place) (ls ms : List Line) → follow false p ls ≡ follow false q ms → Lead q ms → Lead p ls
lead_as p q ls ms e l = record { end = l.end; reached = e ∙ l.reached; whole = l.whole }

-- a line leads on to where the others lead
pub lead_from : (p q : Place) (line : Line) (ls : List Line) → next false p line ≡ Some q → Lead q ls → Lead p (line ∷ ls)
lead_from p q line ls e l = record { end = l.end; reached = subst (λ (o : Option Place). option_and_then (λ x. follow false x ls) o ≡ Some l.end) (sym e) l.reached; whole = l.whole }

pub given_true : {A : Type 0} (b : Bool) (x : A) → b ≡ true → then_some b x ≡ Some x
given_true b x e = ap (λ (y : Bool). then_some y x) e

-- ---- a proof

follow_steps : (refuted : Bool) (after : AfterProof) (done : List Step) (last : Option (List ℕ)) (rest : List Line) → is_some last ≡ refuted
    → follow false (places.Proof refuted after) ((map step_line done ++ last_line last ∷ []) ++ rest) ≡ follow false (behind after) rest
follow_steps true after [] None rest e = absurd cc
follow_steps false after [] None rest e = refl
follow_steps true after [] (Some hints) rest e = refl
follow_steps false after [] (Some hints) rest e = absurd cc
follow_steps refuted after (steps.Learn clause hints ∷ done) last rest e = follow_steps refuted after done last rest e
follow_steps refuted after (steps.Cut cut ∷ done) last rest e = follow_steps refuted after done last rest e

lead_proof : (refuted : Bool) (after : AfterProof) (p : Proof) (rest : List Line) → is_some p.last ≡ refuted → Lead (behind after) rest → Lead (places.Proof refuted after) (proof_lines p ++ rest)
lead_proof refuted after p rest e l = lead_as _ _ _ _ (follow_steps refuted after p.steps p.last rest e) l

-- ---- layers

follow_layers : (count last : ℕ) (ls : List (List Iso)) (rest : List Line) → follow false (layers (length ls) count last) (layer_lines ls ++ rest) ≡ follow false (places.Coronas count last) rest
follow_layers count last [] rest = refl
follow_layers count last (l ∷ ls) rest = follow_layers count last ls rest

follow_wider : (ls : List (List Iso)) (rest : List Line) → follow false (wider (length ls)) (layer_lines ls ++ rest) ≡ follow false places.Triples rest
follow_wider [] rest = refl
follow_wider (l ∷ ls) rest = follow_wider ls rest

-- ---- tiles

lead_tiles : (isos : List Iso) (members : List Member) → Lead places.Tile (tile_lines isos members)
lead_tiles [] [] = record { end = places.Tile; reached = refl; whole = refl }
lead_tiles [] (m ∷ members) = record { end = places.Tile; reached = refl; whole = refl }
lead_tiles (p ∷ isos) [] = record { end = places.Tile; reached = refl; whole = refl }
lead_tiles (p ∷ isos) (m ∷ members) = let h = lead_tiles isos members in record { end = h.end; reached = h.reached; whole = h.whole }

pub lead_lattice : (isos : List Iso) (members : List Member) → 1 ≤ length isos → length members ≡ length isos → Lead places.Lattice (tile_lines isos members)
lead_lattice [] members h e = absurd (omega arith)
lead_lattice (p ∷ isos) [] h e = absurd (omega arith)
lead_lattice (p ∷ isos) (m ∷ members) h e = let t = lead_tiles isos members in record { end = t.end; reached = t.reached; whole = t.whole }

-- ---- triples

lead_triples : (ts : List TripleProof) → Lead places.Triples (flat_map triple_lines ts)
lead_triples [] = record { end = places.Triples; reached = refl; whole = refl }
lead_triples (t ∷ ts) =
    let l = lead_proof (is_some t.proof.last) afters.Triples t.proof (flat_map triple_lines ts) refl (lead_triples ts) in
    record { end = l.end; reached = l.reached; whole = l.whole }

-- a place where a triple may stand, and where an entry may end
record MayHaveTriples (p : Place) : Type 0 where
  none : is_whole p ≡ true
  some : (t : TripleProof) (ts : List TripleProof) → follow false p (flat_map triple_lines (t ∷ ts)) ≡ follow false places.Triples (flat_map triple_lines (t ∷ ts))

triples_from : (p : Place) (ts : List TripleProof) → MayHaveTriples p → Lead p (flat_map triple_lines ts)
triples_from p [] m = record { end = p; reached = refl; whole = m.none }
triples_from p (t ∷ ts) m = lead_as _ _ _ _ (m.some t ts) (lead_triples (t ∷ ts))

-- ---- open layers

lead_open : (ls : List (List Iso)) (ts : List TripleProof) → Lead (wider (length ls)) (layer_lines ls ++ flat_map triple_lines ts)
lead_open ls ts = lead_as _ _ _ _ (follow_wider ls (flat_map triple_lines ts)) (lead_triples ts)

lead_may_open : (w : Option Layers) (ts : List TripleProof) → Lead places.MayOpen (wider_lines w ++ flat_map triple_lines ts)
lead_may_open None ts = triples_from places.MayOpen ts (record { none = refl; some = λ t ts. refl })
lead_may_open (Some w) ts = let l = lead_open w.layers ts in record { end = l.end; reached = l.reached; whole = l.whole }

lead_some_open : (ls : List (List Iso)) (ts : List TripleProof) → Lead (opened (length ls)) (lines.Open (length ls) ∷ (layer_lines ls ++ flat_map triple_lines ts))
lead_some_open [] ts = let l = lead_triples ts in record { end = l.end; reached = l.reached; whole = l.whole }
lead_some_open (x ∷ ls) ts =
    let n = suc (length ls) in
    lead_from (places.MustOpen (suc (length ls))) (wider (suc (length ls))) _ _ (given_true _ _ (eq-eqb (suc (length ls)) (suc (length ls)) refl)) (lead_open (x ∷ ls) ts)

lead_opened : (w : Option Layers) (ts : List TripleProof) → Lead (opened (wider_count w)) (wider_lines w ++ flat_map triple_lines ts)
lead_opened None ts = triples_from places.OpenNone ts (record { none = refl; some = λ t ts. refl })
lead_opened (Some w) ts = lead_some_open w.layers ts

-- ---- a search with holes allowed

-- it ends with a proof of its kind, and has open layers behind it only where its kind may have them
abbrev pub FitsBare : Bare → Option Layers → Type 0
FitsBare bares.Absent w = w ≡ None
FitsBare bares.Same w = w ≡ None
FitsBare (bares.Refuted proof) w = is_some proof.last ≡ true
FitsBare (bares.Spent proof) w = is_some proof.last ≡ false
FitsBare bares.Size w = Unit {0}
FitsBare bares.Open w = Unit {0}

abbrev behind_lines : Option Layers → List TripleProof → List Line
behind_lines w ts = wider_lines w ++ flat_map triple_lines ts

without : (w : Option Layers) (ts : List TripleProof) → w ≡ None → behind_lines w ts ≡ flat_map triple_lines ts
without w ts e = ap (λ (x : Option Layers). behind_lines x ts) e

same_number : (n : ℕ) (p : Place) → then_some (n == n) p ≡ Some p
same_number n p = given_true _ _ (eq-eqb n n refl)

lead_bare : (level last : ℕ) (b : Bare) (w : Option Layers) (ts : List TripleProof) → FitsBare b w → Lead (places.Wall level last) (bare_lines level (wider_count w) last b ++ behind_lines w ts)
lead_bare level last bares.Absent w ts f = subst (λ (x : List Line). Lead (places.Wall level last) x) (sym (without w ts f)) (triples_from (places.Wall level last) ts (record { none = refl; some = λ t ts. refl }))
lead_bare level last bares.Same w ts f = lead_from _ places.Triples _ _ (same_number level places.Triples) (subst (λ (x : List Line). Lead places.Triples x) (sym (without w ts f)) (lead_triples ts))
lead_bare level last (bares.Refuted proof) w ts f = lead_from _ (places.Proof true afters.MayOpen) _ _ (same_number last (places.Proof true afters.MayOpen)) (lead_proof true afters.MayOpen proof (behind_lines w ts) f (lead_may_open w ts))
lead_bare level last (bares.Spent proof) w ts f = lead_from _ (places.Proof false afters.MayOpen) _ _ (same_number last (places.Proof false afters.MayOpen)) (lead_proof false afters.MayOpen proof (behind_lines w ts) f (lead_may_open w ts))
lead_bare level last bares.Size w ts f = lead_from _ places.MayOpen _ _ (same_number last places.MayOpen) (lead_may_open w ts)
lead_bare level last bares.Open w ts f = lead_from _ (opened (wider_count w)) _ _ refl (lead_opened w ts)

-- ---- a wall

-- it ends with a proof of its kind, and nothing but triples stands behind it where it isn't a refutation
abbrev pub FitsWall : Wall → Bare → Option Layers → Type 0
FitsWall walls.Absent b w = (b ≡ bares.Absent) × (w ≡ None)
FitsWall (walls.Refuted proof) b w = (is_some proof.last ≡ true) × FitsBare b w
FitsWall (walls.Spent proof) b w = (is_some proof.last ≡ false) × (b ≡ bares.Absent) × (w ≡ None)
FitsWall walls.Size b w = (b ≡ bares.Absent) × (w ≡ None)

abbrev bare_behind : (level last : ℕ) → Bare → Option Layers → List TripleProof → List Line
bare_behind level last b w ts = bare_lines level (wider_count w) last b ++ behind_lines w ts

alone : (level last : ℕ) (b : Bare) (w : Option Layers) (ts : List TripleProof) → b ≡ bares.Absent → w ≡ None → bare_behind level last b w ts ≡ flat_map triple_lines ts
alone level last b w ts e f = ap (λ (x : Bare). bare_behind level last x w ts) e ∙ without w ts f

lead_wall : (count last : ℕ) (wall : Wall) (b : Bare) (w : Option Layers) (ts : List TripleProof) → FitsWall wall b w
    → Lead (places.Coronas count last) (wall_lines (count + 1) wall ++ bare_behind (count + 1) last b w ts)
lead_wall count last walls.Absent b w ts f =
    subst (λ (x : List Line). Lead (places.Coronas count last) x) (sym (alone (count + 1) last b w ts f.0 f.1)) (triples_from (places.Coronas count last) ts (record { none = refl; some = λ t ts. refl }))
lead_wall count last (walls.Refuted proof) b w ts f =
    lead_from _ (places.Proof true (afters.Wall (count + 1) last)) _ _ (same_number (count + 1) (places.Proof true (afters.Wall (count + 1) last)))
    (lead_proof true (afters.Wall (count + 1) last) proof (bare_behind (count + 1) last b w ts) f.0 (lead_bare (count + 1) last b w ts f.1))
lead_wall count last (walls.Spent proof) b w ts f =
    lead_from _ (places.Proof false afters.Triples) _ _ (same_number (count + 1) (places.Proof false afters.Triples))
    (lead_proof false afters.Triples proof (bare_behind (count + 1) last b w ts) f.0 (subst (λ (x : List Line). Lead places.Triples x) (sym (alone (count + 1) last b w ts f.1 f.2)) (lead_triples ts)))
lead_wall count last walls.Size b w ts f =
    lead_from _ places.Triples _ _ (same_number (count + 1) places.Triples) (subst (λ (x : List Line). Lead places.Triples x) (sym (alone (count + 1) last b w ts f.0 f.1)) (lead_triples ts))

-- ---- a search

pub lead_search : (last : ℕ) (ls : List (List Iso)) (wall : Wall) (b : Bare) (w : Option Layers) (ts : List TripleProof) → FitsWall wall b w
    → Lead (places.Search last) (lines.Coronas (length ls) ∷ (layer_lines ls ++ after_layers (length ls + 1) last wall b w ts))
lead_search last ls wall b w ts f =
    let n = length ls in
    let all : after_layers (length ls + 1) last wall b w ts ≡ wall_lines (length ls + 1) wall ++ bare_behind (length ls + 1) last b w ts = simp append_assoc in
    let here : Lead (places.Coronas (length ls) last) (after_layers (length ls + 1) last wall b w ts) = subst (λ (x : List Line). Lead (places.Coronas (length ls) last) x) (sym all) (lead_wall (length ls) last wall b w ts f) in
    lead_from _ (layers (length ls) (length ls) last) _ _ refl (lead_as _ _ _ _ (follow_layers (length ls) last ls (after_layers (length ls + 1) last wall b w ts)) here)
