-- The lines of an entry begin with its shape and its verdict, and the machine goes on inside it.
use Rattle.std.proofs.Common.{◌≡◌, ℕ, ◌+◌, ◌≤◌, ◌&&◌, ◌==◌, nat_lt, Bool, true, false, List, [], ◌∷◌, Option, Some, None, refl, sym, ap, subst, ◌∙◌, arith}
use Rattle.std.specs.Prelude.{option_and_then, option_map}
use Rattle.heesch_grid.specs.declared.Cell.{Cell}
use Rattle.heesch_cert.specs.declared.verdict.Verdict.{Verdict}
use Rattle.heesch_text.specs.declared.line.Line.{Line}
use Rattle.heesch_text.specs.declared.line.Line.TheVariants as lines
use Rattle.heesch_grammar.specs.declared.place.Place.{Place}
use Rattle.heesch_grammar.specs.declared.place.Place.TheVariants as places
use Rattle.heesch_grammar.specs.declared.spot.Spot.{Spot}
use Rattle.heesch_grammar.specs.Grammar.{next, is_whole, step, steps, judged}
use Rattle.heesch_grammar.specs.Entries.{follow, AreEntryLines, Begin, Lead}
use Rattle.heesch_grammar.proofs.Inside.{given_some}

pub bind_some : {A B : Type 0} (x : Option A) (f : A → Option B) (b : B) → option_and_then f x ≡ Some b → (a : A) × (x ≡ Some a) × (f a ≡ Some b)
bind_some None f b e = absurd cc
bind_some (Some a) f b e = (a, refl, e)

-- a line that is neither `shape` nor `end`
abbrev pub IsInner : Line → Type 0
IsInner (lines.Shape cells) = ⊥
IsInner (lines.End count) = ⊥
IsInner line = Unit {0}

at_some : (s t : Spot) (o : Option Place) → option_map (λ p. record { shapes = s.shapes; place = p }) o ≡ Some t → (o ≡ Some t.place) × (t.shapes ≡ s.shapes)
at_some s t None e = absurd cc
at_some s t (Some place) e = let f : record { shapes = s.shapes; place = place } ≡ t = cc in (ap (λ (x : Spot). Some x.place) f, ap (λ (x : Spot). x.shapes) (sym f))

-- ---- one line

both : (a b : Bool) → a && b ≡ true → (a ≡ true) × (b ≡ true)
both true b e = (refl, e)
both false b e = absurd cc

pub inner_place : (brief : Bool) (s t : Spot) (line : Line) → IsInner line → step brief s line ≡ Some t → (next brief s.place line ≡ Some t.place) × (t.shapes ≡ s.shapes)
inner_place brief s t (lines.Shape cells) i e = absurd i
inner_place brief s t (lines.End count) i e = absurd i
inner_place brief s t line i e = at_some s t _ e

-- a `shape` line
pub shape_step : (brief : Bool) (s t : Spot) (cells : List Cell) → step brief s (lines.Shape cells) ≡ Some t → (is_whole s.place ≡ true) × (t.shapes ≡ s.shapes + 1) × (t.place ≡ places.Shape)
shape_step brief s t cells e =
    let g = given_some (is_whole s.place && nat_lt s.shapes 4294967295) (record { shapes = s.shapes + 1; place = places.Shape }) t e in
    ((both _ _ g.0).0, ap (λ (x : Spot). x.shapes) (sym g.1), ap (λ (x : Spot). x.place) (sym g.1))

-- the `end` line
pub end_step : (brief : Bool) (s t : Spot) (count : ℕ) → step brief s (lines.End count) ≡ Some t → (is_whole s.place ≡ true) × (t.shapes ≡ s.shapes) × (t.place ≡ places.Ended)
end_step brief s t count e =
    let g = given_some (is_whole s.place && count == s.shapes) (record { shapes = s.shapes; place = places.Ended }) t e in
    ((both _ _ g.0).0, ap (λ (x : Spot). x.shapes) (sym g.1), ap (λ (x : Spot). x.place) (sym g.1))

step_rises : (brief : Bool) (s t : Spot) (line : Line) → step brief s line ≡ Some t → s.shapes ≤ t.shapes
step_rises brief s t (lines.Shape cells) e = let g = (shape_step brief s t cells e).1 in omega arith
step_rises brief s t (lines.End count) e = let g = (end_step brief s t count e).1 in omega arith
step_rises brief s t line e = let g = (at_some s t _ e).1 in omega arith

-- ---- lines

rises : (brief : Bool) (s t : Spot) (ls : List Line) → steps brief s ls ≡ Some t → s.shapes ≤ t.shapes
rises brief s t [] e = let f : s ≡ t = cc in let g = ap (λ (x : Spot). x.shapes) f in omega arith
rises brief s t (line ∷ ls) e =
    let b = bind_some (step brief s line) (λ u. steps brief u ls) t e in
    let g = step_rises brief s b.0 line b.1 in
    let h = rises brief b.0 t ls b.2 in
    omega arith

none_ended : (brief : Bool) (s t : Spot) (line : Line) → s.place ≡ places.Ended → step brief s line ≡ Some t → ⊥
none_ended brief s t (lines.Shape cells) p e = let g = ap is_whole (sym p) ∙ (shape_step brief s t cells e).0 in absurd cc
none_ended brief s t (lines.End count) p e = let g = ap is_whole (sym p) ∙ (end_step brief s t count e).0 in absurd cc
none_ended brief s t line p e = let g = ap (λ (x : Place). next brief x line) (sym p) ∙ (at_some s t _ e).0 in absurd cc

stays_ended : (brief : Bool) (s t : Spot) (ls : List Line) → s.place ≡ places.Ended → steps brief s ls ≡ Some t → t.place ≡ places.Ended
stays_ended brief s t [] p e = let f : s ≡ t = cc in ap (λ (x : Spot). x.place) (sym f) ∙ p
stays_ended brief s t (line ∷ ls) p e =
    let b = bind_some (step brief s line) (λ u. steps brief u ls) t e in
    absurd (none_ended brief s b.0 line p b.1)

-- lines over which the number of shapes stays stand inside an entry
pub inside : (brief : Bool) (s t : Spot) (ls : List Line) → t.shapes ≡ s.shapes → is_whole t.place ≡ true → steps brief s ls ≡ Some t → follow brief s.place ls ≡ Some t.place
inside brief s t [] n w e = let f : s ≡ t = cc in ap (λ (x : Spot). Some x.place) f
inside brief s t (lines.Shape cells ∷ ls) n w e =
    let b = bind_some (step brief s (lines.Shape cells)) (λ u. steps brief u ls) t e in
    let g = (shape_step brief s b.0 cells b.1).1 in
    let h = rises brief b.0 t ls b.2 in
    absurd (omega arith)
inside brief s t (lines.End count ∷ ls) n w e =
    let b = bind_some (step brief s (lines.End count)) (λ u. steps brief u ls) t e in
    let p = stays_ended brief b.0 t ls (end_step brief s b.0 count b.1).2 b.2 in
    let g = ap is_whole (sym p) ∙ w in
    absurd cc
inside brief s t (line ∷ ls) n w e =
    let b = bind_some (step brief s line) (λ u. steps brief u ls) t e in
    let g = at_some s b.0 _ b.1 in
    let h = inside brief b.0 t ls (n ∙ sym g.1) w b.2 in
    subst (λ (o : Option Place). option_and_then (λ q. follow brief q ls) o ≡ Some t.place) (sym g.0) h

-- ---- the first two lines

record Enters (brief : Bool) (ls : List Line) : Type 0 where
  cells : List Cell
  rest : List Line
  end : Place
  split : ls ≡ lines.Shape cells ∷ rest
  reached : follow brief places.Shape rest ≡ Some end
  whole : is_whole end ≡ true

enters_from : (brief : Bool) (s t : Spot) (ls : List Line) → s.place ≡ places.Between → steps brief s ls ≡ Some t → is_whole t.place ≡ true → t.shapes ≡ s.shapes + 1 → Enters brief ls
enters_from brief s t [] p e w n = let f : s ≡ t = cc in let g = ap (λ (x : Spot). x.shapes) f in absurd (omega arith)
enters_from brief s t (lines.Shape cells ∷ ls) p e w n =
    let b = bind_some (step brief s (lines.Shape cells)) (λ u. steps brief u ls) t e in
    let g = shape_step brief s b.0 cells b.1 in
    let i = inside brief b.0 t ls (n ∙ sym g.1) w b.2 in
    record { cells = cells; rest = ls; end = t.place; split = refl; reached = subst (λ (x : Place). follow brief x ls ≡ Some t.place) g.2 i; whole = w }
enters_from brief s t (lines.End count ∷ ls) p e w n =
    let b = bind_some (step brief s (lines.End count)) (λ u. steps brief u ls) t e in
    let q = stays_ended brief b.0 t ls (end_step brief s b.0 count b.1).2 b.2 in
    let g = ap is_whole (sym q) ∙ w in
    absurd cc
enters_from brief s t (line ∷ ls) p e w n =
    let b = bind_some (step brief s line) (λ u. steps brief u ls) t e in
    let g = ap (λ (x : Place). next brief x line) (sym p) ∙ (at_some s b.0 _ b.1).0 in
    absurd cc

enters : (brief : Bool) (ls : List Line) → AreEntryLines brief ls → Enters brief ls
enters brief ls a = enters_from brief a.before a.over.behind ls a.between a.over.reached a.over.whole a.over.one_more

-- the shape, the verdict, and where the machine goes on from behind them
pub record Heads (brief : Bool) (ls : List Line) : Type 0 where
  pub cells : List Cell
  pub verdict : Verdict
  pub rest : List Line
  pub end : Place
  pub split : ls ≡ lines.Shape cells ∷ lines.Verdict verdict ∷ rest
  pub reached : follow brief (judged brief verdict) rest ≡ Some end
  pub whole : is_whole end ≡ true

heads_behind : (brief : Bool) (cells : List Cell) (ls : List Line) (end : Place) → follow brief places.Shape ls ≡ Some end → is_whole end ≡ true → Heads brief (lines.Shape cells ∷ ls)
heads_behind brief cells [] end e w = let f : places.Shape ≡ end = cc in let g = ap is_whole f ∙ w in absurd cc
heads_behind brief cells (lines.Verdict verdict ∷ ls) end e w = record { cells = cells; verdict = verdict; rest = ls; end = end; split = refl; reached = e; whole = w }
heads_behind brief cells (line ∷ ls) end e w = absurd cc

pub heads : (brief : Bool) (ls : List Line) → AreEntryLines brief ls → Heads brief ls
heads brief ls a = let n = enters brief ls a in subst (λ (x : List Line). Heads brief x) (sym n.split) (heads_behind brief n.cells n.rest n.end n.reached n.whole)

pub begin : (brief : Bool) (ls : List Line) → AreEntryLines brief ls → Begin ls
begin brief ls a = let h = heads brief ls a in record { cells = h.cells; verdict = h.verdict; rest = h.rest; split = h.split }

-- what stands behind a shape and a verdict of a full text leads to the end of the entry
pub lead_behind : (ls rest : List Line) (cells : List Cell) (verdict : Verdict) → AreEntryLines false ls → ls ≡ lines.Shape cells ∷ lines.Verdict verdict ∷ rest → Lead (judged false verdict) rest
lead_behind ls rest cells verdict a e =
    let h = heads false ls a in
    let v : h.verdict ≡ verdict = cc in
    let r : h.rest ≡ rest = cc in
    record { end = h.end; reached = subst (λ (x : Verdict). follow false (judged false x) rest ≡ Some h.end) v (subst (λ (x : List Line). follow false (judged false h.verdict) x ≡ Some h.end) r h.reached); whole = h.whole }

nothing_between : (ls : List Line) (end : Place) → follow true places.Between ls ≡ Some end → ls ≡ []
nothing_between [] end e = refl
nothing_between (line ∷ ls) end e = absurd cc

-- and in a brief text nothing stands there
pub brief_ends : (ls rest : List Line) (cells : List Cell) (verdict : Verdict) → AreEntryLines true ls → ls ≡ lines.Shape cells ∷ lines.Verdict verdict ∷ rest → ls ≡ lines.Shape cells ∷ lines.Verdict verdict ∷ []
brief_ends ls rest cells verdict a e =
    let h = heads true ls a in
    let n = nothing_between h.rest h.end h.reached in
    cc
