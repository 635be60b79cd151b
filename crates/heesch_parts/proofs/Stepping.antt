-- A line leads to one stage at most, and so do lines.
use Rattle.std.proofs.Common.{◌≡◌, ◌⊎◌, inl, inr, ℕ, Bool, true, false, List, [], ◌∷◌, ◌++◌, Result, Ok, Err, refl, sym, subst, ◌∙◌}
use Rattle.std.specs.Bool.{MatchBool}
use Rattle.heesch_text.specs.declared.line.Line.{Line}
use Rattle.heesch_text.specs.declared.line.Line.TheVariants as lines
use Rattle.heesch_parts.specs.declared.part_line.PartLine.{PartLine}
use Rattle.heesch_parts.specs.declared.part_line.PartLine.TheVariants as parts
use Rattle.heesch_parts.specs.declared.stage.Stage.{Stage}
use Rattle.heesch_parts.specs.Stages.{may_join, awaits_header, Agrees, with_header, CatalogueStep, Step, Walk}

by_tests : (join awaited : Bool) (A : Type 0) (next : Stage) (r q : Result Stage ℕ)
    → MatchBool join (MatchBool awaited ((A × (r ≡ Ok next)) ⊎ ((A → ⊥) × (r ≡ Err 10))) (r ≡ Err 6)) (r ≡ Err 10)
    → MatchBool join (MatchBool awaited ((A × (q ≡ Ok next)) ⊎ ((A → ⊥) × (q ≡ Err 10))) (q ≡ Err 6)) (q ≡ Err 10) → r ≡ q
by_tests true true A next r q (inl a) (inl b) = a.1 ∙ sym b.1
by_tests true true A next r q (inl a) (inr b) = absurd (b.0 a.0)
by_tests true true A next r q (inr a) (inl b) = absurd (a.0 b.0)
by_tests true true A next r q (inr a) (inr b) = a.1 ∙ sym b.1
by_tests true false A next r q a b = a ∙ sym b
by_tests false awaited A next r q a b = a ∙ sym b

catalogue_once : (s : Stage) (line : Line) (r q : Result Stage ℕ) → CatalogueStep s line r → CatalogueStep s line q → r ≡ q
catalogue_once s (lines.Header header) r q a b = by_tests (may_join header) (awaits_header s.progress) (Agrees s.header header) (with_header s header) r q a b
catalogue_once s line r q a b = a ∙ sym b

pub step_once : (s : Stage) (line : PartLine) (r q : Result Stage ℕ) → Step s line r → Step s line q → r ≡ q
step_once s (parts.Share i k) r q a b = a ∙ sym b
step_once s (parts.Catalogue line) r q a b = catalogue_once s line r q a b

pub walk_once : (s : Stage) (ls : List PartLine) (t u : Stage) → Walk s ls t → Walk s ls u → t ≡ u
walk_once s [] t u a b = sym a ∙ b
walk_once s (line ∷ ls) t u a b =
    let step = step_once s line (Ok a.0) (Ok b.0) a.1 b.1 in
    let there : a.0 ≡ b.0 = cc in
    walk_once b.0 ls t u (subst (λ (x : Stage). Walk x ls t) there a.2) b.2

pub walk_append : (s t u : Stage) (ls ms : List PartLine) → Walk s ls t → Walk t ms u → Walk s (ls ++ ms) u
walk_append s t u [] ms a b = subst (λ (x : Stage). Walk x ms u) (sym a) b
walk_append s t u (line ∷ ls) ms a b = (a.0, a.1, walk_append a.0 t u ls ms a.2 b)

pub walk_push : (s t u : Stage) (ls : List PartLine) (line : PartLine) → Walk s ls t → Step t line (Ok u) → Walk s (ls ++ line ∷ []) u
walk_push s t u ls line a b = walk_append s t u ls (line ∷ []) a (u, b, refl)

-- where lines lead in two pieces
pub walk_split : (s u : Stage) (ls ms : List PartLine) → Walk s (ls ++ ms) u → (t : Stage) × Walk s ls t × Walk t ms u
walk_split s u [] ms a = (s, refl, a)
walk_split s u (line ∷ ls) ms a = let r = walk_split a.0 u ls ms a.2 in (r.0, (a.0, a.1, r.1), r.2)
