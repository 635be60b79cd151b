-- The lines of the shapes from a place on.
use Rattle.std.proofs.Common.{◌≡◌, ℕ, suc, ◌+◌, ◌<◌, ◌≤◌, List, ◌∷◌, ◌++◌, length, drop, get_or, Option, sym, ap, ◌∙◌, arith, append-nil, append_assoc}
use Rattle.std.proofs.Math.Seq.{drop-cons}
use Rattle.std.proofs.lemmas.List.{drop_all}
use Rattle.heesch_grid.specs.declared.Cell.{Cell}
use Rattle.heesch_tiling.specs.declared.found.Plain.{Plain}
use Rattle.heesch_app.specs.Plains.{plain_line, plain_list_text}

-- the lines of the shapes from place i on
abbrev pub lines_from : ℕ → List (List Cell) → List (Option Plain) → List ℕ
lines_from i shapes tilings = plain_list_text (drop i shapes) (drop i tilings)

first_line : (i : ℕ) (shapes : List (List Cell)) (tilings : List (Option Plain)) (d : List Cell) (e : Option Plain) → i < length shapes → length tilings ≡ length shapes
    → lines_from i shapes tilings ≡ plain_line (get_or shapes i d) (get_or tilings i e) ++ lines_from (i + 1) shapes tilings
first_line i shapes tilings d e less many =
    let next : suc i ≡ i + 1 = omega arith in
    ap (λ ss. plain_list_text ss (drop i tilings)) (drop-cons shapes i d less)
    ∙ ap (λ ts. plain_list_text (get_or shapes i d ∷ drop (suc i) shapes) ts) (drop-cons tilings i e (omega (arith, less, many)))
    ∙ ap (λ n. plain_line (get_or shapes i d) (get_or tilings i e) ++ lines_from n shapes tilings) next

-- one more line is written
pub lines_more : (text new all : List ℕ) (i : ℕ) (shapes : List (List Cell)) (tilings : List (Option Plain)) (d : List Cell) (e : Option Plain) → i < length shapes → length tilings ≡ length shapes
    → text ++ lines_from i shapes tilings ≡ all → new ≡ text ++ plain_line (get_or shapes i d) (get_or tilings i e) → new ++ lines_from (i + 1) shapes tilings ≡ all
lines_more text new all i shapes tilings d e less many so_far is =
    ap (λ t. t ++ lines_from (i + 1) shapes tilings) is
    ∙ append_assoc text (plain_line (get_or shapes i d) (get_or tilings i e)) (lines_from (i + 1) shapes tilings)
    ∙ ap (λ rest. text ++ rest) (sym (first_line i shapes tilings d e less many))
    ∙ so_far

-- no line is left
pub lines_end : (text all : List ℕ) (i : ℕ) (shapes : List (List Cell)) (tilings : List (Option Plain)) → length shapes ≤ i → text ++ lines_from i shapes tilings ≡ all → text ≡ all
lines_end text all i shapes tilings past so_far =
    sym (append-nil text)
    ∙ ap (λ rest. text ++ rest) (sym (ap (λ ss. plain_list_text ss (drop i tilings)) (drop_all i shapes past)))
    ∙ so_far
