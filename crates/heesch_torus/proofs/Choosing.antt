-- The chosen variables, one place more.
use Rattle.std.proofs.Common.{◌≡◌, refl, sym, ap, ◌∙◌, ℕ, ◌+◌, ◌-◌, ◌<◌, List, [], ◌∷◌, ◌++◌, map, filter, length, take, get_or, Bool, true, false, cond, arith}
use Rattle.std.specs.Prelude.{slice_index_or}
use Rattle.std.specs.List.{enumerate_from}
use Rattle.std.proofs.lemmas.List.{append-nil, map-append, take_more, length-take-le}
use Rattle.std.proofs.lemmas.List.Elements.{filter-append}
use Rattle.heesch_grid.specs.declared.isometries.Iso.{Iso}
use Rattle.heesch_torus.specs.Variables.{TorusVariable}
use Rattle.heesch_torus.specs.Chosen.{chosen_places}
use Rattle.heesch_torus.proofs.Numbering.{enumerate_more}

kept_place : (b : Bool) (n : ℕ) (x : TorusVariable) → map (λ (x : ℕ × TorusVariable). x.1.by) (cond b ((n, x) ∷ []) []) ≡ cond b (x.by ∷ []) []
kept_place true n x = refl
kept_place false n x = refl

places_more : (values : List Bool) (vars : List TorusVariable) (i : ℕ) (x : TorusVariable) → i < length vars → x ≡ get_or vars i x → chosen_places values (take (i + 1) vars) ≡ chosen_places values (take i vars) ++ cond (slice_index_or values i false) (x.by ∷ []) []
places_more values vars i x less is =
    let test : ℕ × TorusVariable → Bool = λ (x : ℕ × TorusVariable). slice_index_or values (x.0 - 1) false in
    let by : ℕ × TorusVariable → Iso = λ (x : ℕ × TorusVariable). x.1.by in
    let last : ℕ × TorusVariable = (1 + length (take i vars), x) in
    let long = length-take-le i vars (omega arith) in
    let place : 1 + length (take i vars) - 1 ≡ i = omega arith in
    ap (λ vs. map by (filter test (enumerate_from 1 vs))) (take_more vars i x less ∙ ap (λ y. take i vars ++ y ∷ []) (sym is))
    ∙ ap (λ es. map by (filter test es)) (enumerate_more 1 (take i vars) x)
    ∙ ap (map by) (filter-append test (enumerate_from 1 (take i vars)) (last ∷ []))
    ∙ map-append by (filter test (enumerate_from 1 (take i vars))) (cond (test last) (last ∷ []) [])
    ∙ ap (λ ps. chosen_places values (take i vars) ++ ps) (kept_place (test last) (1 + length (take i vars)) x ∙ ap (λ k. cond (slice_index_or values k false) (x.by ∷ []) []) place)

pub place_kept : (values : List Bool) (vars : List TorusVariable) (i : ℕ) (x : TorusVariable) (old new : List Iso) (by : Iso) → i < length vars → x ≡ get_or vars i x → by ≡ x.by → slice_index_or values i false ≡ true → old ≡ chosen_places values (take i vars) → new ≡ old ++ by ∷ [] → new ≡ chosen_places values (take (i + 1) vars)
place_kept values vars i x old new by less is same t e added =
    added ∙ (λ j. e j ++ same j ∷ []) ∙ sym (places_more values vars i x less is ∙ ap (λ b. chosen_places values (take i vars) ++ cond b (x.by ∷ []) []) t)

pub place_passed : (values : List Bool) (vars : List TorusVariable) (i : ℕ) (x : TorusVariable) (old : List Iso) → i < length vars → x ≡ get_or vars i x → slice_index_or values i false ≡ false → old ≡ chosen_places values (take i vars) → old ≡ chosen_places values (take (i + 1) vars)
place_passed values vars i x old less is f e =
    e ∙ sym (places_more values vars i x less is ∙ ap (λ b. chosen_places values (take i vars) ++ cond b (x.by ∷ []) []) f ∙ append-nil (chosen_places values (take i vars)))
