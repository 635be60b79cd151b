-- What is proved of the corona formula of both versions.
use Rattle.std.proofs.Common.{◌≡◌, refl, sym, ap, subst, ◌∙◌, ℕ, zero, suc, ◌+◌, ◌-◌, ◌<◌, ◌≤◌, List, [], ◌∷◌, ◌++◌, length, get_or, Bool, arith, Contains}
use Rattle.std.specs.Prelude.{IsTrue, ◌↔◌}
use Rattle.std.specs.List.{enumerate_from}
use Rattle.std.proofs.lemmas.List.Elements.{All-contains, All-append, Contains-append_left, Contains-append_right}
use Rattle.heesch_grid.specs.declared.Cell.{Cell}
use Rattle.heesch_grid.specs.Geometry.{Geometry, IsGrid}
use Rattle.heesch_grid.specs.Polyform.{IsPolyform}
use Rattle.heesch_grid.specs.Corona.{AreCoronasOf}
use Rattle.heesch_grid.specs.Clauses.{Literals, clause_holds, Satisfies}
use Rattle.heesch_grid.specs.CoronaFormula.{Variable, IsVariable, IsUniverse, first_clauses, covering_clauses, support_clauses, apart_clauses, corona_clauses, IsCoronaFormula}
use Rattle.heesch_grid.specs.OwnerFormula.{owner_clauses, IsOwnerFormula}
use Rattle.heesch_grid.specs.Versions.{IsFormulaOf}
use Rattle.heesch_grid.specs.Statements.{chosen_layers, Agree, FollowsLayers, ModelsOfVersionsAreCoronas, VersionsAreSatisfiableWhereCoronas, CoronasAreModelsOfVersions, OwnersKeepModels, UniverseClausesAgree}
use Rattle.heesch_grid.specs.Facts.{FormulasOfVersionsAreUnique}
use Rattle.heesch_grid.proofs.ListFacts.{All-from_members, any_member, member_any}
use Rattle.heesch_grid.proofs.ClauseFacts.{entry_at, entry_variable}
use Rattle.heesch_grid.proofs.LayerFacts.{layer_of}
use Rattle.heesch_grid.proofs.CoronasToModel.{same_list, same_list-true, same_list-refl, chosen_at, is_chosen, model_of, coronas_satisfy}
use Rattle.heesch_grid.proofs.ModelToCoronas.{length-layers, models_are_coronas}
use Rattle.heesch_grid.proofs.UniverseClauses.{Entry, entry_below, clause_same, corona_kept}
use Rattle.heesch_grid.proofs.ModelToOwners.{with_owners, keeps_below, keeps_universe, owners_satisfy}
use Rattle.heesch_grid.proofs.OwnersToModel.{apart_satisfied}
use Rattle.heesch_grid.proofs.Pinned.{one_universe, one_formula, one_owner_formula}

-- ---- the second formula beside the first

module _ {L : Type 0} (ls : Literals L) (g : Geometry) (shape : List Cell) (j : ℕ) (vars : List Variable) (count : ℕ) (clauses : List (List L)) (f : IsOwnerFormula ls g shape j vars count clauses) where
  -- the first formula over the same universe
  abbrev pub first_formula : List (List L)
  first_formula = corona_clauses ls g f.around shape j vars

  pub is_first : IsCoronaFormula ls g shape j vars first_formula
  is_first = record { is_universe = f.is_universe; around = f.around; gives_around = f.gives_around; is = refl }

  abbrev common : List (List L)
  common = first_clauses ls f.around shape vars ++ covering_clauses ls f.around shape j vars ++ support_clauses ls g vars

  abbrev owners : List (List L)
  owners = owner_clauses ls vars (length vars + 1) f.owned

  -- a model of the second is one of the first
  pub to_first : (values : ℕ → Bool) → Satisfies ls values clauses → Satisfies ls values first_formula
  to_first values s =
      let t : Satisfies ls values (common ++ owners) = subst (λ cs. Satisfies ls values cs) f.is s in
      All-append (λ c. IsTrue (clause_holds ls values c)) common (apart_clauses ls vars)
      (All-from_members (λ c. IsTrue (clause_holds ls values c)) common (λ c m. All-contains (λ c. IsTrue (clause_holds ls values c)) (common ++ owners) c t (Contains-append_left common owners c m)))
      (apart_satisfied ls vars values f.owned f.are_owned (length vars + 1) (All-from_members (λ c. IsTrue (clause_holds ls values c)) owners (λ c m. All-contains (λ c. IsTrue (clause_holds ls values c)) (common ++ owners) c t (Contains-append_right common owners c m))))

  -- and a model of the first, with owners, is one of the second
  pub from_first : (values : ℕ → Bool) → Satisfies ls values first_formula → Satisfies ls (with_owners vars f.owned values) clauses
  from_first values s = subst (λ cs. Satisfies ls (with_owners vars f.owned values) cs) (sym f.is) (owners_satisfy ls g f.around shape j vars f.owned values s)

-- ---- assignments that agree on the universe

agree_at : (vars : List Variable) (values other : ℕ → Bool) → Agree vars values other → (x : Entry) → Contains (enumerate_from 1 vars) x → values x.0 ≡ other x.0
agree_at vars values other agree x m = agree x.0 (entry_at vars 1 x m).0 (let low : x.0 < 1 + length vars = entry_below vars 1 x m in omega arith)

pub universe_clauses_agree : (L : Type 0) → UniverseClausesAgree L
universe_clauses_agree L ls vars negated asserted values other agree = clause_same ls other values negated asserted vars (agree_at vars values other agree)

pub owners_keep_models : (L : Type 0) → OwnersKeepModels L
owners_keep_models L ls g shape j vars count first second values law form p f = (
  (λ s. (with_owners vars f.owned values, (λ n low high. sym (keeps_below vars f.owned values n high)), from_first ls g shape j vars count second f values (subst (λ cs. Satisfies ls values cs) same s))),
  (λ m. subst (λ cs. Satisfies ls values cs) (sym same) (kept m.0 m.1 (to_first ls g shape j vars count second f m.0 m.2))),
)
  where
    same : first ≡ first_formula ls g shape j vars count second f
    same = one_formula ls g shape j vars vars first (first_formula ls g shape j vars count second f) law form p (is_first ls g shape j vars count second f)

    kept : (other : ℕ → Bool) → Agree vars values other → Satisfies ls other (first_formula ls g shape j vars count second f) → Satisfies ls values (first_formula ls g shape j vars count second f)
    kept other agree = corona_kept ls vars other values (agree_at vars values other agree) g f.around shape j

-- ---- both versions

-- the universe of a formula
pub universe_of : {L : Type 0} (ls : Literals L) (version : ℕ) (g : Geometry) (shape : List Cell) (j : ℕ) (vars : List Variable) (count : ℕ) (clauses : List (List L)) → IsFormulaOf ls version g shape j vars count clauses → IsUniverse g shape j vars
universe_of ls zero g shape j vars count clauses f = absurd f
universe_of ls (suc zero) g shape j vars count clauses f = f.0.is_universe
universe_of ls (suc (suc zero)) g shape j vars count clauses f = f.is_universe
universe_of ls (suc (suc (suc n))) g shape j vars count clauses f = absurd f

pub models_of_versions_are_coronas : (L : Type 0) → ModelsOfVersionsAreCoronas L
models_of_versions_are_coronas L ls zero g shape j vars count clauses values law form some f s = absurd f
models_of_versions_are_coronas L ls (suc zero) g shape j vars count clauses values law form some f s = models_are_coronas L ls g shape j vars clauses values law form some f.0 s
models_of_versions_are_coronas L ls (suc (suc zero)) g shape j vars count clauses values law form some f s =
    models_are_coronas L ls g shape j vars (first_formula ls g shape j vars count clauses f) values law form some (is_first ls g shape j vars count clauses f) (to_first ls g shape j vars count clauses f values s)
models_of_versions_are_coronas L ls (suc (suc (suc n))) g shape j vars count clauses values law form some f s = absurd f

-- coronas are an assignment that satisfies the formula and has on the universe the values of the layers
pub satisfied_by_coronas : {L : Type 0} (ls : Literals L) (version : ℕ) (g : Geometry) → IsGrid g → (shape : List Cell) → IsPolyform g shape → (layers : List (List (List Cell))) → 0 < length layers → AreCoronasOf g shape (shape ∷ []) layers → (vars : List Variable) (count : ℕ) (clauses : List (List L)) → IsFormulaOf ls version g shape (length layers) vars count clauses → (values : ℕ → Bool) × ((x : Entry) → Contains (enumerate_from 1 vars) x → values x.0 ≡ model_of vars layers x.0) × Satisfies ls values clauses
satisfied_by_coronas ls zero g law shape form layers some coronas vars count clauses f = absurd f
satisfied_by_coronas ls (suc zero) g law shape form layers some coronas vars count clauses f =
    (model_of vars layers, (λ x m. refl), subst (λ cs. Satisfies ls (model_of vars layers) cs) (sym f.0.is) (coronas_satisfy ls g law shape form layers coronas vars f.0.is_universe some f.0.around f.0.gives_around))
satisfied_by_coronas ls (suc (suc zero)) g law shape form layers some coronas vars count clauses f =
    let model : ℕ → Bool = model_of vars layers in
    (with_owners vars f.owned model, keeps_universe vars f.owned model, from_first ls g shape (length layers) vars count clauses f model (coronas_satisfy ls g law shape form layers coronas vars f.is_universe some f.around f.gives_around))
satisfied_by_coronas ls (suc (suc (suc n))) g law shape form layers some coronas vars count clauses f = absurd f

layer_at : (layers : List (List (List Cell))) (i : ℕ) → layer_of layers i ≡ get_or layers i []
layer_at [] i = refl
layer_at (layer ∷ layers) zero = refl
layer_at (layer ∷ layers) (suc i) = layer_at layers i

chosen_is : (layers : List (List (List Cell))) (level : ℕ) (tile : List Cell) → 1 ≤ level → IsTrue (chosen_at layers level tile) ↔ Contains (get_or layers (level - 1) []) tile
chosen_is layers zero tile low = absurd (omega arith)
chosen_is layers (suc i) tile low =
    let back : suc i - 1 ≡ i = omega arith in
    let layer : layer_of layers i ≡ get_or layers (suc i - 1) [] = layer_at layers i ∙ ap (λ k. get_or layers k []) (sym back) in (
      (λ t. let r = any_member (same_list tile) (layer_of layers i) t in subst (λ z. Contains z tile) layer (subst (λ z. Contains (layer_of layers i) z) (sym (same_list-true tile r.0 r.2)) r.1)),
      (λ m. member_any (same_list tile) (layer_of layers i) tile (subst (λ z. Contains z tile) (sym layer) m) (same_list-refl tile)),
    )

follows : (g : Geometry) (shape : List Cell) (j : ℕ) (vars : List Variable) (layers : List (List (List Cell))) (values : ℕ → Bool) → IsUniverse g shape j vars → ((x : Entry) → Contains (enumerate_from 1 vars) x → values x.0 ≡ model_of vars layers x.0) → FollowsLayers vars layers values
follows g shape j vars layers values universe same x m =
    let v = All-contains (IsVariable g shape j) vars x.1 universe.only (entry_variable vars 1 x m) in
    let value : values x.0 ≡ chosen_at layers x.1.level x.1.tile = same x m ∙ ap (is_chosen layers) (entry_at vars 1 x m).1 in
    let chosen = chosen_is layers x.1.level x.1.tile v.level_from in
    ((λ t. chosen.0 (sym value ∙ t)), (λ k. value ∙ chosen.1 k))

pub coronas_are_models_of_versions : (L : Type 0) → CoronasAreModelsOfVersions L
coronas_are_models_of_versions L ls version g shape j vars count clauses layers law form some f number coronas =
    let formula : IsFormulaOf ls version g shape (length layers) vars count clauses = subst (λ n. IsFormulaOf ls version g shape n vars count clauses) (sym number) f in
    let m = satisfied_by_coronas ls version g law shape form layers (subst (λ n. 1 ≤ n) (sym number) some) coronas vars count clauses formula in
    (m.0, follows g shape j vars layers m.0 (universe_of ls version g shape j vars count clauses f) m.1, m.2)

pub versions_are_satisfiable_where_coronas : (L : Type 0) → VersionsAreSatisfiableWhereCoronas L
versions_are_satisfiable_where_coronas L ls version g shape j vars count clauses law form some f = (
  (λ m. (chosen_layers m.0 vars j, length-layers m.0 vars 1 j, models_of_versions_are_coronas L ls version g shape j vars count clauses m.0 law form some f m.1)),
  (λ h. let m = coronas_are_models_of_versions L ls version g shape j vars count clauses h.0 law form some f h.1 h.2 in (m.0, m.2)),
)

pub formulas_of_versions_are_unique : (L : Type 0) → FormulasOfVersionsAreUnique L
formulas_of_versions_are_unique L ls zero g shape j vars others count number clauses rest law form p q = absurd p
formulas_of_versions_are_unique L ls (suc zero) g shape j vars others count number clauses rest law form p q =
    let same : vars ≡ others = one_universe g shape j vars others p.0.is_universe q.0.is_universe in
    (same, p.1 ∙ ap length same ∙ sym q.1, one_formula ls g shape j vars others clauses rest law form p.0 q.0)
formulas_of_versions_are_unique L ls (suc (suc zero)) g shape j vars others count number clauses rest law form p q =
    let same = one_owner_formula ls g shape j vars others count number clauses rest law form p q in
    (one_universe g shape j vars others p.is_universe q.is_universe, same.0, same.1)
formulas_of_versions_are_unique L ls (suc (suc (suc n))) g shape j vars others count number clauses rest law form p q = absurd p
