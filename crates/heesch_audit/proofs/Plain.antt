-- What the plain tiling of a shape says of the tiling of an entry.
use Rattle.std.proofs.Common.{◌≡◌, sym, subst, ◌∙◌, ◌<◌, ◌≤◌, List, [], ◌∷◌, ℤ, arith, inl, inr}
use Rattle.std.specs.Prelude.{◌↔◌, Option, Some, None}
use Rattle.std.proofs.lemmas.Bool.{cases_lt}
use Rattle.heesch_grid.specs.declared.Cell.{Cell}
use Rattle.heesch_grid.specs.Geometry.{Geometry, IsGrid}
use Rattle.heesch_grid.specs.Tiling.{Plain, Translation as PlainTranslation, HalfTurn as PlainHalfTurn, IsPlain, no_move, half_turned}
use Rattle.heesch_grid.proofs.FromDefinitions.{plain_tilings_are_unique}
use Rattle.heesch_cert.specs.declared.limits.Limits.{Limits}
use Rattle.heesch_cert.specs.declared.tiling.Tiling.{Tiling}
use Rattle.heesch_cert.specs.declared.verdict.Kind.TheVariants.{Translation, HalfTurn}
use Rattle.heesch_cert.specs.TrueEntry.{HasNoPlain, IsAdmitted, IsOfKind}
use Rattle.heesch_audit.specs.Plains.{IsNoneAdmitted, IsByTranslation, IsByHalfTurn}

module _ (g : Geometry) (law : IsGrid g) (limits : Limits) (shape : List Cell) where
  one_plain : (found : Option Plain) (plain : Plain) → IsPlain g shape found → IsPlain g shape (Some plain) → found ≡ Some plain
  one_plain found plain p q = plain_tilings_are_unique g shape found (Some plain) law p q

  pub none_admitted : (found : Option Plain) → IsPlain g shape found → IsNoneAdmitted limits found ↔ HasNoPlain g limits shape
  none_admitted None p = ((λ h plain q a. never (one_plain None plain p q)), (λ h. tt))
    where
      never : {plain : Plain} → None ≡ Some plain → ⊥
      never e = cc
  none_admitted (Some (PlainTranslation t)) p = ((λ h. absurd h), (λ h. h (PlainTranslation t) p tt))
  none_admitted (Some (PlainHalfTurn t da db)) p = (
    (λ low plain q a. refused low (subst (IsAdmitted limits) (sym (same (one_plain (Some (PlainHalfTurn t da db)) plain p q))) a)),
    (λ h. elim (cases_lt limits.domain 2) [ inl low ↦ low | inr high ↦ absurd (h (PlainHalfTurn t da db) p high) ]),
  )
    where
      same : {plain : Plain} → Some (PlainHalfTurn t da db) ≡ Some plain → PlainHalfTurn t da db ≡ plain
      same e = cc

      refused : limits.domain < 2 → 2 ≤ limits.domain → ⊥
      refused low high = omega arith

  module _ (tiling : Tiling) where
    pub by_translation : (found : Option Plain) → IsPlain g shape found → IsByTranslation tiling found ↔ IsOfKind g limits shape tiling Translation
    by_translation None p = ((λ h. absurd h), (λ h. never (one_plain None (PlainTranslation tiling.triple) p h.0)))
      where
        never : None ≡ Some (PlainTranslation tiling.triple) → ⊥
        never e = cc
    by_translation (Some (PlainTranslation t)) p = (
      (λ h. (subst (λ u. IsPlain g shape (Some (PlainTranslation u))) h.0 p, h.1)),
      (λ h. (same (one_plain (Some (PlainTranslation t)) (PlainTranslation tiling.triple) p h.0), h.1)),
    )
      where
        same : Some (PlainTranslation t) ≡ Some (PlainTranslation tiling.triple) → t ≡ tiling.triple
        same e = cc
    by_translation (Some (PlainHalfTurn t da db)) p = ((λ h. absurd h), (λ h. never (one_plain (Some (PlainHalfTurn t da db)) (PlainTranslation tiling.triple) p h.0)))
      where
        never : Some (PlainHalfTurn t da db) ≡ Some (PlainTranslation tiling.triple) → ⊥
        never e = cc

    pub by_half_turn : (found : Option Plain) → IsPlain g shape found → IsByHalfTurn g limits tiling found ↔ IsOfKind g limits shape tiling HalfTurn
    by_half_turn None p = ((λ h. absurd h), (λ h. never h.0.0 h.0.1 (one_plain None (PlainHalfTurn tiling.triple h.0.0 h.0.1) p h.1.0)))
      where
        never : (da db : ℤ) → None ≡ Some (PlainHalfTurn tiling.triple da db) → ⊥
        never da db e = cc
    by_half_turn (Some (PlainTranslation t)) p = ((λ h. absurd h), (λ h. never h.0.0 h.0.1 (one_plain (Some (PlainTranslation t)) (PlainHalfTurn tiling.triple h.0.0 h.0.1) p h.1.0)))
      where
        never : (da db : ℤ) → Some (PlainTranslation t) ≡ Some (PlainHalfTurn tiling.triple da db) → ⊥
        never da db e = cc
    by_half_turn (Some (PlainHalfTurn t da db)) p = (
      (λ h. ((da, db), (subst (λ u. IsPlain g shape (Some (PlainHalfTurn u da db))) h.1 p, h.0, h.2))),
      (λ h.
          let e = one_plain (Some (PlainHalfTurn t da db)) (PlainHalfTurn tiling.triple h.0.0 h.0.1) p h.1.0 in
          let all = same h.0.0 h.0.1 e in
          (h.1.1, all.0, h.1.2 ∙ (λ i. no_move ∷ half_turned g (sym all.1 i) (sym all.2 i) ∷ []))),
    )
      where
        same : (ea eb : ℤ) → Some (PlainHalfTurn t da db) ≡ Some (PlainHalfTurn tiling.triple ea eb) → (t ≡ tiling.triple) × (da ≡ ea) × (db ≡ eb)
        same ea eb e = (cc, cc, cc)
