-- One more clause of a formula's parts.
use Rattle.std.proofs.Common.{◌≡◌, ℕ, ◌+◌, ◌<◌, List, [], ◌∷◌, ◌++◌, ◌^◌, length, sym, ap, ◌∙◌, subst, arith, length-append}
use Rattle.std.proofs.lemmas.List.Elements.{All-append, All-cons, All-nil}
use Rattle.heesch_io.specs.Pieces.{pieces, AreEnds}
use Rattle.heesch_io.proofs.Pieces.{length-pieces, pieces-push, AreEnds-push}
use Rattle.heesch_cnf.specs.declared.literal.Lit.{Lit}
use Rattle.heesch_cnf.specs.Clauses.{IsClause, AreClauses}
use Rattle.heesch_cnf.specs.Flat.{Clauses, IsFlat}

abbrev pub the_clauses : ℕ → List (List Lit) → Clauses
the_clauses vars clauses = record { vars = vars; clauses = clauses }

module _ (vars : ℕ) (literals : List Lit) (ends : List ℕ) (flat : IsFlat vars literals ends) (clause now : List Lit) (cuts : List ℕ) (end : ℕ) (is : now ≡ literals ++ clause) (cut : cuts ≡ ends ++ end ∷ []) (size : end ≡ length now) (seen : Clauses) (view : record { vars = vars; clauses = pieces literals 0 ends } ≡ seen) where
  long : end ≡ length literals + length clause
  long = size ∙ ap length is ∙ length-append literals clause

  pieces-more : pieces now 0 cuts ≡ pieces literals 0 ends ++ clause ∷ []
  pieces-more = ap (λ ls. pieces ls 0 cuts) is ∙ ap (pieces (literals ++ clause) 0) cut ∙ pieces-push literals clause 0 ends end flat.cut long

  pub flat-more : IsClause seen.vars clause → length seen.clauses < 2 ^ 31 → IsFlat vars now cuts
  flat-more form room =
      let count = length-pieces literals 0 ends in
      let own : IsClause vars clause = subst (λ (x : Clauses). IsClause x.vars clause) (sym view) form in
      record {
        cut = subst (λ es. AreEnds 0 es (length now)) (sym cut) (subst (AreEnds 0 (ends ++ end ∷ [])) size (AreEnds-push 0 ends (length literals) end flat.cut (omega (arith, long))));
        small = flat.small;
        few = omega (arith, ap length cut, length-append ends (end ∷ []), count, ap (λ (x : Clauses). length x.clauses) view, room);
        form = subst (AreClauses vars) (sym pieces-more) (All-append (IsClause vars) (pieces literals 0 ends) (clause ∷ []) flat.form (All-cons (IsClause vars) clause [] own (All-nil (IsClause vars))));
      }

  pub seen-more : the_clauses vars (pieces now 0 cuts) ≡ the_clauses seen.vars (seen.clauses ++ clause ∷ [])
  seen-more = ap (λ (cs : List (List Lit)). the_clauses vars cs) pieces-more ∙ ap (λ (x : Clauses). the_clauses x.vars (x.clauses ++ clause ∷ [])) view
