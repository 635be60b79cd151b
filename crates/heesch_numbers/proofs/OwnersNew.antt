-- When a clause contains a clause of owner variables.
use Rattle.std.proofs.Common.{◌≡◌, subst, ℕ, ◌+◌, ◌<◌, List, [], ◌∷◌, length, get_or, Contains, arith}
use Rattle.std.proofs.lemmas.List.Elements.{All-cons, All-nil, All-contains}
use Rattle.heesch_cnf.specs.declared.literal.Lit.{Lit}
use Rattle.heesch_cnf.specs.Clauses.{IsWithin, IsNew}
use Rattle.heesch_grid.specs.declared.Cell.{Cell}
use Rattle.heesch_grid.specs.Cells.{origin}
use Rattle.heesch_grid.specs.CoronaFormula.{Variable}
use Rattle.heesch_grid.specs.OwnerFormula.{holders, signed, bit}
use Rattle.heesch_grid.proofs.ListFacts.{All-from_members}
use Rattle.heesch_cert.specs.Literals.{literals}
use Rattle.heesch_numbers.specs.OwnerCounts.{HasOneOf, owners_of}
use Rattle.heesch_numbers.proofs.OwnersByNumber.{first_owner, owner_member, signed_var}

module _ (vars : List Variable) (cells : List Cell) (clause : List Lit) where
  -- where no literal of an owner variable has its clause
  pub new_where : ((o : Lit) → Contains clause o → length vars < o.var → ¬ HasOneOf (owners_of vars cells) o clause) → IsNew (owners_of vars cells) clause
  new_where none =
      All-from_members (λ e. ¬ IsWithin e clause) (owners_of vars cells) (λ e m within.
      let f = owner_member vars (length vars + 1) cells e m in
      let var : ℕ = get_or (holders vars (get_or cells f.cell origin)) f.rank 0 in
      let at : ℕ = first_owner vars (length vars + 1) cells f.cell + f.bit in
      let owner : Lit = signed literals (bit f.bit f.rank) at in
      let pair : List Lit = literals.minus var ∷ owner ∷ [] in
      let both : IsWithin pair clause = subst (λ (p : List Lit). IsWithin p clause) f.is within in
      let behind : owner.var ≡ at = signed_var (bit f.bit f.rank) at in
      none owner (both 1 owner (omega arith)) (omega arith) (record {
        var = var;
        inside = both 0 owner (omega arith);
        is_one = subst (Contains (owners_of vars cells)) f.is m;
      }))

  -- where one has it
  pub old_where : (o : Lit) → Contains clause o → HasOneOf (owners_of vars cells) o clause → ¬ IsNew (owners_of vars cells) clause
  old_where o inside has new =
      let pair : List Lit = literals.minus has.var ∷ o ∷ [] in
      All-contains (λ e. ¬ IsWithin e clause) (owners_of vars cells) pair new has.is_one
      (All-cons (Contains clause) (literals.minus has.var) (o ∷ []) has.inside (All-cons (Contains clause) o [] inside (All-nil (Contains clause))))
