use Rattle.std.proofs.Common.{◌≡◌, ◌+◌, ◌-◌, ◌/◌, ◌%◌, ℕ, List, [], ◌∷◌, sym, ap, subst, ◌∙◌, arith, get_or, length}
use Rattle.std.proofs.lemmas.List.{get_or_read}
use Rattle.std.proofs.lemmas.List.Elements.{All-get_or}
use Rattle.heesch_cnf.specs.declared.literal.Lit.{Lit}
use Rattle.heesch_cnf.specs.Clauses.{IsClause}
use Rattle.heesch_cnf.specs.Left.{FitsIn, IsLeft}
use Rattle.heesch_cnf.specs.Literals.{held}
use Rattle.heesch_cert.specs.Literals.{literals}
use Rattle.heesch_grid.specs.Cells.{origin}
use Rattle.heesch_grid.specs.OwnerFormula.{holders, owner_count, digits, signed}
use Rattle.heesch_encode.proofs.Holders.{bit_clause}
use Rattle.heesch_numbers.specs.OwnerCounts.{clause_count, owners_of, vars_with}
use Rattle.heesch_numbers.proofs.OwnersByNumber.{length_owners, owners_form, first_owner}
use Rattle.heesch_numbers.proofs.OwnerPlaces.{FallsAt, sum_is, start_is, falls_at, clause_at}
use Rattle.heesch_numbers.proofs.owners.OwnerClauses.left.Given as given
use Rattle.heesch_numbers.proofs.owners.OwnerClauses.left.Goals as goal
use Rattle.heesch_numbers.proofs.owners.OwnerClauses.left.Goals.{After-literal-2}

pub place-part-requires : goal.place-part-requires
place-part-requires g c =
    let vars = c.args.universe.now.vars in
    let o = c.args.self.now in
    let all = sum_is (clause_count vars) o.cells.items o.clauses c.requires.owners.clauses in
    let long = length_owners vars (length vars + 1) o.cells.items in
    omega arith

-- the clause, as it is written
written : (g : given.Over) (c : After-literal-2 g) → c.literal.result ∷ c.literal-2.result ∷ [] ≡ get_or (owners_of c.args.universe.now.vars c.args.self.now.cells.items) c.args.place []
written g c =
    let vars = c.args.universe.now.vars in
    let o = c.args.self.now in
    let cells = o.cells.items in
    let part = c.place-part.result.0 in
    let rest = c.place-part.result.1 in
    let at : FallsAt (clause_count vars) cells c.args.place part rest = falls_at (clause_count vars) cells o.clauses c.requires.owners.clauses c.args.place part rest c.place-part.ensures in
    let cell : c.index.result.now ≡ get_or cells part origin = get_or_read cells part c.index.result.now at.in_cells c.index.ensures origin in
    let own : c.holders_of-holders.result.now ≡ holders vars (get_or cells part origin) = c.holders_of-holders.ensures ∙ ap (holders vars) cell in
    let count : c.digits_of_ranks-digits.result ≡ owner_count vars (get_or cells part origin) = c.digits_of_ranks-digits.ensures.digits ∙ ap (λ (ns : List ℕ). digits (length ns - 1)) own in
    let start = start_is (owner_count vars) cells o.owners c.requires.owners.owners part in
    let begins = c.start.ensures in
    let number = c.count.ensures.count in
    let rank = rest / c.digits_of_ranks-digits.result in
    let t = rest % c.digits_of_ranks-digits.result in
    let first : c.count.result + 1 + c.start.result + t ≡ first_owner vars (length vars + 1) cells part + t = omega arith in
    let one : c.literal.result ≡ literals.minus (get_or (holders vars (get_or cells part origin)) rank 0) = c.literal.ensures ∙ ap (λ (ns : List ℕ). literals.minus (get_or ns rank 0)) own in
    let two : c.literal-2.result ≡ signed literals c.bit_of.result (first_owner vars (length vars + 1) cells part + t) = c.literal-2.ensures ∙ ap (signed literals c.bit_of.result) first in
    let both : c.literal.result ∷ c.literal-2.result ∷ [] ≡ bit_clause (first_owner vars (length vars + 1) cells part) (rank, get_or (holders vars (get_or cells part origin)) rank 0) t = λ k. one k ∷ (two ∙ ap (λ b. signed literals b (first_owner vars (length vars + 1) cells part + t)) c.bit_of.ensures) k ∷ [] in
    both
    ∙ ap (λ n. bit_clause (first_owner vars (length vars + 1) cells part) (rest / n, get_or (holders vars (get_or cells part origin)) (rest / n) 0) (rest % n)) count
    ∙ sym (clause_at vars cells c.args.place part rest at)

pub left_in-requires : goal.left_in-requires
left_in-requires g c =
    let vars = c.args.universe.now.vars in
    let cells = c.args.self.now.cells.items in
    let form : IsClause (vars_with vars cells) (get_or (owners_of vars cells) c.args.place []) = All-get_or (IsClause (vars_with vars cells)) (owners_of vars cells) c.args.place [] c.requires.place (owners_form vars cells) in
    let fits : FitsIn c.args.values.now (get_or (owners_of vars cells) c.args.place []) = λ k d l. let high = (form.in_range k d l).1 in omega arith in
    subst (FitsIn c.args.values.now) (sym (written g (goal.at.left_in-requires g c).After-literal-2)) fits

pub returns : goal.returns
returns g c = subst (λ (e : List Lit). IsLeft (held c.args.values.now) e c.left_in.result) (written g (goal.at.returns g c).After-literal-2) c.left_in.ensures
