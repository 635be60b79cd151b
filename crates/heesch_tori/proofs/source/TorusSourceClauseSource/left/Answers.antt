use Rattle.std.proofs.Common.{◌≡◌, ◌+◌, ◌-◌, ◌<◌, [], ◌∷◌, List, ℕ, get_or, length, sym, ap, subst, ◌∙◌, arith}
use Rattle.std.specs.Prelude.{nat_lt, sum}
use Rattle.std.proofs.lemmas.List.{get_or_default, get_or_read}
use Rattle.std.proofs.lemmas.List.Elements.{All-get_or}
use Rattle.heesch_cnf.specs.declared.literal.Lit.{Lit}
use Rattle.heesch_cnf.specs.Clauses.{AreClauses, IsClause}
use Rattle.heesch_cnf.specs.Left.{FitsIn, IsLeft}
use Rattle.heesch_cnf.specs.Lines.{numbered}
use Rattle.heesch_cnf.specs.Literals.{held}
use Rattle.heesch_encode.specs.Literals.{plus_all}
use Rattle.heesch_grid.specs.Listing.{IsRising}
use Rattle.heesch_numbers.specs.Counts.{FallsIn}
use Rattle.heesch_numbers.proofs.Seeing.{seen_none}
use Rattle.heesch_torus.specs.Formula.{pair_clause}
use Rattle.heesch_torus.specs.Variables.{sets_of}
use Rattle.heesch_tori.specs.Later.{all_later}
use Rattle.heesch_tori.specs.TorusView.{TorusView, table_clauses}
use Rattle.heesch_tori.proofs.Clauses.{sets_many, list_left, clauses_length, clauses_form_of, cell_numbered, pair_numbered}
use Rattle.heesch_tori.proofs.Pairs.{first_within, later_counted, number_at, number_last, number_later, pair_at}
use Rattle.heesch_tori.proofs.source.TorusSourceClauseSource.left.Given as given
use Rattle.heesch_tori.proofs.source.TorusSourceClauseSource.left.Goals as goal
use Rattle.heesch_tori.proofs.source.TorusSourceClauseSource.left.Goals.{After-minus-2}

pub returns-then-index-lists : goal.returns-then-index-lists
returns-then-index-lists g c =
    let v = held c.args.values.now in
    let sets = sets_of c.self.inside.table.variables in
    let lists = c.self.inside.table.lists in
    let k : ℕ = c.args.number - 1 in
    let few = ap length c.lists-lists.ensures.lists in
    let less : c.args.number - 1 < length c.self.inside.table.lists = omega (arith, c.if-index-lists.true, few) in
    let here : c.as_slice.result.now ≡ get_or c.self.inside.table.lists (c.args.number - 1) [] =
    c.as_slice.ensures ∙ c.index-lists-index.is ∙ get_or_default c.lists-lists.result.now k c.index-lists-index.result [] c.if-index-lists.true ∙ ap (λ (ls : List (List ℕ)). get_or ls (c.args.number - 1) []) c.lists-lists.ensures.lists in
    let rising = (c.lists-lists.ensures.numbers.numbers k [] less).rising in
    let left = list_left v c.as_slice.result.now c.left_with_all.result (subst (IsRising nat_lt) (sym here) rising) (c.left_with_all.ensures [] (seen_none v)) in
    let clause : plus_all c.as_slice.result.now ≡ numbered c.args.self.now.formula.clauses c.args.number =
    ap plus_all here ∙ sym (cell_numbered sets lists c.args.number c.requires.number.0 less) ∙ ap (λ (s : TorusView). numbered s.formula.clauses c.args.number) c.self.view_is in
    subst (λ (e : List Lit). IsLeft (held c.args.values.now) e c.left_with_all.result) clause left

pub place-at-requires : goal.place-at-requires
place-at-requires g c =
    let whole = clauses_length (sets_of c.self.inside.table.variables) c.self.inside.table.lists c.self.inside.later.counts c.self.invariant.counts_are in
    let seen = ap (λ (s : TorusView). length s.formula.clauses) c.self.view_is in
    let few = ap length c.lists-lists.ensures.lists in
    let some = c.requires.number.0 in
    let high = c.requires.number.1 in
    let low = c.if-index-lists.false in
    omega arith

pub overflow_cast-first : goal.overflow_cast-first
overflow_cast-first g c =
    let sets = sets_of c.self.inside.table.variables in
    let falls = subst (λ (ns : List ℕ). FallsIn ns (c.args.number - 1 - length c.lists-lists.result.now) c.place-at.result.0 c.place-at.result.1) c.self.invariant.counts_are c.place-at.ensures in
    let less = first_within sets (c.args.number - 1 - length c.lists-lists.result.now) c.place-at.result.0 c.place-at.result.1 falls in
    let many = sets_many c.self.inside.table.variables in
    let most = c.lists-lists.ensures.most in
    omega arith

pub overflow_add-first : goal.overflow_add-first
overflow_add-first g c =
    let sets = sets_of c.self.inside.table.variables in
    let falls = subst (λ (ns : List ℕ). FallsIn ns (c.args.number - 1 - length c.lists-lists.result.now) c.place-at.result.0 c.place-at.result.1) c.self.invariant.counts_are c.place-at.ensures in
    let less = first_within sets (c.args.number - 1 - length c.lists-lists.result.now) c.place-at.result.0 c.place-at.result.1 falls in
    let many = sets_many c.self.inside.table.variables in
    let most = c.lists-lists.ensures.most in
    omega arith

pub index-second-requires : goal.index-second-requires
index-second-requires g c =
    let sets = sets_of c.self.inside.table.variables in
    let whole = clauses_length (sets_of c.self.inside.table.variables) c.self.inside.table.lists c.self.inside.later.counts c.self.invariant.counts_are in
    let seen = ap (λ (s : TorusView). length s.formula.clauses) c.self.view_is in
    let few = ap length c.lists-lists.ensures.lists in
    let some = c.requires.number.0 in
    let high = c.requires.number.1 in
    let low = c.if-index-lists.false in
    let counted = later_counted sets in
    let counts = ap sum c.self.invariant.counts_are in
    let numbers = ap length c.self.invariant.numbers_are in
    let long = c.self.inside.later.numbers.ok in
    omega arith

-- the clause, as it is written
written : (g : given.Over) (c : After-minus-2 g) → c.minus.result ∷ c.minus-2.result ∷ [] ≡ numbered c.args.self.now.formula.clauses c.args.number
written g c =
    let sets = sets_of c.self.inside.table.variables in
    let lists = c.self.inside.table.lists in
    let place : ℕ = c.args.number - 1 - length c.lists-lists.result.now in
    let falls = subst (λ (ns : List ℕ). FallsIn ns (c.args.number - 1 - length c.lists-lists.result.now) c.place-at.result.0 c.place-at.result.1) c.self.invariant.counts_are c.place-at.ensures in
    let few = ap length c.lists-lists.ensures.lists in
    let low = c.if-index-lists.false in
    let whole = clauses_length (sets_of c.self.inside.table.variables) c.self.inside.table.lists c.self.inside.later.counts c.self.invariant.counts_are in
    let seen = ap (λ (s : TorusView). length s.formula.clauses) c.self.view_is in
    let high = c.requires.number.1 in
    let some = c.requires.number.0 in
    let counted = later_counted sets in
    let counts = ap sum c.self.invariant.counts_are in
    let numbers = ap length c.self.invariant.numbers_are in
    let less : c.args.number - 1 - length c.lists-lists.result.now < length c.self.inside.later.numbers.items = omega arith in
    let second : c.index-second.result.now ≡ get_or (all_later (sets_of c.self.inside.table.variables)) (c.args.number - 1 - length c.lists-lists.result.now) 0 =
    get_or_read c.self.inside.later.numbers.items place c.index-second.result.now less c.index-second.ensures 0 ∙ ap (λ (ns : List ℕ). get_or ns (c.args.number - 1 - length c.lists-lists.result.now) 0) c.self.invariant.numbers_are in
    let pair = pair_at sets place c.place-at.result.0 c.place-at.result.1 falls (get_or (all_later sets) place 0) (number_later sets place c.place-at.result.0 c.place-at.result.1 falls) (number_last sets place c.place-at.result.0 c.place-at.result.1 falls) (number_at sets place c.place-at.result.0 c.place-at.result.1 falls) in
    let at : numbered (table_clauses (sets_of c.self.inside.table.variables) c.self.inside.table.lists) c.args.number ≡ pair_clause (c.place-at.result.0 + 1) c.index-second.result.now =
    pair_numbered sets lists c.args.number place c.requires.number.0 (omega arith) (omega arith) ∙ pair ∙ ap (pair_clause (c.place-at.result.0 + 1)) (sym second) in
    let made : c.minus.result ∷ c.minus-2.result ∷ [] ≡ pair_clause (c.place-at.result.0 + 1) c.index-second.result.now = λ i. c.minus.ensures i ∷ c.minus-2.ensures i ∷ [] in
    made ∙ sym at ∙ ap (λ (s : TorusView). numbered s.formula.clauses c.args.number) c.self.view_is

pub left_in-requires : goal.left_in-requires
left_in-requires g c =
    let clauses = c.args.self.now.formula.clauses in
    let form : AreClauses c.args.self.now.formula.vars c.args.self.now.formula.clauses = subst (λ (s : TorusView). AreClauses s.formula.vars s.formula.clauses) c.self.view_is (clauses_form_of c.self.inside.table.variables c.self.inside.table.lists c.lists-lists.ensures.numbers) in
    let some = c.requires.number.0 in
    let high = c.requires.number.1 in
    let one : IsClause c.args.self.now.formula.vars (numbered c.args.self.now.formula.clauses c.args.number) = All-get_or (IsClause c.args.self.now.formula.vars) clauses (c.args.number - 1) [] (omega arith) form in
    let fits : FitsIn c.args.values.now (numbered c.args.self.now.formula.clauses c.args.number) = λ k d l. let last = (one.in_range k d l).1 in let room = c.requires.room in omega arith in
    subst (FitsIn c.args.values.now) (sym (written g (goal.at.left_in-requires g c).After-minus-2)) fits

pub returns : goal.returns
returns g c = subst (λ (e : List Lit). IsLeft (held c.args.values.now) e c.left_in.result) (written g (goal.at.returns g c).After-minus-2) c.left_in.ensures
