use Rattle.std.proofs.Common.{◌≡◌, ◌++◌, Bool, Option, List, [], ◌∷◌, vec_len, subst}
use Rattle.heesch_cnf.specs.Clauses.{left_of}
use Rattle.heesch_cnf.specs.Literals.{held}
use Rattle.heesch_cnf.specs.Lines.{numbered}
use Rattle.heesch_rup.proofs.Hinted.{have_places_numbered, has_place}
use Rattle.heesch_rup.proofs.hints.status_at.Goals as goal

pub value-requires : goal.value-requires
value-requires g c =
    let f = g.C.ClauseSource.listed c.args.formula.now in
    let n = vec_len c.args.assignment.now.values in
    let clauses = f.clauses ++ c.args.added.now.clauses in
    let fits = have_places_numbered f.vars n clauses c.args.number c.requires.room c.requires.form c.requires.number in
    let one = subst (λ (vs : List (Option Bool)). left_of (held vs) (numbered clauses c.args.number) ≡ c.in-One.lit ∷ []) c.deref.ensures.value c.in-One.ensures in
    has_place n (held c.args.assignment.now.values.items) (numbered clauses c.args.number) c.in-One.lit fits one
