-- Clauses taken one after the other.
use Rattle.std.proofs.Common.{◌≡◌, refl, sym, ap, subst, ◌∙◌, ℕ, ◌+◌, ◌<◌, ◌≤◌, List, [], ◌++◌, Ok, Err, arith}
use Rattle.std.proofs.lemmas.List.{append-nil, append_assoc}
use Rattle.std.proofs.lemmas.List.Sums.{sum_by-append}
use Rattle.std.specs.Prelude.{length}
use Rattle.heesch_cnf.specs.declared.literal.Lit.{Lit}
use Rattle.heesch_cnf.specs.Clauses.{IsClause}
use Rattle.heesch_grid.specs.Clauses.{formula_size}
use Rattle.heesch_encode.specs.declared.stop.EncodeStop.{EncodeStop}
use Rattle.heesch_encode.specs.declared.stop.EncodeStop.TheVariants.{TooLarge, NoMemory}
use Rattle.heesch_encode.specs.declared.collector.Collector.{Collector}
use Rattle.heesch_encode.specs.Taking.{Takes, IsTaken}
use Rattle.heesch_encode.proofs.ClauseLists.{wider}

abbrev pub Clauses : Type 0
Clauses = List (List Lit)

pub size-append : (xs ys : Clauses) → formula_size (xs ++ ys) ≡ formula_size xs + formula_size ys
size-append xs ys = sum_by-append length xs ys

pub takes_none : (c : Collector) → Takes c c []
takes_none c = record { room = omega arith; vars = refl; kept = sym (append-nil c.formula.clauses) }

pub takes_more : (a b c : Collector) (xs ys : Clauses) → Takes a b xs → Takes b c ys → Takes a c (xs ++ ys)
takes_more a b c xs ys s t = record {
  room = let p = s.room in let q = t.room in let e = size-append xs ys in omega arith;
  vars = t.vars ∙ s.vars;
  kept = t.kept ∙ ap (λ zs. zs ++ ys) s.kept ∙ append_assoc a.formula.clauses xs ys;
}

pub full_left : (n : ℕ) (xs ys : Clauses) → n < formula_size xs → n < formula_size (xs ++ ys)
full_left n xs ys l = let e = size-append xs ys in omega arith

pub full_right : (a b : Collector) (xs ys : Clauses) → Takes a b xs → b.room < formula_size ys → a.room < formula_size (xs ++ ys)
full_right a b xs ys s l = let p = s.room in let e = size-append xs ys in omega arith

-- after clauses that were taken
pub taken_after : (r : _) (a b c : Collector) (xs ys : Clauses) → Takes a b xs → IsTaken r b c ys → IsTaken r a c (xs ++ ys)
taken_after (Ok x) a b c xs ys s t = takes_more a b c xs ys s t
taken_after (Err TooLarge) a b c xs ys s t = full_right a b xs ys s t
taken_after (Err NoMemory) a b c xs ys s t = tt

-- where it stopped, more clauses change nothing
pub stopped_before : (e : EncodeStop) (a b : Collector) (xs ys : Clauses) → IsTaken (Err e) a b xs → IsTaken (Err e) a b (xs ++ ys)
stopped_before TooLarge a b xs ys t = full_left a.room xs ys t
stopped_before NoMemory a b xs ys t = tt

-- so within a list of clauses
pub stopped_within : (e : EncodeStop) (a b c : Collector) (xs ys zs all : Clauses) → all ≡ (xs ++ ys) ++ zs → Takes a b xs → IsTaken (Err e) b c ys → IsTaken (Err e) a c all
stopped_within e a b c xs ys zs all is s t = subst (IsTaken (Err e) a c) (sym is) (stopped_before e a c (xs ++ ys) zs (taken_after (Err e) a b c xs ys s t))

-- ---- clauses over more variables

-- the collector keeps its variables
pub keeps_vars : {m : ℕ} {a b : Collector} {xs : Clauses} → m ≤ a.formula.vars → Takes a b xs → m ≤ b.formula.vars
keeps_vars {m} le t = subst (λ n. m ≤ n) (sym t.vars) le

pub clause_after : (m : ℕ) (a b : Collector) (xs : Clauses) (clause : List Lit) → m ≤ a.formula.vars → Takes a b xs → IsClause m clause → IsClause b.formula.vars clause
clause_after m a b xs clause le t c = wider m b.formula.vars clause (keeps_vars le t) c
