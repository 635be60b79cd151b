use Rattle.std.proofs.Common.{All, List, ◌≡◌, ℕ, ◌+◌, ◌*◌, ◌<◌, [], ◌∷◌, length, length-append, get_or, None, vec_len, sym, ap, ◌∙◌, subst, arith}
use Rattle.heesch_rup.specs.Listed.{slot_of, IsLastBelow}
use Rattle.heesch_cnf.specs.declared.literal.Lit.{Lit}
use Rattle.heesch_cnf.specs.Flat.{code_of}
use Rattle.heesch_rup.proofs.Rarest.{codes-lt, slot_of-lt}
use Rattle.heesch_rup.proofs.Chains.{lists_last, lists_earlier}
use Rattle.heesch_rup.proofs.occurrences.Occurrences.list_next.Goals as goal
use Rattle.heesch_rup.proofs.occurrences.Occurrences.list_next.Goals.{After-slot_of-slot}

pub slot_of-slot-requires : goal.slot_of-slot-requires
slot_of-slot-requires c =
    let clauses = c.args.clauses.now.clauses in
    let n = length c.as_slice.result.now in
    let room : 2 * c.args.clauses.now.vars + 1 < n = omega (arith, c.as_slice.ensures.len, c.requires.counts) in
    subst (λ (ls : List Lit). All (λ l. code_of l < n) ls) (sym c.clause.ensures)
    (codes-lt c.args.clauses.now.vars n (get_or clauses c.len-place.result []) (c.requires.form c.len-place.result [] (omega arith)) room)

-- the slot is that of the next clause, and there is one
slot_is : (c : After-slot_of-slot) → c.slot_of-slot.result ≡ slot_of c.args.self.now.counts.items (get_or c.args.clauses.now.clauses c.len-place.result [])
slot_is c = c.slot_of-slot.ensures ∙ (ap (λ (cs : List ℕ). slot_of cs c.clause.result.now) c.as_slice.ensures.value ∙ ap (slot_of c.args.self.now.counts.items) c.clause.ensures)

slot_fits : (c : After-slot_of-slot) → c.slot_of-slot.result < vec_len c.args.self.now.last
slot_fits c =
    let next = get_or c.args.clauses.now.clauses c.len-place.result [] in
    let fits = slot_of-lt c.args.self.now.counts.items c.args.clauses.now.vars (vec_len c.args.self.now.last) next (c.requires.form c.len-place.result [] (omega arith)) c.requires.room in
    omega (arith, slot_is c, fits)

pub index-requires : goal.index-requires
index-requires c = slot_fits (goal.at.index-requires c).After-slot_of-slot

pub index_mut-requires : goal.index_mut-requires
index_mut-requires c = slot_fits (goal.at.index_mut-requires c).After-slot_of-slot

pub returns-clause-lists : goal.returns-clause-lists
returns-clause-lists c =
    let clauses = c.args.clauses.now.clauses in
    let counts = c.args.self.now.counts.items in
    let last = c.args.self.now.last.items in
    let earlier = c.args.self.now.earlier.items in
    let n = c.len-place.result in
    let slot = c.slot_of-slot.result in
    let a = (goal.at.returns-clause-lists c).After-slot_of-slot in
    let same = slot_is a in
    let fits : slot < length last = omega (arith, slot_fits a) in
    let n_is : n ≡ length earlier = omega arith in
    let longer = ap length c.in_ok-push.ensures.items in
    let m_is : length c.push.new.self.items ≡ n + 1 = omega (arith, longer, length-append earlier (c.index.result.now ∷ []), n_is) in
    record {
      within = omega (arith, m_is, c.requires.more);
      last = lists_last counts clauses last n (length c.push.new.self.items) slot m_is same fits (subst (λ k. (s : ℕ) → s < length last → IsLastBelow counts clauses k s (get_or last s None)) (sym n_is) c.requires.lists.last);
      earlier = lists_earlier counts clauses last earlier c.push.new.self.items n slot c.index.result.now c.in_ok-push.ensures.items n_is same fits c.index.ensures c.requires.lists.last c.requires.lists.earlier;
    }
