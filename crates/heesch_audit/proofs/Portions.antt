-- An entry is true exactly where each portion of it holds.
use Rattle.std.proofs.Common.{◌≡◌, refl, sym, subst, ℕ, zero, suc, ◌<◌, ◌≤◌, ◌%◌, true, false, List, length, get_or, All, arith, inl, inr, true≢false}
use Rattle.std.specs.Prelude.{◌↔◌, Option, Some, None, MatchOption, Bool, is_some, not, IsTrue, slice_get}
use Rattle.std.proofs.Math.Nat.{mod-eq_of_lt, mod-le, mod-lt, mod-one}
use Rattle.std.proofs.lemmas.List.Elements.{All-nil, All-get_or}
use Rattle.std.proofs.lemmas.Option.{get_or_from_slice_get, slice_get-get_or, slice_get_cases, slice_get_within}
use Rattle.heesch_grid.specs.declared.Cell.{Cell}
use Rattle.heesch_grid.specs.Geometry.{Geometry}
use Rattle.heesch_torus.specs.Domain.{HasDomain}
use Rattle.heesch_cert.specs.declared.limits.Limits.{Limits}
use Rattle.heesch_cert.specs.declared.verdict.Verdict.{Verdict}
use Rattle.heesch_cert.specs.declared.verdict.Verdict.TheVariants.{Tiles, Heesch, Levels, Holes, Turns, Size}
use Rattle.heesch_cert.specs.declared.entry.TripleProof.{TripleProof}
use Rattle.heesch_cert.specs.declared.entry.Evidence.{Evidence}
use Rattle.heesch_cert.specs.declared.entry.Evidence.TheVariants.{Cover, Search}
use Rattle.heesch_cert.specs.declared.entry.Entry.{Entry}
use Rattle.heesch_cert.specs.Parts.{IsLeastFailing}
use Rattle.heesch_cert.specs.Proofs.{SettlesTriple}
use Rattle.heesch_cert.specs.TrueEntry.{IsTrueEntry, TriplesHold}
use Rattle.heesch_audit.specs.Portions.{triples_of, AreProved, AreTriplesAsked, AreTriplesFor, PartsHold, PortionHolds}
use Rattle.heesch_audit.specs.Shapes.{AreCanonical}
use Rattle.heesch_audit.proofs.Listed.{have_domains}
use Rattle.heesch_audit.proofs.Parts.{parts_hold, true_where}

-- what holds of each item by its place holds of all, and the other way round
pub all_at : {X : Type 0} (P : X → Type 0) (xs : List X) → ((at : ℕ) (x : X) → slice_get xs at ≡ Some x → P x) → All P xs
all_at P xs each k d below = each k (get_or xs k d) (slice_get-get_or xs k d below)

pub at_all : {X : Type 0} (P : X → Type 0) (xs : List X) → All P xs → (at : ℕ) (x : X) → slice_get xs at ≡ Some x → P x
at_all P xs all at x is = subst P (get_or_from_slice_get xs at x x is) (All-get_or P xs at x (slice_get_within xs at x is) all)

module _ (g : Geometry) (limits : Limits) (shape : List Cell) where
  abbrev pub Settles : TripleProof → Type 0
  Settles x = SettlesTriple g shape limits.turns x.triple x.proof

  abbrev pub Domain : TripleProof → Type 0
  Domain x = HasDomain g (length shape) x.triple

  domains_of : limits.domain ≤ 12 → (verdict : Verdict) (triples : List TripleProof) → AreTriplesFor g limits shape verdict triples → All Domain triples
  domains_of few (Tiles kind domain classes) triples asked = subst (All Domain) (sym (asked.none_else (λ h. h))) (All-nil Domain)
  domains_of few (Heesch h m) triples asked = subst (All Domain) (sym (asked.none_else (λ h. h))) (All-nil Domain)
  domains_of few (Levels h) triples asked = have_domains g (length shape) limits.domain few triples (asked.all_searched tt).only
  domains_of few (Holes h) triples asked = have_domains g (length shape) limits.domain few triples (asked.all_searched tt).only
  domains_of few (Turns h phase at) triples asked = have_domains g (length shape) limits.domain few triples (asked.all_searched tt).only
  domains_of few (Size h phase at) triples asked = have_domains g (length shape) limits.domain few triples (asked.all_searched tt).only

  -- the triples that are asked for have domains
  pub asked_domains : limits.domain ≤ 12 → (verdict : Verdict) (evidence : Evidence) → AreTriplesAsked g limits shape verdict evidence → All Domain (triples_of evidence)
  asked_domains few verdict (Cover tiling classes) asked = All-nil Domain
  asked_domains few verdict (Search free wall bare wider triples) asked = domains_of few verdict triples asked

  -- the last part holds where the triples are those that are asked for, each settled
  pub asked_of : (verdict : Verdict) (evidence : Evidence) → TriplesHold g limits shape verdict evidence → AreTriplesAsked g limits shape verdict evidence
  asked_of verdict (Cover tiling classes) holds = tt
  asked_of verdict (Search free wall bare wider triples) holds = record { all_searched = holds.all_searched; none_else = holds.none_else }

  pub settled_of : (verdict : Verdict) (evidence : Evidence) → TriplesHold g limits shape verdict evidence → All Settles (triples_of evidence)
  settled_of verdict (Cover tiling classes) holds = All-nil Settles
  settled_of verdict (Search free wall bare wider triples) holds = holds.settled

  pub triples_from : (verdict : Verdict) (evidence : Evidence) → AreTriplesAsked g limits shape verdict evidence → All Settles (triples_of evidence) → TriplesHold g limits shape verdict evidence
  triples_from verdict (Cover tiling classes) asked settled = tt
  triples_from verdict (Search free wall bare wider triples) asked settled = record { all_searched = asked.all_searched; settled = settled; none_else = asked.none_else }

  -- where the last part holds, the triples of each portion are settled
  pub all_proved : (verdict : Verdict) (evidence : Evidence) → TriplesHold g limits shape verdict evidence → (portion portions : ℕ) → AreProved g shape limits.turns (triples_of evidence) portion portions
  all_proved verdict evidence holds portion portions at x is here = at_all Settles (triples_of evidence) (settled_of verdict evidence holds) at x is

  -- and where those of the one portion are, it holds
  pub one_portion : (verdict : Verdict) (evidence : Evidence) → AreTriplesAsked g limits shape verdict evidence → AreProved g shape limits.turns (triples_of evidence) 0 1 → TriplesHold g limits shape verdict evidence
  one_portion verdict evidence asked proved = triples_from verdict evidence asked (all_at Settles (triples_of evidence) (λ at x is. proved at x is (mod-one at)))

module _ (g : Geometry) (limits : Limits) (entry : Entry) where
  -- a portion holds where the triples are those that are asked for, its own are settled, and it is not the first or the parts hold
  pub portion_from : (portion portions : ℕ) → AreCanonical g entry.cells → AreTriplesAsked g limits entry.cells entry.verdict entry.evidence → (portion ≡ 0 → PartsHold g limits entry) → AreProved g entry.cells limits.turns (triples_of entry.evidence) portion portions → PortionHolds g limits entry portion portions
  portion_from portion portions shape asked parts proved = record {
    beside = λ first. record { shape = shape; parts = parts first; asked = asked };
    proofs = λ at x is here. record { shape = shape; asked = asked; settled = proved at x is here };
  }

  pub portion_proved : (portion portions : ℕ) → PortionHolds g limits entry portion portions → AreProved g entry.cells limits.turns (triples_of entry.evidence) portion portions
  portion_proved portion portions holds at x is here = (holds.proofs at x is here).settled

  -- a portion that isn't the first and has no triple holds
  pub bare_portion : (portion portions : ℕ) → 0 < portion → length (triples_of entry.evidence) ≤ portion → PortionHolds g limits entry portion portions
  bare_portion portion portions later past = record {
    beside = λ first. absurd (omega (arith, later, first));
    proofs = λ at x is here. absurd (let inside = slice_get_within (triples_of entry.evidence) at x is in omega (arith, inside, past, mod-le at portions, here));
  }

  -- in any other that holds, the shape is canonical and the triples are those that are asked for
  pub unless_bare : (portion portions : ℕ) → portion < portions → ¬ ((0 < portion) × (length (triples_of entry.evidence) ≤ portion)) → PortionHolds g limits entry portion portions → AreCanonical g entry.cells × AreTriplesAsked g limits entry.cells entry.verdict entry.evidence
  unless_bare zero portions below some holds = let all = holds.beside refl in (all.shape, all.asked)
  unless_bare (suc portion) portions below some holds =
      elim (slice_get_cases (triples_of entry.evidence) (suc portion)).1 [
        | inl (x, inside, is, same) ↦ let one = holds.proofs (suc portion) x is (mod-eq_of_lt below) in (one.shape, one.asked)
        | inr (past, none) ↦ absurd (some (omega arith, past))
      ]

  -- where one of the first eight parts fails, and the shape is canonical, one of the others does
  fails_beside : AreCanonical g entry.cells → (part : ℕ) → part ≤ 8 → IsLeastFailing g limits entry part → ¬ PartsHold g limits entry
  fails_beside shape zero few f h = f.fails tt
  fails_beside shape (suc zero) few f h = f.fails shape
  fails_beside shape (suc (suc n)) few f h = f.fails (h (suc (suc n)) (omega arith) few)

  -- whether no part fails is whether the parts hold
  pub parts_answer : AreCanonical g entry.cells → (failing : Option ℕ) (none : Bool) → is_some failing ≡ not none → MatchOption failing (PartsHold g limits entry) (λ part. (part ≤ 8) × IsLeastFailing g limits entry part) → IsTrue none ↔ PartsHold g limits entry
  parts_answer shape None true is hold = ((λ t. hold), (λ parts. refl))
  parts_answer shape None false is hold = absurd (true≢false (sym is))
  parts_answer shape (Some part) true is fail = absurd (true≢false is)
  parts_answer shape (Some part) false is fail = ((λ t. absurd (true≢false (sym t))), (λ parts. absurd (fails_beside shape part fail.0 fail.1 parts)))

module _ (g : Geometry) (limits : Limits) (entry : Entry) where
  parts_of : IsTrueEntry g limits entry → PartsHold g limits entry
  parts_of e = parts_hold g limits entry e.shape e.form e.cover e.classes e.free e.wall e.wider e.bare

  portion_of : IsTrueEntry g limits entry → (portion portions : ℕ) → PortionHolds g limits entry portion portions
  portion_of e portion portions =
      let asked = asked_of g limits entry.cells entry.verdict entry.evidence e.triples in
      portion_from g limits entry portion portions e.shape asked (λ first. parts_of e) (all_proved g limits entry.cells entry.verdict entry.evidence e.triples portion portions)

  entry_of : (portions : ℕ) → 1 ≤ portions → ((portion : ℕ) → portion < portions → PortionHolds g limits entry portion portions) → IsTrueEntry g limits entry
  entry_of portions some each =
      let all = (each 0 some).beside refl in
      let settled = all_at (Settles g limits entry.cells) (triples_of entry.evidence) (λ at x is. ((each (at % portions) (mod-lt at some)).proofs at x is refl).settled) in
      true_where g limits entry all.shape all.parts (triples_from g limits entry.cells entry.verdict entry.evidence all.asked settled)

-- an entry is true exactly where each of its portions holds
pub portions_make_the_entry : (g : Geometry) (limits : Limits) (entry : Entry) (portions : ℕ) → 1 ≤ portions → IsTrueEntry g limits entry ↔ ((portion : ℕ) → portion < portions → PortionHolds g limits entry portion portions)
portions_make_the_entry g limits entry portions some = ((λ t portion below. portion_of g limits entry t portion portions), (λ each. entry_of g limits entry portions some each))
