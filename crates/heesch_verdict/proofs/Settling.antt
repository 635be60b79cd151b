-- The triples, settled one after another.
use Rattle.std.proofs.Common.{◌≡◌, sym, ap, subst, ◌∙◌, ℕ, suc, ◌+◌, ◌<◌, ◌≤◌, List, [], ◌∷◌, ◌++◌, length, take, drop, get_or}
use Rattle.std.proofs.lemmas.List.{map-append, take_more}
use Rattle.std.proofs.lemmas.List.Elements.{All-push}
use Rattle.heesch_grid.specs.declared.Cell.{Cell}
use Rattle.heesch_grid.specs.Geometry.{Geometry}
use Rattle.heesch_grid.specs.Lattice.{Triple}
use Rattle.heesch_cert.specs.declared.entry.TripleProof.{TripleProof}
use Rattle.heesch_cert.specs.declared.limits.Limits.{Limits}
use Rattle.heesch_cert.specs.declared.tiling.Tiling.{Tiling}
use Rattle.heesch_cert.specs.Proofs.{SettlesTriple}
use Rattle.heesch_torus.specs.Domains.{AreUpTo}
use Rattle.heesch_verdict.specs.Domains.{AreSettled, IsFirstOf, SettlesOne}
use Rattle.heesch_verdict.specs.Earliest.{IsPassedOver}
use Rattle.heesch_verdict.specs.Tilings.{IsCoverOf, IsFirstCover}
use Rattle.heesch_verdict.proofs.Firsts.{first_cover_of, parts_at}

module _ (g : Geometry) (shape : List Cell) (turns : ℕ) where
  abbrev triple_of : TripleProof → Triple
  triple_of x = x.triple

  abbrev Settles : TripleProof → Type 0
  Settles x = SettlesTriple g shape turns x.triple x.proof

  module _ (ts : List Triple) (i : ℕ) (d : Triple) (below : i < length ts) (old : List TripleProof) (s : AreSettled g shape turns (take i ts) old) where
    -- one triple more is settled
    pub one_settled : (new : List TripleProof) → SettlesOne g shape turns (get_or ts i d) old new → AreSettled g shape turns (take (i + 1) ts) new
    one_settled new one =
        subst (λ xs. AreSettled g shape turns xs new) (sym (take_more ts i d below))
        (subst (AreSettled g shape turns (take i ts ++ get_or ts i d ∷ [])) (sym one.is)
        (record {
          same = map-append triple_of old (one.added ∷ []) ∙ (λ j. s.same j ++ one.same j ∷ []);
          settles = All-push Settles old one.added s.settles one.settles;
          passed = All-push (IsPassedOver g shape turns) (take i ts) (get_or ts i d) s.passed one.passed;
        }))

    -- a cover for the next triple
    pub next_covered : (tiling : Tiling) → (tiling.triple ≡ get_or ts i d) × IsCoverOf g shape tiling → IsFirstOf g shape turns ts tiling
    next_covered tiling h = record {
      is_cover = h.1;
      before = take i ts;
      after = drop (suc i) ts;
      is = parts_at ts i d below ∙ ap (λ u. take i ts ++ u ∷ drop (suc i) ts) (sym h.0);
      passed = s.passed;
    }

-- a cover for the next triple is the first of the domains
pub next_is_first : (g : Geometry) (limits : Limits) (shape : List Cell) → 1 ≤ length shape → (triples : List Triple) → AreUpTo g (length shape) limits.domain triples → (i : ℕ) (t : Triple) → i < length triples → t ≡ get_or triples i t →
    (old : List TripleProof) → AreSettled g shape limits.turns (take i triples) old → (tiling : Tiling) → (tiling.triple ≡ t) × IsCoverOf g shape tiling → IsFirstCover g limits shape tiling
next_is_first g limits shape some triples a i t below is old s tiling found =
    first_cover_of g limits shape some triples a tiling (next_covered g shape limits.turns triples i t below old s tiling (found.0 ∙ is, found.1))
