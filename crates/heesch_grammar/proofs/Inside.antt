-- Lines that lead to the end of an entry are the lines of what is read of them.
use Rattle.std.proofs.Common.{◌≡◌, ℕ, zero, suc, ◌≤◌, Bool, true, false, List, [], ◌∷◌, ◌++◌, length, Some, is_some, refl, sym, ap, ◌∙◌, arith}
use Rattle.std.specs.Bool.{then_some}
use Rattle.std.specs.Prelude.{option_and_then}
use Rattle.std.specs.List.{flat_map}
use Rattle.heesch_text.specs.declared.line.Line.{Line}
use Rattle.heesch_text.specs.declared.line.Line.TheVariants as lines
use Rattle.heesch_text.specs.Catalogue.{proof_lines, layer_lines, tile_lines, triple_lines}
use Rattle.heesch_grammar.specs.declared.place.AfterProof.{AfterProof}
use Rattle.heesch_grammar.specs.declared.place.AfterProof.TheVariants as afters
use Rattle.heesch_grammar.specs.declared.place.Place.{Place}
use Rattle.heesch_grammar.specs.declared.place.Place.TheVariants as places
use Rattle.heesch_grammar.specs.Grammar.{is_whole, behind, layers, wider}
use Rattle.heesch_grammar.specs.Parts.{proof_at, behind_proof, layers_at, behind_layers, places_at, members_at, few_triples, triples_at}
use Rattle.heesch_grammar.specs.Entries.{follow, Lead}
use Rattle.heesch_grammar.proofs.Taking.{behind_shorter}

-- ---- one line

pub given_some : {A : Type 0} (b : Bool) (x y : A) → then_some b x ≡ Some y → (b ≡ true) × (x ≡ y)
given_some true x y e = (refl, cc)
given_some false x y e = absurd cc

-- at the end of the lines an entry may end
pub lead_whole : (p : Place) → Lead p [] → is_whole p ≡ true
lead_whole p l = let e : p ≡ l.end = cc in ap is_whole e ∙ l.whole

pub lead_given : (b : Bool) (p : Place) (ls : List Line) (end : Place) → option_and_then (λ q. follow false q ls) (then_some b p) ≡ Some end → is_whole end ≡ true → (b ≡ true) × Lead p ls
lead_given true p ls end e w = (refl, record { end = end; reached = e; whole = w })
lead_given false p ls end e w = absurd cc

-- ---- a proof

pub record IsProofAt (refuted : Bool) (after : AfterProof) (ls : List Line) : Type 0 where
  pub split : ls ≡ proof_lines (proof_at ls) ++ behind_proof ls
  pub ends : is_some (proof_at ls).last ≡ refuted
  pub onward : Lead (behind after) (behind_proof ls)

pub proof_parts : (refuted : Bool) (after : AfterProof) (ls : List Line) → Lead (places.Proof refuted after) ls → IsProofAt refuted after ls
proof_parts refuted after [] l = let w = lead_whole (places.Proof refuted after) l in absurd cc
proof_parts refuted after (lines.Learn clause hints ∷ ls) l =
    let h = proof_parts refuted after ls (record { end = l.end; reached = l.reached; whole = l.whole }) in
    record { split = ap (λ (x : List Line). lines.Learn clause hints ∷ x) h.split; ends = h.ends; onward = h.onward }
proof_parts refuted after (lines.Cut cut ∷ ls) l =
    let h = proof_parts refuted after ls (record { end = l.end; reached = l.reached; whole = l.whole }) in
    record { split = ap (λ (x : List Line). lines.Cut cut ∷ x) h.split; ends = h.ends; onward = h.onward }
proof_parts true after (lines.Empty hints ∷ ls) l = record { split = refl; ends = refl; onward = record { end = l.end; reached = l.reached; whole = l.whole } }
proof_parts false after (lines.Empty hints ∷ ls) l = let e = l.reached in absurd cc
proof_parts true after (lines.Spent ∷ ls) l = let e = l.reached in absurd cc
proof_parts false after (lines.Spent ∷ ls) l = record { split = refl; ends = refl; onward = record { end = l.end; reached = l.reached; whole = l.whole } }
proof_parts refuted after (line ∷ ls) l = let e = l.reached in absurd cc

-- ---- layers

pub record AreLayersAt (n : ℕ) (p : Place) (ls : List Line) : Type 0 where
  pub split : ls ≡ layer_lines (layers_at n ls) ++ behind_layers n ls
  pub all : length (layers_at n ls) ≡ n
  pub onward : Lead p (behind_layers n ls)

pub layers_parts : (count last n : ℕ) (ls : List Line) → Lead (layers n count last) ls → AreLayersAt n (places.Coronas count last) ls
layers_parts count last zero ls l = record { split = refl; all = refl; onward = l }
layers_parts count last (suc n) [] l = let w = lead_whole (places.Layers n count last) l in absurd cc
layers_parts count last (suc n) (lines.Layer isos ∷ ls) l =
    let h = layers_parts count last n ls (record { end = l.end; reached = l.reached; whole = l.whole }) in
    record { split = ap (λ (x : List Line). lines.Layer isos ∷ x) h.split; all = ap (λ (x : ℕ). suc x) h.all; onward = h.onward }
layers_parts count last (suc n) (line ∷ ls) l = let e = l.reached in absurd cc

pub wider_parts : (n : ℕ) (ls : List Line) → Lead (wider n) ls → AreLayersAt n places.Triples ls
wider_parts zero ls l = record { split = refl; all = refl; onward = l }
wider_parts (suc n) [] l = let w = lead_whole (places.Wider n) l in absurd cc
wider_parts (suc n) (lines.Layer isos ∷ ls) l =
    let h = wider_parts n ls (record { end = l.end; reached = l.reached; whole = l.whole }) in
    record { split = ap (λ (x : List Line). lines.Layer isos ∷ x) h.split; all = ap (λ (x : ℕ). suc x) h.all; onward = h.onward }
wider_parts (suc n) (line ∷ ls) l = let e = l.reached in absurd cc

-- ---- tiles

pub tiles_parts : (ls : List Line) → Lead places.Tile ls → (ls ≡ tile_lines (places_at ls) (members_at ls)) × (length (members_at ls) ≡ length (places_at ls))
tiles_parts [] l = (refl, refl)
tiles_parts (lines.Tile place member ∷ ls) l =
    let h = tiles_parts ls (record { end = l.end; reached = l.reached; whole = l.whole }) in
    (ap (λ (x : List Line). lines.Tile place member ∷ x) h.0, ap (λ (x : ℕ). suc x) h.1)
tiles_parts (line ∷ ls) l = let e = l.reached in absurd cc

-- ---- triples

pub few_parts : (n : ℕ) (ls : List Line) → length ls ≤ n → Lead places.Triples ls → ls ≡ flat_map triple_lines (few_triples n ls)
few_parts zero [] h l = refl
few_parts zero (line ∷ ls) h l = absurd (omega arith)
few_parts (suc n) [] h l = refl
few_parts (suc n) (lines.Triple triple refuted ∷ ls) h l =
    let p = proof_parts refuted afters.Triples ls (record { end = l.end; reached = l.reached; whole = l.whole }) in
    let s = behind_shorter ls in
    let r = few_parts n (behind_proof ls) (omega arith) p.onward in
    ap (λ (x : Bool). lines.Triple triple x ∷ ls) (sym p.ends)
    ∙ ap (λ (x : List Line). lines.Triple triple (is_some (proof_at ls).last) ∷ x) (p.split ∙ ap (λ (x : List Line). proof_lines (proof_at ls) ++ x) r)
few_parts (suc n) (line ∷ ls) h l = let e = l.reached in absurd cc

pub triples_parts : (ls : List Line) → Lead places.Triples ls → ls ≡ flat_map triple_lines (triples_at ls)
triples_parts ls l = few_parts (length ls) ls (omega arith) l
