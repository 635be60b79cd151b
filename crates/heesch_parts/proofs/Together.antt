-- Outputs of shares, one behind the other, are share texts, and their entries are those of the whole list.
use Rattle.std.proofs.Common.{◌≡◌, refl, sym, ap, subst, ◌∙◌, ℕ, suc, ◌+◌, ◌<◌, ◌≤◌, ◌^◌, List, [], ◌∷◌, ◌++◌, map, length, All, Bool, false, arith}
use Rattle.std.specs.Prelude.{if◌then◌else◌}
use Rattle.std.specs.List.{AllByRecursion, flat_map, range_with_len}
use Rattle.std.proofs.ByRecursion.{All-from_get_or}
use Rattle.std.proofs.lemmas.List.{length-map}
use Rattle.heesch_grid.specs.declared.Cell.{Cell}
use Rattle.heesch_grid.specs.Geometry.{Geometry}
use Rattle.heesch_grid.specs.Polyform.{IsFreeList}
use Rattle.heesch_grid.proofs.FromDefinitions.{free_lists_are_unique}
use Rattle.heesch_cert.specs.declared.entry.Entry.{Entry}
use Rattle.heesch_cert.specs.declared.header.Header.{Header}
use Rattle.heesch_cert.specs.TrueEntry.{IsTrueEntry}
use Rattle.heesch_text.specs.Catalogue.{brief_lines, entry_lines}
use Rattle.heesch_line.specs.Forms.{IsLine}
use Rattle.heesch_grammar.specs.Statements.{MayStand, start}
use Rattle.heesch_grammar.proofs.Truth.{may_stand}
use Rattle.heesch_catalogue.specs.Catalogues.{AreEntries, AreReadable}
use Rattle.heesch_catalogue.proofs.EntryLists.{entries_both, no_entries}
use Rattle.heesch_parts.specs.Shares.{IsEntry, AreShares, entries_of, share_line, share_text, shares_from}
use Rattle.heesch_parts.specs.Spans.{items_at, span_of}
use Rattle.heesch_parts.proofs.Spans.{shares_are_the_list}
use Rattle.heesch_parts.specs.Written.{shapes_of_share}
use Rattle.heesch_parts.specs.AllShares.{AreShareOutputs, AreAllShares, together}

readable_both : (header : Header) (es fs : List Entry) → AreReadable header es → AreReadable header fs → AreReadable header (es ++ fs)
readable_both header [] fs first next = next
readable_both header (e ∷ es) fs first next = (first.0, readable_both header es fs first.1 next)

by_recursion : {X : Type 0} (P : X → Type 0) (xs : List X) → All P xs → AllByRecursion P xs
by_recursion P [] all = tt
by_recursion P (x ∷ xs) all = All-from_get_or P (x ∷ xs) x (λ i less. all i x less)

module _ (g : Geometry) (header : Header) (full : header.brief ≡ false) where
  -- a true entry whose lines can be read is an entry of a share
  is_entry : (e : Entry) → IsTrueEntry g header.limits e → AllByRecursion IsLine (if header.brief then brief_lines e else entry_lines e) → IsEntry e
  is_entry e is_true forms =
      let may : MayStand e = may_stand g header.limits e is_true in
      record {
        lines = record { before = start; between = refl; over = may.full start refl (omega arith) };
        forms = subst (λ (b : Bool). AllByRecursion IsLine (if b then brief_lines e else entry_lines e)) full forms;
        holds = may.holds;
      }

  are_entries : (es : List Entry) → AllByRecursion (IsTrueEntry g header.limits) es → AreReadable header es → AllByRecursion IsEntry es
  are_entries [] true_ones read = tt
  are_entries (e ∷ es) true_ones read = (is_entry e true_ones.0 read.0, are_entries es true_ones.1 read.1)

  module _ (n k : ℕ) (shapes : List (List Cell)) (free : IsFreeList g n shapes) where
    -- the shapes of so many shares from number i on
    abbrev shapes_from : ℕ → ℕ → List (List Cell)
    shapes_from i count = flat_map (λ (share : List (List Cell)). share) (map (λ j. items_at (span_of (length shapes) j k) shapes) (range_with_len i count))

    record Parts (i : ℕ) (outputs : List (List ℕ)) : Type 0 where
      shares : List (List Entry)
      text : together outputs ≡ shares_from i k header shares
      long : length shares ≡ length outputs
      each : AllByRecursion (AllByRecursion IsEntry) shares
      entries : AreEntries g header.limits (shapes_from i (length outputs)) (entries_of shares)
      read : AreReadable header (entries_of shares)

    parts : (i : ℕ) (outputs : List (List ℕ)) → AreShareOutputs g header n i k outputs → Parts i outputs
    parts i [] are = record {
      shares = [];
      text = refl;
      long = refl;
      each = tt;
      entries = no_entries g header.limits;
      read = tt;
    }
    parts i (output ∷ outputs) ((listed, free_too, few, (catalogue, (es, first, read, is), same)), are) =
        let rest : Parts (i + 1) outputs = parts (i + 1) outputs are in
        let one_list : listed ≡ shapes = free_lists_are_unique g n listed shapes free_too free in
        let others : List Entry = entries_of rest.shares in
        let here : AreEntries g header.limits (items_at (span_of (length shapes) i k) shapes) es = subst (λ (ss : List (List Cell)). AreEntries g header.limits (shapes_of_share i k ss) es) one_list first in
        let head : output ≡ share_text i k header es = same ∙ ap (λ (text : List ℕ). share_line i k ++ text) is in
        let true_ones : AllByRecursion (IsTrueEntry g header.limits) es = by_recursion (IsTrueEntry g header.limits) es first.are_true in
        record {
          shares = es ∷ rest.shares;
          text = λ j. head j ++ rest.text j;
          long = ap suc rest.long;
          each = (are_entries es true_ones read, rest.each);
          entries = entries_both g header.limits (items_at (span_of (length shapes) i k) shapes) (shapes_from (i + 1) (length outputs)) es others here rest.entries;
          read = readable_both header es others read rest.read;
        }

-- what all shares have together
pub record Whole (g : Geometry) (header : Header) (n : ℕ) (text : List ℕ) : Type 0 where
  pub shapes : List (List Cell)
  pub free : IsFreeList g n shapes
  pub shares : List (List Entry)
  pub are : AreShares text header shares
  pub entries : AreEntries g header.limits shapes (entries_of shares)
  pub read : AreReadable header (entries_of shares)

-- the list of the size, as the first output has it
list_of : (g : Geometry) (header : Header) (n k : ℕ) (outputs : List (List ℕ)) → 1 ≤ length outputs → AreShareOutputs g header n 1 k outputs
    → (shapes : List (List Cell)) × IsFreeList g n shapes × (length shapes < 2 ^ 32)
list_of g header n k [] some are = absurd (omega (arith, some))
list_of g header n k (output ∷ outputs) some ((listed, free, few, is), are) = (listed, free, few)

pub whole_of : (g : Geometry) (header : Header) (n : ℕ) (outputs : List (List ℕ)) → AreAllShares g header n outputs → Whole g header n (together outputs)
whole_of g header n outputs all =
    let k : ℕ = length outputs in
    let (shapes, free, few) = list_of g header n k outputs all.some all.are in
    let p : Parts g header all.full n k shapes free 1 outputs = parts g header all.full n k shapes free 1 outputs all.are in
    let list : shapes_from g header all.full n k shapes free 1 k ≡ shapes = shares_are_the_list k shapes all.some in
    let entries : AreEntries g header.limits shapes (entries_of p.shares) = subst (λ (ss : List (List Cell)). AreEntries g header.limits ss (entries_of p.shares)) list p.entries in
    let many : length (entries_of p.shares) ≡ length shapes = sym (length-map (entries_of p.shares) (λ (e : Entry). e.cells)) ∙ ap length entries.of_shapes in
    let long = p.long in
    let some = all.some in
    let most = all.most in
    record {
      shapes = shapes;
      free = free;
      shares = p.shares;
      are = record {
        text_is = subst (λ (m : ℕ). together outputs ≡ shares_from 1 m header p.shares) (sym long) p.text;
        some = omega (arith, long, some);
        most = omega (arith, long, most);
        header_is = all.is_header;
        each = p.each;
        all = omega (arith, many, few);
      };
      entries = entries;
      read = p.read;
    }
