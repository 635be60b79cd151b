-- A text is that of shares in one way, and their items are those of one catalogue.
use Rattle.std.proofs.Common.{◌≡◌, inl, inr, ℕ, ◌+◌, ◌≤◌, List, [], ◌∷◌, ◌++◌, length, map, Some, refl, sym, ap, subst, ◌∙◌, append_assoc, append-nil, arith}
use Rattle.std.specs.List.{AllByRecursion, flat_map}
use Rattle.std.proofs.lemmas.List.{map-append}
use Rattle.std.proofs.lemmas.List.Concat.{flat_map-append}
use Rattle.heesch_cert.specs.declared.header.Header.{Header}
use Rattle.heesch_cert.specs.declared.entry.Entry.{Entry}
use Rattle.heesch_text.specs.declared.line.Line.{Line}
use Rattle.heesch_text.specs.declared.line.Line.TheVariants as lines
use Rattle.heesch_text.specs.Lines.{text_of}
use Rattle.heesch_text.specs.Catalogue.{entry_lines, catalogue_text}
use Rattle.heesch_grammar.specs.Statements.{catalogue_lines}
use Rattle.heesch_grammar.proofs.Again.{same_entry}
use Rattle.heesch_reader.specs.declared.item.Item.TheVariants as items
use Rattle.heesch_reader.specs.Items.{item_lines, lines_of}
use Rattle.heesch_reader.specs.Feeding.{IsInside}
use Rattle.heesch_reader.proofs.EntryLines.{body_lines, body_inside}
use Rattle.heesch_parts.specs.declared.part_line.PartLine.{PartLine}
use Rattle.heesch_parts.specs.declared.part_line.PartLine.TheVariants as parts
use Rattle.heesch_parts.specs.PartLines.{IsPartLine, part_words, parts_text}
use Rattle.heesch_parts.specs.Shares.{IsEntry, IsShareHeader, AreShares, entries_of, items_behind, share_items, line_count, joined_items}
use Rattle.heesch_parts.specs.Joining.{whole_lines}
use Rattle.heesch_parts.proofs.SameParts.{part_front, along}
use Rattle.heesch_parts.proofs.WholeShares.{NoEnd, entries_no_end, full_header, catalogue_lines_text, whole_lines_text, whole_forms}

-- ---- where lists part

-- the list is empty, or its first item isn't such
abbrev Leaves : {X : Type 0} → (X → Type 0) → List X → Type 0
Leaves P [] = Unit {0}
Leaves P (x ∷ xs) = P x → ⊥

-- fronts of such items that others follow are the same
fronts : {X : Type 0} (P : X → Type 0) (a b c d : List X) → AllByRecursion P a → AllByRecursion P b → Leaves P c → Leaves P d → a ++ c ≡ b ++ d → (a ≡ b) × (c ≡ d)
fronts P [] [] c d f g h k e = (refl, e)
fronts P [] (y ∷ b) [] d f g h k e = absurd cc
fronts P [] (y ∷ b) (x ∷ c) d f g h k e = let same : x ≡ y = cc in absurd (h (subst P (sym same) g.0))
fronts P (x ∷ a) [] c [] f g h k e = absurd cc
fronts P (x ∷ a) [] c (y ∷ d) f g h k e = let same : x ≡ y = cc in absurd (k (subst P same f.0))
fronts P (x ∷ a) (y ∷ b) c d f g h k e =
    let same : x ≡ y = cc in
    let rest : a ++ c ≡ b ++ d = cc in
    let r = fronts P a b c d f.1 g.1 h k rest in
    (ap (λ z. z ∷ a) same ∙ ap (λ z. y ∷ z) r.0, r.1)

-- ---- entries

entries_leave : (es : List Entry) → Leaves IsInside (flat_map entry_lines es)
entries_leave [] = tt
entries_leave (e ∷ es) = λ i. i

-- entries are known by their lines
same_entries : (ds es : List Entry) → AllByRecursion IsEntry ds → AllByRecursion IsEntry es → flat_map entry_lines ds ≡ flat_map entry_lines es → ds ≡ es
same_entries [] [] f g e = refl
same_entries [] (x ∷ es) f g e = absurd cc
same_entries (d ∷ ds) [] f g e = absurd cc
same_entries (d ∷ ds) (x ∷ es) f g e =
    let cells : d.cells ≡ x.cells = cc in
    let rest : body_lines d ++ flat_map entry_lines ds ≡ body_lines x ++ flat_map entry_lines es = cc in
    let r = fronts IsInside (body_lines d) (body_lines x) (flat_map entry_lines ds) (flat_map entry_lines es) (body_inside d) (body_inside x) (entries_leave ds) (entries_leave es) rest in
    let first : d ≡ x = same_entry d x f.0.holds g.0.holds (ap (λ cs. lines.Shape cs ∷ body_lines d) cells ∙ ap (λ (z : List Line). lines.Shape x.cells ∷ z) r.0) in
    ap (λ (z : Entry). z ∷ ds) first ∙ ap (λ (z : List Entry). x ∷ z) (same_entries ds es f.1 g.1 r.1)

-- ---- shares

abbrev PartNoEnd : PartLine → Type 0
PartNoEnd (parts.Share i k) = Unit {0}
PartNoEnd (parts.Catalogue line) = NoEnd line

mapped_no_end : (ls : List Line) → AllByRecursion NoEnd ls → AllByRecursion PartNoEnd (map parts.Catalogue ls)
mapped_no_end [] h = tt
mapped_no_end (line ∷ ls) h = (h.0, mapped_no_end ls h.1)

mapped_same : (a b : List Line) → map parts.Catalogue a ≡ map parts.Catalogue b → a ≡ b
mapped_same [] [] e = refl
mapped_same [] (y ∷ b) e = absurd cc
mapped_same (x ∷ a) [] e = absurd cc
mapped_same (x ∷ a) (y ∷ b) e =
    let same : x ≡ y = cc in
    let rest : map parts.Catalogue a ≡ map parts.Catalogue b = cc in
    ap (λ (z : Line). z ∷ a) same ∙ ap (λ (z : List Line). y ∷ z) (mapped_same a b rest)

-- the lines of a share behind its header, and those behind it
ends_at : (es : List Entry) (rest : List PartLine) → map parts.Catalogue (catalogue_lines entry_lines es) ++ rest ≡ map parts.Catalogue (flat_map entry_lines es) ++ parts.Catalogue (lines.End (length es)) ∷ rest
ends_at es rest =
    ap (λ (x : List PartLine). x ++ rest) (map-append parts.Catalogue (flat_map entry_lines es) (lines.End (length es) ∷ []))
    ∙ append_assoc (map parts.Catalogue (flat_map entry_lines es)) (parts.Catalogue (lines.End (length es)) ∷ []) rest

-- shares are known by their lines
same_shares : (i k m : ℕ) (h g : Header) (a b : List (List Entry)) → AllByRecursion (AllByRecursion IsEntry) a → AllByRecursion (AllByRecursion IsEntry) b → whole_lines i k (Some h) a ≡ whole_lines i m (Some g) b → a ≡ b
same_shares i k m h g [] [] f n e = refl
same_shares i k m h g [] (ds ∷ b) f n e = absurd cc
same_shares i k m h g (es ∷ a) [] f n e = absurd cc
same_shares i k m h g (es ∷ a) (ds ∷ b) f n e =
    let behind_a = whole_lines (i + 1) k (Some h) a in
    let behind_b = whole_lines (i + 1) m (Some g) b in
    let rest : map parts.Catalogue (catalogue_lines entry_lines es) ++ behind_a ≡ map parts.Catalogue (catalogue_lines entry_lines ds) ++ behind_b = cc in
    let r = fronts PartNoEnd (map parts.Catalogue (flat_map entry_lines es)) (map parts.Catalogue (flat_map entry_lines ds)) (parts.Catalogue (lines.End (length es)) ∷ behind_a) (parts.Catalogue (lines.End (length ds)) ∷ behind_b)
    (mapped_no_end (flat_map entry_lines es) (entries_no_end es)) (mapped_no_end (flat_map entry_lines ds) (entries_no_end ds)) (λ x. x) (λ x. x) (sym (ends_at es behind_a) ∙ rest ∙ ends_at ds behind_b) in
    let first = same_entries es ds f.0 n.0 (mapped_same (flat_map entry_lines es) (flat_map entry_lines ds) r.0) in
    let behind : behind_a ≡ behind_b = let q = r.1 in cc in
    ap (λ (z : List Entry). z ∷ a) first ∙ ap (λ (z : List (List Entry)). ds ∷ z) (same_shares (i + 1) k m h g a b f.1 n.1 behind)

-- and so is their header
same_header : (i k m : ℕ) (h g : Header) (a b : List (List Entry)) → 1 ≤ length a → whole_lines i k (Some h) a ≡ whole_lines i m (Some g) b → h ≡ g
same_header i k m h g [] b some e = absurd (omega (arith, some))
same_header i k m h g (es ∷ a) [] some e = absurd cc
same_header i k m h g (es ∷ a) (ds ∷ b) some e = cc

nothing_left : (more : List PartLine) → parts_text more ++ [] ≡ [] → more ≡ []
nothing_left [] e = refl
nothing_left (l ∷ more) e = let f = sym (part_front l more []) ∙ e in absurd (some_bytes (part_words l) (parts_text more ++ []) f)
  where
    some_bytes : (words back : List ℕ) → words ++ 10 ∷ back ≡ [] → ⊥
    some_bytes [] back e = absurd cc
    some_bytes (b ∷ words) back e = absurd cc

-- lines with one text are the same
same_lines : (ls ms : List PartLine) → AllByRecursion IsPartLine ls → AllByRecursion IsPartLine ms → parts_text ls ≡ parts_text ms → ls ≡ ms
same_lines ls ms f g e =
    elim (along ls ms [] [] f g (ap (λ (x : List ℕ). x ++ []) e)) [
      | inl r ↦ sym (r.lines ∙ ap (λ (x : List PartLine). ls ++ x) (nothing_left r.more (sym r.bytes)) ∙ append-nil ls)
      | inr r ↦ r.lines ∙ ap (λ (x : List PartLine). ms ++ x) (nothing_left r.more (sym r.bytes)) ∙ append-nil ms
    ]

pub one_join : (text : List ℕ) (header other : Header) (shares more : List (List Entry)) → AreShares text header shares → AreShares text other more → (header ≡ other) × (shares ≡ more)
one_join text header other shares more a b =
    let k = length shares in
    let m = length more in
    let first = whole_lines_text 1 k header shares (full_header header a.header_is.joins) in
    let second = whole_lines_text 1 m other more (full_header other b.header_is.joins) in
    let same = same_lines (whole_lines 1 k (Some header) shares) (whole_lines 1 m (Some other) more) (whole_forms 1 k header shares a.header_is a.each (omega arith) (omega arith) a.most a.all)
    (whole_forms 1 m other more b.header_is b.each (omega arith) (omega arith) b.most b.all) (first ∙ sym a.text_is ∙ b.text_is ∙ sym second) in
    (same_header 1 k m header other shares more a.some same, same_shares 1 k m header other shares more a.each b.each same)

-- ---- the joined catalogue

items_lines : (n : ℕ) (es : List Entry) → lines_of (items_behind n es) ≡ flat_map entry_lines es
items_lines n [] = refl
items_lines n (e ∷ es) = ap (λ (x : List Line). entry_lines e ++ x) (items_lines (n + length (entry_lines e)) es)

shares_lines : (n : ℕ) (shares : List (List Entry)) → lines_of (share_items n shares) ≡ flat_map entry_lines (entries_of shares)
shares_lines n [] = refl
shares_lines n (es ∷ shares) =
    flat_map-append item_lines (items_behind (n + 2) es) (share_items (n + line_count es) shares)
    ∙ ap (λ (x : List Line). x ++ lines_of (share_items (n + line_count es) shares)) (items_lines (n + 2) es)
    ∙ ap (λ (x : List Line). flat_map entry_lines es ++ x) (shares_lines (n + line_count es) shares)
    ∙ sym (flat_map-append entry_lines es (entries_of shares))

pub joined_text : (header : Header) (shares : List (List Entry)) → IsShareHeader header → text_of (lines_of (joined_items header shares)) ≡ catalogue_text header (entries_of shares)
joined_text header shares h =
    let last = lines.End (length (entries_of shares)) in
    let behind : lines_of (share_items 0 shares ++ items.End (length (entries_of shares)) ∷ []) ≡ catalogue_lines entry_lines (entries_of shares) =
    flat_map-append item_lines (share_items 0 shares) (items.End (length (entries_of shares)) ∷ []) ∙ ap (λ (x : List Line). x ++ last ∷ []) (shares_lines 0 shares) in
    ap (λ (x : List Line). text_of (lines.Header header ∷ x)) behind ∙ catalogue_lines_text header (entries_of shares) (full_header header h.joins)
