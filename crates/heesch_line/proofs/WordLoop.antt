-- Reading words one after the other, as a loop does.
use Rattle.std.proofs.Common.{◌≡◌, ℕ, suc, ◌-◌, ◌+◌, ◌≤◌, ◌<◌, true, false, List, [], ◌∷◌, ◌++◌, length, drop, Option, Some, None, refl, sym, ap, ◌∙◌, append_assoc, arith}
use Rattle.std.proofs.lemmas.List.{append-nil}
use Rattle.heesch_line.specs.declared.fault.LineFault.{LineFault}
use Rattle.heesch_line.specs.declared.fault.LineFault.TheVariants.{NoMemory, NotALine}
use Rattle.heesch_line.specs.Reading.{◌>>=◌, Fails, has_word, words_at, more_words_at}

module _ {X : Type 0} (word : List ℕ → Option (X × List ℕ)) where
  -- what was read before, and what is still read
  abbrev pub with_front : List X → Option (List X × List ℕ) → Option (List X × List ℕ)
  with_front front read = read >>= λ x. Some (front ++ x.0, x.1)

  regroup : (front : List X) (n : X) (read : Option (List X × List ℕ)) → with_front front (read >>= λ x. Some (n ∷ x.0, x.1)) ≡ with_front (front ++ n ∷ []) read
  regroup front n (Some x) = ap (λ (ns : List X). Some (ns, x.1)) (simp append_assoc)
  regroup front n None = refl

  -- the loop so far
  pub record Reads (front : List X) (count i : ℕ) (bytes : List ℕ) (total : Option (List X × List ℕ)) : Type 0 where
    pub so_far : with_front front (words_at word (count - i) bytes) ≡ total

  pub starts : (front : List X) (bytes : List ℕ) → Reads front (length bytes) 0 bytes (more_words_at word front bytes)
  starts front bytes =
      let k : length bytes - 0 ≡ length bytes = omega arith in
      record { so_far = rw k refl }

  pub goes_on : (front : List X) (count i : ℕ) (bytes : List ℕ) (n : X) (after : List ℕ) (total : Option (List X × List ℕ)) → i < count
      → has_word bytes ≡ true → word (drop 1 bytes) ≡ Some (n, after) → Reads front count i bytes total → Reads (front ++ n ∷ []) count (i + 1) after total
  unfolding words_at
  goes_on front count i bytes n after total lt t h so =
      let k : count - i ≡ suc (count - (i + 1)) = omega arith in
      let one : with_front front (words_at word (count - i) bytes) ≡ with_front (front ++ n ∷ []) (words_at word (count - (i + 1)) after) = rw (k, t, h) (regroup front n (words_at word (count - (i + 1)) after)) in
      record { so_far = sym one ∙ so.so_far }

  pub fails : (e : LineFault) (front : List X) (count i : ℕ) (bytes : List ℕ) (total : Option (List X × List ℕ)) → i < count
      → has_word bytes ≡ true → Fails e (word (drop 1 bytes)) → Reads front count i bytes total → Fails e total
  unfolding words_at
  fails NoMemory front count i bytes total lt t h so = tt
  fails NotALine front count i bytes total lt t h so =
      let k : count - i ≡ suc (count - (i + 1)) = omega arith in
      let one : with_front front (words_at word (count - i) bytes) ≡ None = rw (k, t, h) refl in
      sym so.so_far ∙ one

  pub stops : (front : List X) (count i : ℕ) (bytes : List ℕ) (total : Option (List X × List ℕ)) → i < count → has_word bytes ≡ false
      → Reads front count i bytes total → total ≡ Some (front, bytes)
  unfolding words_at
  stops front count i bytes total lt t so =
      let k : count - i ≡ suc (count - (i + 1)) = omega arith in
      let one : with_front front (words_at word (count - i) bytes) ≡ Some (front, bytes) = rw (k, t) (ap (λ (ns : List X). Some (ns, bytes)) (append-nil front)) in
      sym so.so_far ∙ one

  pub ends : (front : List X) (count i : ℕ) (bytes : List ℕ) (total : Option (List X × List ℕ)) → count ≤ i → Reads front count i bytes total → total ≡ Some (front, bytes)
  unfolding words_at
  ends front count i bytes total le so =
      let k : count - i ≡ 0 = omega arith in
      let one : with_front front (words_at word (count - i) bytes) ≡ Some (front, bytes) = rw k (ap (λ (ns : List X). Some (ns, bytes)) (append-nil front)) in
      sym so.so_far ∙ one
