-- The image loses nothing: what is packed is unpacked again, and what is unpacked is packed again, byte for byte.
use Rattle.std.specs.Prelude.{◌≡◌, take, drop, get_or}
use Rattle.std.proofs.Common.{sym, ◌∙◌, arith, length-drop, get_or-append-add, length-take-le, get_or-take, get_or-drop}
use mathlib.Core.List.{List, [], ◌∷◌, ◌++◌, append_assoc}
use Prim.Native.Nat.{ℕ, ◌+◌, ◌*◌, ◌≤◌, ◌<◌}
use Rattle.std.proofs.Math.ListN.{length, get_or-append}
use Rattle.std.proofs.lemmas.List.{get_or_at}
use Rattle.std.proofs.Math.Seq.{take-suc, take-add}
use Rattle.code.specs.declared.Word.{Word}
use Rattle.code.specs.declared.Row.{Row}
use Rattle.code.specs.declared.Code.{Code}
use Rattle.code.specs.declared.Enlarged.{Enlarged}
use Rattle.code.specs.Definitions.Lists.{tabulate}
use Rattle.code.specs.Definitions.Sheets.{limits}
use Rattle.code.specs.Definitions.Tables.{no_word, no_row}
use Rattle.code.specs.Laws.Lists.{tabulate_list, tabulate_more}
use Rattle.c_image.specs.Image.{word_width, rows_place, marks_place, count_place, code_length, origins_place, behind_place, image_length, word_bytes, row_bytes, words_bytes, rows_bytes, code_bytes, image_of, PackableCode, Packable, byte_from, word_number, row_number, code_in, enlarged_in}
use Rattle.c_image.specs.Blocks.{block_at, blocks_tabulate}
use Rattle.c_image.specs.Packing.{word_wide, row_wide, length-words, length_both, length_all, length_code, length-originals, length-origins}

module _ {c : Code} (fits : PackableCode c) (rest : List ℕ) where
  word_byte : (k j : ℕ) → k < 32 → j < word_width → get_or (code_bytes c ++ rest) (k * word_width + j) 0 ≡ get_or (word_bytes (get_or c.words k no_word)) j 0
  unfolding code_bytes
  word_byte k j h i =
      rw (append_assoc, append_assoc, append_assoc)
      (block_at word_bytes no_word word_width c.words (word_wide fits) (rows_bytes c.rows ++ (c.begins ++ ((c.count ∷ []) ++ rest))) k j (omega (arith, fits.words)) i)

  row_byte_lem : (k j : ℕ) → k < 32 → j < 32 → get_or (code_bytes c ++ rest) (rows_place + k * 32 + j) 0 ≡ get_or (row_bytes (get_or c.rows k no_row)) j 0
  unfolding code_bytes
  row_byte_lem k j h i =
      let at : rows_place + k * 32 + j ≡ length (words_bytes c.words) + (k * 32 + j) = omega (arith, length-words fits) in
      rw (append_assoc, append_assoc, append_assoc, at)
      (get_or-append-add (words_bytes c.words) (rows_bytes c.rows ++ (c.begins ++ ((c.count ∷ []) ++ rest))) (k * 32 + j) 0
      ∙ block_at row_bytes no_row 32 c.rows (row_wide fits) (c.begins ++ ((c.count ∷ []) ++ rest)) k j (omega (arith, fits.rows)) i)

  mark_byte : (k : ℕ) → k < 32 → get_or (code_bytes c ++ rest) (marks_place + k) 0 ≡ get_or c.begins k 0
  unfolding code_bytes
  mark_byte k h =
      let at : marks_place + k ≡ length (words_bytes c.words ++ rows_bytes c.rows) + k = omega (arith, length_both fits) in
      rw (append_assoc, append_assoc, at)
      (get_or-append-add (words_bytes c.words ++ rows_bytes c.rows) (c.begins ++ ((c.count ∷ []) ++ rest)) k 0
      ∙ get_or-append c.begins ((c.count ∷ []) ++ rest) 0 k (omega (arith, fits.begins)))

  count_byte : get_or (code_bytes c ++ rest) count_place 0 ≡ c.count
  unfolding code_bytes
  count_byte = rw append_assoc (get_or_at (words_bytes c.words ++ rows_bytes c.rows ++ c.begins) c.count rest 0 count_place (length_all fits))

  word_same : (k : ℕ) → k < 32 → word_number (code_bytes c ++ rest) k ≡ get_or c.words k no_word
  word_same k h =
      let w : Word = get_or c.words k no_word in
      let long = fits.symbols k h in
      let symbols_same = tabulate_list (byte_from (code_bytes c ++ rest) (k * word_width)) 16 w.symbols 0 long
      (λ j i. word_byte k j h (omega arith) ∙ get_or-append w.symbols (w.len ∷ []) 0 j (omega arith)) in
      let len-same = word_byte k 16 h (omega arith) ∙ get_or_at w.symbols w.len [] 0 16 long in
      rw (symbols_same, len-same)

  row_same : (k : ℕ) → k < 32 → row_number (code_bytes c ++ rest) k ≡ get_or c.rows k no_row
  row_same k h =
      let r : Row = get_or c.rows k no_row in
      let entries-same = tabulate_list (byte_from (code_bytes c ++ rest) (rows_place + k * 32)) 32 r.entries 0 (fits.entries k h) (λ j i. row_byte_lem k j h i) in
      rw entries-same

  -- A code is what its bytes hold.
  code_holds : code_in (code_bytes c ++ rest) ≡ c
  unfolding code_in
  code_holds =
      let words_same = tabulate_list (word_number (code_bytes c ++ rest)) 32 c.words no_word fits.words word_same in
      let rows_same = tabulate_list (row_number (code_bytes c ++ rest)) 32 c.rows no_row fits.rows row_same in
      let marks_same = tabulate_list (byte_from (code_bytes c ++ rest) marks_place) 32 c.begins 0 fits.begins mark_byte in
      rw (words_same, rows_same, marks_same, count_byte)

module _ {e : Enlarged} (fits : Packable e) (rest : List ℕ) where
  code_same : code_in (image_of e ++ rest) ≡ e.code
  unfolding image_of
  code_same = rw (append_assoc, append_assoc, append_assoc) (code_holds fits.code ((e.originals ∷ []) ++ (e.origins ++ (e.behind ++ rest))))

  originals_byte : get_or (image_of e ++ rest) code_length 0 ≡ e.originals
  unfolding image_of
  originals_byte = rw (append_assoc, append_assoc, append_assoc) (get_or_at (code_bytes e.code) e.originals (e.origins ++ (e.behind ++ rest)) 0 code_length (length_code fits.code))

  origin_byte : (k : ℕ) → k < limits.words → get_or (image_of e ++ rest) (origins_place + k) 0 ≡ get_or e.origins k 0
  unfolding image_of
  origin_byte k h =
      let ns : List ℕ = code_bytes e.code ++ (e.originals ∷ []) in
      let at : origins_place + k ≡ length ns + k = omega (arith, length-originals fits) in
      rw (append_assoc, append_assoc, at)
      (get_or-append-add ns (e.origins ++ (e.behind ++ rest)) k 0 ∙ get_or-append e.origins (e.behind ++ rest) 0 k (omega (arith, fits.origins)))

  behind_byte : (k : ℕ) → k < limits.words → get_or (image_of e ++ rest) (behind_place + k) 0 ≡ get_or e.behind k 0
  unfolding image_of
  behind_byte k h =
      let os : List ℕ = code_bytes e.code ++ (e.originals ∷ []) ++ e.origins in
      let at : behind_place + k ≡ length os + k = omega (arith, length-origins fits) in
      rw (append_assoc, at) (get_or-append-add os (e.behind ++ rest) k 0 ∙ get_or-append e.behind rest 0 k (omega (arith, fits.behind)))

  -- A code with copies is what its image holds.
  pub image_holds : enlarged_in (image_of e ++ rest) ≡ e
  unfolding enlarged_in
  image_holds =
      let origins-same = tabulate_list (byte_from (image_of e ++ rest) origins_place) limits.words e.origins 0 fits.origins origin_byte in
      let behind-same = tabulate_list (byte_from (image_of e ++ rest) behind_place) limits.words e.behind 0 fits.behind behind_byte in
      rw (code_same, originals_byte, origins-same, behind-same)

module _ (b : List ℕ) (room : image_length ≤ length b) where
  bytes_from : (at n : ℕ) → at + n ≤ length b → tabulate (byte_from b at) n ≡ take n (drop at b)
  bytes_from at n h =
      tabulate_list (byte_from b at) n (take n (drop at b)) 0 (length-take-le n (drop at b) (omega (arith, length-drop at b))) (λ k l. rw (get_or-take, get_or-drop))

  word_block : (k : ℕ) → k < 32 → word_bytes (word_number b k) ≡ take word_width (drop (0 + k * word_width) b)
  word_block k h = let at : 0 + k * word_width ≡ k * word_width = omega arith in rw at (sym (tabulate_more (byte_from b (k * word_width)) 16) ∙ bytes_from (k * word_width) word_width (omega arith))

  row_block : (k : ℕ) → k < 32 → row_bytes (row_number b k) ≡ take 32 (drop (rows_place + k * 32) b)
  row_block k h = bytes_from (rows_place + k * 32) 32 (omega arith)

  held_code : code_bytes (code_in b) ≡ take code_length b
  unfolding code_bytes code_in
  held_code =
      rw (blocks_tabulate word_bytes (word_number b) word_width 0 32 b word_block, blocks_tabulate row_bytes (row_number b) 32 rows_place 32 b row_block, bytes_from marks_place 32 (omega arith))
      (rw (← take-add rows_place 1024 b, ← take-add marks_place 32 b) (sym (take-suc b count_place 0 (omega arith))))

  -- The bytes of an image are those of the code with copies that it holds.
  pub held_image : image_of (enlarged_in b) ≡ take image_length b
  unfolding image_of enlarged_in
  held_image =
      rw (held_code, bytes_from origins_place limits.words (omega arith), bytes_from behind_place limits.words (omega arith), ← take-suc b code_length 0 (omega arith))
      (rw (← take-add origins_place limits.words b) (sym (take-add behind_place limits.words b)))
