-- The sheet: records of one table put one after the other, a column written into them, a column read from them.
-- In each law f i has as many fields as the table (`full`), j is one of them (`known`), and the sheet begins within the buffer (`room`).
--   sheet-with         a column put into a field is that field of every record
--   sheet-of           a field's column, if its numbers fit its width
--   sheet-cell-with    the same of one cell: one record with one field changed; sheet-turn: of a stage that goes from record to record
--   sheet-cell-of      one cell, if its number fits
--   sheet-record       a whole record, if its fields fit; records-read: the same of records one after the other
--   cell-record        a field's cell is that field of the record read there
--   sheet-none, -next  how a sheet grows, record by record
--   sheet-same         lines that agree make the same sheet
--   sheet-head         a run put in front of the sheet
--   sheet-length, cell-length, column-length    the buffer keeps its length
--   cells-apart        two cells apart, put in either order
--   cell-later         a stage that goes from record to record leaves later records alone
--   records-length, lines-length, records-joined      of records one after the other; lines-read: between any bytes
--   up_to-done, up_to-left, up_to-full             what the first m records of a stage have, and the others
use mathlib.Core.Path.{◌≡◌, refl, sym, ap, ◌∙◌}
use mathlib.Core.Bool.{Bool, true, false}
use mathlib.Core.Logic.{⊎_elim}
use mathlib.Core.List.{List, [], ◌∷◌, ◌++◌, append_assoc, append-nil}
use Prim.Native.Nat.{ℕ, zero, suc, ◌+◌, ◌*◌, ◌^◌, ◌≤◌, ◌<◌}
use native.Mathlib.Nat.{add_assoc, le_of_suc-le-suc, mul-le-mul_right}
use native.Mathlib.Numerals.{add-one}
use native.Mathlib.Omega.{arith}
use lib.Dec.{eqb}
use lib.ListN.{length, get_or, take, drop, set, length-append, length-set}
use lib.Seq.{get_or-set_same, get_or-set_other, length-take-le}
use borrow.Author.Tests.{lt-ltb, le-ltb, eqb-true, eqb-false}
use Rattle.columns.specs.Table.{at, table, Below}
use Rattle.columns.proofs.Sum.{lt-or-le}
use Rattle.columns.proofs.Table.{table-length, table_at, table_same, table_is, table-next}
use Rattle.records.specs.Number.{number_at, number_bytes}
use Rattle.records.specs.Fields.{span}
use Rattle.records.specs.Buffer.{put}
use Rattle.records.specs.Record.{record_size, record_at, record_bytes, records_bytes, Fits}
use Rattle.records.specs.Sheet.{field_of, cell_at, cell, column_of, with_cell, with_cells, with_column, Lined, sheet, up_to}
use Rattle.records.specs.declared.Field.{Field}
use Rattle.records.proofs.Number.{number-length, number-front}
use Rattle.records.proofs.Reading.{number_same}
use Rattle.records.proofs.Buffer.{put-length, put-none, put-put, put-left, put_right, put-within, put-ahead, put-apart, put-inside, put-after}
use Rattle.records.proofs.Record.{record-length, record-with, record_is, record-read, record-behind, field_at, number_behind, span-part}

-- every record has as many fields as the table
abbrev Full : List ℕ → List (List ℕ) → Type 0
Full ws xss = Below (length xss) (λ i. length (get_or xss i []) ≡ length ws)

full-rest : (ws xs : List ℕ) (xss : List (List ℕ)) → Full ws (xs ∷ xss) → Full ws xss
full-rest ws xs xss h i l = h (suc i) (omega arith)

full-table : (ws : List ℕ) (n : ℕ) (f : ℕ → List ℕ) → ((i : ℕ) → length (f i) ≡ length ws) → Full ws (table n f)
full-table ws n f h i l = rw (table_at [] n f i (omega (arith, table-length n f))) (h i)

pub records-length : (letter : ℕ) (ws : List ℕ) (xss : List (List ℕ)) → Full ws xss
    → length (records_bytes letter ws xss) ≡ length xss * record_size ws
unfolding records_bytes
records-length letter ws [] h = omega arith
records-length letter ws (xs ∷ xss) h =
    omega (
      arith,
      length-append (record_bytes letter ws xs) (records_bytes letter ws xss),
      record-length letter ws xs (h 0 (omega arith)),
      records-length letter ws xss (full-rest ws xs xss h),
    )

pub records-joined : (letter : ℕ) (ws : List ℕ) (xss yss : List (List ℕ))
    → records_bytes letter ws (xss ++ yss) ≡ records_bytes letter ws xss ++ records_bytes letter ws yss
unfolding records_bytes
records-joined letter ws [] yss = refl
records-joined letter ws (xs ∷ xss) yss =
    rw (records-joined letter ws xss yss, append_assoc (record_bytes letter ws xs) (records_bytes letter ws xss) (records_bytes letter ws yss))

-- a number put at the place of field j in record k: that record with that field changed
records-with : (letter : ℕ) (ws : List ℕ) (xss : List (List ℕ)) (j k x : ℕ) → Full ws xss → j < length ws → k < length xss
    → put (records_bytes letter ws xss) (k * record_size ws + (2 + span (take j ws))) (number_bytes (at ws j) x)
    ≡ records_bytes letter ws (set xss k (set (get_or xss k []) j x))
unfolding records_bytes
records-with letter ws [] j k x h l m = absurd (omega arith)
records-with letter ws (xs ∷ xss) j zero x h l m =
    let here : 0 * record_size ws + (2 + span (take j ws)) ≡ 2 + span (take j ws) = omega arith in
    let long : length (record_bytes letter ws xs) ≡ record_size ws = record-length letter ws xs (h 0 (omega arith)) in
    rw here
    (put-left (record_bytes letter ws xs) (records_bytes letter ws xss) (2 + span (take j ws)) (number_bytes (at ws j) x)
    (omega (arith, number-length (at ws j) x, span-part ws j l))
    ∙ ap (λ (b : List ℕ). b ++ records_bytes letter ws xss) (record-with letter ws xs j x (h 0 (omega arith)) l))
records-with letter ws (xs ∷ xss) j (suc k) x h l m =
    let there : suc k * record_size ws + (2 + span (take j ws)) ≡ record_size ws + (k * record_size ws + (2 + span (take j ws))) = omega arith in
    let long : length (record_bytes letter ws xs) ≡ record_size ws = record-length letter ws xs (h 0 (omega arith)) in
    rw there
    (put_right (record_bytes letter ws xs) (records_bytes letter ws xss) (record_size ws) (k * record_size ws + (2 + span (take j ws)))
    (number_bytes (at ws j) x) long
    ∙ ap (λ (b : List ℕ). record_bytes letter ws xs ++ b) (records-with letter ws xss j k x (full-rest ws xs xss h) l (le_of_suc-le-suc m)))

-- the number at the place of field j in record k
records_is : (letter : ℕ) (ws : List ℕ) (xss : List (List ℕ)) (j k : ℕ) → Full ws xss → j < length ws → k < length xss
    → at (get_or xss k []) j < 256 ^ at ws j
    → number_at (at ws j) (records_bytes letter ws xss) (k * record_size ws + (2 + span (take j ws))) ≡ at (get_or xss k []) j
unfolding records_bytes
records_is letter ws [] j k h l m f = absurd (omega arith)
records_is letter ws (xs ∷ xss) j zero h l m f =
    let here : 0 * record_size ws + (2 + span (take j ws)) ≡ 2 + span (take j ws) = omega arith in
    let long : length (record_bytes letter ws xs) ≡ record_size ws = record-length letter ws xs (h 0 (omega arith)) in
    rw here
    (number-front (at ws j) (record_bytes letter ws xs) (records_bytes letter ws xss) (2 + span (take j ws)) (omega (arith, span-part ws j l))
    ∙ record_is letter ws xs j (h 0 (omega arith)) l f)
records_is letter ws (xs ∷ xss) j (suc k) h l m f =
    let there : suc k * record_size ws + (2 + span (take j ws)) ≡ record_size ws + (k * record_size ws + (2 + span (take j ws))) = omega arith in
    let long : length (record_bytes letter ws xs) ≡ record_size ws = record-length letter ws xs (h 0 (omega arith)) in
    rw there
    (number_behind (at ws j) (record_bytes letter ws xs) (records_bytes letter ws xss) (record_size ws)
    (k * record_size ws + (2 + span (take j ws))) long
    ∙ records_is letter ws xss j k (full-rest ws xs xss h) l (le_of_suc-le-suc m) f)

pub records-read : (letter : ℕ) (ws : List ℕ) (xss : List (List ℕ)) (b : List ℕ) (k : ℕ) → Full ws xss → k < length xss → Fits ws (get_or xss k [])
    → record_at ws (records_bytes letter ws xss ++ b) (k * record_size ws) ≡ get_or xss k []
unfolding records_bytes
records-read letter ws [] b k h m f = absurd (omega arith)
records-read letter ws (xs ∷ xss) b zero h m f =
    let here : 0 * record_size ws ≡ 0 = omega arith in
    rw (here, append_assoc (record_bytes letter ws xs) (records_bytes letter ws xss) b)
    (record-read letter ws xs [] (records_bytes letter ws xss ++ b) (h 0 (omega arith)) f)
records-read letter ws (xs ∷ xss) b (suc k) h m f =
    let there : suc k * record_size ws ≡ record_size ws + k * record_size ws = omega arith in
    rw (there, append_assoc (record_bytes letter ws xs) (records_bytes letter ws xss) b)
    (record-behind ws (record_bytes letter ws xs) (records_bytes letter ws xss ++ b) (record_size ws) (k * record_size ws)
    (record-length letter ws xs (h 0 (omega arith)))
    ∙ records-read letter ws xss b k (full-rest ws xs xss h) (le_of_suc-le-suc m) f)

pub cell-record : (start : ℕ) (ws s : List ℕ) (j i : ℕ) → j < length ws
    → cell (field_of start ws j) s i ≡ at (record_at ws s (start + i * record_size ws)) j
unfolding record_at
cell-record start ws s j i l =
    rw (← add_assoc (start + i * record_size ws) 2 (span (take j ws))) (sym (field_at ws s (start + i * record_size ws + 2) j l))

-- a number within a run that was put is read from the run
number-within : (w : ℕ) (l : List ℕ) (k : ℕ) (vs : List ℕ) (m : ℕ) → k ≤ length l → m + w ≤ length vs
    → number_at w (put l k vs) (k + m) ≡ number_at w vs m
number-within w l k vs m h e =
    number_same w (put l k vs) vs (k + m) m
    (λ i q. rw (add_assoc k m i) (put-inside l k vs (m + i) 0 h (omega arith)))

module _ {A : Type 0} where
  pub up_to-done : (m : ℕ) (g f : ℕ → A) (i : ℕ) → i < m → up_to m g f i ≡ g i
  up_to-done m g f i l = rw (lt-ltb i m l)

  pub up_to-left : (m : ℕ) (g f : ℕ → A) (i : ℕ) → m ≤ i → up_to m g f i ≡ f i
  up_to-left m g f i l = rw (le-ltb i m l)

pub up_to-full : (w m : ℕ) (g f : ℕ → List ℕ) → ((i : ℕ) → length (g i) ≡ w) → ((i : ℕ) → length (f i) ≡ w) → (i : ℕ) → length (up_to m g f i) ≡ w
up_to-full w m g f hg hf i =
    ⊎_elim (λ (l : i < m). rw (up_to-done m g f i l) (hg i)) (λ (l : m ≤ i). rw (up_to-left m g f i l) (hf i)) (lt-or-le i m)

-- a table with another element at k
table-with : {A : Type 0} (d : A) (n : ℕ) (f g : ℕ → A) (k : ℕ) → k < n → Below n (λ i. (i ≡ k → ⊥) → g i ≡ f i) → set (table n f) k (g k) ≡ table n g
table-with d n f g k l h =
    table_is d (set (table n f) k (g k)) n g (length-set (table n f) k (g k) ∙ table-length n f) (λ i m. by i m (eqb i k) refl) where
      by : (i : ℕ) → i < n → (b : Bool) → eqb i k ≡ b → get_or (set (table n f) k (g k)) i d ≡ g i
      by i m true e =
          let same : i ≡ k = eqb-true i k e in
          rw same (get_or-set_same (table n f) k (g k) d (omega (arith, table-length n f)))
      by i m false e =
          get_or-set_other (table n f) k i (g k) d (eqb-false i k e) ∙ table_at d n f i m ∙ sym (h i m (eqb-false i k e))

pub sheet-same : (start letter : ℕ) (ws out : List ℕ) (n : ℕ) (f g : ℕ → List ℕ) → Below n (λ i. f i ≡ g i)
    → sheet start letter ws out n f ≡ sheet start letter ws out n g
unfolding sheet
sheet-same start letter ws out n f g h = rw (table_same n f g h)

pub sheet-none : (start letter : ℕ) (ws out : List ℕ) (f : ℕ → List ℕ) → sheet start letter ws out 0 f ≡ out
unfolding sheet table records_bytes
sheet-none start letter ws out f = put-none out start

module _ (letter : ℕ) (ws : List ℕ) (n : ℕ) (f : ℕ → List ℕ) (full : (i : ℕ) → length (f i) ≡ length ws) where
  pub lines-length : length (records_bytes letter ws (table n f)) ≡ n * record_size ws
  lines-length = records-length letter ws (table n f) (full-table ws n f full) ∙ rw (table-length n f)

  pub lines-read : (a b : List ℕ) (start k : ℕ) → length a ≡ start → k < n → Fits ws (f k)
      → record_at ws (a ++ (records_bytes letter ws (table n f) ++ b)) (start + k * record_size ws) ≡ f k
  lines-read a b start k e l fits =
      let this : get_or (table n f) k [] ≡ f k = table_at [] n f k l in
      record-behind ws a (records_bytes letter ws (table n f) ++ b) start (k * record_size ws) e
      ∙ records-read letter ws (table n f) b k (full-table ws n f full) (omega (arith, table-length n f)) (rw this fits) ∙ this

module _ (start letter : ℕ) (ws out : List ℕ) (n : ℕ) (f : ℕ → List ℕ) (full : (i : ℕ) → length (f i) ≡ length ws) where
  lines : length (records_bytes letter ws (table n f)) ≡ n * record_size ws
  lines = lines-length letter ws n f full

  pub sheet-length : start + n * record_size ws ≤ length out → length (sheet start letter ws out n f) ≡ length out
  unfolding sheet
  sheet-length room = put-length out start (records_bytes letter ws (table n f)) (omega (arith, lines))

  pub sheet-record : (k : ℕ) → start ≤ length out → k < n → Fits ws (f k)
      → record_at ws (sheet start letter ws out n f) (start + k * record_size ws) ≡ f k
  unfolding sheet put
  sheet-record k room l fits =
      lines-read letter ws n f full (take start out) (drop (start + length (records_bytes letter ws (table n f))) out) start k
      (length-take-le start out room) l fits

  pub sheet-next : start ≤ length out
      → put (sheet start letter ws out n f) (start + n * record_size ws) (record_bytes letter ws (f n)) ≡ sheet start letter ws out (n + 1) f
  unfolding sheet
  sheet-next room =
      put-put out start (start + n * record_size ws) (records_bytes letter ws (table n f)) (record_bytes letter ws (f n)) (omega (arith, lines)) room
      ∙ ap (put out start) (rw (table-next n f, records-joined letter ws (table n f) (f n ∷ [])) last) where
        last : records_bytes letter ws (table n f) ++ record_bytes letter ws (f n) ≡ records_bytes letter ws (table n f) ++ records_bytes letter ws (f n ∷ [])
        last = unfold records_bytes in rw (append-nil (record_bytes letter ws (f n)))

pub sheet-head : (hs : List ℕ) (letter : ℕ) (ws out : List ℕ) (n : ℕ) (f : ℕ → List ℕ) → length hs ≤ length out
    → put (sheet (length hs) letter ws out n f) 0 hs ≡ put out 0 (hs ++ records_bytes letter ws (table n f))
unfolding sheet
sheet-head hs letter ws out n f h =
    let at-start : 0 + length hs ≡ length hs = omega arith in
    rw at-start at (put-ahead out 0 hs (records_bytes letter ws (table n f)) (omega arith))

module _ (start letter : ℕ) (ws out : List ℕ) (n : ℕ) (f : ℕ → List ℕ) (j : ℕ)
    (full : (i : ℕ) → length (f i) ≡ length ws) (known : j < length ws) (room : start ≤ length out) where
  pub sheet-cell-with : (k x : ℕ) (g : ℕ → List ℕ) → k < n → g k ≡ set (f k) j x → Below n (λ i. (i ≡ k → ⊥) → g i ≡ f i)
      → with_cell (field_of start ws j) k x (sheet start letter ws out n f) ≡ sheet start letter ws out n g
  unfolding with_cell sheet
  sheet-cell-with k x g l here others =
      let lines = records_bytes letter ws (table n f) in
      let place = k * record_size ws + (2 + span (take j ws)) in
      let long : length lines ≡ n * record_size ws = lines-length letter ws n f full in
      let below : suc k * record_size ws ≤ n * record_size ws = mul-le-mul_right (record_size ws) l in
      rw (add_assoc start (k * record_size ws) (2 + span (take j ws)))
      (put-within out start lines place (number_bytes (at ws j) x) room (omega (arith, number-length (at ws j) x, span-part ws j known))
      ∙ ap (put out start)
      (records-with letter ws (table n f) j k x (full-table ws n f full) known (omega (arith, table-length n f))
      ∙ rw (table_at [] n f k l, ← here, table-with [] n f g k l others)))

  pub sheet-cell-of : (k : ℕ) → k < n → at (f k) j < 256 ^ at ws j → cell (field_of start ws j) (sheet start letter ws out n f) k ≡ at (f k) j
  unfolding sheet
  sheet-cell-of k l fits =
      let lines = records_bytes letter ws (table n f) in
      let place = k * record_size ws + (2 + span (take j ws)) in
      let long : length lines ≡ n * record_size ws = lines-length letter ws n f full in
      let below : suc k * record_size ws ≤ n * record_size ws = mul-le-mul_right (record_size ws) l in
      let this : get_or (table n f) k [] ≡ f k = table_at [] n f k l in
      rw (add_assoc start (k * record_size ws) (2 + span (take j ws)))
      (number-within (at ws j) out start lines place room (omega (arith, span-part ws j known))
      ∙ records_is letter ws (table n f) j k (full-table ws n f full) known (omega (arith, table-length n f)) (rw this fits)
      ∙ ap (λ (xs : List ℕ). at xs j) this)

  pub sheet-of : Below n (λ i. at (f i) j < 256 ^ at ws j) → column_of (field_of start ws j) n (sheet start letter ws out n f) ≡ table n (λ i. at (f i) j)
  unfolding column_of
  sheet-of fits =
      table_same n (cell (field_of start ws j) (sheet start letter ws out n f)) (λ i. at (f i) j) (λ i l. sheet-cell-of i l (fits i l))

-- a stage that has come to record m and puts one cell there
pub sheet-turn : (start letter : ℕ) (ws out : List ℕ) (n : ℕ) (f g : ℕ → List ℕ) (j : ℕ) → ((i : ℕ) → length (f i) ≡ length ws)
    → ((i : ℕ) → length (g i) ≡ length ws) → j < length ws → start ≤ length out → (m x : ℕ) → m < n → g m ≡ set (f m) j x
    → with_cell (field_of start ws j) m x (sheet start letter ws out n (up_to m g f)) ≡ sheet start letter ws out n (up_to (m + 1) g f)
sheet-turn start letter ws out n f g j hf hg known room m x l here =
    sheet-cell-with start letter ws out n (up_to m g f) j (up_to-full (length ws) m g f hg hf) known room m x (up_to (m + 1) g f) l
    (up_to-done (m + 1) g f m (omega arith) ∙ rw (up_to-left m g f m (omega arith)) here)
    (λ i q ne. ⊎_elim
    (λ (p : i < m). up_to-done (m + 1) g f i (omega arith) ∙ sym (up_to-done m g f i p))
    (λ (p : m ≤ i). up_to-left (m + 1) g f i (omega arith) ∙ sym (up_to-left m g f i p))
    (lt-or-le i m))

-- the records with the numbers of a column in field j
abbrev changed : (ℕ → List ℕ) → ℕ → List ℕ → ℕ → List ℕ
changed f j xs i = set (f i) j (at xs i)

module _ (start letter : ℕ) (ws out : List ℕ) (n : ℕ) (f : ℕ → List ℕ) (j : ℕ) (xs : List ℕ)
    (full : (i : ℕ) → length (f i) ≡ length ws) (known : j < length ws) (room : start ≤ length out) where
  sheet-cells : (m : ℕ) → m ≤ n
      → with_cells (field_of start ws j) m xs (sheet start letter ws out n f) ≡ sheet start letter ws out n (up_to m (changed f j xs) f)
  unfolding with_cells
  sheet-cells zero l = sheet-same start letter ws out n f (up_to 0 (changed f j xs) f) (λ i q. sym (up_to-left 0 (changed f j xs) f i (omega arith)))
  sheet-cells (suc m) l =
      ap (with_cell (field_of start ws j) m (at xs m)) (sheet-cells m (omega arith))
      ∙ (rw (add-one m) at (sheet-turn start letter ws out n f (changed f j xs) j full (λ i. length-set (f i) j (at xs i) ∙ full i) known
      room m (at xs m) l refl))

  pub sheet-with : length xs ≡ n
      → with_column (field_of start ws j) xs (sheet start letter ws out n f) ≡ sheet start letter ws out n (λ i. set (f i) j (at xs i))
  unfolding with_column
  sheet-with e =
      rw e
      (sheet-cells n (omega arith)
      ∙ sheet-same start letter ws out n (up_to n (changed f j xs) f) (changed f j xs) (up_to-done n (changed f j xs) f))

pub cell-length : (f : Field) (i x : ℕ) (s : List ℕ) → cell_at f i + f.width ≤ length s → length (with_cell f i x s) ≡ length s
unfolding with_cell
cell-length f i x s h = put-length s (cell_at f i) (number_bytes f.width x) (omega (arith, number-length f.width x))

-- the cell of record i lies within the records of which it is one
pub cell_room : (f : Field) (n i : ℕ) (s : List ℕ) → Lined f n s → i < n → cell_at f i + f.width ≤ length s
cell_room f n i s r l = omega (arith, r.inside, r.room, mul-le-mul_right f.stride l)

pub cells-length : (f : Field) (n m : ℕ) (xs s : List ℕ) → Lined f n s → m ≤ n → length (with_cells f m xs s) ≡ length s
unfolding with_cells
cells-length f n zero xs s r l = refl
cells-length f n (suc m) xs s r l =
    let before : length (with_cells f m xs s) ≡ length s = cells-length f n m xs s r (omega arith) in
    cell-length f m (at xs m) (with_cells f m xs s) (omega (arith, cell_room f n m s r l)) ∙ before

pub column-length : (f : Field) (xs s : List ℕ) → Lined f (length xs) s → length (with_column f xs s) ≡ length s
unfolding with_column
column-length f xs s r = cells-length f (length xs) (length xs) xs s r (omega arith)

-- putting the first m cells of a column leaves the cells of later records alone, whatever the list holds
pub cell-later : (f g : Field) (n : ℕ) (xs s : List ℕ) (m i : ℕ) → f.start ≡ g.start → f.stride ≡ g.stride → Lined f n s → m ≤ i → i < n
    → cell g (with_cells f m xs s) i ≡ cell g s i
unfolding with_cells with_cell
cell-later f g n xs s zero i start stride r le l = refl
cell-later f g n xs s (suc m) i start stride r le l =
    let before = with_cells f m xs s in
    let most = mul-le-mul_right f.stride le in
    let long = cells-length f n m xs s r (omega arith) in
    let far = ap (λ (x : ℕ). i * x) stride in
    let there = cell_room f n m s r (omega arith) in
    number_same g.width (with_cell f m (at xs m) before) before (cell_at g i) (cell_at g i)
    (λ k q. put-after before (cell_at f m) (number_bytes f.width (at xs m)) (cell_at g i + k) 0 (omega (arith, long, there))
    (omega (arith, far, start, most, r.inside, number-length f.width (at xs m))))
    ∙ cell-later f g n xs s m i start stride r (omega arith) l

-- two cells, of which one ends before the other begins, may be put in either order
pub cells-apart : (f g : Field) (i j x y : ℕ) (s : List ℕ) → cell_at g j + g.width ≤ cell_at f i → cell_at f i ≤ length s
    → with_cell f i x (with_cell g j y s) ≡ with_cell g j y (with_cell f i x s)
unfolding with_cell
cells-apart f g i j x y s before inside =
    put-apart s (cell_at g j) (cell_at f i) (number_bytes g.width y) (number_bytes f.width x) (omega (arith, number-length g.width y)) inside
