-- Both forms of file in one engine (02, request 6): a PH file means document 01's terms. Restated as a PG file that states them, it gets
--   restated-verdict     the same answer to the files, refused or not
--   restated-figures     the same figures
--   restated-lines       the same lines, byte by byte
--   restated-top         and a head that says the same, besides the terms
--   restated-statement   so the statement is the lines of the other behind a head PT
use Prim.Native.Nat.{ℕ, ◌+◌, ◌-◌, ◌*◌, ◌≤◌}
use mathlib.Core.Path.{◌≡◌, refl, sym, ap, ◌∙◌}
use mathlib.Core.Bool.{Bool, true, false, not, cond, ◌&&◌}
use mathlib.Core.List.{List, [], ◌∷◌, ◌++◌}
use native.Mathlib.Nat.{add_assoc}
use native.Mathlib.Omega.{arith}
use lib.Dec.{eqb, ltb, lit<}
use lib.ListN.{length, take, drop, get_or, length-append, length-drop, take-append-drop}
use lib.Seq.{length-take-le, get_or-drop, drop_at, drop-drop}
use borrow.Author.Tests.{eq-eqb, ne_eqb, eqb-true, eqb-false, le-ltb}
use Rattle.columns.specs.Checks.{check, refusal, first_refusal, placed, row_by_row, previous}
use Rattle.columns.specs.Sum.{find_to}
use Rattle.columns.specs.Table.{table}
use Rattle.columns.proofs.First.{right-true, and-false}
use Rattle.records.specs.Record.{letter_p, marked, record_at, fields_at, records_bytes}
use Rattle.records.proofs.Record.{fields-length, fields_read, fields-behind, record-drop, record-front}
use Rattle.files.specs.Layout.{head_widths, head_size, row_size, row_widths, letter_r, head_of, row_of, head_at, row_at, correction_head_at}
use Rattle.files.specs.Layout.{row_count, correction_count, correction_start}
use Rattle.files.specs.Terms.{terms01, baseline}
use Rattle.files.specs.Form.{letter_h, letter_g, terms_widths, terms_size, terms_fields, terms_from, terms_at, terms_bytes, known, states, terms_of, form_of, rows_from, row_start}
use Rattle.files.specs.Range.{head_ok, terms_ok}
use Rattle.files.specs.Walk.{has_id, find_id, in_correction}
use Rattle.files.specs.Order.{front_checks, head_checks, row_checks, row_checks_at, row_checks_of, interval_order, correction_order, same_time, alike, corrects}
use Rattle.files.specs.Order.{name_checks, beside_order, present_order, file_order, verdict, verdict_of}
use Rattle.files.specs.Counting.{counting_row}
use Rattle.files.specs.declared.Head.{Head}
use Rattle.duties.specs.Average.{average_of, base_of}
use Rattle.duties.specs.Duties.{duties_of}
use Rattle.statement.specs.Statement.{letter_l, line_widths, top_bytes}
use Rattle.settle.specs.Settlement.{first_turn, figures}
use Rattle.settle.specs.Statement.{statement_head, line_of, statement_bytes}
use Rattle.settle.specs.Answer.{average_in, duties_in, figures_of, top_of, line_in, statement_of}
use Rattle.demands.specs.Promise.{restated, lines_of}

module _ (s : List ℕ) (plain : marked s 0 letter_h ≡ true) (whole : head_size ≤ length s) where
  abbrev g : List ℕ
  g = restated s

  -- the head's bytes, those of the terms, and the rows
  abbrev front : List ℕ
  front = letter_p ∷ letter_g ∷ take (head_size - 2) (drop 2 s)

  abbrev rows : List ℕ
  rows = drop head_size s

  front_long : length front ≡ head_size
  front_long = omega (arith, length-take-le (head_size - 2) (drop 2 s) (omega (arith, length-drop 2 s)))

  terms-long : length (terms_bytes terms01) ≡ terms_size
  unfolding terms_bytes
  terms-long = fields-length terms_widths (terms_fields terms01) refl

  -- what stands behind the head of the one stands so many bytes later in the other
  tails : drop (head_size + terms_size) g ≡ rows
  unfolding restated
  tails =
      sym (drop-drop terms_size head_size (front ++ (terms_bytes terms01 ++ rows)))
      ∙ ap (drop terms_size) (drop_at front (terms_bytes terms01 ++ rows) head_size front_long)
      ∙ drop_at (terms_bytes terms01) rows terms_size terms-long

  later : (ws : List ℕ) (i : ℕ) → record_at ws g (head_size + terms_size + i) ≡ record_at ws s (head_size + i)
  later ws i =
      sym (record-drop ws g (head_size + terms_size) i) ∙ ap (λ (x : List ℕ). record_at ws x i) tails ∙ record-drop ws s head_size i

  mark-shift : (x : List ℕ) (n i letter : ℕ) → marked (drop n x) i letter ≡ marked x (n + i) letter
  mark-shift x n i letter = rw (get_or-drop n x i 0, get_or-drop n x (i + 1) 0, add_assoc n i 1)

  mark-later : (i letter : ℕ) → marked g (head_size + terms_size + i) letter ≡ marked s (head_size + i) letter
  mark-later i letter =
      sym (mark-shift g (head_size + terms_size) i letter) ∙ ap (λ (x : List ℕ). marked x i letter) tails ∙ mark-shift s head_size i letter

  long : length g ≡ length s + terms_size
  unfolding restated
  long =
      omega (
        arith,
        length-append front (terms_bytes terms01 ++ rows),
        length-append (terms_bytes terms01) rows,
        front_long,
        terms-long,
        length-drop head_size s,
      )

  -- ---- the one states no terms, the other document 01's

  unstated : states s ≡ false
  unfolding states
  unstated =
      let letter : get_or s 1 0 ≡ letter_h = eqb-true (get_or s 1 0) letter_h (right-true (eqb (get_or s 0 0) letter_p) (eqb (get_or s 1 0) letter_h) plain) in
      rw letter (and-false (eqb (get_or s 0 0) letter_p))

  stated : states g ≡ true
  unfolding states restated
  stated = refl

  from-plain : rows_from s ≡ head_size
  unfolding rows_from
  from-plain = rw unstated

  from-stated : rows_from g ≡ head_size + terms_size
  unfolding rows_from
  from-stated = rw stated

  terms-plain : terms_of s ≡ terms01
  unfolding terms_of
  terms-plain = rw unstated

  terms-stated : terms_of g ≡ terms01
  unfolding terms_of terms_at terms_bytes
  terms-stated = rw stated (ap terms_from read) where
    read : fields_at terms_widths g head_size ≡ terms_fields terms01
    read =
        rw (← front_long)
        (unfold restated in unfold terms_bytes in fields_read terms_widths (terms_fields terms01) front rows refl (lit< tt, (lit< tt, (lit< tt, (lit< tt, (lit< tt, tt))))))

  -- ---- head, terms and rows of both are the same

  head-same : head_at g ≡ head_at s
  unfolding head_at
  head-same = ap head_of (first ∙ second ∙ third) where
    body : List ℕ
    body = drop 2 s

    first : record_at head_widths g 0 ≡ record_at head_widths front 0
    first = unfold restated in record-front head_widths front (terms_bytes terms01 ++ rows) 0 (omega (arith, front_long))

    second : record_at head_widths front 0 ≡ record_at head_widths (letter_p ∷ letter_g ∷ body) 0
    second =
        sym (record-front head_widths front (drop (head_size - 2) body) 0 (omega (arith, front_long)))
        ∙ ap (λ (x : List ℕ). record_at head_widths (letter_p ∷ letter_g ∷ x) 0) (take-append-drop (head_size - 2) body)

    third : record_at head_widths (letter_p ∷ letter_g ∷ body) 0 ≡ record_at head_widths s 0
    third =
        unfold record_at in
        (fields-behind head_widths (letter_p ∷ letter_g ∷ []) body 2 0 refl
        ∙ sym (fields-behind head_widths (take 2 s) body 2 0 (length-take-le 2 s (omega arith)))
        ∙ ap (λ (x : List ℕ). fields_at head_widths x 2) (take-append-drop 2 s))

  terms-same : terms_of g ≡ terms_of s
  terms-same = terms-stated ∙ sym terms-plain

  row_same : (i : ℕ) → row_at g (row_start g i) ≡ row_at s (row_start s i)
  unfolding row_at
  row_same i = rw (from-stated, from-plain) (ap row_of (later row_widths (i * row_size)))

  mark-same : (i : ℕ) → marked g (row_start g i) letter_r ≡ marked s (row_start s i) letter_r
  mark-same i = rw (from-stated, from-plain) (mark-later (i * row_size) letter_r)

  -- ---- so is every check

  length-same : eqb (length g) (row_start g (row_count g)) ≡ eqb (length s) (row_start s (row_count s))
  length-same =
      let count : row_count g ≡ row_count s = ap (λ (h : Head). h.rows) head-same in
      rw (count, from-stated, from-plain, long) (go (eqb (length s) (head_size + row_count s * row_size)) refl) where
        go : (t : Bool) → eqb (length s) (head_size + row_count s * row_size) ≡ t
            → eqb (length s + terms_size) (head_size + terms_size + row_count s * row_size) ≡ t
        go true e = eq-eqb (length s + terms_size) (head_size + terms_size + row_count s * row_size) (omega (arith, eqb-true (length s) (head_size + row_count s * row_size) e))
        go false e = ne_eqb (length s + terms_size) (head_size + terms_size + row_count s * row_size) (λ (q : length s + terms_size ≡ head_size + terms_size + row_count s * row_size).
            eqb-false (length s) (head_size + row_count s * row_size) e (omega arith))

  short-same : ltb (length g) head_size ≡ ltb (length s) head_size
  short-same = le-ltb (length g) head_size (omega (arith, long)) ∙ sym (le-ltb (length s) head_size whole)

  own_same : ltb (length g) (rows_from g) ≡ ltb (length s) (rows_from s)
  own_same =
      le-ltb (length g) (rows_from g) (omega (arith, long, from-stated)) ∙ sym (le-ltb (length s) (rows_from s) (omega (arith, from-plain)))

  known_same : known g ≡ known s
  unfolding known restated
  known_same = rw plain

  checks-same : head_checks g ≡ head_checks s
  unfolding head_checks front_checks
  checks-same =
      λ j. check (short-same j) 1 ∷ check (not (known_same j)) 2 ∷ check (own_same j) 1 ∷ check (not (head_ok (head-same j))) 3
      ∷ check (not (terms_ok (terms-same j))) 14 ∷ check (not (length-same j)) 4 ∷ []

  order_same : interval_order g ≡ interval_order s
  unfolding interval_order row_checks_of row_checks_at
  order_same =
      λ j. placed 0 (checks-same j)
      ++ row_by_row (head-same j).rows
      (λ i. check (not (mark-same i j)) 5 ∷ row_checks (terms-same j) (row_same i j) (previous (λ x. (row_same x j).id) i))

  module _ (k : List ℕ) where
    beside_same : present_order g k ≡ present_order s k
    unfolding present_order beside_order name_checks same_time corrects find_id has_id
    beside_same =
        λ j. correction_order (terms-same j) k
        ++ (refusal
        (not (eqb (correction_head_at k).day (head-same j).day && eqb (correction_head_at k).quarter (head-same j).quarter)) 9 0
        ∷ row_by_row (correction_count k)
        (λ m.
        check
        (not
        (let r = row_at k (correction_start m) in
        let i = find_to (head-same j).rows (λ x. eqb (row_same x j).id r.id) in
        ltb i (head-same j).rows && alike (row_same i j) r))
        10
        ∷ []))

    pub restated-verdict : verdict_of (restated s) k ≡ verdict_of s k
    unfolding verdict_of file_order
    restated-verdict =
        λ j. verdict (head-same j).rows (first_refusal (order_same j ++ cond (eqb (length k) 0) [] (beside_same j)))

    -- ---- and every figure

    counting-same : (i : ℕ) → counting_row g k i ≡ counting_row s k i
    unfolding counting_row
    counting-same i =
        λ j. let m = in_correction k (row_same i j).id in
        cond (ltb m (correction_count k)) (row_at k (correction_start m)) (row_same i j)

    pub restated-average : average_in (restated s) k ≡ average_in s k
    unfolding average_in
    restated-average = λ j. average_of (terms-same j) (head-same j).need.0 (head-same j).rows (λ i. counting-same i j)

    pub restated-figures : figures_of (restated s) k ≡ figures_of s k
    unfolding figures_of duties_in
    restated-figures =
        λ j. figures (head-same j).need.0 (first_turn (head-same j).quarter (head-same j).rows)
        (duties_of (λ i. baseline (terms-same j) (counting-same i j).capacity)
        (λ i. base_of (terms-same j) (restated-average j) (counting-same i j).capacity) (head-same j).tariff.0 (head-same j).rows
        (λ i. counting-same i j))

    pub restated-top : top_of (restated s) k ≡ top_of s k
    unfolding top_of
    restated-top = λ j. statement_head (head-same j) (head-same j).rows (restated-average j).rules (restated-figures j)

    line_same : (i : ℕ) → line_in g k i ≡ line_in s k i
    unfolding line_in
    line_same i = λ j. line_of (counting-same i j).id (restated-figures j) i

    pub restated-lines : lines_of (restated s) k ≡ lines_of s k
    unfolding lines_of
    restated-lines = λ j. records_bytes letter_l line_widths (table (head-same j).rows (λ i. line_same i j))

    form-stated : form_of g ≡ record { stated = true; terms = terms01 }
    form-stated = λ j. record { stated = stated j; terms = terms-stated j }

    form-plain : form_of s ≡ record { stated = false; terms = terms01 }
    form-plain = λ j. record { stated = unstated j; terms = terms-plain j }

    pub restated-statement :
        (statement_of (restated s) k ≡ top_bytes (record { stated = true; terms = terms01 }) (top_of s k) ++ lines_of s k)
        × (statement_of s k ≡ top_bytes (record { stated = false; terms = terms01 }) (top_of s k) ++ lines_of s k)
    unfolding statement_of statement_bytes lines_of
    restated-statement = (
      λ j. top_bytes (form-stated j) (restated-top j) ++ restated-lines j,
      λ j. top_bytes (form-plain j) (top_of s k) ++ lines_of s k,
    )
