-- The row that counts, found by a walk: for one id, and for all rows side by side.
--   none-there, part-is      a count and a row's bytes, as the code reads them
--   theirs-of, own-of, under_none                 what a walk over an accepted pair asks for at its start
--   named-theirs, named-own, named_none           the bytes of an id's row
--   Sourced                                       how far the column of sources has come; sourced-none, -next, -ends: its steps
--   part-row                                      a row is read from its bytes alone
--   own-source, their-source, source_in           the bytes that count, by the row's source
use mathlib.Core.Path.{◌≡◌, refl, sym, ◌∙◌}
use mathlib.Core.Logic.{◌⊎◌, inl, inr, ⊎_elim}
use Prim.Native.Nat.{ℕ, ◌+◌, ◌-◌, ◌*◌, ◌≤◌, ◌<◌}
use mathlib.Core.Bool.{Bool, true, false, not, cond}
use mathlib.Core.List.{List, [], ◌∷◌}
use native.Mathlib.Nat.{add-zero}
use native.Mathlib.Omega.{arith}
use lib.Dec.{eqb, ltb}
use lib.ListN.{length, take, drop, set, length-drop, take-append-drop}
use lib.Seq.{length-take-le}
use borrow.Author.Tests.{lt-ltb, ltb-true, not-false}
use Rattle.columns.specs.Table.{table}
use Rattle.records.specs.Buffer.{put}
use Rattle.columns.proofs.Table.{table-length, table-next}
use Rattle.records.proofs.Buffer.{put-length, put-none, put-put, set-put}
use Rattle.records.proofs.Record.{record-drop, record-front}
use Rattle.columns.proofs.First.{left-true}
use Rattle.columns.proofs.Sum.{lt-or-le}
use Rattle.files.specs.Layout.{head_size, row_size, correction_head_size, row_widths, row_at, correction_start, row_count, correction_count}
use Rattle.files.specs.Form.{terms_size, rows_from, row_start}
use Rattle.files.specs.Walk.{id_of, own_id, find_id, in_correction, Rows, Under, Sought}
use Rattle.files.specs.Order.{file_fault, verdict_of}
use Rattle.files.specs.Counting.{part, named, counting_bytes, source_of, counting_row, Shows}
use Rattle.files.specs.Verdict.{Verdict, Accepted, Refused}
use Rattle.files.proofs.Answer.{refused-of}
use Rattle.files.proofs.Passed.{from-most}
use Rattle.files.proofs.Found.{has, found-yes, found-no}
use Rattle.files.proofs.Accepted.{accepted-passes, accepted-count, accepted-few, accepted-rows, accepted-corrected}

pub none-there : (k : List ℕ) (m : ℕ) → Rows k correction_head_size row_size m → length k < correction_head_size → 0 ≡ m
none-there k m r l = ⊎_elim (λ (p : 0 < m). absurd (omega (arith, r.inside 0 p))) (λ (p : m ≤ 0). omega arith) (lt-or-le 0 m)

pub part-is : (s : List ℕ) (at size : ℕ) → take (at + size - at) (drop at s) ≡ part size s at
part-is s at size = let e : at + size - at ≡ size = omega arith in rw e

-- what an accepted pair gives a walk over the correction
module _ (s k : List ℕ) (n m : ℕ) (h : verdict_of s k ≡ Accepted n) (count : m ≡ correction_count k) where
  pub theirs-of : Rows k correction_head_size row_size m
  theirs-of = rw count (accepted-corrected s k n h).rows

  pub few-of : m ≤ 256
  few-of = rw count (accepted-corrected s k n h).few

pub under_none : (s : List ℕ) (start size id : ℕ) → Under s start size 0 id
under_none s start size id x l = absurd (omega arith)

-- a test that row r is there and has the id
module _ (s : List ℕ) (start size n r id : ℕ) (b : Bool) (told : b ≡ has s start size n r id) where
  pub has-below : b ≡ true → r < n
  has-below e = ltb-true r n (left-true (ltb r n) (eqb (id_of s start size r) id) (sym told ∙ e))

  pub has-told : not b ≡ false → r < n
  has-told e = has-below (not-false b e)

-- the search's answer, by a test of the row where the walk stopped
module _ (s : List ℕ) (start size n id r : ℕ) (b : Bool) (rows : Rows s start size n) (w : Sought s start size n id r)
    (told : b ≡ has s start size n r id) where
  at_row : b ≡ true → (find_id s start size n id ≡ r) × (ltb r n ≡ true)
  at_row e = (found-yes s start size n id r rows w (sym told ∙ e), lt-ltb r n (has-below s start size n r id b told e))

  at_none : b ≡ false → ltb (find_id s start size n id) n ≡ false
  at_none e = found-no s start size n id r rows w (sym told ∙ e)

module _ (s k : List ℕ) (n m id j : ℕ) (b : Bool) (r : List ℕ) (h : verdict_of s k ≡ Accepted n) (count : m ≡ correction_count k)
    (w : Sought k correction_head_size row_size m id j) (told : b ≡ has k correction_head_size row_size m j id) where
  pub named-theirs : b ≡ true → r ≡ part row_size k (correction_start j) → r ≡ named s k id
  unfolding named
  named-theirs e p =
      let is = at_row k correction_head_size row_size m id j b (theirs-of s k n m h count) w told e in rw (← count, is.0, is.1) p

  not-theirs : b ≡ false → ltb (in_correction k id) (correction_count k) ≡ false
  not-theirs e = rw (← count) (at_none k correction_head_size row_size m id j b (theirs-of s k n m h count) w told e)

  module _ (start i : ℕ) (d : Bool) (from : start ≡ rows_from s) (v : Sought s start row_size n id i) (said : d ≡ has s start row_size n i id) where
    rows : Rows s start row_size n
    rows = rw from (accepted-rows s k n h)

    pub named-own : b ≡ false → d ≡ true → r ≡ part row_size s (start + i * row_size) → r ≡ named s k id
    unfolding named
    named-own e f p =
        let is = at_row s start row_size n id i d rows v said f in
        rw (not-theirs e, ← accepted-count s k n h, ← from, is.0, is.1) p

    pub named_none : b ≡ false → d ≡ false → r ≡ [] → r ≡ named s k id
    unfolding named
    named_none e f p =
        rw (not-theirs e, ← accepted-count s k n h, ← from, at_none s start row_size n id i d rows v said f) p

module _ (s k : List ℕ) (id : ℕ) (v : Verdict) (e : v ≡ verdict_of s k) where
  pub counting-named : (n : ℕ) (r : List ℕ) → v ≡ Accepted n → r ≡ named s k id → r ≡ counting_bytes s k id
  unfolding counting_bytes
  counting-named n r h p = rw (accepted-passes s k n (sym e ∙ h)) p

  pub counting-none : (a p : ℕ) → v ≡ Refused a p → [] ≡ counting_bytes s k id
  unfolding counting_bytes verdict_of
  counting-none a p h = rw (refused-of (row_count s) a p (file_fault s k) (sym e ∙ h))

pub source_is : (s k : List ℕ) (m i j id v : ℕ) → Rows k correction_head_size row_size m → m ≡ correction_count k → Sought k correction_head_size row_size m id j
    → id ≡ own_id s i → v ≡ cond (has k correction_head_size row_size m j id) (j + 1) 0 → v ≡ source_of s k i
unfolding source_of
source_is s k m i j id v rows count w e p = rw (← count, ← e) (go (has k correction_head_size row_size m j id) refl) where
  go : (t : Bool) → t ≡ has k correction_head_size row_size m j id
      → v ≡ cond (ltb (find_id k correction_head_size row_size m id) m) (find_id k correction_head_size row_size m id + 1) 0
  go true q = let is = at_row k correction_head_size row_size m id j true rows w q refl in rw (is.0, is.1) (rw (← q) at p)
  go false q = rw (at_none k correction_head_size row_size m id j false rows w q refl) (rw (← q) at p)

pub record Sourced (s k : List ℕ) (n m : ℕ) (out₀ out : List ℕ) (i j : ℕ) : Type 0 where
  pub short : i ≤ n
  pub within : j ≤ m
  pub next : i < n → Under k correction_head_size row_size j (own_id s i)
  pub is : out ≡ put out₀ 0 (table i (source_of s k))

pub sourced-none : (s k : List ℕ) (n m : ℕ) (out : List ℕ) → Sourced s k n m out out 0 0
unfolding table
sourced-none s k n m out =
    record { short = omega arith; within = omega arith; next = λ l x o. absurd (omega arith); is = sym (put-none out 0) }

-- one store more in front of what is still as it was
store-next : (out₀ out : List ℕ) (i v : ℕ) (f : ℕ → ℕ) → out ≡ put out₀ 0 (table i f) → i < length out₀ → v ≡ f i
    → set out i v ≡ put out₀ 0 (table (i + 1) f)
store-next out₀ out i v f e l p =
    let n : length (table i f) ≡ i = table-length i f in
    let keeps : length (put out₀ 0 (table i f)) ≡ length out₀ = put-length out₀ 0 (table i f) (omega arith) in
    rw (e, p, table-next i f)
    (set-put (put out₀ 0 (table i f)) i (f i) (omega arith) ∙ put-put out₀ 0 i (table i f) (f i ∷ []) (omega arith) (omega arith))

module _ (s k : List ℕ) (n m : ℕ) (out₀ out : List ℕ) (i j : ℕ) (t : Sourced s k n m out₀ out i j) where
  pub under-sourced : (start id : ℕ) → start ≡ rows_from s → i < n → id ≡ id_of s start row_size i → Under k correction_head_size row_size j id
  under-sourced start id from l e = rw (e, from) (t.next l)

  pub sourced-next : (start r id v : ℕ) → start ≡ rows_from s → verdict_of s k ≡ Accepted n → m ≡ correction_count k → length out₀ ≡ 256
      → i < n → id ≡ id_of s start row_size i → Sought k correction_head_size row_size m id r
      → v ≡ cond (has k correction_head_size row_size m r id) (r + 1) 0 → Sourced s k n m out₀ (set out i v) (i + 1) r
  sourced-next start r id v from h count long l g w p =
      let e : id ≡ own_id s i = g ∙ rw from in
      let is = source_is s k m i r id v (theirs-of s k n m h count) count w e p in
      record {
        short = omega arith;
        within = w.short;
        next = λ o x q. omega (arith, w.under x q, (accepted-rows s k n h).rising i (i + 1) (omega arith) o);
        is = store-next out₀ out i v (source_of s k) t.is (omega (arith, accepted-few s k n h)) is;
      }

  pub sourced-ends : n ≤ i → out ≡ put out₀ 0 (table n (source_of s k))
  sourced-ends l = let e : i ≡ n = omega (arith, t.short) in rw e at t.is

-- ---- the row that counts, by its source

part-row : (s : List ℕ) (at : ℕ) → at + row_size ≤ length s → Shows (part row_size s at) (row_at s at)
unfolding row_at
part-row s at l =
    let long : length (part row_size s at) ≡ row_size = length-take-le row_size (drop at s) (omega (arith, length-drop at s)) in
    let front = record-front row_widths (part row_size s at) (drop row_size (drop at s)) 0 (omega arith) in
    record { long = long; is = rw (← front, take-append-drop row_size (drop at s), record-drop row_widths s at 0, add-zero at) }

module _ (s k : List ℕ) (i v : ℕ) (e : v ≡ source_of s k i) where
  abbrev j : ℕ
  j = in_correction k (own_id s i)

  abbrev Unnamed : Type 0
  Unnamed = (ltb j (correction_count k) ≡ false) × (v ≡ 0)

  abbrev Named : Type 0
  Named = (ltb j (correction_count k) ≡ true) × (v ≡ j + 1)

  -- the correction does not name row i, or it does so in a row of its own
  either : Unnamed ⊎ Named
  unfolding source_of
  either = go (ltb j (correction_count k)) refl where
    go : (t : Bool) → ltb j (correction_count k) ≡ t → Unnamed ⊎ Named
    go true q = inr (q, e ∙ rw q)
    go false q = inl (q, e ∙ rw q)

  pub own-source : (start n : ℕ) (p : List ℕ) → verdict_of s k ≡ Accepted n → start ≡ rows_from s → i < n → v ≡ 0
      → p ≡ part row_size s (start + i * row_size) → Shows p (counting_row s k i)
  unfolding counting_row
  own-source start n p h from l z is =
      ⊎_elim (λ (w : Unnamed). rw (w.0, is, from) (part-row s (row_start s i) ((accepted-rows s k n h).inside i l)))
      (λ (w : Named). absurd (omega (arith, w.1))) either

  module _ (named : v ≡ 0 → ⊥) where
    source_in : v - 1 < correction_count k
    source_in =
        ⊎_elim (λ (w : Unnamed). absurd (named w.1)) (λ (w : Named). omega (arith, w.1, ltb-true j (correction_count k) w.0)) either

    pub their-in : (n : ℕ) → verdict_of s k ≡ Accepted n → correction_start (v - 1) + row_size ≤ length k
    their-in n h = (accepted-corrected s k n h).rows.inside (v - 1) source_in

    pub their-source : (n : ℕ) (p : List ℕ) → verdict_of s k ≡ Accepted n → p ≡ part row_size k (correction_start (v - 1)) → Shows p (counting_row s k i)
    unfolding counting_row
    their-source n p h is =
        ⊎_elim (λ (w : Unnamed). absurd (named w.1))
        (λ (w : Named). let g : v - 1 ≡ j = omega (arith, w.1) in
        rw (w.0, ← g, is) (part-row k (correction_start (v - 1)) (their-in n h))) either

pub own-small : (s k : List ℕ) (n i : ℕ) → verdict_of s k ≡ Accepted n → i < n → i < 256
own-small s k n i h l = omega (arith, accepted-few s k n h)

-- where a file's rows begin, as a number that the code has
module _ (s k : List ℕ) (start n : ℕ) (h : verdict_of s k ≡ Accepted n) (from : start ≡ rows_from s) where
  pub own-near : start ≤ head_size + terms_size
  own-near = omega (arith, from-most s)

  pub own-found : Rows s start row_size n
  own-found = rw from (accepted-rows s k n h)

  pub own_in : (i : ℕ) → i < n → start + i * row_size + row_size ≤ length s
  own_in i l = rw from ((accepted-rows s k n h).inside i l)
