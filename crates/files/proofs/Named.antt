-- Checks 8 to 10 as the code makes them: a correction by itself, its time, and its rows beside the interval's.
--   Beside                     how far the walk over both files has come; beside_none, -next, -stops, -ends: its steps
--   under-beside               what the walk has passed in the interval lies below the correction's next id
--   starts-short, starts-told      tests on what was read
--   bad-start, bad-row, good-rows, bad-time, good-time   8 by head and length, 8 by a row, 9, then 10
--   own-refused, alone, paired      1 to 7 and 14 first; then nothing more without a correction, else 8 to 10
--   own-accepted, own-long, own-whole, own_at      an interval that passed 1 to 7 and 14: what it gives the code
use mathlib.Core.Path.{◌≡◌, refl, sym, ap, ◌∙◌}
use Prim.Native.Nat.{ℕ, ◌+◌, ◌≤◌, ◌<◌}
use mathlib.Core.Bool.{Bool, true, false, not, cond, ◌&&◌}
use mathlib.Core.List.{List, []}
use native.Mathlib.Omega.{arith}
use lib.Dec.{eqb, leb}
use lib.ListN.{length}
use borrow.Author.Tests.{not-true, not-false, eq-eqb, ne_eqb, eqb-true, le-leb, lt-leb}
use Rattle.columns.specs.Checks.{Refusal, refusal, first_refusal, placed, row_by_row, renumbered}
use Rattle.columns.proofs.First.{left-true, right-true}
use Rattle.columns.proofs.Checks.{Passes, append-first, append-next, append-passes, passes-placed, answer-no, answer-yes}
use Rattle.columns.proofs.Checks.{rows_none, rows_next, rows-stop, renumbered-told, renumbered-passes}
use Rattle.records.specs.Record.{marked}
use Rattle.files.specs.Layout.{head_size, row_size, correction_head_size, letter_k, row_at, correction_start, correction_head_at}
use Rattle.files.specs.Layout.{row_count, correction_count}
use Rattle.files.specs.Form.{terms_of, form_of, rows_from}
use Rattle.files.specs.declared.Form.{Form}
use Rattle.files.specs.Range.{correction_head_ok}
use Rattle.files.specs.Walk.{id_of, Rows, Own, Theirs, Under, Sought}
use Rattle.files.specs.Order.{head_checks, rows_order, own_order, their_order, interval_order, interval_fault, correction_starts, correction_order, same_time}
use Rattle.files.specs.Order.{corrects, name_checks, beside_order, present_order, file_order, verdict, verdict_of}
use Rattle.files.specs.declared.CorrectionHead.{CorrectionHead}
use Rattle.files.specs.declared.Row.{Row}
use Rattle.files.specs.declared.Terms.{Terms}
use Rattle.files.specs.Verdict.{Verdict, Accepted, Refused}
use Rattle.files.proofs.Answer.{accepted-of, refused-of}
use Rattle.files.proofs.Passed.{HeadPassed, from-least, head_passed, rows-sound}
use Rattle.files.proofs.Found.{matches, corrects-sought}

-- ---- 10

pub record Beside (s k : List ℕ) (start n m i j : ℕ) : Type 0 where
  pub short : j ≤ m
  pub within : i ≤ n
  pub next : j < m → Under s start row_size i (id_of k correction_head_size row_size j)
  pub passes : Passes (row_by_row j (name_checks s k))

pub beside_none : (s k : List ℕ) (start n m : ℕ) → Beside s k start n m 0 0
beside_none s k start n m =
    record { short = omega arith; within = omega arith; next = λ l x o. absurd (omega arith); passes = rows_none (name_checks s k) }

pub under-beside : (s k : List ℕ) (start n m i j : ℕ) (row : Row) → Beside s k start n m i j → j < m → row ≡ row_at k (correction_start j)
    → Under s start row_size i row.id
under-beside s k start n m i j row b l e = rw e (b.next l)

module _ (s k : List ℕ) (start n m i j r : ℕ) (row : Row) (t : Bool) (b : Beside s k start n m i j) (l : j < m)
    (is_row : row ≡ row_at k (correction_start j)) (own : Own s n) (from : start ≡ rows_from s) (theirs : Theirs k m)
    (w : Sought s start row_size n row.id r) (told : t ≡ matches s start n r row) where
  corrected : corrects s (row_at k (correction_start j)) ≡ t
  corrected = rw (← is_row) (corrects-sought s start n r row from own w ∙ sym told)

  pub beside-next : not t ≡ false → Beside s k start n m r (j + 1)
  unfolding name_checks
  beside-next e =
      record {
        short = omega arith;
        within = w.short;
        next = λ o x p. omega (arith, w.under x p, ap (λ (q : Row). q.id) is_row, theirs.rows.rising j (j + 1) (omega arith) o);
        passes = rows_next (name_checks s k) j tt b.passes (rw (corrected, not-false t e));
      }

  pub beside-stops : not t ≡ true → Refused 10 (j + 1) ≡ verdict n (first_refusal (row_by_row m (name_checks s k)))
  unfolding name_checks
  beside-stops e =
      sym (answer-no Refused (Accepted n) _ _ _
      (rows-stop (name_checks s k) m j 10 l b.passes (rw (corrected, not-true t e)) (λ z. absurd (omega arith))))

pub beside-ends : (s k : List ℕ) (start n m i j : ℕ) → Beside s k start n m i j → m ≤ j
    → Accepted n ≡ verdict n (first_refusal (row_by_row m (name_checks s k)))
beside-ends s k start n m i j b l =
    let e : j ≡ m = omega (arith, b.short) in
    sym (answer-yes Refused (Accepted n) _ (rw e at b.passes))

-- ---- 9, then 10

module _ (s k : List ℕ) (n : ℕ) (b : Bool) (told : b ≡ same_time s k) where
  pub bad-time : not b ≡ true → Refused 9 0 ≡ verdict n (first_refusal (beside_order s k))
  unfolding beside_order first_refusal
  bad-time h = let f : same_time s k ≡ false = sym told ∙ not-true b h in rw f

  pub good-time : (m : ℕ) (v : Verdict) → not b ≡ false → Theirs k m → v ≡ verdict n (first_refusal (row_by_row m (name_checks s k)))
      → v ≡ verdict n (first_refusal (beside_order s k))
  unfolding beside_order first_refusal
  good-time m v h theirs p = let f : same_time s k ≡ true = sym told ∙ not-false b h in rw (f, ← theirs.told) p

-- ---- 8, then 9 and 10

pub starts-short : (k : List ℕ) → length k < correction_head_size → false ≡ correction_starts k
unfolding correction_starts
starts-short k l = rw (lt-leb correction_head_size (length k) l)

pub starts-told : (k : List ℕ) (a b : Bool) (h : CorrectionHead) (n : ℕ) → correction_head_size ≤ length k → a ≡ marked k 0 letter_k
    → h ≡ correction_head_at k → b ≡ correction_head_ok h → n ≡ correction_count k
    → (a && b && eqb (length k) (correction_start n)) ≡ correction_starts k
unfolding correction_starts
starts-told k a b h n l e f g i = rw (le-leb correction_head_size (length k) l, ← f, ← g, e, i)

module _ (k : List ℕ) (e : correction_starts k ≡ true) where
  pub starts-long : length k ≡ correction_start (correction_count k)
  unfolding correction_starts
  starts-long =
      let front = leb correction_head_size (length k) && marked k 0 letter_k && correction_head_ok (correction_head_at k) in
      eqb-true _ _ (right-true front _ e)

  pub starts-ok : correction_head_ok (correction_head_at k) ≡ true
  unfolding correction_starts
  starts-ok =
      let front = leb correction_head_size (length k) && marked k 0 letter_k in
      right-true front _ (left-true (front && correction_head_ok (correction_head_at k)) _ e)

module _ (k : List ℕ) (b : Bool) (told : b ≡ correction_starts k) (h : not b ≡ false) where
  starts : correction_starts k ≡ true
  starts = sym told ∙ not-false b h

  pub correction-there : correction_head_size ≤ length k
  correction-there = omega (arith, starts-long k starts)

  module _ (m : ℕ) (count : m ≡ correction_count k) where
    pub theirs-there : correction_start m ≤ length k
    theirs-there = omega (arith, starts-long k starts)

    module _ (t : Terms) (v : Verdict) (rows : v ≡ verdict m (first_refusal (rows_order t k correction_head_size row_size m))) where
      pub theirs-sound : (a : ℕ) → v ≡ Accepted a → Theirs k m
      theirs-sound a q =
          record {
            long = correction-there;
            told = count;
            rows = rows-sound t k correction_head_size row_size m (accepted-of m a _ (sym rows ∙ q)).0 (omega arith) theirs-there;
          }

      module _ (s : List ℕ) (n : ℕ) (f : Form) (read : f ≡ form_of s) (same : t ≡ f.terms) where
        terms : t ≡ terms_of s
        terms = same ∙ ap (λ (x : Form). x.terms) read

        pub bad-row : (a p : ℕ) → v ≡ Refused a p → Refused 8 p ≡ verdict n (first_refusal (present_order s k))
        unfolding present_order correction_order first_refusal
        bad-row a p q =
            let is : first_refusal (their_order (terms_of s) k) ≡ refusal true a p =
            rw (← terms, ← count) (refused-of m a p _ (sym rows ∙ q)) in
            let eight = renumbered-told 8 a p (their_order (terms_of s) k) is in
            rw (
              starts,
              append-first (renumbered 8 (their_order (terms_of s) k)) (beside_order s k)
                  (ap (λ (r : Refusal). r.applies) eight),
              eight,
            )

        pub good-rows : (a : ℕ) (w : Verdict) → v ≡ Accepted a → w ≡ verdict n (first_refusal (beside_order s k))
            → w ≡ verdict n (first_refusal (present_order s k))
        unfolding present_order correction_order first_refusal
        good-rows a w q p =
            let passes : Passes (their_order (terms_of s) k) =
            rw (← terms, ← count) (accepted-of m a _ (sym rows ∙ q)).0 in
            rw (
              starts,
              append-next (renumbered 8 (their_order (terms_of s) k)) (beside_order s k)
                  (renumbered-passes 8 _ passes),
            ) p

pub bad-start : (s k : List ℕ) (n : ℕ) (b : Bool) → b ≡ correction_starts k → not b ≡ true
    → Refused 8 0 ≡ verdict n (first_refusal (present_order s k))
unfolding present_order correction_order first_refusal
bad-start s k n b e h = let f : correction_starts k ≡ false = sym e ∙ not-true b h in rw f

-- ---- what an interval that passed gives the code

pub own-long : (s : List ℕ) (n : ℕ) → Own s n → head_size ≤ length s
own-long s n own = omega (arith, own.long, from-least s)

pub own-whole : (s : List ℕ) (n : ℕ) → Own s n → rows_from s ≤ length s
own-whole s n own = own.long

pub own_at : (s : List ℕ) (start n : ℕ) → start ≡ rows_from s → Own s n → Rows s start row_size n
own_at s start n from own = rw from own.rows

-- ---- 1 to 7 and 14, then the correction if there is one

module _ (s : List ℕ) (h : Passes (interval_order s)) where
  own-parts : Passes (placed 0 (head_checks s)) × Passes (own_order s)
  unfolding interval_order
  own-parts = append-passes (placed 0 (head_checks s)) (own_order s) h

  pub own-head : HeadPassed s
  own-head = head_passed s (passes-placed 0 (head_checks s) own-parts.0)

  pub own-rows : Passes (own_order s)
  own-rows = own-parts.1

  pub passed-own : Own s (row_count s)
  passed-own =
      record {
        long = own-head.whole;
        told = refl;
        rows = rows-sound (terms_of s) s (rows_from s) row_size (row_count s) own-rows (omega arith) (omega (arith, own-head.fits));
      }

module _ (s : List ℕ) (v : Verdict) (e : v ≡ verdict (row_count s) (interval_fault s)) where
  pub own-accepted : (n : ℕ) → v ≡ Accepted n → Own s n
  own-accepted n h =
      let both = accepted-of (row_count s) n (interval_fault s) (sym e ∙ h) in
      rw (← both.1) (passed-own s both.0)

  module _ (k : List ℕ) where
    pub own-refused : (a p : ℕ) → v ≡ Refused a p → Refused a p ≡ verdict_of s k
    unfolding verdict_of file_order
    own-refused a p h =
        let is = refused-of (row_count s) a p (interval_fault s) (sym e ∙ h) in
        sym (answer-no Refused (Accepted (row_count s)) _ _ _
        (append-first (interval_order s) (cond (eqb (length k) 0) [] (present_order s k)) (ap (λ (r : Refusal). r.applies) is) ∙ is))

    -- what is left of the checks once 1 to 7 and 14 have passed
    rest : (n : ℕ) → v ≡ Accepted n → verdict_of s k ≡ verdict n (first_refusal (cond (eqb (length k) 0) [] (present_order s k)))
    unfolding verdict_of file_order
    rest n h =
        let both = accepted-of (row_count s) n (interval_fault s) (sym e ∙ h) in
        rw (both.1, append-next (interval_order s) (cond (eqb (length k) 0) [] (present_order s k)) both.0)

    pub alone : (n : ℕ) → v ≡ Accepted n → length k ≡ 0 → Accepted n ≡ verdict_of s k
    unfolding first_refusal
    alone n h l = sym (rest n h ∙ rw (eq-eqb (length k) 0 l))

    pub paired : (n : ℕ) (w : Verdict) → v ≡ Accepted n → (length k ≡ 0 → ⊥)
        → w ≡ verdict n (first_refusal (present_order s k)) → w ≡ verdict_of s k
    paired n w h l p = p ∙ sym (rest n h ∙ rw (ne_eqb (length k) 0 l))
