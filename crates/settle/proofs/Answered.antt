-- The engine's answer and buffer by what the code has found out; as theorems about any files they are in `demands` (Demand1).
--   files-stop, room-stop, none-stop     which check comes first, by the files' verdict and the buffer's length
--   settle-numbers             every check gives a number of refusal
--   accepted-free              no check of the files applies to an accepted pair, and it has as many rows as its head says
--   settled-count              a statement of n rows has 40 + 42n bytes, and 9 more with terms
--   told                       the verdict that was matched on
--   refusal-told, refusal-left     the files are refused: the answer, and the buffer
--   short-told, short-left         the buffer is too short: the same
--   written-told, written-left     the statement is written: the same
--   few-rows, head-there, form-there     an accepted pair has at most 256 rows, and a head
--   lined-long                 lines leave the buffer as long as it was
--   behind, head-over          lines written into a part of the buffer; then the head in front of them
use Prim.Native.Nat.{ℕ, ◌+◌, ◌-◌, ◌≤◌, ◌<◌}
use mathlib.Core.Path.{◌≡◌, refl, sym, ap, ◌∙◌}
use mathlib.Core.Bool.{true, false}
use mathlib.Core.List.{List, [], ◌++◌, append-nil}
use native.Mathlib.Omega.{arith}
use lib.ListN.{length, take, drop, length-drop, drop_of_length-le, take-append-drop}
use lib.Seq.{take_all, length-take-le}
use borrow.Author.Tests.{lt-ltb, le-ltb}
use Rattle.columns.specs.Checks.{Refusal, refusal, first_refusal, numbers_in, last_number}
use Rattle.columns.proofs.Checks.{append-first, append-next, numbers-append}
use Rattle.columns.specs.Table.{table}
use Rattle.records.specs.Buffer.{put}
use Rattle.records.specs.Record.{records_bytes}
use Rattle.records.proofs.Buffer.{put_right}
use Rattle.records.specs.Sheet.{sheet}
use Rattle.records.proofs.Sheet.{sheet-length, sheet-head}
use Rattle.files.specs.Layout.{head_size, row_count}
use Rattle.files.specs.Form.{form_of, rows_from}
use Rattle.files.specs.declared.Form.{Form}
use Rattle.files.specs.Order.{file_order, file_fault, verdict_of}
use Rattle.files.specs.Verdict.{Accepted, Refused}
use Rattle.files.proofs.Answer.{accepted-of, refused-of, file-numbers}
use Rattle.files.proofs.Laws.{accepted-few, accepted-long, accepted-whole, accepted-count}
use Rattle.statement.specs.Statement.{letter_l, line_widths, line_start, extra_of, top_bytes}
use Rattle.statement.specs.Statement as statement
use Rattle.statement.specs.declared.StatementHead.{StatementHead}
use Rattle.statement.proofs.Laws.{top-length, statement-length}
use Rattle.settle.specs.Statement.{statement_bytes}
use Rattle.settle.specs.Answer.{top_of, line_in, statement_of, size_of, room_order, settle_order, answer_of, buffer_after}
use Rattle.settle.specs.Work.{lined, lined_behind}

-- ---- the files first, then the buffer

module _ (s k : List ℕ) (room : ℕ) where
  buffer-next : (file_fault s k).applies ≡ false → first_refusal (settle_order s k room) ≡ first_refusal (room_order s room)
  unfolding settle_order
  buffer-next = append-next (file_order s k) (room_order s room)

  pub settle-numbers : numbers_in 1 last_number (settle_order s k room) ≡ true
  unfolding settle_order
  settle-numbers = numbers-append 1 last_number (file_order s k) (room_order s room) (file-numbers s k) refl

  pub accepted-free : (n : ℕ) → verdict_of s k ≡ Accepted n → ((file_fault s k).applies ≡ false) × (row_count s ≡ n)
  unfolding verdict_of
  accepted-free n ok = accepted-of (row_count s) n (file_fault s k) ok

  pub files-stop : (a p : ℕ) → verdict_of s k ≡ Refused a p → first_refusal (settle_order s k room) ≡ refusal true a p
  unfolding verdict_of settle_order
  files-stop a p refused =
      let is = refused-of (row_count s) a p (file_fault s k) refused in
      append-first (file_order s k) (room_order s room) (ap (λ (r : Refusal). r.applies) is) ∙ is

  pub room-stop : (n : ℕ) → verdict_of s k ≡ Accepted n → room < size_of s → first_refusal (settle_order s k room) ≡ refusal true 11 0
  unfolding first_refusal
  room-stop n ok short = buffer-next (accepted-free n ok).0 ∙ rw (lt-ltb room (size_of s) short)

  pub none-stop : (n : ℕ) → verdict_of s k ≡ Accepted n → size_of s ≤ room → (first_refusal (settle_order s k room)).applies ≡ false
  unfolding first_refusal
  none-stop n ok enough = ap (λ (r : Refusal). r.applies) (buffer-next (accepted-free n ok).0) ∙ rw (le-ltb room (size_of s) enough) refl

-- a line has eleven fields
pub line-full : (s k : List ℕ) (i : ℕ) → length (line_in s k i) ≡ 11
unfolding line_in
line-full s k i = refl

pub settled-count : (s k : List ℕ) → length (statement_of s k) ≡ size_of s
unfolding statement_of statement_bytes
settled-count s k = statement-length (form_of s) (top_of s k) (row_count s) (line_in s k) (line-full s k)

-- ---- as the code meets them

module _ (s k out : List ℕ) (a p : ℕ) (stop : first_refusal (settle_order s k (length out)) ≡ refusal true a p) where
  refused : Refused a p ≡ answer_of s k (length out)
  unfolding answer_of
  refused = rw stop

  unchanged : out ≡ buffer_after s k out
  unfolding buffer_after
  unchanged = rw stop

module _ (s k out : List ℕ) (a p : ℕ) (e : verdict_of s k ≡ Refused a p) where
  first : first_refusal (settle_order s k (length out)) ≡ refusal true a p
  first = files-stop s k (length out) a p e

  pub refusal-told : Refused a p ≡ answer_of s k (length out)
  refusal-told = refused s k out a p first

  pub refusal-left : out ≡ buffer_after s k out
  refusal-left = unchanged s k out a p first

-- the size that the code has is the statement's
module _ (s k out : List ℕ) (n size : ℕ) (f : Form) (ok : verdict_of s k ≡ Accepted n) (form : f ≡ form_of s)
    (made : size ≡ extra_of f.stated + line_start n) where
  is : size ≡ size_of s
  is = made ∙ (λ j. extra_of (form j).stated + line_start (sym (accepted-free s k (length out) n ok).1 j))

  pub short-told : length out < size → Refused 11 0 ≡ answer_of s k (length out)
  short-told short = refused s k out 11 0 (room-stop s k (length out) n ok (rw is at short))

  pub short-left : length out < size → out ≡ buffer_after s k out
  short-left short = unchanged s k out 11 0 (room-stop s k (length out) n ok (rw is at short))

  none : size ≤ length out → (first_refusal (settle_order s k (length out))).applies ≡ false
  none room = none-stop s k (length out) n ok (rw is at room)

  pub written-told : size ≤ length out → Accepted size ≡ answer_of s k (length out)
  unfolding answer_of
  written-told room = rw (none room, is)

  pub written-left : (after : List ℕ) → size ≤ length out → after ≡ put out 0 (statement_of s k) → after ≡ buffer_after s k out
  unfolding buffer_after
  written-left after room written = rw (none room) written

pub few-rows : (s k : List ℕ) (n : ℕ) → verdict_of s k ≡ Accepted n → n ≤ 256
few-rows s k n ok = accepted-few s k n ok

pub head-there : (s k : List ℕ) (n : ℕ) → verdict_of s k ≡ Accepted n → head_size ≤ length s
head-there s k n ok = accepted-long s k n ok

pub form-there : (s k : List ℕ) (n : ℕ) → verdict_of s k ≡ Accepted n → rows_from s ≤ length s
form-there s k n ok = accepted-whole s k n ok

-- ---- lines, then the head

-- lines leave the buffer as long as it was
pub lined-long : (s k : List ℕ) (n : ℕ) (out t : List ℕ) → line_start n ≤ length out → t ≡ lined out n (line_in s k) → length t ≡ length out
lined-long s k n out t room made =
    ap length made ∙ sheet-length statement.head_size letter_l line_widths out n (line_in s k) (line-full s k) room

pub behind : (s k : List ℕ) (n : ℕ) (f : Form) (out part : List ℕ) (extra : ℕ) → extra_of f.stated + line_start n ≤ length out
    → extra ≡ extra_of f.stated → part ≡ lined (take (length out - extra) (drop extra out)) n (line_in s k)
    → take extra out ++ (part ++ drop (length out - extra) (drop extra out)) ≡ lined_behind (extra_of f.stated) out n (line_in s k)
unfolding sheet
behind s k n f out part extra room e told =
    let all : take (length out - extra) (drop extra out) ≡ drop extra out = take_all (length out - extra) (drop extra out) (omega (arith, length-drop extra out)) in
    let made : part ≡ lined (drop extra out) n (line_in s k) = rw all at told in
    let none : drop (length out - extra) (drop extra out) ≡ [] = drop_of_length-le (drop extra out) {i = length out - extra} (omega (arith, length-drop extra out)) in
    let lines = records_bytes letter_l line_widths (table n (line_in s k)) in
    rw (none, append-nil part, ← e, made)
    (sym (put_right (take extra out) (drop extra out) extra statement.head_size lines (length-take-le extra out (omega arith)))
    ∙ ap (λ (x : List ℕ). put x (extra + statement.head_size) lines) (take-append-drop extra out))

-- the head goes over what stands in front of the lines
pub head-over : (s k : List ℕ) (n : ℕ) (f : Form) (out : List ℕ) (top : StatementHead) (t after : List ℕ)
    → extra_of f.stated + line_start n ≤ length out → verdict_of s k ≡ Accepted n → f ≡ form_of s → top ≡ top_of s k
    → t ≡ lined_behind (extra_of f.stated) out n (line_in s k) → after ≡ put t 0 (top_bytes f top) → after ≡ put out 0 (statement_of s k)
unfolding statement_of statement_bytes
head-over s k n f out top t after room ok form told lines over =
    let long = top-length f top in
    let made : put (lined_behind (extra_of f.stated) out n (line_in s k)) 0 (top_bytes f top)
    ≡ put out 0 (top_bytes f top ++ records_bytes letter_l line_widths (table n (line_in s k))) =
    rw long at (sheet-head (top_bytes f top) letter_l line_widths out n (line_in s k) (omega (arith, long, room))) in
    over ∙ ap (λ (x : List ℕ). put x 0 (top_bytes f top)) lines ∙ made
    ∙ (λ j. put out 0 (top_bytes (form j) (told j) ++ records_bytes letter_l line_widths (table (accepted-count s k n ok j) (line_in s k))))
