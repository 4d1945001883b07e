-- Two fields of the sheet read, or written, line by line.
--   ReadTo             how far the reading loop has come; read_none, read-inside, read-one-room, read-two-room, read_next, read_one, read-two:
--                      its start, what a line asks, a turn, its end
--   WrittenTo          how far the writing loop has come; written_none, written-inside, written-one-room, written-two-room, written_next,
--                      written_all: the same of it
--   counted-turn, counted-end     what a turn over two columns side by side, counted, has before it, and how many turns there are
--   both, former, latter     two fields of four bytes side by side, and each of them
--   side_by_side       numbers put into two fields of four bytes as one: they stand in the first, and 0 in the second
use Prim.Native.Nat.{ℕ, zero, suc, ◌+◌, ◌*◌, ◌/◌, ◌%◌, ◌^◌, ◌≤◌, ◌<◌}
use mathlib.Core.Path.{◌≡◌, refl, sym, ap, ◌∙◌}
use mathlib.Core.List.{List, ◌∷◌, ◌++◌}
use native.Mathlib.Nat.{mul-le-mul_right}
use native.Mathlib.Numerals.{add-one}
use native.Mathlib.Omega.{arith}
use denote.Ref.{Bor}
use lib.ListN.{length, get_or, set}
use Rattle.std.proofs.Common.{Iter, None, Some}
use Rattle.std.specs.List.{zip, enumerate_from}
use Rattle.std.specs.Iterator.{Yields}
use Rattle.std.specs.Iterator.Adapters.{enumerate_source, enumerate_count, enumerate_steps, zip_first, zip_second}
use Rattle.std.specs.Slice.Iter.{iter_rest}
use Rattle.std.specs.declared.iter.Enumerate.{Enumerate}
use Rattle.std.specs.declared.iter.Zip.{Zip}
use Rattle.std.proofs.iter.Yields.{fronts}
use Rattle.std.proofs.lemmas.Iterator.{YieldsList, zips, YieldsList-from_slice, YieldsList-from_zip}
use Rattle.std.proofs.lemmas.Iterator.Consumers.{YieldsList-from_enumerate, YieldsList-turn, YieldsList-end}
use Rattle.std.proofs.lemmas.List.FromFn.{length-enumerate_from, get_or-enumerate_from}
use Rattle.std.proofs.lemmas.Slice.Zip.{length-zip, get_or-zip}
use Rattle.std.proofs.lemmas.Option.{get_or_from_slice_get, slice_get-get_or}
use Rattle.columns.specs.Table.{at}
use Rattle.columns.proofs.Fill.{Reached, reached-none, reached-next}
use Rattle.records.specs.Buffer.{put}
use Rattle.records.specs.Number.{number_bytes}
use Rattle.records.specs.declared.Field.{Field}
use Rattle.records.specs.Sheet.{cell_at, cell, column_of, with_cell, with_cells, with_column, Lined}
use Rattle.records.proofs.Buffer.{put-put}
use Rattle.records.proofs.Number.{number-length}
use Rattle.records.proofs.Sheet.{cell_room, cell-length, cells-apart, cells-length}
use Rattle.records.proofs.Column.{read-room, read_all}
use Rattle.settle.specs.Work.{Ruled, SameLines}

-- ---- reading

pub record ReadTo (one two : Field) (s fs₀ gs₀ fs gs : List ℕ) (i : ℕ) : Type 0 where
  pub level : length gs₀ ≡ length fs₀
  pub first : Reached 0 (cell one s) fs₀ fs i
  pub second : Reached 0 (cell two s) gs₀ gs i

pub read_none : (one two : Field) (s fs gs : List ℕ) → length gs ≡ length fs → ReadTo one two s fs gs fs gs 0
read_none one two s fs gs e = record { level = e; first = reached-none 0 (cell one s) fs; second = reached-none 0 (cell two s) gs }

module _ (one two : Field) (s fs₀ gs₀ fs gs : List ℕ) (i : ℕ) (r : ReadTo one two s fs₀ gs₀ fs gs i) where
  pub read-inside : i < length fs₀ → i < length gs
  read-inside l = omega (arith, r.level, r.first.room, r.second.room)

  pub read-one-room : Ruled (length fs₀) one s → i < length fs₀ → cell_at one i + one.width ≤ length s
  read-one-room ruled l = read-room one s fs₀ fs i r.first ruled.lined (omega (arith, r.first.room))

  pub read-two-room : Ruled (length gs₀) two s → i < length fs₀ → cell_at two i + two.width ≤ length s
  read-two-room ruled l = read-room two s gs₀ gs i r.second ruled.lined (read-inside l)

  pub read_next : (x y : ℕ) → i < length fs₀ → x ≡ cell one s i → y ≡ cell two s i → ReadTo one two s fs₀ gs₀ (set fs i x) (set gs i y) (i + 1)
  read_next x y l e f =
      record {
        level = r.level;
        first = reached-next 0 (cell one s) fs₀ fs i x r.first (omega (arith, r.first.room)) e;
        second = reached-next 0 (cell two s) gs₀ gs i y r.second (read-inside l) f;
      }

  pub read_one : length fs₀ ≤ i → fs ≡ column_of one (length fs₀) s
  read_one l = read_all one s fs₀ fs i r.first (omega (arith, r.first.room))

  pub read-two : length fs₀ ≤ i → gs ≡ column_of two (length gs₀) s
  read-two l = read_all two s gs₀ gs i r.second (omega (arith, r.level, r.first.room, r.second.room))

-- ---- writing

-- a cell of line i and cells of the lines before it may be put in either order
cell-past : (one two : Field) → SameLines one two → (n i x : ℕ) (ys s : List ℕ) (m : ℕ) → Lined one n s → Lined two n s → i < n → m ≤ i
    → with_cell one i x (with_cells two m ys s) ≡ with_cells two m ys (with_cell one i x s)
unfolding with_cells
cell-past one two same n i x ys s zero lined1 lined2 l le = refl
cell-past one two same n i x ys s (suc m) lined1 lined2 l le =
    let far = ap (λ (k : ℕ). i * k) same.stride in
    cells-apart one two i m x (at ys m) (with_cells two m ys s)
    (omega (arith, same.start, far, mul-le-mul_right two.stride le, lined2.inside))
    (omega (arith, cells-length two n m ys s lined2 (omega arith), cell_room one n i s lined1 l))
    ∙ ap (with_cell two m (at ys m)) (cell-past one two same n i x ys s m lined1 lined2 l (omega arith))

pub record WrittenTo (one two : Field) (xs ys s₀ s : List ℕ) (i : ℕ) : Type 0 where
  pub within : i ≤ length xs
  pub level : length ys ≡ length xs
  pub long : length s ≡ length s₀
  pub is : s ≡ with_cells two i ys (with_cells one i xs s₀)

pub written_none : (one two : Field) (xs ys s : List ℕ) → length ys ≡ length xs → WrittenTo one two xs ys s s 0
unfolding with_cells
written_none one two xs ys s e = record { within = omega arith; level = e; long = refl; is = refl }

module _ (one two : Field) (xs ys s₀ s : List ℕ) (i : ℕ) (r : WrittenTo one two xs ys s₀ s i) where
  pub written-inside : i < length xs → i < length ys
  written-inside l = omega (arith, r.level)

  pub written_all : length xs ≤ i → s ≡ with_column two ys (with_column one xs s₀)
  unfolding with_column
  written_all l =
      let e : length xs ≡ i = omega (arith, r.within) in
      let f : length ys ≡ i = omega (arith, r.within, r.level) in rw (e, f) r.is

  module _ (lined1 : Lined one (length xs) s₀) (l : i < length xs) where
    pub written-one-room : cell_at one i + one.width ≤ length s
    written-one-room = omega (arith, r.long, cell_room one (length xs) i s₀ lined1 l)

    module _ (x : ℕ) (s1 : List ℕ) (put1 : s1 ≡ with_cell one i x s) (lined2 : Lined two (length ys) s₀) where
      s1-long : length s1 ≡ length s₀
      s1-long = rw put1 (cell-length one i x s written-one-room ∙ r.long)

      pub written-two-room : cell_at two i + two.width ≤ length s1
      written-two-room = omega (arith, s1-long, cell_room two (length ys) i s₀ lined2 (written-inside l))

      pub written_next : SameLines one two → x ≡ at xs i → (y : ℕ) → y ≡ at ys i → (s2 : List ℕ) → s2 ≡ with_cell two i y s1
          → WrittenTo one two xs ys s₀ s2 (i + 1)
      unfolding with_cells
      written_next same e y f s2 put2 =
          let t = with_cells one i xs s₀ in
          let t-long : length t ≡ length s₀ = cells-length one (length xs) i xs s₀ lined1 (omega arith) in
          let level2 : Lined two (length xs) s₀ = rw (← r.level) lined2 in
          let past =
          cell-past one two same (length xs) i x ys t i (record { inside = lined1.inside; room = omega (arith, lined1.room, t-long) })
          (record { inside = level2.inside; room = omega (arith, level2.room, t-long) }) l (omega arith) in
          record {
            within = omega arith;
            level = r.level;
            long = rw put2 (cell-length two i y s1 written-two-room ∙ s1-long);
            is =
                rw add-one
                (put2 ∙ ap (with_cell two i y) (put1 ∙ ap (with_cell one i x) r.is ∙ past)
                ∙ (λ j. with_cell two i (f j) (with_cells two i ys (with_cell one i (e j) t))));
          }

-- ---- two columns side by side, counted

any-default : (xs : List ℕ) (i d e : ℕ) → i < length xs → get_or xs i d ≡ get_or xs i e
any-default xs i d e l = get_or_from_slice_get xs i (get_or xs i e) d (slice_get-get_or xs i e l)

module _ (xs ys : List ℕ) (level : length ys ≡ length xs) where
  beside-long : length (enumerate_from 0 (zip xs ys)) ≡ length xs
  beside-long = omega (arith, length-enumerate_from 0 (zip xs ys), length-zip xs ys)

  beside : (m : ℕ) (p : ℕ × (ℕ × ℕ)) → m < length (enumerate_from 0 (zip xs ys)) → p ≡ get_or (enumerate_from 0 (zip xs ys)) m p
      → (m < length xs) × (p.0 ≡ m) × (p.1.0 ≡ at xs m) × (p.1.1 ≡ at ys m)
  beside m p l is =
      let inside : m < length xs = omega (arith, beside-long) in
      let beyond : m < length ys = omega (arith, beside-long) in
      let e : p ≡ (0 + m, (get_or xs m p.1.0, get_or ys m p.1.1)) =
      is ∙ get_or-enumerate_from 0 (zip xs ys) m p (omega (arith, length-enumerate_from 0 (zip xs ys)))
      ∙ ap (λ (q : ℕ × ℕ). (0 + m, q)) (get_or-zip xs ys m p.1 inside beyond) in (
        inside,
        omega (arith, ap (λ (q : ℕ × (ℕ × ℕ)). q.0) e),
        ap (λ (q : ℕ × (ℕ × ℕ)). q.1.0) e ∙ any-default xs m p.1.0 0 inside,
        ap (λ (q : ℕ × (ℕ × ℕ)). q.1.1) e ∙ any-default ys m p.1.1 0 beyond,
      )

  module _ (s : Enumerate (Zip (Iter ℕ) (Iter ℕ))) (first : iter_rest (zip_first (enumerate_source s)) ≡ xs)
      (second : iter_rest (zip_second (enumerate_source s)) ≡ ys) (none : enumerate_count s ≡ 0) where
    road : YieldsList (enumerate_steps (zips fronts fronts)) (λ p. (p.0, (p.1.0.now, p.1.1.now))) s (enumerate_from 0 (zip xs ys))
    road = YieldsList-from_enumerate (YieldsList-from_zip (YieldsList-from_slice xs first) (YieldsList-from_slice ys second)) none

    module _ (yielded : List (ℕ × (Bor ℕ × Bor ℕ))) (t u : Enumerate (Zip (Iter ℕ) (Iter ℕ)))
        (so-far : Yields (enumerate_steps (zips fronts fronts)) s yielded t) where
      pub counted-turn : (i : ℕ) (x y : Bor ℕ) → enumerate_steps (zips fronts fronts) t (Some (i, (x, y))) u
          → (length yielded < length xs) × (i ≡ length yielded) × (x.now ≡ at xs (length yielded)) × (y.now ≡ at ys (length yielded))
      counted-turn i x y step =
          let turn = YieldsList-turn road yielded t so-far (Some (i, (x, y))) u (i, (x, y)) refl step in
          beside (length yielded) (i, (x.now, y.now)) turn.0 turn.1

      pub counted-end : enumerate_steps (zips fronts fronts) t None u → length xs ≤ length yielded
      counted-end step = omega (arith, beside-long, (YieldsList-end road yielded t so-far None u refl step).1)

-- ---- two fields side by side as one

-- small numbers in eight bytes are four bytes of theirs and four of 0
eight : (x : ℕ) → x < 2 ^ 32 → number_bytes 8 x ≡ number_bytes 4 x ++ number_bytes 4 0
unfolding number_bytes
eight x l =
    let e : x / 256 / 256 / 256 / 256 ≡ 0 = omega arith in
    ap (λ (y : ℕ). (x % 256) ∷ (x / 256 % 256) ∷ (x / 256 / 256 % 256) ∷ (x / 256 / 256 / 256 % 256) ∷ number_bytes 4 y) e

module _ (start stride offset : ℕ) where
  abbrev pub both : Field
  both = record { start = start; stride = stride; offset = offset; width = 8 }

  abbrev pub former : Field
  former = record { start = start; stride = stride; offset = offset; width = 4 }

  abbrev pub latter : Field
  latter = record { start = start; stride = stride; offset = offset + 4; width = 4 }

  side-cell : (i x : ℕ) (s : List ℕ) → x < 2 ^ 32 → cell_at both i + 8 ≤ length s → with_cell both i x s ≡ with_cell latter i 0 (with_cell former i x s)
  unfolding with_cell
  side-cell i x s l there =
      ap (put s (cell_at both i)) (eight x l)
      ∙ sym (put-put s (cell_at both i) (cell_at latter i) (number_bytes 4 x) (number_bytes 4 0) (omega (arith, number-length 4 x)) (omega arith))

  module _ (n : ℕ) (xs zs s : List ℕ) (lined : Lined both n s) (small : (i : ℕ) → at xs i < 2 ^ 32) (zero-all : (i : ℕ) → at zs i ≡ 0) where
    side-cells : (m : ℕ) → m ≤ n → with_cells both m xs s ≡ with_cells latter m zs (with_cells former m xs s)
    unfolding with_cells
    side-cells zero l = refl
    side-cells (suc m) l =
        let u = with_cells former m xs s in
        let t = with_cells latter m zs u in
        let u-long : length u ≡ length s =
        cells-length former n m xs s (record { inside = omega (arith, lined.inside); room = lined.room }) (omega arith) in
        let lined1 : Lined former n u = record { inside = omega (arith, lined.inside); room = omega (arith, u-long, lined.room) } in
        let lined2 : Lined latter n u = record { inside = omega (arith, lined.inside); room = omega (arith, u-long, lined.room) } in
        let t-long : length t ≡ length s = cells-length latter n m zs u lined2 (omega arith) ∙ u-long in
        ap (with_cell both m (at xs m)) (side-cells m (omega arith))
        ∙ side-cell m (at xs m) t (small m) (omega (arith, t-long, cell_room both n m s lined l))
        ∙ (λ j. with_cell latter m (sym (zero-all m) j)
        (cell-past former latter (record { start = refl; stride = refl }) n m (at xs m) zs u m lined1 lined2 l (omega arith) j))

  pub side_by_side : (xs zs s : List ℕ) → Lined both (length xs) s → length zs ≡ length xs → ((i : ℕ) → at xs i < 2 ^ 32)
      → ((i : ℕ) → at zs i ≡ 0) → with_column both xs s ≡ with_column latter zs (with_column former xs s)
  unfolding with_column
  side_by_side xs zs s lined level small zero-all = rw level (side-cells (length xs) xs zs s lined small zero-all (length xs) (omega arith))
