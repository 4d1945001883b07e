-- Numbers put into a buffer byte by byte, and a record's fields one after the other. A writing loop keeps what it still owes:
-- put behind what it has written, that makes the whole.
--   put_first                  a run put in two: its first element by a store, the others behind it
--   split-none, -next, -all    the loop over a number's bytes: its start, a turn, its end (record Split)
--   owed_none, -next, -all     the same of the loop over fields (record Owed); owed-room: the next one has room
use mathlib.Core.Path.{◌≡◌, refl, sym, ap, ◌∙◌}
use mathlib.Core.List.{List, [], ◌∷◌, ◌++◌}
use Prim.Native.Nat.{ℕ, suc, ◌+◌, ◌-◌, ◌/◌, ◌%◌, ◌≤◌, ◌<◌}
use native.Mathlib.Numerals.{add-one}
use native.Mathlib.Omega.{arith}
use lib.ListN.{length, drop, set, length-set}
use lib.Seq.{drop-cons, drop-length}
use borrow.Rule.Slice.PartMut.{put_mid}
use Rattle.columns.specs.Table.{at}
use Rattle.records.specs.Number.{number_bytes}
use Rattle.records.specs.Fields.{span, fields_bytes}
use Rattle.records.specs.Buffer.{put}
use Rattle.records.proofs.Number.{number-length}
use Rattle.records.proofs.Buffer.{put-length, put-none, put_whole, put-put, set-put, put-mid}

-- a run put in two: its first element by a store, the others behind it
pub put_first : (l : List ℕ) (k b : ℕ) (bs : List ℕ) → k < length l → put (set l k b) (k + 1) bs ≡ put l k (b ∷ bs)
put_first l k b bs h = rw (set-put l k b h) (put-put l k (k + 1) (b ∷ []) bs refl (omega arith))

-- the loop over a number's bytes l, as many as its width, before byte i: those from i on are still owed
pub record Split (width x : ℕ) (l : List ℕ) (left i : ℕ) : Type 0 where
  pub long : length l ≡ width
  pub whole : put l i (number_bytes (width - i) left) ≡ number_bytes width x

pub split-none : (width x : ℕ) (l : List ℕ) → length l ≡ width → Split width x l x 0
split-none width x l e =
    let all : width - 0 ≡ width = omega arith in
    record { long = e; whole = rw all (put_whole l (number_bytes width x) (number-length width x ∙ sym e)) }

module _ (width x : ℕ) (l : List ℕ) (left i : ℕ) (s : Split width x l left i) where
  pub split-next : i < length l → Split width x (set l i (left % 256)) (left / 256) (i + 1)
  unfolding number_bytes
  split-next h =
      let one : width - i ≡ suc (width - (i + 1)) = omega (arith, s.long) in
      record {
        long = length-set l i (left % 256) ∙ s.long;
        whole = put_first l i (left % 256) (number_bytes (width - (i + 1)) (left / 256)) h ∙ (rw one at s.whole);
      }

  split-done : length l ≤ i → l ≡ number_bytes width x
  unfolding number_bytes
  split-done h = let none : width - i ≡ 0 = omega (arith, s.long) in sym (put-none l i) ∙ (rw none at s.whole)

  pub split-all : (out : List ℕ) (at n : ℕ) → n ≡ width → length l ≤ i → put_mid at n out l ≡ put out at (number_bytes width x)
  split-all out at n e h = put-mid out l at n (e ∙ sym s.long) ∙ ap (put out at) (split-done h)

span_more : (ws : List ℕ) (i : ℕ) → i < length ws → span (drop i ws) ≡ at ws i + span (drop (i + 1) ws)
span_more ws i h = rw (add-one, drop-cons ws i 0)

-- the loop over fields before field i: those from i on are still owed, from `end` on
pub record Owed (out₀ : List ℕ) (k : ℕ) (ws xs out : List ℕ) (end i : ℕ) : Type 0 where
  pub within : i ≤ length ws
  pub long : length out ≡ length out₀
  pub ends : end + span (drop i ws) ≡ k + span ws
  pub whole : put out end (fields_bytes (drop i ws) (drop i xs)) ≡ put out₀ k (fields_bytes ws xs)

pub owed_none : (out₀ : List ℕ) (k : ℕ) (ws xs : List ℕ) → Owed out₀ k ws xs out₀ k 0
owed_none out₀ k ws xs = record { within = omega arith; long = refl; ends = refl; whole = refl }

module _ (out₀ : List ℕ) (k : ℕ) (ws xs out : List ℕ) (end i : ℕ) (o : Owed out₀ k ws xs out end i) where
  pub owed-room : (w : ℕ) → w ≡ at ws i → i < length ws → k + span ws ≤ length out₀ → end + w ≤ length out
  owed-room w is h room = omega (arith, o.long, o.ends, span_more ws i h)

  owed-rest : i < length ws → length xs ≡ length ws
      → put out end (number_bytes (at ws i) (at xs i) ++ fields_bytes (drop (i + 1) ws) (drop (i + 1) xs)) ≡ put out₀ k (fields_bytes ws xs)
  unfolding fields_bytes
  owed-rest h same =
      let in-xs : i < length xs = omega arith in
      rw add-one (rw (drop-cons ws i 0 h, drop-cons xs i 0 in-xs) at o.whole)

  pub owed-next : (out' : List ℕ) (w : ℕ) → w ≡ at ws i → out' ≡ put out end (number_bytes w (at xs i)) → i < length ws
      → length xs ≡ length ws → k + span ws ≤ length out₀ → Owed out₀ k ws xs out' (end + w) (i + 1)
  owed-next out' w is now h same room =
      let fits : end + at ws i ≤ length out = owed-room (at ws i) refl h room in
      let wide : length (number_bytes (at ws i) (at xs i)) ≡ at ws i = number-length (at ws i) (at xs i) in
      record {
        within = omega arith;
        long = rw (now, is) (put-length out end (number_bytes (at ws i) (at xs i)) (omega arith) ∙ o.long);
        ends = omega (arith, o.ends, span_more ws i h);
        whole =
            rw (now, is)
            (put-put out end (end + at ws i) (number_bytes (at ws i) (at xs i)) (fields_bytes (drop (i + 1) ws) (drop (i + 1) xs)) (omega arith) (omega arith)
            ∙ owed-rest h same);
      }

  pub owed_all : length ws ≤ i → out ≡ put out₀ k (fields_bytes ws xs)
  unfolding fields_bytes
  owed_all done =
      let e : i ≡ length ws = omega (arith, o.within) in
      sym (put-none out end) ∙ (rw (e, drop-length ws) at o.whole)
