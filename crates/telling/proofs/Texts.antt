-- Texts put into a buffer one after the other.
--   placed-none    no text yet
--   placed-after   one text more, right behind the first
--   placed-front   a text put at the start is the buffer's front
use mathlib.Core.Path.{◌≡◌, sym, ap, ◌∙◌}
use mathlib.Core.List.{List, [], ◌++◌}
use Prim.Native.Nat.{ℕ, ◌+◌, ◌≤◌}
use native.Mathlib.Omega.{arith}
use lib.ListN.{length, take, length-append}
use Rattle.records.specs.Buffer.{put}
use Rattle.records.proofs.Buffer.{put-none, put-put, take_put}
use Rattle.telling.specs.Text.{Placed}

pub placed-none : (l : List ℕ) (from : ℕ) → Placed l l from [] from 0
placed-none l from = record { bytes = sym (put-none l from); end_is = omega arith; fits = omega arith }

pub placed-after : (l l' l'' a b : List ℕ) (from at end m n most : ℕ) → from ≤ length l → m + n ≤ most
    → Placed l l' from a at m → Placed l' l'' at b end n → Placed l l'' from (a ++ b) end most
placed-after l l' l'' a b from at end m n most room few p q =
    record {
      bytes = q.bytes ∙ ap (λ (t : List ℕ). put t at b) p.bytes ∙ put-put l from at a b p.end_is room;
      end_is = omega (arith, q.end_is, p.end_is, length-append a b);
      fits = omega (arith, q.fits, p.fits);
    }

pub placed-front : (l l' t : List ℕ) (end most : ℕ) → Placed l l' 0 t end most → take end l' ≡ t
placed-front l l' t end most p = rw (p.bytes, p.end_is) (take_put l 0 t (omega arith))
