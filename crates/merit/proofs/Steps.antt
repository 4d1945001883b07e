-- What the small steps of the code come to, each lemma in the shape of one need.
use Prim.Native.Nat.{ℕ, suc, ◌+◌, ◌*◌, ◌≤◌, ◌<◌, min, max}
use mathlib.Core.Path.{◌≡◌, refl, ap, sym, ◌∙◌}
use mathlib.Core.Logic.{◌⊎◌, ⊎_elim}
use mathlib.Core.Bool.{Bool, cond}
use mathlib.Core.List.{List, [], ◌∷◌}
use native.Mathlib.Numerals.{add-one}
use native.Mathlib.Omega.{arith}
use mir.Syntax.{w32}
use mir.Val.{Fits, bool_byte}
use lib.Dec.{ltb, eqb}
use lib.ListN.{length, set, drop, length-drop, drop_of_length-le}
use lib.Seq.{drop-cons}
use Rattle.columns.specs.Sum.{bit, sum_to, whole, count_to, max_to, max_where}
use Rattle.columns.specs.Table.{at, table}
use Rattle.columns.proofs.Sum.{lt-or-le, sum-next, sum_bound, bit_le, count_next, count_same, max-where-next}
use Rattle.columns.proofs.Listed.{one-is}
use Rattle.columns.proofs.Table.{table-length, table_at}
use Rattle.columns.proofs.Fill.{Reached, reached-none, reached-next, reached-all}
use Rattle.columns.proofs.Whole.{whole-table}
use Rattle.share.specs.Share.{shares}
use Rattle.share.specs.Split.{Splittable}
use Rattle.share.proofs.Laws.{shares-are-weights, shares-alone}
use Rattle.merit.specs.OneTier.{under, equal, below, group_in}
use Rattle.merit.specs.Price.{delivers, price}
use Rattle.merit.specs.Ready.{Columns}
use Rattle.merit.specs.Walk.{past, cheap_in, Room, parts_in, bands_in, Counts, alone}
use Rattle.merit.proofs.Keyed.{cond-le}
use Rattle.merit.proofs.OneTier.{below-zero}

-- the highest bid among the first n rows that deliver
unfoldable pub highest : List ℕ → List ℕ → List ℕ → ℕ → ℕ
highest bs cs es n = max_where n (λ i. delivers (at cs i) (at es i)) (at bs)

module _ (bs cs es : List ℕ) where
  pub highest-none : 0 ≡ highest bs cs es 0
  unfolding highest max_where max_to
  highest-none = refl

  pub highest-more : (i top bid r : ℕ) → top ≡ highest bs cs es i → bid ≡ cond (delivers (at cs i) (at es i)) (at bs i) 0 → r ≡ max top bid
      → r ≡ highest bs cs es (i + 1)
  unfolding highest
  highest-more i top bid r e f g = rw (g, e, f) (sym (max-where-next i (λ j. delivers (at cs j) (at es j)) (at bs)))

  pub highest-all : (i top r : ℕ) → top ≡ highest bs cs es i → i ≤ length bs → length bs ≤ i → r ≡ top → r ≡ price bs cs es
  unfolding highest price
  highest-all i top r e l m f = let s : i ≡ length bs = omega arith in f ∙ rw (← s) e

-- the loop over a group of one band
module _ (left : ℕ) (g start now : List ℕ) (i : ℕ) (r : Reached 0 (alone left g) start now i) (room : length start ≡ length g) where
  pub alone-next : (v x : ℕ) → i < length start → v ≡ cond (ltb 0 (at g i)) left 0 → x ≡ v
      → Reached 0 (alone left g) start (set now i x) (i + 1)
  unfolding alone
  alone-next v x l e f = reached-next 0 (alone left g) start now i x r (omega (arith, r.room)) (f ∙ e)

  pub alone-all : length start ≤ i → now ≡ table (length g) (alone left g)
  alone-all l =
      reached-all 0 (alone left g) start now i r (omega (arith, r.room)) ∙ ap (λ (n : ℕ). table n (alone left g)) room

pub width_small : (ws bs : List ℕ) → Columns ws bs → (t : Bool) (i x : ℕ) → x ≡ cond t (at ws i) 0 → x ≤ 250000
width_small ws bs r t i x e = omega (arith, cond-le t (at ws i), r.narrow i)

module _ (ws bs : List ℕ) (k i x : ℕ) where
  pub cheaper-is : x ≡ cond (ltb (at bs i) k) (at ws i) 0 → x ≡ under ws bs k i
  unfolding under
  cheaper-is e = e

  pub member_is : x ≡ cond (eqb (at bs i) k) (at ws i) 0 → x ≡ equal ws bs k i
  unfolding equal
  member_is e = e

-- lower bids than lo do not pass the need, lower ones than hi do
pub record Bracket (need : ℕ) (ws bs : List ℕ) (lo hi : ℕ) : Type 0 where
  pub apart : lo < hi
  pub inside : hi ≤ past
  pub reached : below ws bs lo ≤ need
  pub passed : need < below ws bs hi

pub bracket-none : (need : ℕ) (ws bs : List ℕ) (s : ℕ) → s ≡ below ws bs 65536 → need < s → Bracket need ws bs 0 65536
bracket-none need ws bs s e l =
    record { apart = omega arith; inside = omega arith; reached = omega (arith, below-zero ws bs); passed = omega arith }

-- of the first i numbers of f the sum is known
pub record Summed (f : ℕ → ℕ) (n sum i : ℕ) : Type 0 where
  pub within : i ≤ n
  pub sum_is : sum ≡ sum_to i f
  pub small : sum ≤ 250000 * i

module _ (f : ℕ → ℕ) (n : ℕ) where
  pub summed-none : Summed f n 0 0
  unfolding sum_to
  summed-none = record { within = omega arith; sum_is = refl; small = omega arith }

  module _ (sum i : ℕ) (r : Summed f n sum i) where
    pub summed-next : (v s : ℕ) → i < n → v ≡ f i → v ≤ 250000 → s ≡ sum + v → Summed f n s (i + 1)
    summed-next v s l e h t =
        record { within = omega arith; sum_is = omega (arith, r.sum_is, e, sum-next i f); small = omega (arith, r.small) }

    pub summed-all : n ≤ i → sum ≡ sum_to n f
    summed-all l = let s : i ≡ n = omega (arith, r.within) in rw (← s) r.sum_is

-- a loop over two columns side by side: i rows are passed, and the rest of each is left
pub record Paired (ws bs : List ℕ) (i : ℕ) (us vs : List ℕ) : Type 0 where
  pub widths_left : us ≡ drop i ws
  pub bids_left : vs ≡ drop i bs

-- the first of what is left of a column
first_left : (xs : List ℕ) (i x : ℕ) (us ys : List ℕ) → us ≡ drop i xs → us ≡ x ∷ ys
    → (i < length xs) × (x ≡ at xs i) × (ys ≡ drop (i + 1) xs)
first_left xs i x us ys e f = ⊎_elim inside outside (lt-or-le i (length xs))
  where
    inside : i < length xs → (i < length xs) × (x ≡ at xs i) × (ys ≡ drop (i + 1) xs)
    inside l = let g : drop i xs ≡ at xs i ∷ drop (suc i) xs = drop-cons xs i 0 l in (l, cc, rw add-one (cc))

    outside : length xs ≤ i → (i < length xs) × (x ≡ at xs i) × (ys ≡ drop (i + 1) xs)
    outside l = let g : drop i xs ≡ [] = drop_of_length-le xs l in let z : ⊥ = cc in absurd z

module _ (ws bs us vs : List ℕ) where
  pub paired-none : us ≡ ws → vs ≡ bs → Paired ws bs 0 us vs
  paired-none e f = record { widths_left = e; bids_left = f }

  module _ (i : ℕ) (fit : Columns ws bs) (p : Paired ws bs i us vs) where
    pub paired-next : (k sum : ℕ) → Summed (under ws bs k) (length ws) sum i → (j w b v s : ℕ) (ys zs : List ℕ) → j ≡ i + 1 → us ≡ w ∷ ys
        → vs ≡ b ∷ zs → v ≡ cond (ltb b k) w 0 → s ≡ sum + v → Summed (under ws bs k) (length ws) s j × Paired ws bs j ys zs
    paired-next k sum r j w b v s ys zs n e f g h =
        let one = first_left ws i w us ys p.widths_left e in
        let two = first_left bs i b vs zs p.bids_left f in
        let here : v ≡ cond (ltb (at bs i) k) (at ws i) 0 = g ∙ rw (one.1, two.1) refl in
        rw n (
          summed-next (under ws bs k) (length ws) sum i r v s one.0 (cheaper-is ws bs k i v here) (width_small ws bs fit (ltb (at bs i) k) i v here) h,
          record { widths_left = one.2; bids_left = two.2 },
        )

    pub paired-end : (length us ≡ 0) ⊎ (length vs ≡ 0) → length ws ≤ i
    paired-end h =
        ⊎_elim (λ (z : length us ≡ 0). omega (arith, ap length p.widths_left, length-drop i ws))
        (λ (z : length vs ≡ 0). omega (arith, ap length p.bids_left, length-drop i bs, fit.long)) h

-- f stands in the first i positions, and their sum is known
pub record Grouped (f : ℕ → ℕ) (n : ℕ) (start now : List ℕ) (sum i : ℕ) : Type 0 where
  pub reached : Reached 0 f start now i
  pub summed : Summed f n sum i

module _ (f : ℕ → ℕ) (n : ℕ) (start : List ℕ) where
  pub grouped-none : Grouped f n start start 0 0
  grouped-none = record { reached = reached-none 0 f start; summed = summed-none f n }

  module _ (now : List ℕ) (sum i : ℕ) (r : Grouped f n start now sum i) (room : length start ≡ n) where
    pub grouped-next : (v x s : ℕ) → i < length start → v ≡ f i → v ≤ 250000 → x ≡ v → s ≡ sum + v → Grouped f n start (set now i x) s (i + 1)
    grouped-next v x s l e h w t =
        record {
          reached = reached-next 0 f start now i x r.reached (omega (arith, r.reached.room)) (w ∙ e);
          summed = summed-next f n sum i r.summed v s (omega arith) e h t;
        }

    pub grouped-all : length start ≤ i → now ≡ table n f
    grouped-all l = reached-all 0 f start now i r.reached (omega (arith, r.reached.room)) ∙ ap (λ (m : ℕ). table m f) room

    pub grouped-whole : length start ≤ i → sum ≡ whole now
    grouped-whole l = summed-all f n sum i r.summed (omega arith) ∙ sym (ap whole (grouped-all l) ∙ whole-table n f)

-- f stands in the first i positions, their sum is known, and how many are above 0
pub record Banded (f : ℕ → ℕ) (n : ℕ) (start now : List ℕ) (sum bands i : ℕ) : Type 0 where
  pub grouped : Grouped f n start now sum i
  pub bands_are : bands ≡ count_to i (λ j. ltb 0 (f j))
  pub few : bands ≤ i

module _ (f : ℕ → ℕ) (n : ℕ) (start : List ℕ) where
  pub banded-none : Banded f n start start 0 0 0
  unfolding count_to sum_to
  banded-none = record { grouped = grouped-none f n start; bands_are = refl; few = omega arith }

  module _ (now : List ℕ) (sum bands i : ℕ) (r : Banded f n start now sum bands i) (room : length start ≡ n) where
    pub banded-next : (v x s c : ℕ) → i < length start → v ≡ f i → v ≤ 250000 → x ≡ v → s ≡ sum + v → c ≡ bool_byte (ltb 0 v)
        → Banded f n start (set now i x) s (bands + c) (i + 1)
    banded-next v x s c l e h w t b =
        let here : c ≡ bit (ltb 0 (f i)) = b ∙ (one-is (ltb 0 v)).0 ∙ ap (λ (y : ℕ). bit (ltb 0 y)) e in
        record {
          grouped = grouped-next f n start now sum i r.grouped room v x s l e h w t;
          bands_are = omega (arith, r.bands_are, here, count_next i (λ j. ltb 0 (f j)));
          few = omega (arith, r.few, here, bit_le (ltb 0 (f i)));
        }

    pub banded-counts : length start ≤ i → Counts now sum bands
    unfolding bands_in
    banded-counts l = record { sum_is = grouped-whole f n start now sum i r.grouped room l; bands_are = are }
      where
        is : now ≡ table n f
        is = grouped-all f n start now sum i r.grouped room l

        are : bands ≡ bands_in now
        are =
            let s : i ≡ n = omega (arith, room, r.grouped.summed.within) in
            let long : length now ≡ n = ap length is ∙ table-length n f in
            r.bands_are
            ∙ rw (s, long)
            (count_same n (λ j. ltb 0 (f j)) (λ j. ltb 0 (at now j))
            (λ j m. ap (ltb 0) (sym (ap (λ (l : List ℕ). at l j) is ∙ table_at 0 n f j m))))

  pub banded-fits : (now : List ℕ) (sum bands i v x : ℕ) → Banded f n start now sum bands i → n ≤ 256 → x ≡ bool_byte (ltb 0 v)
      → Fits w32 (bands + x)
  banded-fits now sum bands i v x r h b =
      omega (arith, r.few, r.grouped.summed.within, b ∙ (one-is (ltb 0 v)).0, bit_le (ltb 0 v))

-- what the loops over the bands of a bid end with; the code holds the bid in 32 bits as k
module _ (ws bs : List ℕ) (k bid : ℕ) (is : k ≡ bid) (sum i : ℕ) where
  pub below-told : length ws ≤ i → Summed (under ws bs k) (length ws) sum i → sum ≡ below ws bs bid
  unfolding below
  below-told end r = rw (← is) (summed-all (under ws bs k) (length ws) sum i r end)

  module _ (start now : List ℕ) (end : length start ≤ i) (r : Grouped (under ws bs k) (length ws) start now sum i) (room : length start ≡ length ws) where
    pub cheap-told : now ≡ cheap_in ws bs bid
    unfolding cheap_in
    cheap-told = rw (← is) (grouped-all (under ws bs k) (length ws) start now sum i r room end)

    pub cheap-sum : sum ≡ below ws bs bid
    cheap-sum = below-told (omega arith) r.summed

  module _ (start now : List ℕ) (end : length start ≤ i) (bands : ℕ) (r : Banded (equal ws bs k) (length ws) start now sum bands i) (room : length start ≡ length ws) where
    pub group-told : now ≡ group_in ws bs bid
    unfolding group_in
    group-told = rw (← is) (grouped-all (equal ws bs k) (length ws) start now sum i r.grouped room end)

module _ (k : ℕ) (ws bs : List ℕ) where
  group-small : Columns ws bs → whole (group_in ws bs k) ≤ 250000 * length ws
  unfolding group_in equal
  group-small r =
      rw (whole-table (length ws) (equal ws bs k))
      (sum_bound (length ws) 250000 (equal ws bs k) (λ i l. omega (arith, cond-le (eqb (at bs i) k) (at ws i), r.narrow i)))

  pub splittable : (g out : List ℕ) (first : ℕ) → Columns ws bs → Room ws first out → g ≡ group_in ws bs k → Splittable g out first
  splittable g out first r m e =
      let long : length (group_in ws bs k) ≡ length ws = unfold group_in in table-length (length ws) (equal ws bs k) in
      rw e
      (record {
        short = omega (arith, r.few, long);
        room = m.room ∙ sym long;
        fits = omega (arith, r.few, group-small r);
        inside = rw long m.inside;
      })

module _ (left sum bands : ℕ) (g out : List ℕ) (first : ℕ) (c : Counts g sum bands) where
  pub called-in-full : sum ≤ left → out ≡ g → out ≡ parts_in left g first
  unfolding parts_in
  called-in-full l e =
      let m : min left (whole g) ≡ whole g = omega (arith, c.sum_is) in
      rw m (e ∙ sym (shares-are-weights (whole g) g first refl))

  pub called-in-part : (a : ℕ) → a ≡ left → left < sum → out ≡ shares a g first → out ≡ parts_in left g first
  unfolding parts_in
  called-in-part a f l e = let m : min left (whole g) ≡ a = omega (arith, c.sum_is) in rw m e

  pub called-alone : (old : List ℕ) → Splittable g old first → left < sum → bands ≡ 1 → out ≡ table (length g) (alone left g)
      → out ≡ parts_in left g first
  unfolding bands_in alone
  called-alone old s l b e = called-in-part left refl l (e ∙ sym (shares-alone left g first (sym c.bands_are ∙ b) s.inside))
