-- A tier's stage, as its proofs ask for it.
--   widths-asked, bids-asked, lent_level     widths and bids may be read
--   tier-ready                    the columns read are such as `call_tier` asks for
--   columns-level, energies-asked, tier-cleared     and then such as `price_in` asks for, and what comes of both
--   calls-lined, tier-called      the calls may be put, and what the stage leaves
--   tier-unneeded                 what it leaves where nothing is needed, and the blank column is put
--   front-offered, asked-front, lent-front, called-front     the same over fronts of fresh arrays
use Prim.Native.Nat.{ℕ, ◌-◌}
use mathlib.Core.Path.{◌≡◌, refl, sym, ap, ◌∙◌}
use mathlib.Core.List.{List}
use native.Mathlib.Omega.{arith}
use lib.ListN.{length, take}
use lib.Seq.{length-take-le}
use Rattle.columns.specs.Sum.{whole}
use Rattle.columns.proofs.Table.{table-length}
use Rattle.records.specs.Sheet.{Lined, cell, column_of, with_column}
use Rattle.records.specs.declared.Field.{Field}
use Rattle.merit.specs.OneTier.{tier_calls, called_in}
use Rattle.merit.specs.Price.{price}
use Rattle.merit.specs.Ready.{Ready, TierCalled, OneLength}
use Rattle.merit.proofs.Laws.{price-none}
use Rattle.merit.proofs.Walking.{ended-unneeded}
use Rattle.units.specs.declared.Kwh.{Kwh}
use Rattle.settle.specs.Work.{Ruled, Offered, Lent, calls_in, ClearedIn, Called}
use Rattle.settle.specs.declared.market.Cleared.{Cleared}
use Rattle.settle.specs.declared.market.TierFields.{TierFields}
use Rattle.settle.proofs.Lending.{fresh, front-count, front-blank}

column-long : (f : Field) (n : ℕ) (s : List ℕ) → length (column_of f n s) ≡ n
unfolding column_of
column-long f n s = table-length n (cell f s)

calls_long : (need first : ℕ) (ws bs : List ℕ) → length (tier_calls need ws bs first) ≡ length ws
unfolding tier_calls
calls_long need first ws bs = table-length (length ws) (called_in need ws bs first)

module _ (ws bs cs s : List ℕ) (first : ℕ) (p : TierFields) (offered : Offered (length cs) first p s) (lent : Lent ws bs cs) where
  pub widths-asked : Ruled (length ws) p.width s
  widths-asked = rw lent.widths_long offered.widths

  pub bids-asked : Ruled (length bs) p.bid s
  bids-asked = rw lent.bids_long offered.bids

  pub lent_level : length bs ≡ length ws
  lent_level = lent.bids_long ∙ sym lent.widths_long

  module _ (ws1 bs1 : List ℕ) (widths-read : ws1 ≡ column_of p.width (length ws) s) (bids-read : bs1 ≡ column_of p.bid (length bs) s) where
    widths-are : ws1 ≡ column_of p.width (length cs) s
    widths-are = rw lent.widths_long at widths-read

    bids-are : bs1 ≡ column_of p.bid (length cs) s
    bids-are = rw lent.bids_long at bids-read

    ws1-long : length ws1 ≡ length cs
    ws1-long = ap length widths-are ∙ column-long p.width (length cs) s

    bs1-long : length bs1 ≡ length cs
    bs1-long = ap length bids-are ∙ column-long p.bid (length cs) s

    pub tier-ready : Ready ws1 bs1 first cs
    tier-ready =
        record {
          columns = record {
            few = omega (arith, ws1-long, offered.few);
            long = bs1-long ∙ sym ws1-long;
            narrow = λ i. rw widths-are (offered.narrow i);
            low = λ i. rw bids-are (offered.low i);
          };
          inside = λ p. omega (arith, ws1-long, offered.turn (omega (arith, ws1-long)));
          room = sym ws1-long;
          blank = lent.blank;
        }

    module _ (need left : ℕ) (cs1 : List ℕ) (called : TierCalled need ws1 bs1 first left cs1) where
      calls_are : cs1 ≡ calls_in need first (length cs) p s
      calls_are = called.called ∙ (λ j. tier_calls need (widths-are j) (bids-are j) first)

      -- the column of the widths, read once more, may hold the energies
      pub columns-level : OneLength bs1 cs1 ws1
      columns-level =
          record {
            calls_long = ap length called.called ∙ calls_long need first ws1 bs1 ∙ ws1-long ∙ sym bs1-long;
            energies_long = ws1-long ∙ sym bs1-long;
          }

      pub energies-asked : Ruled (length ws1) p.energy s
      energies-asked = rw ws1-long offered.energies

      pub tier-cleared : (r : Cleared) → r.left.0 ≡ left → r.price.0 ≡ price bs1 cs1 (column_of p.energy (length ws1) s)
          → ClearedIn need first (length cs) p s cs1 r
      tier-cleared r is priced =
          record {
            called = calls_are;
            left = is ∙ called.beyond ∙ ap (λ (xs : List ℕ). need - whole xs) widths-are;
            price = priced ∙ (λ j. price (bids-are j) (calls_are j) (column_of p.energy (ws1-long j) s));
          }

-- ---- the calls put into the sheet

module _ (n first : ℕ) (p : TierFields) (s : List ℕ) (offered : Offered n first p s) (need : ℕ) (cs : List ℕ) (r : Cleared)
    (cleared : ClearedIn need first n p s cs r) where
  pub calls-lined : Lined p.width (length cs) s
  calls-lined =
      let long : length cs ≡ n = ap length cleared.called ∙ calls_long need first (column_of p.width n s) (column_of p.bid n s) ∙ column-long p.width n s in
      rw long offered.widths.lined

  pub tier-called : (t : List ℕ) → t ≡ with_column p.width cs s → Called need first n p s t r
  tier-called t put =
      record {
        bytes = put ∙ ap (λ (xs : List ℕ). with_column p.width xs s) cleared.called;
        left = cleared.left;
        price = cleared.price;
      }

module _ (ws bs cs s : List ℕ) (first : ℕ) (p : TierFields) (offered : Offered (length cs) first p s) (lent : Lent ws bs cs) where
  -- nobody is called, as the columns would say if they were read, and nobody sets a price
  unneeded : (need : ℕ) → need ≡ 0 → (r : Cleared) → r.left.0 ≡ need → r.price.0 ≡ 0 → ClearedIn need first (length cs) p s cs r
  unneeded need z r is free =
      let ws1 = column_of p.width (length ws) s in
      let bs1 = column_of p.bid (length bs) s in
      let called = ended-unneeded need ws1 bs1 first cs (tier-ready ws bs cs s first p offered lent ws1 bs1 refl refl) z in
      tier-cleared ws bs cs s first p offered lent ws1 bs1 refl refl need need cs called r is
      (free ∙ sym (price-none bs1 cs (column_of p.energy (length ws1) s) (λ i d. omega (arith, lent.blank i, d.1))))

  pub tier-unneeded : (need : Kwh) (t : List ℕ) → need.0 ≡ 0 → t ≡ with_column p.width cs s
      → Called need.0 first (length cs) p s t (record { left = need; price = record { 0 = 0 } })
  tier-unneeded need t z put =
      let r : Cleared = record { left = need; price = record { 0 = 0 } } in
      tier-called (length cs) first p s offered need.0 cs r (unneeded need.0 z r refl refl) t put

-- ---- over fronts of fresh arrays

module _ (n first : ℕ) (p : TierFields) (s : List ℕ) (offered : Offered n first p s) where
  pub front-offered : (xs : List ℕ) → length xs ≡ 256 → n ≡ length (take n xs)
  front-offered xs e = sym (length-take-le n xs (omega (arith, offered.few)))

  pub asked-front : Offered (length (take n fresh)) first p s
  asked-front = rw (front-count n offered.few) offered

  pub lent-front : Lent (take n fresh) (take n fresh) (take n fresh)
  lent-front = record { widths_long = refl; bids_long = refl; blank = λ i. front-blank n i offered.few }

  pub called-front : (need : ℕ) (t : List ℕ) (r : Cleared) → Called need first (length (take n fresh)) p s t r → Called need first n p s t r
  called-front need t r c = rw (front-count n offered.few) at c
