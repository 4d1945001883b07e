-- Worked figures of the sharing rule (01, Checked figures), computed from its definition.
--     p7, p8          the two figures of 01
--     p8-told         the second, one by one
--     second-first    three equal weights, the second goes first
--     wide            products that pass 64 bits, with a weight above 2^63
--     wide-tie        products that pass 64 bits, equal remainders, the second goes first
--     no-weight       nobody has a weight
use mathlib.Core.Path.{◌≡◌, refl}
use mathlib.Core.List.{[], ◌∷◌}
use Rattle.columns.specs.Sum.{sum_to, count_to, find_to}
use Rattle.columns.specs.Table.{table}
use Rattle.columns.specs.Sum.{whole}
use Rattle.share.specs.Share.{quota, rest, turn, before, rank, left, share, shares}
use Rattle.share.specs.Process.{among, next, hand_out, one_by_one}

pub p7 : shares 100 (1 ∷ 1 ∷ 1 ∷ []) 0 ≡ 34 ∷ 33 ∷ 33 ∷ []
unfolding sum_to count_to table whole quota rest turn before rank left share shares
p7 = refl

pub p8 : shares 10 (3 ∷ 3 ∷ 1 ∷ []) 0 ≡ 4 ∷ 4 ∷ 2 ∷ []
unfolding sum_to count_to table whole quota rest turn before rank left share shares
p8 = refl

pub p8-told : one_by_one 10 (3 ∷ 3 ∷ 1 ∷ []) 0 ≡ 4 ∷ 4 ∷ 2 ∷ []
unfolding sum_to count_to find_to table whole quota rest turn before left among next hand_out one_by_one
p8-told = refl

pub second-first : shares 100 (1 ∷ 1 ∷ 1 ∷ []) 1 ≡ 33 ∷ 34 ∷ 33 ∷ []
unfolding sum_to count_to table whole quota rest turn before rank left share shares
second-first = refl

pub wide : shares 12446744073709551613 (9223372036854775808 ∷ 9223372036854775806 ∷ 1 ∷ []) 0
    ≡ 6223372036854775807 ∷ 6223372036854775805 ∷ 1 ∷ []
unfolding sum_to count_to table whole quota rest turn before rank left share shares
wide = refl

pub wide-tie : shares 18446744073709551614 (4611686018427387904 ∷ 4611686018427387904 ∷ 4611686018427387904 ∷ []) 1
    ≡ 6148914691236517204 ∷ 6148914691236517205 ∷ 6148914691236517205 ∷ []
unfolding sum_to count_to table whole quota rest turn before rank left share shares
wide-tie = refl

pub no-weight : shares 5 (0 ∷ 0 ∷ 0 ∷ []) 0 ≡ 0 ∷ 0 ∷ 0 ∷ []
unfolding sum_to count_to table whole quota rest turn before rank left share shares
no-weight = refl
