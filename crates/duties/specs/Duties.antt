-- The duties of an interval's rows as columns, a row's place in the file being its position. Everything after reads these columns alone.
use Rattle.std.specs.Prelude.{ℕ, ◌≡◌, List, length}
use Rattle.columns.specs.Table.{table}
use Rattle.files.specs.declared.Row.{Row}
use Rattle.duties.specs.Duty.{width1, width2, energy1, energy2, credit1, credit2, weight, cap}

pub record Duties : Type 0 where
  pub widths1 : List ℕ
  pub widths2 : List ℕ
  pub energies1 : List ℕ
  pub energies2 : List ℕ
  pub credits1 : List ℕ
  pub credits2 : List ℕ
  pub weights : List ℕ
  pub caps : List ℕ
  pub bids1 : List ℕ
  pub bids2 : List ℕ

-- a number in each column for each of n rows
pub record Level (n : ℕ) (d : Duties) : Type 0 where
  pub widths1 : length d.widths1 ≡ n
  pub widths2 : length d.widths2 ≡ n
  pub energies1 : length d.energies1 ≡ n
  pub energies2 : length d.energies2 ≡ n
  pub credits1 : length d.credits1 ≡ n
  pub credits2 : length d.credits2 ≡ n
  pub weights : length d.weights ≡ n
  pub caps : length d.caps ≡ n
  pub bids1 : length d.bids1 ≡ n
  pub bids2 : length d.bids2 ≡ n

-- those of n rows, by the limit and the base of each
unfoldable pub duties_of : (ℕ → ℕ) → (ℕ → ℕ) → ℕ → ℕ → (ℕ → Row) → Duties
duties_of limit base tariff n row =
    record {
      widths1 = table n (λ i. width1 (limit i) (row i));
      widths2 = table n (λ i. width2 (row i));
      energies1 = table n (λ i. energy1 (base i) (row i));
      energies2 = table n (λ i. energy2 (base i) (row i));
      credits1 = table n (λ i. credit1 (limit i) (base i) (row i));
      credits2 = table n (λ i. credit2 (base i) (row i));
      weights = table n (λ i. weight (base i) (row i));
      caps = table n (λ i. cap (base i) tariff (row i));
      bids1 = table n (λ i. (row i).bid1.0);
      bids2 = table n (λ i. (row i).bid2.0);
    }
