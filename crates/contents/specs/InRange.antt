-- Contents that a writer accepts, given room (01, The files: Ranges).
use Rattle.std.specs.Prelude.{ℕ, ◌+◌, ◌^◌, ◌≤◌, ◌<◌, ◌≡◌, true, false, length, get_or}
use Rattle.columns.specs.Table.{Below}
use Rattle.files.specs.Terms.{terms01}
use Rattle.files.specs.Form.{ruling}
use Rattle.files.specs.Range.{head_ok, terms_ok, row_ok}
use Rattle.contents.specs.Content.{zero_row, id_in}
use Rattle.contents.specs.declared.Contents.{Contents}

-- head, terms and rows in their ranges, ids strictly rising; terms that are not stated are document 01's; an array of 256 rows with ids
-- of two bytes, zero rows past the head's count
pub record InRange (c : Contents) : Type 0 where
  pub head : head_ok c.head ≡ true
  pub terms : terms_ok (ruling c.form) ≡ true
  pub unstated : c.form.stated ≡ false → c.form.terms ≡ terms01
  pub rows : Below c.head.rows (λ i. row_ok (ruling c.form) (get_or c.rows i zero_row) ≡ true)
  pub rising : (i : ℕ) → i + 1 < c.head.rows → id_in c.rows i < id_in c.rows (i + 1)
  pub held : length c.rows ≡ 256
  pub ids : (i : ℕ) → id_in c.rows i < 256 ^ 2
  pub past : (i : ℕ) → c.head.rows ≤ i → get_or c.rows i zero_row ≡ zero_row
