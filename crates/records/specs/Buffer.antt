-- What a lent buffer holds once a run of bytes is put into it: nothing else changes, nor does its length.
use Rattle.std.specs.Prelude.{ℕ, ◌+◌, List, ◌++◌, length, take, drop}

-- the list l with vs in place of what stood from position k on
unfoldable pub put : {A : Type 0} → List A → ℕ → List A → List A
put l k vs = take k l ++ (vs ++ drop (k + length vs) l)
