-- Ordered lists of checks (01, Numbers of refusal): each has its number and its place, and the answer is the first that applies.
use Rattle.std.specs.Prelude.{ℕ, zero, suc, ◌<◌, ◌≡◌, Bool, true, false, cond, ◌&&◌, List, [], ◌∷◌, ◌++◌, length, get_or}
use Rattle.columns.specs.Test.{Check, within}

abbrev pub check : Bool → ℕ → Check
check b n = record { applies = b; number = n }

-- a check that is made at some place: whether it applies, its number, its place
pub record Refusal : Type 0 where
  pub applies : Bool
  pub number : ℕ
  pub place : ℕ

abbrev pub refusal : Bool → ℕ → ℕ → Refusal
refusal b n p = record { applies = b; number = n; place = p }

-- nothing refuses
abbrev pub none : Refusal
none = refusal false 0 0

-- the first that applies
unfoldable pub first_refusal : List Refusal → Refusal
first_refusal [] = none
first_refusal (r ∷ rs) = cond r.applies r (first_refusal rs)

-- the first of two if it refuses, else the second
unfoldable pub or_else : Refusal → Refusal → Refusal
or_else f g = cond f.applies f g

-- checks that are all made at one place
abbrev pub placed : ℕ → List Check → List Refusal
placed p [] = []
placed p (c ∷ cs) = refusal c.applies c.number p ∷ placed p cs

-- the checks of each of n rows in turn; places count from 1
unfoldable pub row_by_row : ℕ → (ℕ → List Check) → List Refusal
row_by_row zero f = []
row_by_row (suc n) f = row_by_row n f ++ placed (suc n) (f n)

-- what f has just before position i; 0 before the first
unfoldable pub previous : (ℕ → ℕ) → ℕ → ℕ
previous f zero = 0
previous f (suc i) = f i

-- the same checks, all with one number
unfoldable pub renumbered : ℕ → List Refusal → List Refusal
renumbered n [] = []
renumbered n (r ∷ rs) = refusal r.applies n r.place ∷ renumbered n rs

-- an answer: what refuses, with its number and place; else the one given
abbrev pub answer_by : {A : Type 0} → (ℕ → ℕ → A) → A → Refusal → A
answer_by refuse otherwise f = cond f.applies (refuse f.number f.place) otherwise

-- the highest number of refusal that any document gives (02)
abbrev pub last_number : ℕ
last_number = 23

-- every number of the list is from lo to hi
abbrev pub numbers_in : ℕ → ℕ → List Refusal → Bool
numbers_in lo hi [] = true
numbers_in lo hi (r ∷ rs) = within lo hi r.number && numbers_in lo hi rs

-- some check of the list applies, gives number n and place p, and none before it applies
pub record Earliest (rs : List Refusal) (n p : ℕ) : Type 0 where
  pub at : ℕ
  pub inside : at < length rs
  pub applies : (get_or rs at none).applies ≡ true
  pub number : (get_or rs at none).number ≡ n
  pub place : (get_or rs at none).place ≡ p
  pub earlier : (i : ℕ) → i < at → (get_or rs i none).applies ≡ false

-- no check of the list applies
abbrev pub NoneApplies : List Refusal → Type 0
NoneApplies rs = (i : ℕ) → i < length rs → (get_or rs i none).applies ≡ false

-- number and value of an answer (01, Numbers of refusal): 0 if it is the one given, a refusal's own number and place
pub record Tells {A : Type 0} (refuse : ℕ → ℕ → A) (otherwise : A) (number value : A → ℕ) : Type 0 where
  pub given : number otherwise ≡ 0
  pub numbers : (a p : ℕ) → number (refuse a p) ≡ a
  pub places : (a p : ℕ) → value (refuse a p) ≡ p
  pub differs : (a p : ℕ) → refuse a p ≡ otherwise → ⊥
