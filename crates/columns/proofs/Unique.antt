-- What a contract leaves open. `Learnt` is what a caller learns from the `ensures` of a function, as the source has it, at each choice
-- of lifetimes: a theorem of it is of the contract itself, not of a copy, and a weaker contract breaks it.
--     LeavesOne      two runs on the same arguments are `Same`: x and y their results, e and f the parameters at exit
--     OneResult      the results are the same
--     list-where-unique      at every type of rows and every closure, whatever test tells what the closure answers: the count, and all that the
--                            array holds
--     wide-unique, counted-unique, one-if-unique, position-unique, total-of-unique, middle-unique      of the functions of these names
use Prim.Native.Nat.{ℕ}
use mathlib.Core.Path.{◌≡◌, sym, ◌∙◌}
use mathlib.Core.Bool.{Bool}
use contract.Lifetimes.{Lfts}
use denote.RattleType.{RattleType}
use denote.Param.Laws.{Laws}
use mir.Syntax.{Dict}
use Rattle.std.specs.Fn.{FnReturnsAt}
use Rattle.columns.specs.Lists.{Tells}
use Rattle.columns.specs.contracts.list_where.{F-Fn-ghosts}
use Rattle.columns.specs.contracts.list_where.F-Fn.{Ghosts}
use Rattle.columns.proofs.wide.Reads as wide
use Rattle.columns.proofs.counted.Reads as counted
use Rattle.columns.proofs.list_where.Reads as list-where
use Rattle.columns.proofs.one_if.Reads as one-if
use Rattle.columns.proofs.position.Reads as position
use Rattle.columns.proofs.total_of.Reads as total_of
use Rattle.columns.proofs.middle.Reads as middle

module _ {L : Type 0} {A R E : L → Type 0} where
  abbrev pub LeavesOne : ((κs : L) → A κs → R κs → E κs → Type 0) → ((κs : L) (x y : R κs) (e f : E κs) → Type 0) → Type 0
  LeavesOne Learnt Same =
      (κs : L) (a : A κs) (x y : R κs) (e f : E κs) → Learnt κs a x e → Learnt κs a y f → Same κs x y e f

  abbrev pub OneResult : ((κs : L) → A κs → R κs → E κs → Type 0) → Type 0
  OneResult Learnt = LeavesOne Learnt (λ κs x y e f. x ≡ y)

pub counted-unique : OneResult counted.Learnt
counted-unique κs a x y e f p q = p ∙ sym q

pub total-of-unique : OneResult total_of.Learnt
total-of-unique κs a x y e f p q = p ∙ sym q

pub middle-unique : OneResult middle.Learnt
middle-unique κs a x y e f p q = p.0 ∙ sym q.0

pub wide-unique : OneResult wide.Learnt
wide-unique κs a x y e f p q = p.0 ∙ sym q.0

pub one-if-unique : OneResult one-if.Learnt
one-if-unique κs a x y e f p q = p.0 ∙ sym q.0

pub position-unique : OneResult position.Learnt
position-unique κs a x y e f p q = p.0 ∙ sym q.0

module _ (T F : RattleType) (LT : Laws T) (LF : Laws F) (fn : Ghosts T F) (d₁ d₂ d₃ d₄ : Dict) where
  pub list-where-unique : (κs : Lfts 4) (a : _) (x y : _) (e f : _) → list-where.Learnt T F LT LF fn d₁ d₂ d₃ d₄ κs a x e
      → list-where.Learnt T F LT LF fn d₁ d₂ d₃ d₄ κs a y f → (test : ℕ → Bool)
      → Tells a.0.now (FnReturnsAt (F-Fn-ghosts T F fn d₁ d₁ d₁ d₁) a.1.0) test → (x ≡ y) × (e.1.1.0.now ≡ f.1.1.0.now)
  list-where-unique κs a x y e f p q test told =
      ((p.1.0 test told).many ∙ sym (q.1.0 test told).many, p.1.1 test told ∙ sym (q.1.1 test told))
